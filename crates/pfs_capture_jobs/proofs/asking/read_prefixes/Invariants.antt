-- Invariant of read_prefixes: the prefixes so far, and then those of the texts from here on, are those of all texts.
use Rattle.std.proofs.Common.{◌≡◌, drop}
use Rattle.pfs_addr.specs.Texts.{prefix_of}
use Rattle.pfs_capture_jobs.specs.Asked.{all_read}
use Rattle.pfs_capture_jobs.proofs.ReadingLaws.{so-far}
use Rattle.pfs_capture_jobs.proofs.asking.read_prefixes.Given as goal

abbrev pub invariant-loop-text : goal.invariant-loop-text
invariant-loop-text l = all_read (λ t. prefix_of t.now) l.texts ≡ so-far (λ t. prefix_of t.now) l.prefixes.items (drop l.text-index l.texts)
