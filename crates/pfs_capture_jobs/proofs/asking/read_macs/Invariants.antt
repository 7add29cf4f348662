-- Invariant of read_macs: the addresses so far, and then those of the texts from here on, are those of all texts.
use Rattle.std.proofs.Common.{◌≡◌, drop}
use Rattle.pfs_capture_packets.specs.Ways.{mac_of}
use Rattle.pfs_capture_jobs.specs.Asked.{all_read}
use Rattle.pfs_capture_jobs.proofs.ReadingLaws.{so-far}
use Rattle.pfs_capture_jobs.proofs.asking.read_macs.Given as goal

abbrev pub invariant-loop-text : goal.invariant-loop-text
invariant-loop-text l = all_read (λ t. mac_of t.now) l.texts ≡ so-far (λ t. mac_of t.now) l.macs.items (drop l.text-index l.texts)
