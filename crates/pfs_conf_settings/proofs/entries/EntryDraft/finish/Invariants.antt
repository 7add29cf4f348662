-- Invariant of EntryDraft::finish: the list has the entries so far.
use Rattle.std.proofs.Common.{◌≡◌, take}
use Rattle.pfs_conf_settings.proofs.entries.EntryDraft.finish.Given as goal

abbrev pub invariant-loop-place : goal.invariant-loop-place
invariant-loop-place l = l.list.items ≡ take l.place l.self
