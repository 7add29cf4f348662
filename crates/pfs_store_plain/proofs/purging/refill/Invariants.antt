-- Invariant of refill: the numbers so far are pending, and the room is as before.
use Rattle.std.proofs.Common.{◌≡◌, take, map}
use Rattle.std.specs.Vec.{vec_capacity}
use Rattle.pfs_store_plain.proofs.purging.refill.Given as goal

-- the numbers so far
abbrev pub invariant-loop-one : goal.invariant-loop-one
invariant-loop-one g l = record {
  items : l.pending.items ≡ map g.T.Numbered.number (take l.one-index l.held);
  room : vec_capacity l.pending ≡ vec_capacity l.fn.pending;
}
