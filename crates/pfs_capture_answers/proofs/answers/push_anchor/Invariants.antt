-- Invariant of push_anchor: the bytes so far are written, and no room was lost.
use Rattle.std.proofs.Common.{◌≡◌, ◌≤◌, ◌++◌, take}
use Rattle.std.specs.Prelude.{flat_map}
use Rattle.std.specs.Vec.{vec_capacity}
use Rattle.pfs_capture_answers.specs.Answers.{anchor_byte}
use Rattle.pfs_capture_answers.proofs.answers.push_anchor.Given as goal

abbrev pub invariant-loop-byte : goal.invariant-loop-byte
invariant-loop-byte l = record {
  text : l.out.items ≡ l.initial.out.items ++ flat_map anchor_byte (take l.byte-index l.name);
  capacity : vec_capacity l.initial.out ≤ vec_capacity l.out;
}
