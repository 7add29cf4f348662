-- Invariant of push_more: what is written and the groups to come are the text of all, with room for the rest.
use Rattle.std.proofs.Common.{◌≡◌, ◌+◌, ◌++◌, ◌∷◌, drop, flat_map, length}
use Rattle.std.specs.Prelude.{vec_len}
use Rattle.std.specs.Vec.{vec_capacity}
use Rattle.std.specs.Net.Text.{hex}
use Rattle.pfs_addr.proofs.addresses.push_more.Given as goal

abbrev pub invariant-loop-group : goal.invariant-loop-group
invariant-loop-group l = record {
  items : l.out.items ++ flat_map (λ g. 58 ∷ hex g) (drop l.group-index l.groups) ≡ l.fn.out.items ++ flat_map (λ g. 58 ∷ hex g) l.groups;
  len : vec_len l.out + length (flat_map (λ g. 58 ∷ hex g) (drop l.group-index l.groups)) ≡ vec_len l.fn.out + length (flat_map (λ g. 58 ∷ hex g) l.groups);
  capacity : vec_capacity l.out ≡ vec_capacity l.fn.out;
}
