-- Invariant of more_len: the bytes so far and those of the groups to come are the bytes of all.
use Rattle.std.proofs.Common.{◌≡◌, ◌+◌, ◌*◌, ◌≤◌, ◌∷◌, drop, flat_map, length}
use Rattle.std.specs.Net.Text.{hex}
use Rattle.pfs_addr.proofs.addresses.more_len.Given as goal

abbrev pub invariant-loop-group : goal.invariant-loop-group
invariant-loop-group l = record {
  value : l.len + length (flat_map (λ g. 58 ∷ hex g) (drop l.group-index l.groups)) ≡ length (flat_map (λ g. 58 ∷ hex g) l.groups);
  small : l.len ≤ 5 * l.group-index;
}
