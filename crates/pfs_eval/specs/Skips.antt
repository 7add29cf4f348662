-- Skip steps: where a walk goes on from an item that fails on a parameter. (not promised)
use Rattle.std.specs.Prelude.{◌≡◌, ◌<◌, ◌≤◌, ◌⊎◌, ℕ, nat_lt, Some, List, length, slice_get}
use Rattle.std.specs.List.{prefix_len}
use Rattle.pfs_conf_values.specs.declared.items.Item.{Item}
use Rattle.pfs_eval.specs.Matching.{filter_of}
use Rattle.pfs_eval.specs.Parameters.{IsSame}
use Rattle.pfs_conf_values.specs.declared.filters.Filter.{Filter}
use Rattle.pfs_eval.specs.declared.comparing.Parameter.{Parameter}
use Rattle.pfs_eval.specs.declared.comparing.Parameter.TheVariants as parameter
use Rattle.pfs_eval.specs.declared.skips.Skips.{Skips}

-- how many of these items, which follow an item of this depth, are its body
abbrev pub body_length : ℕ → List Item → ℕ
body_length depth items = prefix_len (λ (i : Item). nat_lt depth i.depth) items

-- a walk that leaves the item i for its parameter k passes over the item j after it: j is deeper, or it is of the
-- same body and asks the same there
abbrev pub IsPassed : Parameter → Item → Item → Type 0
IsPassed k i j = (i.depth < j.depth) ⊎ ((j.depth ≡ i.depth) × IsSame k (filter_of i.what) (filter_of j.what))

-- q is where a walk goes on from the item i at p that fails on the parameter k: the first place after p whose item is
-- not passed over, or the end. So it is the place of the next item of the same body that asks another thing there, or
-- where the body ends (pf's skip steps)
pub record IsSkip (k : Parameter) (items : List Item) (p : ℕ) (i : Item) (q : ℕ) : Type 0 where
  pub behind : p < q
  pub within : q ≤ length items
  pub passed : (r : ℕ) (j : Item) → p < r → r < q → slice_get items r ≡ Some j → IsPassed k i j
  pub first : (j : Item) → slice_get items q ≡ Some j → IsPassed k i j → ⊥

-- the skip of an item, where the next one of its body is at a place and goes on further: further where both ask the
-- same at the parameter, else that place
abbrev pub IsJoined : Parameter → Filter → Filter → ℕ → ℕ → ℕ → Type 0
IsJoined k f g place further q = (IsSame k f g × (q ≡ further)) ⊎ ((IsSame k f g → ⊥) × (q ≡ place))

-- the skip at a parameter
abbrev pub skip_of : Skips → Parameter → ℕ
skip_of s parameter.Interface = s.interface
skip_of s parameter.Direction = s.direction
skip_of s parameter.Family = s.family
skip_of s parameter.Protocol = s.protocol
skip_of s parameter.SourceHost = s.source_host
skip_of s parameter.DestinationHost = s.destination_host
skip_of s parameter.SourcePort = s.source_port
skip_of s parameter.DestinationPort = s.destination_port
skip_of s parameter.Flags = s.flags

-- the skips of the item at p
abbrev pub AreSkipsOf : List Item → ℕ → Skips → Type 0
AreSkipsOf items p s = (i : Item) → slice_get items p ≡ Some i → (k : Parameter) → IsSkip k items p i (skip_of s k)
