-- The purges of the seconds of a jump, and the fullest slices of them. (own)
use Rattle.std.specs.Prelude.{ℕ, ◌+◌, ◌-◌, max, Bool, if◌then◌else◌, List, [], ◌∷◌}
use Rattle.std.specs.List.{range_with_len}
use Rattle.pfs_conf_values.specs.Configs.{Conf}
use Rattle.pfs_store_contract.specs.Calls.{node_slice_of, state_slice_of}
use Rattle.pfs_store_contract.specs.Purging.{purge, state_slice}
use Rattle.pfs_store_contract.specs.Worlds.{World}
use Rattle.pfs_store_contract.specs.declared.records.Purged.{Purged}

-- the whole seconds after one moment up to another, in rising order
abbrev pub seconds : ℕ → ℕ → List ℕ
seconds from to = range_with_len (from + 1) (to - from)

-- the world after the purges of these seconds
abbrev pub world_after_purges : Conf → World → List ℕ → World
world_after_purges conf w [] = w
world_after_purges conf w (s ∷ ss) = world_after_purges conf (purge conf w s) ss

-- the most states, and the most nodes, that one slice of these seconds examines
abbrev pub most_states : Conf → World → List ℕ → ℕ
most_states conf w [] = 0
most_states conf w (s ∷ ss) = max (state_slice_of conf w s).examined (most_states conf (purge conf w s) ss)

abbrev pub most_nodes : Conf → World → List ℕ → ℕ
most_nodes conf w [] = 0
most_nodes conf w (s ∷ ss) = max (node_slice_of conf (state_slice conf w s) s).examined (most_nodes conf (purge conf w s) ss)

-- what is told of them; the looks are those of the fullest slice of states, where the store counts them
abbrev pub purged_of : Bool → Conf → World → List ℕ → Purged
purged_of counts conf w ss = record {
  looks = if counts then most_states conf w ss else 0;
  most_states = most_states conf w ss;
  most_nodes = most_nodes conf w ss;
}
