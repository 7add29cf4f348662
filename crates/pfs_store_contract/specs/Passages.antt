-- How far the purges of seconds have come. (own) (not promised)
use Rattle.std.specs.Prelude.{ℕ, max, Bool, if◌then◌else◌, List, [], ◌∷◌}
use Rattle.pfs_conf_values.specs.Configs.{Conf}
use Rattle.pfs_store_contract.specs.Calls.{node_slice_of, state_slice_of}
use Rattle.pfs_store_contract.specs.Purging.{purge, state_slice}
use Rattle.pfs_store_contract.specs.Worlds.{World}
use Rattle.pfs_store_contract.specs.declared.records.Purged.{Purged}

abbrev pub purged_of_none : Purged
purged_of_none = record { looks = 0; most_states = 0; most_nodes = 0 }

-- of each count the greater one
abbrev pub purged_both : Purged → Purged → Purged
purged_both one two = record {
  looks = max one.looks two.looks;
  most_states = max one.most_states two.most_states;
  most_nodes = max one.most_nodes two.most_nodes;
}

-- what one second examines
abbrev pub purged_in : Bool → Conf → World → ℕ → Purged
purged_in counts conf w s = record {
  looks = if counts then (state_slice_of conf w s).examined else 0;
  most_states = (state_slice_of conf w s).examined;
  most_nodes = (node_slice_of conf (state_slice conf w s) s).examined;
}

-- the world after the seconds that are done, and what they examined
pub record Done : Type 0 where
  pub world : World
  pub purged : Purged

abbrev pub done_of : World → Purged → Done
done_of w p = record { world = w; purged = p }

-- after further ones
abbrev pub done_after : Bool → Conf → Done → List ℕ → Done
done_after counts conf d [] = d
done_after counts conf d (s ∷ ss) = done_after counts conf (done_of (purge conf d.world s) (purged_both d.purged (purged_in counts conf d.world s))) ss
