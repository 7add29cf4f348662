-- A store over plain lists, as its callers see it; and counts of states by rule.
use Rattle.std.specs.Prelude.{ℕ, ◌≡◌, ◌<◌, List, length, slice_index}
use Rattle.pfs_conf_values.specs.Configs.{Conf}
use Rattle.pfs_store_contract.specs.Counts.{rule_states}
use Rattle.pfs_store_contract.specs.Worlds.{World}
use Rattle.pfs_store_contract.specs.declared.records.State.{State}

-- the configuration that it was made for, and what it holds, as plain lists
pub record Plain : Type 0 where
  pub config : Conf
  pub world : World

-- these are the counts of the states of the first rules
abbrev pub AreCounts : List ℕ → List State → Type 0
AreCounts counts states = (rule : ℕ) → rule < length counts → slice_index counts rule ≡ rule_states rule states
