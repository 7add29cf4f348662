-- What a walk knows of a state that it met: how long states of its rule may stay in phases of its timeout. (own) (not promised)
use Rattle.std.specs.Prelude.{◌≡◌, ℕ, true}
use Rattle.pfs_conf_values.specs.declared.items.RuleNo.{RuleNo}
use Rattle.pfs_conf_values.specs.declared.timeouts.TimeoutName.{TimeoutName}
use Rattle.pfs_store_records.specs.declared.stays.Stay.{Stay}

-- so long they may stay, where it is known
abbrev pub IsStay : (RuleNo → TimeoutName → ℕ) → Stay → Type 0
IsStay lifetime stay = stay.is_known ≡ true → stay.seconds ≡ lifetime stay.rule stay.timeout
