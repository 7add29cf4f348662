-- The faults of a text that is too long, and of one that breaks a load rule. (own)
use Rattle.std.specs.Prelude.{◌≡◌, ◌⊎◌, Result, Ok, Err}
use Rattle.pfs_conf_values.specs.Configs.{Conf}
use Rattle.pfs_conf.specs.declared.faults.LoadFault.{LoadFault}
use Rattle.pfs_conf.specs.Kinds.{too_long, no_memory}

-- the fault of a text that is too long
abbrev pub IsTooLong : Result Conf LoadFault → Type 0
IsTooLong (Ok conf) = ⊥
IsTooLong (Err given) = given ≡ too_long

-- the fault of a broken load rule is reported, unless memory runs out before it
abbrev pub IsReported : Result Conf LoadFault → LoadFault → Type 0
IsReported (Ok conf) e = ⊥
IsReported (Err given) e = (given ≡ e) ⊎ (given ≡ no_memory)
