-- What is read of a rules text, and how it is refused. (own)
use Rattle.std.specs.Prelude.{◌≢◌, ℕ, List}
use Rattle.pfs_conf_values.specs.Configs.{Conf}
use Rattle.pfs_conf.specs.declared.faults.LoadFault.{LoadFault}
use Rattle.pfs_conf.specs.Kinds.{no_memory}
use Rattle.pfs_conf.specs.Reads.{Reads}
use Rattle.pfs_conf.specs.Faults.{IsFault}

-- a text without a configuration, and a fault that may be reported of it; out of memory has a fault of its own
abbrev pub AreRefused : List ℕ → LoadFault → Type 0
AreRefused text f = (f ≢ no_memory) × ((conf : Conf) → Reads text conf → ⊥) × IsFault text f
