-- The records of a trace as a loop reads them.
use Rattle.std.specs.Prelude.{ℕ, ◌+◌, List, Option, length}
use Rattle.std.proofs.lemmas.Map.Entries.{option_filter}
use Rattle.csv.specs.Reading.{records, records_from, default_config, strip_bom}
use Rattle.csv.specs.declared.parser.Config.{Config}
use Rattle.csv.specs.declared.parser.State.{State}
use Rattle.pfs_addr_values.specs.Addresses.{same_family}
use Rattle.pfs_addr_values.specs.declared.addresses.Addr.{Addr}
use Rattle.pfs_trace.specs.Traces.{Fields}

-- the records of a trace
abbrev pub records_of : List ℕ → List Fields
records_of bytes = records default_config (strip_bom bytes)

-- the records that are left of a text, from a state of the `csv` crate's machine
abbrev pub records_left : Config → State → List ℕ → List Fields
records_left cfg s xs = records_from cfg (length xs + 1) s xs

-- an address beside another, if they are of one family
abbrev pub beside : Addr → Option Addr → Option Addr
beside other addr = option_filter (same_family other) addr
