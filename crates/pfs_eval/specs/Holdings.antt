-- What tables hold: entries, room for more, the limit on them, and which lengths of prefixes are noted.
use Rattle.std.specs.Prelude.{ℕ, All, List, map}
use Rattle.pfs_addr_values.specs.Prefixes.{IsNetwork}
use Rattle.pfs_eval.specs.Blooms.{AreKnown}
use Rattle.pfs_eval.specs.Entries.{Entry}
use Rattle.pfs_eval.specs.Lengths.{AreOn, AreLong, IsLengthNoted}
use Rattle.pfs_eval.specs.Signs.{AreTrueWords}
use Rattle.pfs_eval.specs.declared.lengths.Lengths.{Lengths}

-- what a table holds: its entries in order, and how many more fit without memory
pub record HeldEntries : Type 0 where
  pub entries : List Entry
  pub spare : ℕ

-- what all tables hold, by their numbers: the entries of each in order, how many more fit into each without memory, and the
-- limit on all entries together
pub record Holdings : Type 0 where
  pub entries : List (List Entry)
  pub room : List ℕ
  pub limit : ℕ

-- the same, from the tables one by one
abbrev pub holdings : List HeldEntries → ℕ → Holdings
holdings tables limit = record {
  entries = map (λ (t : HeldEntries). t.entries) tables;
  room = map (λ (t : HeldEntries). t.spare) tables;
  limit = limit;
}

-- what the entries of a table keep: each is a prefix, its length is noted, and so is that it may be there; and what is told of their
-- signs is true
pub record AreEntriesKept (entries : List Entry) (lengths : Lengths) (words signs : List ℕ) : Type 0 where
  pub networks : All (λ (x : Entry). IsNetwork x.0) entries
  pub long : AreLong lengths
  pub on : AreOn lengths
  pub noted : All (λ (x : Entry). IsLengthNoted lengths x.0) entries
  pub known : AreKnown words entries
  pub told : AreTrueWords signs entries
