-- How the groups of an IPv6 address are written around those that are left out. (not promised)
use Rattle.std.specs.Prelude.{ℕ, List, ◌++◌, codes}
use Rattle.std.specs.Net.Text.{groups_text}

-- groups before `::` and after it
abbrev pub around : List ℕ → List ℕ → List ℕ
around head tail = groups_text head ++ codes "::" ++ groups_text tail
