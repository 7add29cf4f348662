-- A text of rules and a trace, with a line of its own between them. (own)
use Rattle.std.specs.Prelude.{◌==◌, ◌||◌, ℕ, Bool, List, [], ◌∷◌, codes, if◌then◌else◌}
use Rattle.std.specs.Str.{bytes_eq}
use Rattle.std.specs.List.{after_first, before_first, concat, onto_first}

-- whether a line, with its line feed if it has one, is the split line: `%%` and nothing else
abbrev pub is_split : List ℕ → Bool
is_split line = bytes_eq line (codes "%%\n") || bytes_eq line (codes "%%")

-- the lines of a text, each with its line feed if it has one
unfoldable pub lines_in : List ℕ → List (List ℕ)
lines_in [] = []
lines_in (c ∷ xs) = if c == 10 then (c ∷ []) ∷ lines_in xs else onto_first c (lines_in xs)

-- the rules and the trace of a joined text: the lines before the first split line, and those after it
unfoldable pub split_joined : List ℕ → List ℕ × List ℕ
split_joined bytes = (concat (before_first is_split (lines_in bytes)), concat (after_first is_split (lines_in bytes)))
