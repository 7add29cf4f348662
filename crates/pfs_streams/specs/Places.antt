-- Where in a line the reading of a joined text is, and how its bytes are split. (own)
use Rattle.std.specs.Prelude.{◌≡◌, ◌++◌, ◌==◌, ◌&&◌, ℕ, Bool, true, false, List, [], ◌∷◌, drop, Option, Some, None, if◌then◌else◌}
use Rattle.std.specs.Io.BufRead.{take_through, drop_through}
use Rattle.pfs_streams.specs.declared.splitting.LinePlace.{LinePlace}
use Rattle.pfs_streams.specs.declared.splitting.LinePlace.TheVariants as place
use Rattle.pfs_streams.specs.Joined.{is_split}

-- rules and a trace
abbrev pub Parts : Type 0
Parts = List ℕ × List ℕ

-- bytes that come before the rest of the rules
abbrev pub ahead : List ℕ → Parts → Parts
ahead bytes parts = (bytes ++ parts.0, parts.1)

-- the bytes before the first split line, and those after it; the flag says that a line starts here
unfoldable pub split_from : Bool → List ℕ → Parts
split_from start [] = ([], [])
split_from start (c ∷ xs) =
    if start && is_split (take_through 10 (c ∷ xs)) then ([], drop_through 10 (c ∷ xs)) else ahead (c ∷ []) (split_from (c == 10) xs)

-- the bytes of the line so far, where it may still be the split line
abbrev pub pending : LinePlace → List ℕ
pending place.Start = []
pending place.Percent = 37 ∷ []
pending place.Percents = 37 ∷ 37 ∷ []
pending place.Inside = []

-- whether the line may still be the split line
abbrev pub may_split : LinePlace → Bool
may_split place.Start = true
may_split place.Percent = true
may_split place.Percents = true
may_split place.Inside = false

-- the place after a byte that does not end a split line
abbrev pub place_after : LinePlace → ℕ → LinePlace
place_after place.Start c = if c == 10 then place.Start else if c == 37 then place.Percent else place.Inside
place_after place.Percent c = if c == 10 then place.Start else if c == 37 then place.Percents else place.Inside
place_after place.Percents c = if c == 10 then place.Start else place.Inside
place_after place.Inside c = if c == 10 then place.Start else place.Inside

-- the split of the bytes that are left, from a place
abbrev pub split_at : LinePlace → List ℕ → Parts
split_at p xs = split_from (may_split p) (pending p ++ xs)

-- the bytes so far of a line that is the split line, if it ends here
abbrev pub split_mark : LinePlace → List ℕ
split_mark place.Start = []
split_mark place.Percent = []
split_mark place.Percents = 37 ∷ 37 ∷ []
split_mark place.Inside = []

-- the bytes so far of the line that are the rules', if the text ends here
abbrev pub settled_bytes : LinePlace → List ℕ
settled_bytes place.Start = []
settled_bytes place.Percent = 37 ∷ []
settled_bytes place.Percents = []
settled_bytes place.Inside = []

-- whether a byte ends the split line
abbrev pub ends_split : LinePlace → ℕ → Bool
ends_split place.Start c = false
ends_split place.Percent c = false
ends_split place.Percents c = c == 10
ends_split place.Inside c = false

-- the place after bytes of which none ends the split line, and none where one does
unfoldable pub place_over : LinePlace → List ℕ → Option LinePlace
place_over p [] = Some p
place_over p (c ∷ cs) = if ends_split p c then None else place_over (place_after p c) cs

-- the split line, or the end, has been read: what is left is the trace, or lies within it
abbrev pub IsPastSplit : Parts → Option (List ℕ) → Type 0
IsPastSplit parts left = (k : ℕ) × (left ≡ Some (drop k parts.1))
