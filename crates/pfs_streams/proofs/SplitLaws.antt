-- The split of a joined text by its lines, and byte by byte.
use Rattle.std.proofs.Common.{◌≡◌, ◌++◌, ◌∙◌, ℕ, List, [], ◌∷◌, Bool, true, false, refl, sym, ap, take, drop, arith, suc, ◌+◌}
use Rattle.std.specs.Prelude.{◌==◌, if◌then◌else◌}
use Rattle.std.specs.List.{after_first, before_first, concat, onto_first, position_or_len}
use Rattle.std.specs.Io.BufRead.{take_through, drop_through}
use Rattle.pfs_streams.specs.Joined.{is_split, lines_in, split_joined}
use Rattle.pfs_streams.specs.Places.{Parts, ahead, split_from}

-- what is before the first split line of these lines, and what after it
abbrev split_lines : List (List ℕ) → Parts
split_lines lines = (concat (before_first is_split lines), concat (after_first is_split lines))

split-here : (line : List ℕ) (lines : List (List ℕ)) → is_split line ≡ true → split_lines (line ∷ lines) ≡ ([], concat lines)
split-here line lines e = rw e refl

-- one line more in front
one-more : (n : ℕ) (line : List ℕ) (lines : List (List ℕ))
    → ◌≡◌ {A = Parts} (concat (take (1 + n) (line ∷ lines)), concat (drop ((1 + n) + 1) (line ∷ lines))) (line ++ concat (take n lines), concat (drop (n + 1) lines))
one-more n line lines =
    let all : (1 + n) + 1 ≡ suc (n + 1) = omega arith in
    let front : 1 + n ≡ suc n = omega arith in
    rw (all, front) refl

split-later : (line : List ℕ) (lines : List (List ℕ)) → is_split line ≡ false → split_lines (line ∷ lines) ≡ ahead line (split_lines lines)
split-later line lines e = rw e (one-more (position_or_len is_split lines) line lines)

-- a line that is not the split line, and what follows it
abbrev behind_line : List (List ℕ) → Parts
behind_line [] = ([], [])
behind_line (line ∷ lines) = ahead line (split_lines lines)

onto-ahead : (c : ℕ) (lines : List (List ℕ)) → ahead (c ∷ []) (behind_line lines) ≡ behind_line (onto_first c lines)
onto-ahead c [] = refl
onto-ahead c (line ∷ lines) = refl

-- the bytes of the lines are those of the text
concat-lines : (xs : List ℕ) → concat (lines_in xs) ≡ xs
unfolding lines_in
concat-lines [] = refl
concat-lines (c ∷ xs) = by (c == 10) (concat-lines xs)
  where
    onto : (lines : List (List ℕ)) → concat (onto_first c lines) ≡ c ∷ concat lines
    onto [] = refl
    onto (line ∷ lines) = refl

    by : (b : Bool) → concat (lines_in xs) ≡ xs → concat (if b then (c ∷ []) ∷ lines_in xs else onto_first c (lines_in xs)) ≡ c ∷ xs
    by true e = ap (λ (t : List ℕ). c ∷ t) e
    by false e = onto (lines_in xs) ∙ ap (λ (t : List ℕ). c ∷ t) e

-- the first line is what comes up to the first line feed
first-line : (c : ℕ) (xs : List ℕ) → lines_in (c ∷ xs) ≡ take_through 10 (c ∷ xs) ∷ lines_in (drop_through 10 (c ∷ xs))
unfolding lines_in
first-line c [] = by (c == 10)
  where
    by : (b : Bool) → (if b then (c ∷ []) ∷ [] else (c ∷ []) ∷ []) ≡ (if b then c ∷ [] else c ∷ []) ∷ lines_in (if b then [] else [])
    by true = refl
    by false = refl
first-line c (d ∷ xs) = by (c == 10) (first-line d xs)
  where
    by : (b : Bool) → lines_in (d ∷ xs) ≡ take_through 10 (d ∷ xs) ∷ lines_in (drop_through 10 (d ∷ xs))
        → (if b then (c ∷ []) ∷ lines_in (d ∷ xs) else onto_first c (lines_in (d ∷ xs)))
        ≡ (if b then c ∷ [] else c ∷ take_through 10 (d ∷ xs)) ∷ lines_in (if b then d ∷ xs else drop_through 10 (d ∷ xs))
    by true e = refl
    by false e = ap (onto_first c) e

-- within a line, and at the start of one
record Same (xs : List ℕ) : Type 0 where
  inside : split_from false xs ≡ behind_line (lines_in xs)
  starts : split_from true xs ≡ split_lines (lines_in xs)

same : (xs : List ℕ) → Same xs
unfolding lines_in split_from
same [] = record { inside = refl; starts = refl }
same (c ∷ xs) =
    let within = inside_from (c == 10) (same xs) in
    record { inside = within; starts = at_start (is_split (take_through 10 (c ∷ xs))) refl within }
  where
    inside_from : (b : Bool) → Same xs → ahead (c ∷ []) (split_from b xs) ≡ behind_line (if b then (c ∷ []) ∷ lines_in xs else onto_first c (lines_in xs))
    inside_from true s = ap (ahead (c ∷ [])) s.starts
    inside_from false s = ap (ahead (c ∷ [])) s.inside ∙ onto-ahead c (lines_in xs)

    line : List ℕ
    line = take_through 10 (c ∷ xs)

    rest : List ℕ
    rest = drop_through 10 (c ∷ xs)

    at_start : (b : Bool) → is_split line ≡ b → ahead (c ∷ []) (split_from (c == 10) xs) ≡ behind_line (lines_in (c ∷ xs))
        → (if b then ([], rest) else ahead (c ∷ []) (split_from (c == 10) xs)) ≡ split_lines (lines_in (c ∷ xs))
    at_start true is within =
        ap (λ (t : List ℕ). let parts : Parts = ([], t) in parts) (sym (concat-lines rest))
        ∙ (sym (split-here line (lines_in rest) is) ∙ ap split_lines (sym (first-line c xs)))
    at_start false is within =
        within ∙ (ap behind_line (first-line c xs) ∙ (sym (split-later line (lines_in rest) is) ∙ ap split_lines (sym (first-line c xs))))

-- so the lines before the split line, and those after it, are its bytes before and after
pub split-lines : (xs : List ℕ) → split_joined xs ≡ split_from true xs
unfolding split_joined
split-lines xs = sym (same xs).starts
