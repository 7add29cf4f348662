-- The records that are left of a text.
use Rattle.std.proofs.Common.{◌≡◌, ◌≤◌, ◌<◌, ◌+◌, ◌++◌, ℕ, zero, suc, List, [], ◌∷◌, length, Option, Some, None, Bool, true, false, refl, sym, ap, arith, add-one}
use Rattle.std.specs.Prelude.{if◌then◌else◌}
use Rattle.csv.specs.Machine.{Read, next_record, step, ends_at_end, is_end, fields_after, field_after}
use Rattle.csv.specs.Reading.{records_from, records_next}
use Rattle.csv.specs.declared.parser.Config.{Config}
use Rattle.csv.specs.declared.parser.State.{State}
use Rattle.csv.specs.declared.parser.State.TheVariants as st
use Rattle.pfs_trace.specs.Reading.{records_left}

-- a text that is at its end gives a last record at most
last_next : (cfg : Config) (s : State) (f : List (List ℕ)) (p : List ℕ) (r : Read) → next_record cfg s f p [] ≡ Some r → (r.1 ≡ st.StartRecord) × (r.2 ≡ [])
unfolding next_record
last_next cfg s f p r e = by (ends_at_end s) e
  where
    by : (b : Bool) → (if b then Some (f ++ (p ∷ []), st.StartRecord, []) else None) ≡ Some r → (r.1 ≡ st.StartRecord) × (r.2 ≡ [])
    by true q = let w : (f ++ (p ∷ []), st.StartRecord, []) ≡ r = cc in (sym (ap (λ (v : Read). v.1) w), sym (ap (λ (v : Read). v.2) w))
    by false q = cc

-- what a step with this byte makes of the record at hand
abbrev next_by : Bool → Config → State → List (List ℕ) → List ℕ → ℕ → List ℕ → Option Read
next_by b cfg s f p c rest =
    if b then Some (fields_after (step cfg s c).1 f p, (step cfg s c).0, rest)
    else next_record cfg (step cfg s c).0 (fields_after (step cfg s c).1 f p) (field_after (step cfg s c).1 c p) rest

by_byte : (b : Bool) (cfg : Config) (s : State) (f : List (List ℕ)) (p : List ℕ) (c : ℕ) (rest : List ℕ) (r : Read)
    → (next_record cfg (step cfg s c).0 (fields_after (step cfg s c).1 f p) (field_after (step cfg s c).1 c p) rest ≡ Some r → length r.2 ≤ length rest)
    → next_by b cfg s f p c rest ≡ Some r → length r.2 ≤ length rest
by_byte true cfg s f p c rest r more q =
    let w : (fields_after (step cfg s c).1 f p, (step cfg s c).0, rest) ≡ r = cc in
    let e : rest ≡ r.2 = ap (λ (v : Read). v.2) w in rw (← e) (omega arith)
by_byte false cfg s f p c rest r more q = more q

-- a record leaves no more than there was
pub next_shorter : (cfg : Config) (s : State) (f : List (List ℕ)) (p : List ℕ) (xs : List ℕ) (r : Read) → next_record cfg s f p xs ≡ Some r → length r.2 ≤ length xs
unfolding next_record
next_shorter cfg s f p [] r e = rw ((last_next cfg s f p r e).1) (omega arith)
next_shorter cfg s f p (c ∷ rest) r e =
    let h = by_byte (is_end (step cfg s c).1) cfg s f p c rest r (next_shorter cfg (step cfg s c).0 (fields_after (step cfg s c).1 f p) (field_after (step cfg s c).1 c p) rest r) e in
    omega arith

-- and takes a byte of a text that has one
pub next_shorter-cons : (cfg : Config) (s : State) (f : List (List ℕ)) (p : List ℕ) (c : ℕ) (rest : List ℕ) (r : Read) → next_record cfg s f p (c ∷ rest) ≡ Some r → length r.2 ≤ length rest
unfolding next_record
next_shorter-cons cfg s f p c rest r e =
    by_byte (is_end (step cfg s c).1) cfg s f p c rest r (next_shorter cfg (step cfg s c).0 (fields_after (step cfg s c).1 f p) (field_after (step cfg s c).1 c p) rest r) e

-- nothing is left after the last record
start_empty : (cfg : Config) (n : ℕ) → records_from cfg n st.StartRecord [] ≡ []
unfolding records_from next_record
start_empty cfg zero = refl
start_empty cfg (suc n) = refl

-- the records of a text, by its next one, at two numbers of turns
same_last : (cfg : Config) (n m : ℕ) (s : State) (o : Option Read) → next_record cfg s [] [] [] ≡ o → records_next (records_from cfg n) o ≡ records_next (records_from cfg m) o
same_last cfg n m s None e = refl
same_last cfg n m s (Some r) e = let w = last_next cfg s [] [] r e in rw (w.0, w.1, start_empty cfg n, start_empty cfg m) refl

same_more : (cfg : Config) (n m : ℕ) (s : State) (c : ℕ) (rest : List ℕ) → length rest < n → length rest < m
    → ((r : Read) → length r.2 < n → length r.2 < m → records_from cfg n r.1 r.2 ≡ records_from cfg m r.1 r.2)
    → (o : Option Read) → next_record cfg s [] [] (c ∷ rest) ≡ o → records_next (records_from cfg n) o ≡ records_next (records_from cfg m) o
same_more cfg n m s c rest h k more None e = refl
same_more cfg n m s c rest h k more (Some r) e =
    let w = next_shorter-cons cfg s [] [] c rest r e in
    let a : length r.2 < n = omega arith in
    let b : length r.2 < m = omega arith in
    ap (λ (t : List (List (List ℕ))). r.0 ∷ t) (more r a b)

-- any number of turns above the length gives the same records
pub fuel : (cfg : Config) (n m : ℕ) (s : State) (xs : List ℕ) → length xs < n → length xs < m → records_from cfg n s xs ≡ records_from cfg m s xs
unfolding records_from
fuel cfg zero m s xs h k = absurd (omega arith)
fuel cfg (suc n) zero s xs h k = absurd (omega arith)
fuel cfg (suc n) (suc m) s [] h k = same_last cfg n m s (next_record cfg s [] [] []) refl
fuel cfg (suc n) (suc m) s (c ∷ rest) h k =
    same_more cfg n m s c rest (omega arith) (omega arith) (λ r a b. fuel cfg n m r.1 r.2 a b) (next_record cfg s [] [] (c ∷ rest)) refl

-- a record of a text is followed by those of the rest
after_next : (cfg : Config) (s : State) (xs : List ℕ) (r : Read) → next_record cfg s [] [] xs ≡ Some r → records_from cfg (length xs) r.1 r.2 ≡ records_left cfg r.1 r.2
after_next cfg s [] r e = let w = last_next cfg s [] [] r e in rw (w.0, w.1, start_empty cfg 0, start_empty cfg 1) refl
after_next cfg s (c ∷ rest) r e =
    let w = next_shorter-cons cfg s [] [] c rest r e in
    fuel cfg (length (c ∷ rest)) (length r.2 + 1) r.1 r.2 (omega arith) (omega arith)

-- the records that are left begin with the next one
pub records_left-more : (cfg : Config) (s : State) (xs : List ℕ) (r : Read) → next_record cfg s [] [] xs ≡ Some r → records_left cfg s xs ≡ r.0 ∷ records_left cfg r.1 r.2
unfolding records_from
records_left-more cfg s xs r e = rw (add-one, e) (ap (λ (t : List (List (List ℕ))). r.0 ∷ t) (after_next cfg s xs r e))

pub records_left-end : (cfg : Config) (s : State) (xs : List ℕ) → next_record cfg s [] [] xs ≡ None → records_left cfg s xs ≡ []
unfolding records_from
records_left-end cfg s xs e = rw (add-one, e) refl
