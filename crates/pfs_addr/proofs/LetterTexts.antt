-- The letters of flags: which bytes they are, and that they are read as the same flags.
use Rattle.std.proofs.Common.{◌≡◌, ℕ, Bool, true, false, suc, length, List, [], ◌∷◌, ◌++◌, Some, None, refl, sym, ap, ◌∙◌, arith, append-nil}
use Rattle.std.specs.Prelude.{codes, ◌||◌, ◌==◌, if◌then◌else◌}
use Rattle.std.specs.List.{list_all}
use Rattle.std.proofs.lemmas.Bool.{cond-true, and_parts, and_from, ne_eqb}
use Rattle.pfs_addr_values.specs.FlagSets.{flags_of, is_flag_letter, letter_text, letters_text, names_letter}
use Rattle.pfs_addr_values.specs.declared.flag_sets.Flags.{Flags}

-- the letters of a set of flags, each with whether it is in the set
abbrev lettered : Flags → List (ℕ × Bool)
lettered f = (70, f.fin) ∷ (83, f.syn) ∷ (82, f.rst) ∷ (80, f.psh) ∷ (65, f.ack) ∷ (85, f.urg) ∷ (69, f.ece) ∷ (87, f.cwr) ∷ []

-- the text of such a list
abbrev spelled : List (ℕ × Bool) → List ℕ
spelled [] = []
spelled (p ∷ ps) = letter_text p.1 (p.0 ∷ []) ++ spelled ps

spelled_letters : (f : Flags) → letters_text f ≡ spelled (lettered f)
spelled_letters f =
    ap (λ (z : List ℕ). letter_text f.fin (codes "F") ++ (letter_text f.syn (codes "S") ++ (letter_text f.rst (codes "R")
    ++ (letter_text f.psh (codes "P") ++ (letter_text f.ack (codes "A") ++ (letter_text f.urg (codes "U")
    ++ (letter_text f.ece (codes "E") ++ z))))))) (sym (append-nil (letter_text f.cwr (codes "W"))))

-- ---- bytes

all_spelled : (g : ℕ → Bool) (ps : List (ℕ × Bool)) → list_all (λ (p : ℕ × Bool). g p.0) ps ≡ true → list_all g (spelled ps) ≡ true
all_spelled g [] h = refl
all_spelled g ((c, b) ∷ ps) h =
    let p = and_parts (g c) (list_all (λ (p : ℕ × Bool). g p.0) ps) h in
    go b p.0 (all_spelled g ps p.1)
  where
    go : (x : Bool) → g c ≡ true → list_all g (spelled ps) ≡ true → list_all g (letter_text x (c ∷ []) ++ spelled ps) ≡ true
    go true e k = and_from (g c) (list_all g (spelled ps)) e k
    go false e k = k

-- all letters pass a test that the eight letters pass
pub letters_all : (g : ℕ → Bool) (f : Flags) → list_all g (70 ∷ 83 ∷ 82 ∷ 80 ∷ 65 ∷ 85 ∷ 69 ∷ 87 ∷ []) ≡ true → list_all g (letters_text f) ≡ true
letters_all g f h = ap (list_all g) (spelled_letters f) ∙ all_spelled g (lettered f) h

-- ---- read again

-- whether a letter is in the set
abbrev has : ℕ → List (ℕ × Bool) → Bool
has k [] = false
has k (p ∷ ps) = if p.0 == k then p.1 || has k ps else has k ps

named : (k : ℕ) (ps : List (ℕ × Bool)) → names_letter k (spelled ps) ≡ has k ps
named k [] = refl
named k ((c, b) ∷ ps) = go (named k ps) b (c == k) refl
  where
    go : names_letter k (spelled ps) ≡ has k ps → (x y : Bool) → (c == k) ≡ y → names_letter k (letter_text x (c ∷ []) ++ spelled ps) ≡ (if y then x || has k ps else has k ps)
    go h true true e = ap (λ (z : Bool). z || names_letter k (spelled ps)) e
    go h true false e = ap (λ (z : Bool). z || names_letter k (spelled ps)) e ∙ h
    go h false true e = h
    go h false false e = h

or_none : (b : Bool) → (b || false) ≡ b
or_none true = refl
or_none false = refl

same_flags : (a b c d e f g h : Bool) (x : Flags) → a ≡ x.fin → b ≡ x.syn → c ≡ x.rst → d ≡ x.psh → e ≡ x.ack → f ≡ x.urg → g ≡ x.ece → h ≡ x.cwr
    → ◌≡◌ {A = Flags} (record { fin = a; syn = b; rst = c; psh = d; ack = e; urg = f; ece = g; cwr = h }) x
same_flags a b c d e f g h x p q r s t u v w = rw (p, q, r, s, t, u, v, w) refl

-- the letters of flags are read as those flags
pub flags_again : (f : Flags) → flags_of (letters_text f) ≡ Some f
flags_again f =
    let at : (k : ℕ) → names_letter k (letters_text f) ≡ has k (lettered f) = λ k. ap (names_letter k) (spelled_letters f) ∙ named k (lettered f) in
    cond-true (list_all is_flag_letter (letters_text f)) _ None (letters_all is_flag_letter f refl)
    ∙ ap (λ (x : Flags). Some x) (same_flags _ _ _ _ _ _ _ _ f (at 70 ∙ or_none f.fin) (at 83 ∙ or_none f.syn) (at 82 ∙ or_none f.rst) (at 80 ∙ or_none f.psh)
    (at 65 ∙ or_none f.ack) (at 85 ∙ or_none f.urg) (at 69 ∙ or_none f.ece) (at 87 ∙ or_none f.cwr))

-- ---- a set that is not empty

none_set : (a b c d e f g h : Bool) → a ≡ false → b ≡ false → c ≡ false → d ≡ false → e ≡ false → f ≡ false → g ≡ false → h ≡ false
    → (a || b || c || d || e || f || g || h) ≡ false
none_set a b c d e f g h p q r s t u v w = rw (p, q, r, s, t, u, v, w) refl

-- a set that is not empty has some letter
pub letters_some : (f : Flags) → (f.fin || f.syn || f.rst || f.psh || f.ack || f.urg || f.ece || f.cwr) ≡ true → (length (letters_text f) == 0) ≡ false
letters_some f h = go (letters_text f) (λ k. ap (names_letter k) (spelled_letters f) ∙ named k (lettered f))
  where
    go : (w : List ℕ) → ((k : ℕ) → names_letter k w ≡ has k (lettered f)) → (length w == 0) ≡ false
    go [] at =
        let none : (f.fin || f.syn || f.rst || f.psh || f.ack || f.urg || f.ece || f.cwr) ≡ false =
        none_set f.fin f.syn f.rst f.psh f.ack f.urg f.ece f.cwr (sym (at 70 ∙ or_none f.fin)) (sym (at 83 ∙ or_none f.syn)) (sym (at 82 ∙ or_none f.rst))
        (sym (at 80 ∙ or_none f.psh)) (sym (at 65 ∙ or_none f.ack)) (sym (at 85 ∙ or_none f.urg)) (sym (at 69 ∙ or_none f.ece)) (sym (at 87 ∙ or_none f.cwr)) in
        absurd (cc (sym none ∙ h))
    go (b ∷ w) at = ne_eqb (suc (length w)) 0 (λ e. omega arith)
