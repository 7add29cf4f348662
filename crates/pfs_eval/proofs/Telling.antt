-- Words that tell signs: a word is that of one prefix with one sign, and one entry more changes no sign.
use Rattle.std.proofs.Common.{◌≡◌, ℕ, ◌≤◌, ◌==◌, Bool, true, false, ◌&&◌, ◌||◌, cond, List, [], ◌∷◌, ◌++◌, Option, Some, None, refl, ap, sym, ◌∙◌, arith, subst, eq-eqb, eqb-true}
use Rattle.std.specs.Prelude.{IfSome, replicate}
use Rattle.std.specs.Option.{option_map}
use Rattle.std.proofs.lemmas.List.Elements.{All-replicate}
use Rattle.pfs_addr_values.specs.declared.addresses.Addr.{Addr}
use Rattle.pfs_addr_values.specs.declared.addresses.Addr.TheVariants.{V4, V6}
use Rattle.pfs_addr_values.specs.Addresses.{IsAddr, same_family}
use Rattle.pfs_addr_values.specs.Prefixes.{Network, covers, first_bits, network_of}
use Rattle.pfs_addr_values.proofs.PrefixLaws.{network_covers}
use Rattle.pfs_eval.specs.Entries.{Entry, holds_prefix, is_prefix_of, mark_at}
use Rattle.pfs_eval.specs.Signs.{AreTrueWords, IsTrueWord, entry_sign, sign_word}
use Rattle.pfs_eval.specs.declared.entries.Mark.{Mark}

-- ---- what a word says

-- a word that says something is not 0
not_zero : (f n : ℕ) (s : Bool) → 0 ≡ sign_word f n s → ⊥
not_zero f n true e = omega (arith, e)
not_zero f n false e = omega (arith, e)

pub zero-true : (es : List Entry) → IsTrueWord es 0
unfolding IsTrueWord
zero-true es = λ y n s h e. absurd (not_zero (first_bits n (V4 y)) n s e)

-- words that are 0
pub zeros-true : (ws : List ℕ) (n : ℕ) (es : List Entry) → ws ≡ replicate n 0 → AreTrueWords ws es
zeros-true ws n es e = subst (λ (xs : List ℕ). AreTrueWords xs es) (sym e) (All-replicate (IsTrueWord es) n 0 (zero-true es))

-- it is that of one prefix with one sign
one_word : (f g n m : ℕ) (s t : Bool) → n ≤ 32 → m ≤ 32 → sign_word f n s ≡ sign_word g m t → (f ≡ g) × (n ≡ m) × (s ≡ t)
one_word f g n m true true h k e = (omega (arith, h, k, e), omega (arith, h, k, e), refl)
one_word f g n m false false h k e = (omega (arith, h, k, e), omega (arith, h, k, e), refl)
one_word f g n m true false h k e = absurd (omega (arith, h, k, e))
one_word f g n m false true h k e = absurd (omega (arith, h, k, e))

same_cover : (q : Addr) (k : ℕ) (x y : List ℕ) → first_bits k (V4 x) ≡ first_bits k (V4 y)
    → (same_family q (V4 x) && (first_bits k q == first_bits k (V4 x))) ≡ (same_family q (V4 y) && (first_bits k q == first_bits k (V4 y)))
same_cover (V4 z) k x y e = ap (λ w. first_bits k (V4 z) == w) e
same_cover (V6 z) k x y e = refl

same_prefix : (x y : List ℕ) (n : ℕ) (p : Network) → first_bits n (V4 x) ≡ first_bits n (V4 y) → is_prefix_of (V4 x) n p ≡ is_prefix_of (V4 y) n p
unfolding covers
same_prefix x y n p e = by (p.bits == n) refl
  where
    by : (b : Bool) → (p.bits == n) ≡ b → (b && covers p (V4 x)) ≡ (b && covers p (V4 y))
    by false h = refl
    by true h = same_cover p.addr p.bits x y (subst (λ k. first_bits k (V4 x) ≡ first_bits k (V4 y)) (sym (eqb-true p.bits n h)) e)

-- addresses with the same first bits have the same prefix, and so the same mark
same_mark : (x y : List ℕ) (n : ℕ) (es : List Entry) → first_bits n (V4 x) ≡ first_bits n (V4 y) → mark_at es (V4 x) n ≡ mark_at es (V4 y) n
same_mark x y n [] e = refl
same_mark x y n (z ∷ es) e = mark_step (is_prefix_of (V4 x) n z.0) (is_prefix_of (V4 y) n z.0) z.1 (mark_at es (V4 x) n) (mark_at es (V4 y) n) (same_prefix x y n z.0 e) (same_mark x y n es e)
  where
    mark_step : (b c : Bool) (m : Mark) (o p : Option Mark) → b ≡ c → o ≡ p → cond b (Some m) o ≡ cond c (Some m) p
    mark_step b c m o p e f = ap (λ d. cond d (Some m) o) e ∙ ap (cond c (Some m)) f

-- the word of an entry tells the truth
pub entry-true : (es : List Entry) (x : List ℕ) (n : ℕ) (s : Bool) → n ≤ 32 → entry_sign es (V4 x) n ≡ Some s → IsTrueWord es (sign_word (first_bits n (V4 x)) n s)
unfolding IsTrueWord
entry-true es x n s h e = λ y m t k same.
    let one = one_word (first_bits n (V4 x)) (first_bits m (V4 y)) n m s t h k same in
    let first : first_bits n (V4 x) ≡ first_bits n (V4 y) = one.0 ∙ ap (λ j. first_bits j (V4 y)) (sym one.1) in
    ap (entry_sign es (V4 y)) (sym one.1)
    ∙ ap (option_map (λ (m : Mark). m.negated)) (sym (same_mark x y n es first))
    ∙ e ∙ ap (λ b. Some b) one.2

-- what a true word tells
pub true-sign : (es : List Entry) (x : List ℕ) (n : ℕ) (s : Bool) → n ≤ 32 → IsTrueWord es (sign_word (first_bits n (V4 x)) n s) → entry_sign es (V4 x) n ≡ Some s
unfolding IsTrueWord
true-sign es x n s h t = t x n s h refl

-- ---- one more entry

sign_step : (b : Bool) (m : Mark) (o p : Option Mark) (s : Bool) → (option_map (λ (k : Mark). k.negated) o ≡ Some s → option_map (λ (k : Mark). k.negated) p ≡ Some s)
    → option_map (λ (k : Mark). k.negated) (cond b (Some m) o) ≡ Some s → option_map (λ (k : Mark). k.negated) (cond b (Some m) p) ≡ Some s
sign_step true m o p s i e = e
sign_step false m o p s i e = i e

sign_kept : (es : List Entry) (x : Entry) (a : Addr) (n : ℕ) (s : Bool) → entry_sign es a n ≡ Some s → entry_sign (es ++ x ∷ []) a n ≡ Some s
sign_kept [] x a n s e = cc
sign_kept (z ∷ es) x a n s e =
    sign_step (is_prefix_of a n z.0) z.1 (mark_at es a n) (mark_at (es ++ x ∷ []) a n) s (sign_kept es x a n s) e

still_true : (es : List Entry) (x : Entry) (w : ℕ) → IsTrueWord es w → IsTrueWord (es ++ x ∷ []) w
unfolding IsTrueWord
still_true es x w h = λ y n s k e. sign_kept es x (V4 y) n s (h y n s k e)

-- words that tell the truth still do
pub still-true : (es : List Entry) (x : Entry) (words : List ℕ) → AreTrueWords words es → AreTrueWords words (es ++ x ∷ [])
still-true es x words h = λ i d l. still_true es x _ (h i d l)

last_step : (b t : Bool) (m : Mark) (o : Option Mark) (s : Bool) → (b || t) ≡ false → (t ≡ false → option_map (λ (k : Mark). k.negated) o ≡ Some s)
    → option_map (λ (k : Mark). k.negated) (cond b (Some m) o) ≡ Some s
last_step true t m o s e i = absurd (cc e)
last_step false t m o s e i = i e

-- the sign of an entry that was not there, and is now the last
pub last-sign : (es : List Entry) (a : Addr) (n : ℕ) (mark : Mark) → IsAddr a → holds_prefix es a n ≡ false
    → entry_sign (es ++ (network_of a n, mark) ∷ []) a n ≡ Some mark.negated
last-sign [] a n mark h e =
    let own : is_prefix_of a n (network_of a n) ≡ true = ap (λ b. b && covers (network_of a n) a) (eq-eqb n n refl) ∙ network_covers a n h in
    ap (λ b. option_map (λ (k : Mark). k.negated) (cond b (Some mark) None)) own
last-sign (z ∷ es) a n mark h e =
    last_step (is_prefix_of a n z.0) (holds_prefix es a n) z.1 (mark_at (es ++ (network_of a n, mark) ∷ []) a n) mark.negated e (last-sign es a n mark h)

-- ---- what is asked of a prefix

pub told-sign : (es : List Entry) (a : Addr) (x : List ℕ) (n first : ℕ) (o : Option Bool) → a ≡ V4 x → n ≤ 32 → first ≡ first_bits n (V4 x)
    → IfSome o (λ s. IsTrueWord es (sign_word first n s)) → IfSome o (λ s. entry_sign es a n ≡ Some s)
told-sign es a x n first None is h f t = tt
told-sign es a x n first (Some s) is h f t =
    subst (λ b. entry_sign es b n ≡ Some s) (sym is) (true-sign es x n s h (subst (λ k. IsTrueWord es (sign_word k n s)) f t))

pub entry-word : (es : List Entry) (a : Addr) (x : List ℕ) (n first : ℕ) (s : Bool) → a ≡ V4 x → n ≤ 32 → first ≡ first_bits n (V4 x)
    → entry_sign es a n ≡ Some s → IsTrueWord es (sign_word first n s)
entry-word es a x n first s is h f e =
    subst (λ k. IsTrueWord es (sign_word k n s)) (sym f) (entry-true es x n s h (subst (λ b. entry_sign es b n ≡ Some s) is e))
