-- The digits of a group one by one, and groups with colons between them.
use Rattle.std.proofs.Common.{ℕ, zero, suc, List, [], ◌∷◌, ◌++◌, ◌≡◌, ◌≤◌, ◌<◌, ◌+◌, ◌/◌, ◌%◌, length, length-append, length-drop, flat_map, get_or, take, drop, subst, refl, ap, ◌∙◌, sym, arith, append_assoc, le-leb, nat_lt, true, false}
use Rattle.std.proofs.lemmas.Bool.{cond-true, cond-false, lt-leb}
use Rattle.std.proofs.lemmas.List.{take_all}
use Rattle.std.specs.Char.{digit_char}
use Rattle.std.specs.Net.Text.{groups_text, hex, hex_groups_text, longest_zero_run}
use Rattle.pfs_addr.specs.Groups.{around}

pub hex_1 : (n : ℕ) → n < 16 → hex n ≡ digit_char (n % 16) ∷ []
unfolding hex
hex_1 n low = rw (lt-leb 0x1000 n (omega arith), lt-leb 0x100 n (omega arith), lt-leb 0x10 n low) refl

pub hex_2 : (n : ℕ) → 16 ≤ n → n < 256 → hex n ≡ digit_char (n / 16 % 16) ∷ digit_char (n % 16) ∷ []
unfolding hex
hex_2 n some low = rw (lt-leb 0x1000 n (omega arith), lt-leb 0x100 n low, le-leb 0x10 n some) refl

pub hex_3 : (n : ℕ) → 256 ≤ n → n < 4096 → hex n ≡ digit_char (n / 256 % 16) ∷ digit_char (n / 16 % 16) ∷ digit_char (n % 16) ∷ []
unfolding hex
hex_3 n some low = rw (lt-leb 0x1000 n low, le-leb 0x100 n some) refl

pub hex_4 : (n : ℕ) → 4096 ≤ n → hex n ≡ digit_char (n / 4096) ∷ digit_char (n / 256 % 16) ∷ digit_char (n / 16 % 16) ∷ digit_char (n % 16) ∷ []
unfolding hex
hex_4 n some = rw (le-leb 0x1000 n some) refl

pub len_1 : (n : ℕ) → n < 16 → 1 ≡ length (hex n)
len_1 n h = sym (ap length (hex_1 n h))

pub len_2 : (n : ℕ) → 16 ≤ n → n < 256 → 2 ≡ length (hex n)
len_2 n h k = sym (ap length (hex_2 n h k))

pub len_3 : (n : ℕ) → 256 ≤ n → n < 4096 → 3 ≡ length (hex n)
len_3 n h k = sym (ap length (hex_3 n h k))

pub len_4 : (n : ℕ) → 4096 ≤ n → 4 ≡ length (hex n)
len_4 n h = sym (ap length (hex_4 n h))

-- digits pushed in turn, as numbers that are the digits of the text
pub put_1 : (x a : ℕ) (o p text : List ℕ) → x ≡ a → p ≡ o ++ x ∷ [] → text ≡ a ∷ [] → p ≡ o ++ text
put_1 x a o p text hx hp ht = hp ∙ ap (λ (t : List ℕ). o ++ t) (ap (λ (n : ℕ). n ∷ []) hx ∙ sym ht)

pub put_2 : (x y a b : ℕ) (o p q text : List ℕ) → x ≡ a → y ≡ b → p ≡ o ++ x ∷ [] → q ≡ p ++ y ∷ [] → text ≡ a ∷ b ∷ [] → q ≡ o ++ text
put_2 x y a b o p q text hx hy hp hq ht =
    hq
    ∙ (ap (λ (t : List ℕ). t ++ y ∷ []) (put_1 x a o p (a ∷ []) hx hp refl)
    ∙ (append_assoc o (a ∷ []) (y ∷ []) ∙ ap (λ (t : List ℕ). o ++ t) (ap (λ (n : ℕ). a ∷ n ∷ []) hy ∙ sym ht)))

pub put_3 : (x y z a b c : ℕ) (o p q r text : List ℕ) → x ≡ a → y ≡ b → z ≡ c → p ≡ o ++ x ∷ [] → q ≡ p ++ y ∷ [] → r ≡ q ++ z ∷ [] → text ≡ a ∷ b ∷ c ∷ [] → r ≡ o ++ text
put_3 x y z a b c o p q r text hx hy hz hp hq hr ht =
    hr
    ∙ (ap (λ (t : List ℕ). t ++ z ∷ []) (put_2 x y a b o p q (a ∷ b ∷ []) hx hy hp hq refl)
    ∙ (append_assoc o (a ∷ b ∷ []) (z ∷ []) ∙ ap (λ (t : List ℕ). o ++ t) (ap (λ (n : ℕ). a ∷ b ∷ n ∷ []) hz ∙ sym ht)))

pub put_4 : (x y z w a b c d : ℕ) (o p q r s text : List ℕ) → x ≡ a → y ≡ b → z ≡ c → w ≡ d → p ≡ o ++ x ∷ [] → q ≡ p ++ y ∷ [] → r ≡ q ++ z ∷ [] → s ≡ r ++ w ∷ []
    → text ≡ a ∷ b ∷ c ∷ d ∷ [] → s ≡ o ++ text
put_4 x y z w a b c d o p q r s text hx hy hz hw hp hq hr hs ht =
    hs
    ∙ (ap (λ (t : List ℕ). t ++ w ∷ []) (put_3 x y z a b c o p q r (a ∷ b ∷ c ∷ []) hx hy hz hp hq hr refl)
    ∙ (append_assoc o (a ∷ b ∷ c ∷ []) (w ∷ []) ∙ ap (λ (t : List ℕ). o ++ t) (ap (λ (n : ℕ). a ∷ b ∷ c ∷ n ∷ []) hw ∙ sym ht)))

-- ---- groups

-- where a group is left, a colon is
pub more_room : (i : ℕ) (xs : List ℕ) → i < length xs → 0 < length (flat_map (λ g. 58 ∷ hex g) (drop i xs))
more_room i [] h = absurd (omega arith)
more_room zero (x ∷ xs) h = omega arith
more_room (suc i) (x ∷ xs) h = more_room i xs (omega arith)

-- groups are the first and those after it
pub groups_at : (xs : List ℕ) → 1 ≤ length xs → groups_text xs ≡ hex (get_or xs 0 0) ++ flat_map (λ g. 58 ∷ hex g) (drop 1 xs)
groups_at [] h = absurd (omega arith)
groups_at (x ∷ xs) h = refl

-- what is left of a list, taken to its end
pub all_left : (m n : ℕ) (xs : List ℕ) → length xs ≤ m + n → take m (drop n xs) ≡ drop n xs
all_left m n xs h = take_all m (drop n xs) (omega (arith, h, length-drop n xs))

-- ---- the run that is left out

pub short_all : (xs : List ℕ) (run : ℕ × ℕ) → run ≡ longest_zero_run xs → nat_lt 1 run.1 ≡ false → hex_groups_text xs ≡ groups_text xs
unfolding hex_groups_text
short_all xs run e few = cond-false _ _ _ (subst (λ (r : ℕ × ℕ). nat_lt 1 r.1 ≡ false) e few)

pub short_around : (xs : List ℕ) (run : ℕ × ℕ) → run ≡ longest_zero_run xs → nat_lt 1 run.1 ≡ true
    → (tail : List ℕ) → tail ≡ drop (run.0 + run.1) xs → hex_groups_text xs ≡ around (take run.0 xs) tail
unfolding hex_groups_text
short_around xs run e many tail behind =
    cond-true _ _ _ (subst (λ (r : ℕ × ℕ). nat_lt 1 r.1 ≡ true) e many)
    ∙ (ap (λ (r : ℕ × ℕ). around (take r.0 xs) (drop (r.0 + r.1) xs)) (sym e) ∙ ap (around (take run.0 xs)) (sym behind))

-- the first group put, and then those after it
pub groups_put : (o p q xs rest : List ℕ) → 1 ≤ length xs → rest ≡ drop 1 xs → p ≡ o ++ hex (get_or xs 0 0) → q ≡ p ++ flat_map (λ g. 58 ∷ hex g) rest → q ≡ o ++ groups_text xs
groups_put o p q xs rest some behind hp hq =
    hq
    ∙ (ap (λ (t : List ℕ). t ++ flat_map (λ g. 58 ∷ hex g) rest) hp
    ∙ (append_assoc o (hex (get_or xs 0 0)) (flat_map (λ g. 58 ∷ hex g) rest)
    ∙ (ap (λ (t : List ℕ). o ++ (hex (get_or xs 0 0) ++ flat_map (λ g. 58 ∷ hex g) t)) behind ∙ ap (λ (t : List ℕ). o ++ t) (sym (groups_at xs some)))))

pub groups_length : (xs rest : List ℕ) → 1 ≤ length xs → rest ≡ drop 1 xs → length (groups_text xs) ≡ length (hex (get_or xs 0 0)) + length (flat_map (λ g. 58 ∷ hex g) rest)
groups_length xs rest some behind =
    ap (λ (t : List ℕ). length t) (groups_at xs some)
    ∙ (length-append (hex (get_or xs 0 0)) (flat_map (λ g. 58 ∷ hex g) (drop 1 xs)) ∙ ap (λ (t : List ℕ). length (hex (get_or xs 0 0)) + length (flat_map (λ g. 58 ∷ hex g) t)) (sym behind))
