-- The names and numbers of protocols are read as those protocols.
use Rattle.std.proofs.Common.{◌≡◌, ◌≢◌, ◌<◌, ◌^◌, ℕ, Bool, true, false, List, [], ◌∷◌, Some, None, refl, ap, ◌∙◌, arith}
use Rattle.std.specs.Prelude.{codes, decimal, ◌==◌, not, nat_lt}
use Rattle.std.specs.List.{list_all}
use Rattle.std.specs.Str.{bytes_eq}
use Rattle.std.proofs.lemmas.Bool.{and_from, and_parts, cond-true, cond-false, ne_eqb, and_left, lt-ltb}
use Rattle.std.proofs.lemmas.Bool.Decides.{nat_tests}
use Rattle.pfs_addr_values.specs.Numbers.{is_digit}
use Rattle.pfs_addr_values.specs.Protocols.{proto_in, proto_numbered, proto_of}
use Rattle.pfs_addr_values.specs.declared.protocols.Proto.{Proto}
use Rattle.pfs_addr_values.specs.declared.protocols.Proto.TheVariants as proto
use Rattle.pfs_addr.proofs.NumberLaws.{decimal_digits, number_of-decimal}

-- digits are no bytes past them
pub digits_avoid : (c : ℕ) (ds : List ℕ) → 57 < c → list_all is_digit ds ≡ true → list_all (λ b. not (b == c)) ds ≡ true
digits_avoid c [] lt h = refl
digits_avoid c (d ∷ ds) lt h =
    let p = and_parts (is_digit d) (list_all is_digit ds) h in
    let one : not (d == c) ≡ true = grind (arith, nat_tests) in
    and_from (not (d == c)) (list_all (λ b. not (b == c)) ds) one (digits_avoid c ds lt p.1)

-- bytes that do not include one are no word that begins with it
pub no_word : (c : ℕ) (v w : List ℕ) → list_all (λ b. not (b == c)) w ≡ true → bytes_eq w (c ∷ v) ≡ false
no_word c v [] h = refl
no_word c v (b ∷ w) h =
    let p = and_parts (not (b == c)) (list_all (λ x. not (x == c)) w) h in
    and_left (b == c) (bytes_eq w v) (is_false (b == c) p.0)
  where
    is_false : (x : Bool) → not x ≡ true → x ≡ false
    is_false true e = absurd (cc e)
    is_false false e = refl

pub decimal_no_word : (c : ℕ) (v : List ℕ) (n : ℕ) → 57 < c → n < 2 ^ 64 → bytes_eq (decimal n) (c ∷ v) ≡ false
decimal_no_word c v n lt h = no_word c v (decimal n) (digits_avoid c (decimal n) lt (decimal_digits n h))

number_proto : (n : ℕ) → n ≢ 6 → n ≢ 17 → proto_of n ≡ proto.Other n
number_proto n six seventeen = cond-false (n == 6) _ _ (ne_eqb n 6 six) ∙ cond-false (n == 17) _ _ (ne_eqb n 17 seventeen)

-- the number of a protocol is read as that protocol
pub proto_again : (n : ℕ) → n < 256 → n ≢ 6 → n ≢ 17 → proto_in (decimal n) ≡ Some (proto.Other n)
unfolding proto_in
proto_again n h six seventeen =
    let wide : n < 2 ^ 64 = omega arith in
    let no : (c : ℕ) (v : List ℕ) → 57 < c → bytes_eq (decimal n) (c ∷ v) ≡ false = λ c v lt. decimal_no_word c v n lt wide in
    cond-false (bytes_eq (decimal n) (codes "tcp")) _ _ (no 116 (codes "cp") (omega arith))
    ∙ (cond-false (bytes_eq (decimal n) (codes "udp")) _ _ (no 117 (codes "dp") (omega arith))
    ∙ (cond-false (bytes_eq (decimal n) (codes "icmp")) _ _ (no 105 (codes "cmp") (omega arith))
    ∙ (cond-false (bytes_eq (decimal n) (codes "icmp6")) _ _ (no 105 (codes "cmp6") (omega arith))
    ∙ (cond-false (bytes_eq (decimal n) (codes "esp")) _ _ (no 101 (codes "sp") (omega arith))
    ∙ (cond-false (bytes_eq (decimal n) (codes "ah")) _ _ (no 97 (codes "h") (omega arith))
    ∙ (cond-false (bytes_eq (decimal n) (codes "gre")) _ _ (no 103 (codes "re") (omega arith))
    ∙ (ap proto_numbered (number_of-decimal n (omega arith))
    ∙ (cond-true (nat_lt n 256) (Some (proto_of n)) None (lt-ltb n 256 h)
    ∙ ap (λ (x : Proto). Some x) (number_proto n six seventeen)))))))))

pub proto_known : (proto_in (codes "tcp") ≡ Some proto.Tcp) × (proto_in (codes "udp") ≡ Some proto.Udp)
unfolding proto_in
proto_known = (refl, refl)
