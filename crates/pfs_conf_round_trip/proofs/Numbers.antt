-- Words that begin with a number, as prefixes, ports, rates and protocols are: their bytes and keys, and what they are read as.
use Rattle.std.proofs.Common.{◌≡◌, ◌<◌, ◌^◌, ◌+◌, ℕ, Bool, true, false, List, [], ◌∷◌, ◌++◌, length, Option, Some, None, refl, sym, ap, ◌∙◌, arith, append-nil}
use Rattle.std.specs.Prelude.{codes, decimal, ◌==◌, not, nat_lt, nat_le, if◌then◌else◌}
use Rattle.std.specs.List.{list_all, prefix_len}
use Rattle.std.proofs.lemmas.Bool.{and_parts, cond-true, cond-false, eqb-true, le-leb, lt-ltb, le-ltb}
use Rattle.pfs_conf_tokens.specs.declared.keys.Key.TheVariants as key
use Rattle.pfs_conf_tokens.specs.Lexis.{is_word_byte}
use Rattle.pfs_conf_tokens.specs.Numbers.{parts_around, split_around}
use Rattle.pfs_conf_tokens.specs.Words.{key_of_text}
use Rattle.pfs_conf_tokens.proofs.ShownLaws.{decimal_text, is_word_text, key_of_decimal, number_of-decimal, split_around_append}
use Rattle.pfs_addr.proofs.NumberLaws.{decimal_digits}
use Rattle.pfs_conf_values.specs.LoadRules.{ArePorts}
use Rattle.pfs_conf_values.specs.declared.filters.Ports.{Ports}
use Rattle.pfs_conf_filters.specs.Values.{one_port, port_by, port_of, port_numbered, port_range, ports_around, ports_of}
use Rattle.pfs_conf_show.specs.Filters.{range_text}
use Rattle.pfs_addr.proofs.ProtocolLaws.{digits_avoid}
use Rattle.pfs_conf_round_trip.proofs.Pieces.{decimal_all, text_append}

-- ---- digits and other bytes

prefix_whole : (p : ℕ → Bool) (w : List ℕ) → list_all p w ≡ true → prefix_len p w ≡ length w
prefix_whole p [] h = refl
prefix_whole p (b ∷ w) h =
    let q = and_parts (p b) (list_all p w) h in
    let rest = prefix_whole p w q.1 in
    cond-true (p b) (1 + prefix_len p w) 0 q.0 ∙ omega (arith, rest)

-- a word is not split at a byte that it does not have
pub split_around_none : (byte : ℕ) (w : List ℕ) → list_all (λ b. not (b == byte)) w ≡ true → split_around byte w ≡ None
unfolding split_around
split_around_none byte w h =
    let whole : prefix_len (λ b. not (b == byte)) w ≡ length w = prefix_whole (λ b. not (b == byte)) w h in
    ap (parts_around w) (cond-false (nat_lt (prefix_len (λ b. not (b == byte)) w) (length w)) _ _ (le-ltb (prefix_len (λ b. not (b == byte)) w) (length w) (omega (arith, whole))))

pub key_of_number : (n : ℕ) → n < 2 ^ 64 → key_of_text (decimal n) ≡ key.Number
key_of_number n h = ap key_of_text (sym (append-nil (decimal n))) ∙ key_of_decimal n [] h

-- ---- ports

range_all : (p : Ports) → p.high < 2 ^ 64 → list_all is_word_byte (range_text p) ≡ true
range_all p h = go (p.low == p.high)
  where
    go : (b : Bool) → list_all is_word_byte (if b then [] else codes ":" ++ decimal p.high) ≡ true
    go true = refl
    go false = decimal_all p.high h

pub ports_word : (p : Ports) → ArePorts p → is_word_text (decimal p.low ++ range_text p) ≡ true
ports_word p h = text_append (decimal p.low) (range_text p) (decimal_text p.low (omega (arith, h.0, h.1))) (range_all p (omega (arith, h.1)))

pub port_again : (n : ℕ) → n < 65536 → port_of (decimal n) ≡ Some n
unfolding port_of
port_again n h =
    ap (port_by (decimal n)) (key_of_number n (omega arith))
    ∙ (ap port_numbered (number_of-decimal n (omega arith)) ∙ cond-true (nat_lt n 65536) (Some n) None (lt-ltb n 65536 h))

-- the text of ports is read as those ports
pub ports_again : (p : Ports) → ArePorts p → ports_of (decimal p.low ++ range_text p) ≡ Some p
unfolding ports_of
ports_again p h = go (p.low == p.high) refl
  where
    low : p.low < 65536
    low = omega (arith, h.0, h.1)

    avoids : list_all (λ b. not (b == 58)) (decimal p.low) ≡ true
    avoids = digits_avoid 58 (decimal p.low) (omega arith) (decimal_digits p.low (omega (arith, low)))

    same : p.low ≡ p.high → ◌≡◌ {A = Ports} (record { low = p.low; high = p.low }) p
    same e = ap (λ (n : ℕ). record { low = p.low; high = n }) e

    one : p.low ≡ p.high → ports_around (decimal p.low) (split_around 58 (decimal p.low)) ≡ Some p
    one e =
        ap (ports_around (decimal p.low)) (split_around_none 58 (decimal p.low) avoids)
        ∙ (ap one_port (port_again p.low low) ∙ ap (λ (x : Ports). Some x) (same e))

    two : ports_around (decimal p.low ++ 58 ∷ decimal p.high) (split_around 58 (decimal p.low ++ 58 ∷ decimal p.high)) ≡ Some p
    two =
        ap (ports_around (decimal p.low ++ 58 ∷ decimal p.high)) (split_around_append 58 (decimal p.low) (decimal p.high) avoids)
        ∙ (ap (λ (o : Option ℕ). port_range o (port_of (decimal p.high))) (port_again p.low low)
        ∙ (ap (port_range (Some p.low)) (port_again p.high h.1)
        ∙ cond-true (nat_le p.low p.high) _ None (le-leb p.low p.high h.0)))

    go : (b : Bool) → (p.low == p.high) ≡ b
        → ports_around (decimal p.low ++ (if b then [] else codes ":" ++ decimal p.high)) (split_around 58 (decimal p.low ++ (if b then [] else codes ":" ++ decimal p.high))) ≡ Some p
    go true e = ap (λ (z : List ℕ). ports_around z (split_around 58 z)) (append-nil (decimal p.low)) ∙ one (eqb-true p.low p.high e)
    go false e = two
