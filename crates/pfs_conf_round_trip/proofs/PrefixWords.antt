-- Prefixes as words: the bytes and the keys of the texts of addresses, and that the text of a prefix is read as that prefix.
use Rattle.std.proofs.Common.{◌≡◌, ◌≤◌, ◌<◌, ◌^◌, ℕ, Bool, true, false, All, List, [], ◌∷◌, ◌++◌, ◌+◌, ◌*◌, zero, suc, get_or, Some, inl, inr, refl, sym, ap, ◌∙◌, arith, append-nil, append_assoc}
use Rattle.std.specs.Prelude.{◌⊎◌, codes, decimal, ◌==◌, ◌||◌, not, if◌then◌else◌}
use Rattle.std.specs.List.{list_all, list_any}
use Rattle.std.specs.Str.{bytes_eq}
use Rattle.std.specs.Net.Addr.{segments_of}
use Rattle.std.specs.Net.Text.{hex_groups_text}
use Rattle.std.proofs.NetLemmas.Alphabet.{IsHexOrColon, All-hex_groups_text}
use Rattle.std.proofs.NetLemmas.Texts.{AllSegments}
use Rattle.std.proofs.lemmas.Bool.{and_from, and_left, and_parts, and_right, eqb-true, or_parts}
use Rattle.std.proofs.lemmas.Bool.Decides.{nat_tests}
use Rattle.std.proofs.lemmas.List.Elements.{All-get_or, All-head, All-tail}
use Rattle.pfs_conf_tokens.specs.declared.keys.Key.{Key}
use Rattle.pfs_conf_tokens.specs.Lexis.{is_word_byte}
use Rattle.pfs_conf_tokens.specs.Words.{key_of_text, statement_words, option_words, named_words, foreign_words}
use Rattle.pfs_conf_tokens.proofs.ShownLaws.{decimal_text, is_word_text, key_of_decimal}
use Rattle.pfs_addr_values.specs.Addresses.{IsAddr, addr_text, width_of}
use Rattle.pfs_addr_values.specs.Prefixes.{IsNetwork, Network}
use Rattle.pfs_addr.specs.Texts.{addr_of, prefix_of}
use Rattle.pfs_addr_values.specs.declared.addresses.Addr.{Addr}
use Rattle.pfs_addr_values.specs.declared.addresses.Addr.TheVariants.{V4, V6}
use Rattle.pfs_addr.proofs.GroupLaws.{colon_hex_colon}
use Rattle.pfs_addr.proofs.PieceLaws.{addr_of_text, addr_text_of, prefix_of_text}
use Rattle.pfs_conf_filters.specs.Values.{is_plain_word}
use Rattle.pfs_conf_show.specs.Pieces.{bits_text, prefix_text}
use Rattle.pfs_conf_round_trip.proofs.Names.{key_passes, passes}
use Rattle.pfs_conf_round_trip.proofs.Pieces.{all_append, decimal_all, text_append}

-- ---- words with a colon are none of the grammar's own

-- whether a colon is among the bytes
abbrev has_colon : List ℕ → Bool
has_colon w = list_any (λ b. b == 58) w

apart : (v w : List ℕ) → has_colon v ≡ true → has_colon w ≡ false → bytes_eq v w ≡ false
apart [] w h g = absurd (cc h)
apart (b ∷ v) [] h g = refl
apart (b ∷ v) (c ∷ w) h g =
    let q = or_parts (c == 58) (has_colon w) g in
    go (b == 58) refl (λ e. apart v w e q.1) q.0 h
  where
    go : (x : Bool) → (b == 58) ≡ x → (has_colon v ≡ true → bytes_eq v w ≡ false) → (c == 58) ≡ false → (x || has_colon v) ≡ true → bytes_eq (b ∷ v) (c ∷ w) ≡ false
    go true e rest other f = let differ : (b == c) ≡ false = grind (arith, nat_tests) in and_left (b == c) (bytes_eq v w) differ
    go false e rest other f = and_right (b == c) (bytes_eq v w) (rest f)

-- the words of a table that have no colon
colonless : (w : List ℕ) (entries : List (List ℕ × Key)) → has_colon w ≡ true → list_all (λ (entry : List ℕ × Key). not (has_colon entry.0)) entries ≡ true
    → list_all (passes is_plain_word w) entries ≡ true
colonless w [] h g = refl
colonless w (entry ∷ entries) h g =
    let p = and_parts (not (has_colon entry.0)) (list_all (λ (e : List ℕ × Key). not (has_colon e.0)) entries) g in
    and_from (passes is_plain_word w entry) (list_all (passes is_plain_word w) entries) (one p.0) (colonless w entries h p.1)
  where
    is_false : (x : Bool) → not x ≡ true → x ≡ false
    is_false true e = absurd (cc e)
    is_false false e = refl

    one : not (has_colon entry.0) ≡ true → (not (bytes_eq w entry.0) || is_plain_word entry.1) ≡ true
    one e = ap (λ (b : Bool). not b || is_plain_word entry.1) (apart w entry.0 h (is_false (has_colon entry.0) e))

colon_plain : (w : List ℕ) → has_colon w ≡ true → is_plain_word (key_of_text w) ≡ true
colon_plain w h =
    key_passes is_plain_word w refl refl (colonless w statement_words h refl) (colonless w option_words h refl)
    (colonless w named_words h refl) (colonless w foreign_words h refl)

colon_in_front : (v w : List ℕ) → has_colon v ≡ true → has_colon (v ++ w) ≡ true
colon_in_front [] w h = absurd (cc h)
colon_in_front (b ∷ v) w h = go (b == 58) (colon_in_front v w) h
  where
    go : (x : Bool) → (has_colon v ≡ true → has_colon (v ++ w) ≡ true) → (x || has_colon v) ≡ true → (x || has_colon (v ++ w)) ≡ true
    go true rest e = refl
    go false rest e = rest e

-- ---- the texts of addresses

-- the text of an address: a word, and with any bytes after it none of the grammar's own
record IsAddrWord (w : List ℕ) : Type 0 where
  text : is_word_text w ≡ true
  plain : (behind : List ℕ) → is_plain_word (key_of_text (w ++ behind)) ≡ true

dot_all : (w : List ℕ) → list_all is_word_byte w ≡ true → list_all is_word_byte (46 ∷ w) ≡ true
dot_all w h = h

-- a number in front
numbered : (n : ℕ) (v : List ℕ) → n < 2 ^ 64 → list_all is_word_byte v ≡ true → IsAddrWord (decimal n ++ v)
numbered n v h g = record {
  text = text_append (decimal n) v (decimal_text n h) g;
  plain = λ w. ap is_plain_word (ap key_of_text (append_assoc (decimal n) v w) ∙ key_of_decimal n (v ++ w) h);
}

-- hexadecimal digits and colons are bytes of words
hex_word : (w : List ℕ) → All IsHexOrColon w → list_all is_word_byte w ≡ true
hex_word [] h = refl
hex_word (b ∷ w) h =
    let hex : IsHexOrColon b = All-head IsHexOrColon b w h in
    let one : is_word_byte b ≡ true = elim hex [ inl r ↦ grind (arith, nat_tests, r) | inr r ↦ grind (arith, nat_tests, r) ] in
    and_from (is_word_byte b) (list_all is_word_byte w) one (hex_word w (All-tail IsHexOrColon b w h))

some_text : (w : List ℕ) → has_colon w ≡ true → list_all is_word_byte w ≡ true → is_word_text w ≡ true
some_text [] h g = absurd (cc h)
some_text (b ∷ w) h g = g

-- groups of two bytes are of sixteen bits
groups_small : (bytes : List ℕ) → All (λ b. b < 256) bytes → AllSegments (segments_of bytes)
groups_small [] h k = omega arith
groups_small (a ∷ []) h k = omega arith
groups_small (a ∷ b ∷ bytes) h k =
    let first : a < 256 = All-head (λ x. x < 256) a (b ∷ bytes) h in
    let second : b < 256 = All-head (λ x. x < 256) b bytes (All-tail (λ x. x < 256) a (b ∷ bytes) h) in
    let later = groups_small bytes (All-tail (λ x. x < 256) b bytes (All-tail (λ x. x < 256) a (b ∷ bytes) h)) in
    elim k as (λ j. get_or ((a * 256 + b) ∷ segments_of bytes) j 0 < 2 ^ 16) [ zero ↦ omega arith | suc j ↦ later j ]

addr_word : (a : Addr) → IsAddr a → IsAddrWord (addr_text a)
addr_word (V4 (a ∷ b ∷ c ∷ d ∷ [])) h =
    let at : (i : ℕ) → i < 4 → get_or (a ∷ b ∷ c ∷ d ∷ []) i 0 < 256 = λ i lt. All-get_or (λ x. x < 256) (a ∷ b ∷ c ∷ d ∷ []) i 0 lt h.1 in
    let wide : (n : ℕ) → n < 256 → n < 2 ^ 64 = λ n lt. omega arith in
    numbered a (46 ∷ (decimal b ++ 46 ∷ (decimal c ++ 46 ∷ decimal d))) (wide a (at 0 (omega arith)))
    (all_append is_word_byte (decimal b) (46 ∷ (decimal c ++ 46 ∷ decimal d)) (decimal_all b (wide b (at 1 (omega arith))))
    (dot_all (decimal c ++ 46 ∷ decimal d) (all_append is_word_byte (decimal c) (46 ∷ decimal d) (decimal_all c (wide c (at 2 (omega arith))))
    (dot_all (decimal d) (decimal_all d (wide d (at 3 (omega arith))))))))
addr_word (V4 _) h = absurd (omega arith)
addr_word (V6 bytes) h =
    let w = hex_groups_text (segments_of bytes) in
    let colon : has_colon w ≡ true = colon_hex_colon w (segments_of bytes) (addr_text_of (V6 bytes) h).0 in
    record {
      text = some_text w colon (hex_word w (All-hex_groups_text (segments_of bytes) (groups_small bytes h.1)));
      plain = λ behind. colon_plain (w ++ behind) (colon_in_front w behind colon);
    }

-- it is read as that address
pub address_word : (a : Addr) → IsAddr a → is_word_text (addr_text a) ≡ true
address_word a h = (addr_word a h).text

pub address_plain : (a : Addr) → IsAddr a → is_plain_word (key_of_text (addr_text a)) ≡ true
address_plain a h = ap (λ (w : List ℕ). is_plain_word (key_of_text w)) (sym (append-nil (addr_text a))) ∙ (addr_word a h).plain []

pub address_again : (a : Addr) → IsAddr a → addr_of (addr_text a) ≡ Some a
address_again a h = addr_of_text (addr_text a) a h (addr_text_of a h)

-- ---- the texts of prefixes

bits_all : (p : Network) → p.bits < 2 ^ 64 → list_all is_word_byte (bits_text p) ≡ true
bits_all p h = go (p.bits == width_of p.addr)
  where
    go : (b : Bool) → list_all is_word_byte (if b then [] else codes "/" ++ decimal p.bits) ≡ true
    go true = refl
    go false = decimal_all p.bits h

bits_small : (a : Addr) (n : ℕ) → n ≤ width_of a → n < 2 ^ 64
bits_small (V4 bytes) n h = omega arith
bits_small (V6 bytes) n h = omega arith

pub prefix_word : (p : Network) → IsNetwork p → is_word_text (prefix_text p) ≡ true
prefix_word p h = text_append (addr_text p.addr) (bits_text p) (addr_word p.addr h.addr).text (bits_all p (bits_small p.addr p.bits h.short))

-- and they are none of the grammar's own words
pub prefix_plain : (p : Network) → IsNetwork p → is_plain_word (key_of_text (prefix_text p)) ≡ true
prefix_plain p h = (addr_word p.addr h.addr).plain (bits_text p)

-- the text of a prefix is read as that prefix
pub prefix_again : (p : Network) → IsNetwork p → prefix_of (prefix_text p) ≡ Some p
prefix_again p h = prefix_of_text (prefix_text p) p (record {
  addr = p.addr;
  is_addr = h.addr;
  short = h.short;
  of = sym (ap (λ (a : Addr). network_at a p.bits) h.zeros);
  before = addr_text p.addr;
  address = addr_text_of p.addr h.addr;
  spelled = go (p.bits == width_of p.addr) refl;
})
  where
    network_at : Addr → ℕ → Network
    network_at a n = record { addr = a; bits = n }

    go : (b : Bool) → (p.bits == width_of p.addr) ≡ b → ((prefix_text p ≡ addr_text p.addr) × (p.bits ≡ width_of p.addr)) ⊎ (prefix_text p ≡ addr_text p.addr ++ 47 ∷ decimal p.bits)
    go true e = inl (ap (λ (z : Bool). addr_text p.addr ++ (if z then [] else codes "/" ++ decimal p.bits)) e ∙ append-nil (addr_text p.addr), eqb-true p.bits (width_of p.addr) e)
    go false e = inr (ap (λ (z : Bool). addr_text p.addr ++ (if z then [] else codes "/" ++ decimal p.bits)) e)
