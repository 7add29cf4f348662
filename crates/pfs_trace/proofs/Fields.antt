-- The text of a row is read as its nine columns: no column holds a byte that means something to a reader of rows.
use Rattle.std.proofs.Common.{◌≡◌, ◌≤◌, ◌<◌, ◌^◌, ℕ, Bool, true, false, All, List, [], ◌∷◌, ◌++◌, get_or, Some, inl, inr, refl, sym, ap, ◌∙◌, arith, append-nil, append_assoc}
use Rattle.std.specs.Prelude.{codes, decimal, not, ◌==◌, ◌||◌}
use Rattle.std.specs.List.{list_all, list_any}
use Rattle.std.specs.Net.Addr.{segments_of}
use Rattle.std.proofs.NetLemmas.Alphabet.{IsHexOrColon, All-hex_groups_text}
use Rattle.std.proofs.lemmas.Bool.{and_from, and_parts}
use Rattle.std.proofs.lemmas.Bool.Decides.{nat_tests}
use Rattle.std.proofs.lemmas.List.Elements.{All-get_or, All-head, All-tail}
use Rattle.std.proofs.lemmas.List.Folds.{list_all-append}
use Rattle.csv.specs.Machine.{next_record}
use Rattle.csv.specs.Reading.{default_config}
use Rattle.csv.specs.Writing.{default_writer, field_text, fields_text, is_blank, needs_byte, row_text}
use Rattle.csv.specs.declared.parser.State.TheVariants as st
use Rattle.csv.proofs.RoundTrip.{read-write-many}
use Rattle.pfs_addr_values.specs.Addresses.{IsAddr, addr_text}
use Rattle.pfs_addr_values.specs.FlagSets.{letters_text}
use Rattle.pfs_addr_values.specs.Names.{is_name, is_name_byte}
use Rattle.pfs_addr_values.specs.Numbers.{is_digit}
use Rattle.pfs_addr_values.specs.declared.addresses.Addr.{Addr}
use Rattle.pfs_addr_values.specs.declared.addresses.Addr.TheVariants.{V4, V6}
use Rattle.pfs_addr_values.specs.declared.packets.Dir.{Dir}
use Rattle.pfs_addr_values.specs.declared.flag_sets.Flags.{Flags}
use Rattle.pfs_addr_values.specs.declared.packets.Dir.TheVariants.{In, Out}
use Rattle.pfs_addr_values.specs.declared.protocols.Proto.{Proto}
use Rattle.pfs_addr_values.specs.declared.protocols.Proto.TheVariants.{Tcp, Udp, Other}
use Rattle.pfs_addr.proofs.GroupLaws.{segments_small}
use Rattle.pfs_addr.proofs.LetterTexts.{letters_all}
use Rattle.pfs_addr.proofs.NumberLaws.{decimal_digits}
use Rattle.pfs_trace.specs.Columns.{column_names, header_text}
use Rattle.pfs_trace.specs.Rows.{CanSay, IsSaid, dir_name, packet_row, port_text, proto_name, row_dir, row_fields, row_proto}
use Rattle.pfs_trace.specs.declared.rows.Row.{Row}

-- a byte that means nothing to a reader of rows: no comma, no quote, no end of a line
abbrev is_plain : ℕ → Bool
is_plain b = not (needs_byte default_writer b)

plain_byte : (b : ℕ) → (b == 44) ≡ false → (b == 34) ≡ false → (b == 13) ≡ false → (b == 10) ≡ false → is_plain b ≡ true
plain_byte b c q r n = rw (c, q, r, n) refl

-- bytes of a kind that are plain
plain_if : (p : ℕ → Bool) (xs : List ℕ) → ((b : ℕ) → p b ≡ true → is_plain b ≡ true) → list_all p xs ≡ true → list_all is_plain xs ≡ true
plain_if p [] f h = refl
plain_if p (b ∷ xs) f h =
    let q = and_parts (p b) (list_all p xs) h in
    and_from (is_plain b) (list_all is_plain xs) (f b q.0) (plain_if p xs f q.1)

digit_plain : (b : ℕ) → is_digit b ≡ true → is_plain b ≡ true
digit_plain b h = plain_byte b (grind (arith, nat_tests)) (grind (arith, nat_tests)) (grind (arith, nat_tests)) (grind (arith, nat_tests))

name_plain : (b : ℕ) → is_name_byte b ≡ true → is_plain b ≡ true
name_plain b h = plain_byte b (grind (arith, nat_tests)) (grind (arith, nat_tests)) (grind (arith, nat_tests)) (grind (arith, nat_tests))

number_plain : (n : ℕ) → n < 2 ^ 64 → list_all is_plain (decimal n) ≡ true
number_plain n h = plain_if is_digit (decimal n) digit_plain (decimal_digits n h)

-- ---- the texts of addresses

both_plain : (v w : List ℕ) → list_all is_plain v ≡ true → list_all is_plain w ≡ true → list_all is_plain (v ++ w) ≡ true
both_plain v w h g = list_all-append is_plain v w ∙ and_from (list_all is_plain v) (list_all is_plain w) h g

hex_plain : (w : List ℕ) → All IsHexOrColon w → list_all is_plain w ≡ true
hex_plain [] h = refl
hex_plain (b ∷ w) h =
    let hex : IsHexOrColon b = All-head IsHexOrColon b w h in
    let one : is_plain b ≡ true = elim hex [
      | inl r ↦ plain_byte b (grind (arith, nat_tests, r)) (grind (arith, nat_tests, r)) (grind (arith, nat_tests, r)) (grind (arith, nat_tests, r))
      | inr r ↦ plain_byte b (grind (arith, nat_tests, r)) (grind (arith, nat_tests, r)) (grind (arith, nat_tests, r)) (grind (arith, nat_tests, r))
    ] in
    and_from (is_plain b) (list_all is_plain w) one (hex_plain w (All-tail IsHexOrColon b w h))

pub address_plain : (a : Addr) → IsAddr a → list_all is_plain (addr_text a) ≡ true
address_plain (V4 (a ∷ b ∷ c ∷ d ∷ [])) h =
    let at : (i : ℕ) → i < 4 → get_or (a ∷ b ∷ c ∷ d ∷ []) i 0 < 256 = λ i lt. All-get_or (λ x. x < 256) (a ∷ b ∷ c ∷ d ∷ []) i 0 lt h.1 in
    let one : (n : ℕ) → n < 256 → list_all is_plain (decimal n) ≡ true = λ n lt. number_plain n (omega arith) in
    both_plain (decimal a) (46 ∷ (decimal b ++ 46 ∷ (decimal c ++ 46 ∷ decimal d))) (one a (at 0 (omega arith)))
    (both_plain (46 ∷ decimal b) (46 ∷ (decimal c ++ 46 ∷ decimal d)) (one b (at 1 (omega arith)))
    (both_plain (46 ∷ decimal c) (46 ∷ decimal d) (one c (at 2 (omega arith))) (one d (at 3 (omega arith)))))
address_plain (V4 _) h = absurd (omega arith)
address_plain (V6 bytes) h = hex_plain (addr_text (V6 bytes)) (All-hex_groups_text (segments_of bytes) (segments_small bytes h.1))

-- ---- the other columns

dir_plain : (d : Dir) → list_all is_plain (dir_name d) ≡ true
dir_plain In = refl
dir_plain Out = refl

ifname_plain : (name : List ℕ) → is_name 15 name ≡ true → list_all is_plain name ≡ true
ifname_plain name h = plain_if is_name_byte name name_plain (and_parts _ (list_all is_name_byte name) h).1

proto_plain : (p : Proto) (from to : ℕ) (flags : Flags) → CanSay p from to flags → list_all is_plain (proto_name p) ≡ true
proto_plain Tcp from to flags h = refl
proto_plain Udp from to flags h = refl
proto_plain (Other n) from to flags h = let small : n < 256 = h.0 in number_plain n (omega arith)

from_plain : (p : Proto) (from to : ℕ) (flags : Flags) → CanSay p from to flags → list_all is_plain (port_text p from) ≡ true
from_plain Tcp from to flags h = let small = h.0 in number_plain from (omega arith)
from_plain Udp from to flags h = let small = h.0 in number_plain from (omega arith)
from_plain (Other n) from to flags h = refl

to_plain : (p : Proto) (from to : ℕ) (flags : Flags) → CanSay p from to flags → list_all is_plain (port_text p to) ≡ true
to_plain Tcp from to flags h = let small = h.1 in number_plain to (omega arith)
to_plain Udp from to flags h = let small = h.1 in number_plain to (omega arith)
to_plain (Other n) from to flags h = refl

-- ---- columns that are plain are written as they are

abbrev ArePlain : List (List ℕ) → Type 0
ArePlain [] = Unit
ArePlain (x ∷ xs) = (list_all is_plain x ≡ true) × ArePlain xs

none_needs : (xs : List ℕ) → list_all is_plain xs ≡ true → list_any (needs_byte default_writer) xs ≡ false
none_needs [] h = refl
none_needs (b ∷ xs) h =
    let q = and_parts (is_plain b) (list_all is_plain xs) h in
    go (needs_byte default_writer b) q.0 (none_needs xs q.1)
  where
    go : (x : Bool) → not x ≡ true → list_any (needs_byte default_writer) xs ≡ false → (x || list_any (needs_byte default_writer) xs) ≡ false
    go true e k = absurd (cc e)
    go false e k = k

as_it_is : (x : List ℕ) → list_all is_plain x ≡ true → field_text default_writer x ≡ x
as_it_is x h = let none = none_needs x h in rw none refl

-- columns with commas between them, and a line feed
abbrev joined : List ℕ → List (List ℕ) → List ℕ
joined x [] = x ++ (10 ∷ [])
joined x (y ∷ ys) = x ++ (44 ∷ joined y ys)

written : (x : List ℕ) (xs : List (List ℕ)) → list_all is_plain x ≡ true → ArePlain xs → (field_text default_writer x ++ fields_text default_writer xs) ++ (10 ∷ []) ≡ joined x xs
unfolding fields_text
written x [] h k = ap (λ (t : List ℕ). t ++ (10 ∷ [])) (append-nil (field_text default_writer x) ∙ as_it_is x h)
written x (y ∷ ys) h k =
    append_assoc (field_text default_writer x) (44 ∷ (field_text default_writer y ++ fields_text default_writer ys)) (10 ∷ [])
    ∙ (ap (λ (t : List ℕ). t ++ (44 ∷ ((field_text default_writer y ++ fields_text default_writer ys) ++ (10 ∷ [])))) (as_it_is x h)
    ∙ ap (λ (t : List ℕ). x ++ (44 ∷ t)) (written y ys k.0 k.1))

ended : (x y : List ℕ) (ys : List (List ℕ)) → (field_text default_writer x ++ fields_text default_writer (y ∷ ys)) ++ (10 ∷ []) ≡ row_text default_writer (x ∷ y ∷ ys)
unfolding is_blank
ended x y ys = refl

-- they are read as they were written
read_again : (x y : List ℕ) (ys : List (List ℕ)) (rest : List ℕ) → ArePlain (x ∷ y ∷ ys)
    → next_record default_config st.StartRecord [] [] (joined x (y ∷ ys) ++ rest) ≡ Some (x ∷ y ∷ ys, st.StartRecord, rest)
read_again x y ys rest plain =
    ap (λ (t : List ℕ). next_record default_config st.StartRecord [] [] (t ++ rest)) (sym (written x (y ∷ ys) plain.0 plain.1) ∙ ended x y ys) ∙ read-write-many x y ys rest

-- ---- the header

pub header_read : (rest : List ℕ) → next_record default_config st.StartRecord [] [] (header_text ++ rest) ≡ Some (column_names, st.StartRecord, rest)
header_read rest = read_again (codes "time") (codes "dir") (codes "if" ∷ codes "proto" ∷ codes "src" ∷ codes "sport" ∷ codes "dst" ∷ codes "dport" ∷ codes "flags" ∷ []) rest
    (refl, (refl, (refl, (refl, (refl, (refl, (refl, (refl, (refl, tt)))))))))

-- ---- the row

dir_is : (d : Dir) → row_dir d ≡ 44 ∷ (dir_name d ++ (44 ∷ []))
dir_is In = refl
dir_is Out = refl

proto_is : (p : Proto) → row_proto p ≡ 44 ∷ (proto_name p ++ (44 ∷ []))
proto_is Tcp = refl
proto_is Udp = refl
proto_is (Other n) = refl

-- a row is its nine columns with commas between them
row_joined : (second : List ℕ) (dir ifname proto source sport destination dport flags : List ℕ)
    → (second ++ ((44 ∷ (dir ++ (44 ∷ []))) ++ (ifname ++ (44 ∷ (proto ++ (44 ∷ []))))))
    ++ ((source ++ (44 ∷ (sport ++ (44 ∷ [])))) ++ ((destination ++ (44 ∷ (dport ++ (44 ∷ [])))) ++ (flags ++ (10 ∷ []))))
    ≡ joined second (dir ∷ ifname ∷ proto ∷ source ∷ sport ∷ destination ∷ dport ∷ flags ∷ [])
row_joined second dir ifname proto source sport destination dport flags = simp append_assoc

pub row_is : (row : Row) → packet_row row ≡ joined (decimal row.second) (dir_name row.packet.dir ∷ row.packet.ifname ∷ proto_name row.packet.proto
    ∷ addr_text row.packet.source.addr ∷ port_text row.packet.proto row.packet.source.port ∷ addr_text row.packet.destination.addr
    ∷ port_text row.packet.proto row.packet.destination.port ∷ letters_text row.packet.flags ∷ [])
row_is row = rw (dir_is row.packet.dir, proto_is row.packet.proto) (row_joined _ _ _ _ _ _ _ _ _)

pub row_read : (row : Row) → row.second ≤ 4294967295 → is_name 15 row.packet.ifname ≡ true → IsSaid row.packet
    → IsAddr row.packet.source.addr → IsAddr row.packet.destination.addr
    → (rest : List ℕ) → next_record default_config st.StartRecord [] [] (packet_row row ++ rest) ≡ Some (row_fields row, st.StartRecord, rest)
row_read row late name said from to rest =
    let p = row.packet.proto in
    let a = row.packet.source.port in
    let b = row.packet.destination.port in
    let f = row.packet.flags in
    ap (λ (t : List ℕ). next_record default_config st.StartRecord [] [] (t ++ rest)) (row_is row)
    ∙ read_again _ _ _ rest (
      number_plain row.second (omega arith),
      (
        dir_plain row.packet.dir,
        (
          ifname_plain row.packet.ifname name,
          (
            proto_plain p a b f said,
            (
              address_plain row.packet.source.addr from,
              (
                from_plain p a b f said,
                (address_plain row.packet.destination.addr to, (to_plain p a b f said, (letters_all is_plain f refl, tt))),
              ),
            ),
          ),
        ),
      ),
    )
