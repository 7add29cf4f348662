-- An order of keys, by which a set of keys is one value. It means nothing else. (own)
use Rattle.std.proofs.Common.{◌≡◌, ◌∙◌, ap, sym, refl}
use Rattle.std.specs.Prelude.{ℕ, ◌==◌, List, [], ◌∷◌, if◌then◌else◌, slice_index_or}
use Rattle.std.specs.Cmp.{IsTotalOrder, on_total}
use Rattle.std.specs.Cmp.Lexicographic.{slice_cmp, lists_total, nat_list_cmp_total}
use Rattle.std.specs.Coded.{Coded, code_by, coded_list, coded_ℕ}
use Rattle.std.specs.FinSet.{IsAntisymmetric, nat_cmp-IsAntisymmetric, slice_cmp-IsAntisymmetric}
use Rattle.std.specs.Ordering.{nat_cmp, on}
use Rattle.std.specs.declared.cmp.Ordering.{Ordering}
use Rattle.pfs_addr_values.specs.declared.addresses.Addr.{Addr}
use Rattle.pfs_addr_values.specs.declared.addresses.Addr.TheVariants.{V4, V6}
use Rattle.pfs_addr_values.specs.declared.packets.FlowKey.{FlowKey}
use Rattle.pfs_addr_values.specs.declared.protocols.Proto.{Proto}
use Rattle.pfs_addr_values.specs.declared.protocols.Proto.TheVariants.{Tcp, Udp, Other}

-- a protocol in numbers
abbrev pub proto_part : Proto → List ℕ
proto_part Tcp = 0 ∷ []
proto_part Udp = 1 ∷ []
proto_part (Other n) = 2 ∷ n ∷ []

-- an address in numbers
abbrev pub addr_part : Addr → List ℕ
addr_part (V4 bytes) = 4 ∷ bytes
addr_part (V6 bytes) = 6 ∷ bytes

-- a key in numbers: the protocol, and of each end the address and the port
abbrev pub parts_of : FlowKey → List (List ℕ)
parts_of k =
    proto_part k.proto ∷ addr_part k.a.addr ∷ (k.a.port ∷ []) ∷ addr_part k.b.addr ∷ (k.b.port ∷ []) ∷ []

-- the first number that differs decides
abbrev pub key_cmp : FlowKey → FlowKey → Ordering
key_cmp = on parts_of (slice_cmp (slice_cmp nat_cmp))

-- ---- a key from its numbers

abbrev pub proto_from : List ℕ → Proto
proto_from [] = Tcp
proto_from (t ∷ []) = if t == 0 then Tcp else Udp
proto_from (t ∷ n ∷ ns) = Other n

abbrev pub addr_from : List ℕ → Addr
addr_from [] = V4 []
addr_from (t ∷ bytes) = if t == 4 then V4 bytes else V6 bytes

abbrev pub key_from : List (List ℕ) → FlowKey
key_from parts = record {
  proto = proto_from (slice_index_or parts 0 []);
  a = record { addr = addr_from (slice_index_or parts 1 []); port = slice_index_or (slice_index_or parts 2 []) 0 0 };
  b = record { addr = addr_from (slice_index_or parts 3 []); port = slice_index_or (slice_index_or parts 4 []) 0 0 };
}

pub proto_from-part : (p : Proto) → proto_from (proto_part p) ≡ p
proto_from-part Tcp = refl
proto_from-part Udp = refl
proto_from-part (Other n) = refl

pub addr_from-part : (a : Addr) → addr_from (addr_part a) ≡ a
addr_from-part (V4 bytes) = refl
addr_from-part (V6 bytes) = refl

pub key_from-parts : (k : FlowKey) → key_from (parts_of k) ≡ k
key_from-parts k = λ i. record {
  proto = proto_from-part k.proto i;
  a = record { addr = addr_from-part k.a.addr i; port = k.a.port };
  b = record { addr = addr_from-part k.b.addr i; port = k.b.port };
}

-- ---- what a set of keys needs

abbrev pub key_code : Coded FlowKey
key_code = code_by (List (List ℕ)) (coded_list (coded_list coded_ℕ)) parts_of key_from key_from-parts

pub key_cmp-total : IsTotalOrder key_cmp
key_cmp-total = on_total parts_of (lists_total nat_list_cmp_total)

-- it tells apart any two keys that are not the same
pub key_cmp-antisymmetric : IsAntisymmetric key_cmp
key_cmp-antisymmetric x y e =
    sym (key_from-parts x)
    ∙ ap key_from (slice_cmp-IsAntisymmetric (slice_cmp-IsAntisymmetric nat_cmp-IsAntisymmetric) (parts_of x) (parts_of y) e)
    ∙ key_from-parts y
