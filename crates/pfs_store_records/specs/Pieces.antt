-- What the hashers of the indexes are fed with: of a key, and of a source in a scope, one piece of whole words. (own) (not promised)
use Rattle.std.specs.Prelude.{ℕ, ◌-◌, ◌^◌, List, [], ◌∷◌, slice_index}
use Rattle.std.specs.Hash.{HashWrites}
use Rattle.std.specs.Int.{w16, w32, to_le_bytes}
use Rattle.pfs_addr_values.specs.Protocols.{number_of_proto}
use Rattle.pfs_addr_values.specs.contracts.packets.FlowKeyHash.TheImpl as key_hash
use Rattle.pfs_addr_values.specs.declared.addresses.Addr.{Addr}
use Rattle.pfs_addr_values.specs.declared.addresses.Addr.TheVariants as addr
use Rattle.pfs_addr_values.specs.declared.packets.FlowKey.{FlowKey}
use Rattle.pfs_store_contract.specs.declared.records.NodeScope.{NodeScope}
use Rattle.pfs_store_contract.specs.declared.records.NodeScope.TheVariants as node_scope

-- the first bytes of a list in front of others: four, eight, sixteen
abbrev pub four : List ℕ → List ℕ → List ℕ
four a rest = slice_index a 0 ∷ slice_index a 1 ∷ slice_index a 2 ∷ slice_index a 3 ∷ rest

abbrev pub eight : List ℕ → List ℕ → List ℕ
eight a rest = four a (slice_index a 4 ∷ slice_index a 5 ∷ slice_index a 6 ∷ slice_index a 7 ∷ rest)

abbrev pub sixteen : List ℕ → List ℕ → List ℕ
sixteen a rest =
    eight a (slice_index a 8 ∷ slice_index a 9 ∷ slice_index a 10 ∷ slice_index a 11
    ∷ slice_index a 12 ∷ slice_index a 13 ∷ slice_index a 14 ∷ slice_index a 15 ∷ rest)

-- the ports and the protocol of a key, in eight bytes
abbrev pub last_of_key : FlowKey → List ℕ
last_of_key k =
    let p = to_le_bytes w16 k.a.port in
    let q = to_le_bytes w16 k.b.port in
    slice_index p 0 ∷ slice_index p 1 ∷ slice_index q 0 ∷ slice_index q 1 ∷ number_of_proto k.proto ∷ 0 ∷ 0 ∷ 0 ∷ []

-- the pieces of two ends of one family
abbrev pub narrow_piece : List ℕ → List ℕ → List ℕ → List ℕ
narrow_piece a b last = four a (four b (eight last []))

abbrev pub wide_piece : List ℕ → List ℕ → List ℕ → List ℕ
wide_piece a b last = sixteen a (sixteen b (eight last []))

-- the writes of a key between these addresses: one where both are of one family
abbrev pub writes_between : Addr → Addr → FlowKey → HashWrites
writes_between (addr.V4 a) (addr.V4 b) k = narrow_piece a b (last_of_key k) ∷ []
writes_between (addr.V6 a) (addr.V6 b) k = wide_piece a b (last_of_key k) ∷ []
writes_between (addr.V4 a) (addr.V6 b) k = (key_hash.ghosts).hash_input k
writes_between (addr.V6 a) (addr.V4 b) k = (key_hash.ghosts).hash_input k

abbrev pub key_writes : FlowKey → HashWrites
key_writes k = writes_between k.a.addr k.b.addr k

-- the number of a scope
abbrev pub number_of_scope : NodeScope → ℕ
number_of_scope (node_scope.Rule rule) = rule.0
number_of_scope node_scope.Global = 2 ^ 32 - 1

-- the write of a source, where these are the bytes of the scope
abbrev pub writes_in : List ℕ → Addr → HashWrites
writes_in scope (addr.V4 a) = four a (four scope []) ∷ []
writes_in scope (addr.V6 a) = sixteen a (four scope (0 ∷ 0 ∷ 0 ∷ 0 ∷ [])) ∷ []

abbrev pub place_writes : NodeScope × Addr → HashWrites
place_writes p = writes_in (to_le_bytes w32 (number_of_scope p.0)) p.1
