-- An entry whose prefix is new goes last in the map of a table's entries: for EntryDraft::add.
use Rattle.std.proofs.Common.{◌≡◌, ◌∙◌, ℕ, Bool, true, false, List, [], ◌∷◌, ◌++◌, None, refl, ap, sym}
use Rattle.std.proofs.lemmas.Bool.{cond-false, cond-true}
use Rattle.indexmap.specs.IndexMap.{insert_entry}
use Rattle.pfs_addr_values.specs.Prefixes.{Network}
use Rattle.pfs_addr_values.specs.declared.addresses.Addr.{Addr}
use Rattle.pfs_addr_values.specs.declared.addresses.Addr.TheVariants.{V4, V6}
use Rattle.pfs_conf_values.specs.Entries.{TextEntry, same_network, sign_of}

abbrev network : Addr → ℕ → Network
network a n = record { addr = a; bits = n }

-- a test that is `same_network` at addresses of each family is it at all
pub same_networks : (eq : Network → Network → Bool)
    → ((a b : List ℕ) (m n : ℕ) → eq (network (V4 a) m) (network (V4 b) n) ≡ same_network (network (V4 a) m) (network (V4 b) n))
    → ((a b : List ℕ) (m n : ℕ) → eq (network (V4 a) m) (network (V6 b) n) ≡ same_network (network (V4 a) m) (network (V6 b) n))
    → ((a b : List ℕ) (m n : ℕ) → eq (network (V6 a) m) (network (V4 b) n) ≡ same_network (network (V6 a) m) (network (V4 b) n))
    → ((a b : List ℕ) (m n : ℕ) → eq (network (V6 a) m) (network (V6 b) n) ≡ same_network (network (V6 a) m) (network (V6 b) n))
    → (p q : Network) → eq p q ≡ same_network p q
same_networks eq four four_six six_four six p q = by p.addr q.addr
  where
    by : (a b : Addr) → eq (network a p.bits) (network b q.bits) ≡ same_network (network a p.bits) (network b q.bits)
    by (V4 a) (V4 b) = four a b p.bits q.bits
    by (V4 a) (V6 b) = four_six a b p.bits q.bits
    by (V6 a) (V4 b) = six_four a b p.bits q.bits
    by (V6 a) (V6 b) = six a b p.bits q.bits

-- an entry whose prefix is new goes last
pub put_last : (eq : Network → Network → Bool) (p : Network) (negated : Bool) (es : List TextEntry) → ((a b : Network) → eq a b ≡ same_network a b)
    → sign_of es p ≡ None → insert_entry eq es p negated ≡ es ++ (p, negated) ∷ []
put_last eq p negated [] same h = refl
put_last eq p negated (e ∷ es) same h = go (same_network p e.0) refl (put_last eq p negated es same)
  where
    go : (b : Bool) → same_network p e.0 ≡ b → (sign_of es p ≡ None → insert_entry eq es p negated ≡ es ++ (p, negated) ∷ [])
        → insert_entry eq (e ∷ es) p negated ≡ (e ∷ es) ++ (p, negated) ∷ []
    go true is rest = absurd (let a = sym (cond-true _ _ _ is) ∙ h in cc)
    go false is rest = cond-false _ _ _ (same p e.0 ∙ is) ∙ ap (λ xs. e ∷ xs) (rest (sym (cond-false _ _ _ is) ∙ h))
