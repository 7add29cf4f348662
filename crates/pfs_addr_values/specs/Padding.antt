-- A law for the type Name: what a name is kept as follows from its bytes alone. (not promised)
use Rattle.std.proofs.Common.{ℕ, ◌≡◌, ◌-◌, ◌++◌, length, take, replicate, ap, sym, ◌∙◌}
use Rattle.std.proofs.lemmas.List.{take-append-drop}
use Rattle.pfs_addr_values.specs.Names.{IsPadded}
use Rattle.pfs_addr_values.specs.declared.names.Name.TheInside.{Inside}

-- what a name is kept as follows from its bytes
pub padded-back : (most : ℕ) (a : Inside most) → IsPadded most a.bytes a.len
    → ◌≡◌ {A = Inside most} (record { bytes = take a.len a.bytes ++ replicate (most - length (take a.len a.bytes)) 0; len = length (take a.len a.bytes) }) a
padded-back most a h =
    let bytes : take a.len a.bytes ++ replicate (most - length (take a.len a.bytes)) 0 ≡ a.bytes =
    ap (λ n. take a.len a.bytes ++ replicate (most - n) 0) h.size ∙ (ap (λ zs. take a.len a.bytes ++ zs) (sym h.zeros) ∙ take-append-drop a.len a.bytes) in
    λ i. record { bytes = bytes i; len = h.size i }
