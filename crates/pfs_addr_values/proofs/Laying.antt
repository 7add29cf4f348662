-- A name copied to the front of zeros is kept in place as a name is: for Name::padded.
use Rattle.std.proofs.Common.{ℕ, List, ◌≡◌, ◌++◌, length, take, drop, replicate, true, ap, sym, subst, ◌∙◌}
use Rattle.std.proofs.Math.Seq.{take-append_seam, drop-append_seam}
use Rattle.std.proofs.lemmas.List.{drop-replicate}
use Rattle.pfs_addr_values.specs.Names.{is_name, IsPadded}

-- a name copied to the front of zeros is kept as a name is
pub padded_of : (most : ℕ) (text front : List ℕ) → front ≡ text → is_name most text ≡ true
    → IsPadded most (front ++ drop (length text) (replicate most 0)) (length text)
padded_of most text front same name =
    let seen : take (length text) (front ++ drop (length text) (replicate most 0)) ≡ text =
    ap (λ xs. take (length text) (xs ++ drop (length text) (replicate most 0))) same ∙ take-append_seam text _ in
    record {
      name = subst (λ t. is_name most t ≡ true) (sym seen) name;
      size = ap length seen;
      zeros = ap (λ xs. drop (length text) (xs ++ drop (length text) (replicate most 0))) same ∙ (drop-append_seam text _ ∙ drop-replicate (length text) most 0);
    }
