-- Names are the same exactly where what they are kept as is: for eq of Name.
use Rattle.std.proofs.Common.{ℕ, List, ◌≡◌, ◌-◌, ◌++◌, ◌==◌, ◌&&◌, true, length, take, replicate, ap, sym, ◌∙◌}
use Rattle.std.proofs.lemmas.Bool.{and_from, and_parts}
use Rattle.std.proofs.lemmas.Bool.Decides.{Decides-eqb}
use Rattle.std.proofs.lemmas.List.{take-append-drop}
use Rattle.std.proofs.lemmas.Slice.Eq.{bytes_eq-Decides}
use Rattle.std.specs.Bool.{one_answer}
use Rattle.std.specs.Str.{bytes_eq}
use Rattle.pfs_addr_values.specs.Names.{IsPadded}

-- a name and its length give back what is kept
whole : (most : ℕ) (x : List ℕ) (n : ℕ) → IsPadded most x n → take n x ++ replicate (most - n) 0 ≡ x
whole most x n h = ap (λ zs. take n x ++ zs) (sym h.zeros) ∙ take-append-drop n x

both : (most : ℕ) (x y : List ℕ) (n m : ℕ) → IsPadded most x n → IsPadded most y m → ((n == m) && bytes_eq x y) ≡ bytes_eq (take n x) (take m y)
both most x y n m hx hy = one_answer ((n == m) && bytes_eq x y) (bytes_eq (take n x) (take m y)) (there, back) (bytes_eq-Decides (take n x) (take m y))
  where
    there : ((n == m) && bytes_eq x y) ≡ true → take n x ≡ take m y
    there h =
        let parts = and_parts (n == m) (bytes_eq x y) h in
        let long : n ≡ m = (Decides-eqb n m).0 parts.0 in
        let bytes : x ≡ y = (bytes_eq-Decides x y).0 parts.1 in
        ap (λ k. take k x) long ∙ ap (λ z. take m z) bytes

    back : take n x ≡ take m y → ((n == m) && bytes_eq x y) ≡ true
    back e =
        let long : n ≡ m = sym hx.size ∙ (ap length e ∙ hy.size) in
        let bytes : x ≡ y =
        sym (whole most x n hx) ∙ (ap (λ z. z ++ replicate (most - n) 0) e ∙ (ap (λ k. take m y ++ replicate (most - k) 0) long ∙ whole most y m hy)) in
        and_from (n == m) (bytes_eq x y) ((Decides-eqb n m).1 long) ((bytes_eq-Decides x y).1 bytes)

-- names of one length are the same exactly where their bytes are, zeros included
pub same_padded : (most : ℕ) (x y : List ℕ) (n m : ℕ) → IsPadded most x n → IsPadded most y m
    → n ≡ m → bytes_eq x y ≡ bytes_eq (take n x) (take m y)
same_padded most x y n m hx hy e = sym (ap (λ t. t && bytes_eq x y) ((Decides-eqb n m).1 e)) ∙ both most x y n m hx hy
