-- A part of a list that is clipped to what there is, is the part.
use Rattle.std.proofs.Common.{ℕ, ◌≡◌, ◌-◌, ◌∙◌, min, List, length, take, drop, length-drop, ap, arith}
use Rattle.std.proofs.lemmas.List.{take_all, take_min, drop_min}

pub clipped : (from count a n : ℕ) (held : List ℕ) → a ≡ min from (length held) → n ≡ min count (length (take (length held - a) (drop a held)))
    → take n (take (length held - a) (drop a held)) ≡ take count (drop from held)
clipped from count a n held e f =
    let rest : List ℕ = take (length held - a) (drop a held) in
    let whole : rest ≡ drop a held = take_all (length held - a) (drop a held) (omega (arith, length-drop a held)) in
    ap (λ (k : ℕ). take k rest) f
    ∙ (take_min count rest
    ∙ ap (λ (z : List ℕ). take count z) (whole ∙ (ap (λ (k : ℕ). drop k held) e ∙ drop_min from held)))
