-- Splitting a word.
use Rattle.std.proofs.Common.{◌≡◌, ℕ, List, drop, take, position, Some, ◌==◌, sym, ap}
use Rattle.std.proofs.lemmas.List.{drop-drop}
use Rattle.pfs_conf_tokens.specs.Numbers.{split_around}

pub split_parts : (byte : ℕ) (text front back behind : List ℕ) (i : ℕ) → Some i ≡ position (λ b. b == byte) text → front ≡ take i text → back ≡ drop i text → behind ≡ drop 1 back
    → split_around byte text ≡ Some (front, behind)
unfolding split_around
split_parts byte text front back behind i e hf hb hd = rw (← e, hf, hd, hb) (ap (λ (z : List ℕ). Some (take i text, z)) (sym (drop-drop 1 i text)))
