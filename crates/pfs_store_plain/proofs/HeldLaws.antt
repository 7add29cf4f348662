-- A state whose number is held is found by it.
use Rattle.std.proofs.Common.{◌≡◌, ◌==◌, ℕ, Bool, true, false, IsSome, List, [], ◌∷◌, refl}
use Rattle.std.specs.List.{find}
use Rattle.pfs_store_contract.specs.Worlds.{holds_number}
use Rattle.pfs_store_contract.specs.declared.records.State.{State}

pub held-found : (n : ℕ) (xs : List State) → holds_number xs n ≡ true → IsSome (find (λ (s : State). s.number == n) xs)
held-found n [] h = absurd (cc h)
held-found n (x ∷ xs) h = go (held-found n xs) (x.number == n) refl
  where
    go : (holds_number xs n ≡ true → IsSome (find (λ (s : State). s.number == n) xs)) → (b : Bool) → (x.number == n) ≡ b → IsSome (find (λ (s : State). s.number == n) (x ∷ xs))
    go more true t = rw t refl
    go more false t = rw t (more (rw t at h))
