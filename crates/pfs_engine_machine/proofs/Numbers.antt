-- The numbers of states rise: so no two states have the same, and a change that leaves them, or a test, leaves them rising.
use Rattle.std.proofs.Common.{◌≡◌, ◌≤◌, ◌<◌, ◌+◌, ℕ, Bool, true, false, if◌then◌else◌, Some, List, [], ◌∷◌, ◌++◌, All, filter, map, ap, arith}
use Rattle.std.specs.List.{find}
use Rattle.std.proofs.lemmas.List.Elements.{All-cons, All-nil, All-weaker}
use Rattle.pfs_store_contract.specs.declared.records.State.{State}
use Rattle.pfs_engine_machine.specs.MachineInvariants.{Rise}
use Rattle.pfs_engine_machine.proofs.Changes.{find-all}

pub Rise-lower : (low low' high : ℕ) (ss : List State) → low' ≤ low → Rise low ss high → Rise low' ss high
Rise-lower low low' high [] le r = omega arith
Rise-lower low low' high (s ∷ ss) le r = (omega (arith, r.0), r.1)

pub Rise-filter : (p : State → Bool) (low high : ℕ) (ss : List State) → Rise low ss high → Rise low (filter p ss) high
Rise-filter p low high [] r = r
Rise-filter p low high (s ∷ ss) r = go (p s) (Rise-filter p s.number high ss r.1)
  where
    go : (b : Bool) → Rise s.number (filter p ss) high → Rise low (if b then s ∷ filter p ss else filter p ss) high
    go true rest = (r.0, rest)
    go false rest = Rise-lower s.number low high (filter p ss) (omega (arith, r.0)) rest

pub Rise-map : (f : State → State) → ((s : State) → (f s).number ≡ s.number) → (low high : ℕ) (ss : List State)
    → Rise low ss high → Rise low (map f ss) high
Rise-map f same low high [] r = r
Rise-map f same low high (s ∷ ss) r = (omega (arith, same s, r.0), rw (same s) (Rise-map f same s.number high ss r.1))

-- one more at the end, above all
pub Rise-push : (low high : ℕ) (ss : List State) (s : State) → Rise low ss high → high < s.number → Rise low (ss ++ s ∷ []) s.number
Rise-push low high [] s r above = (omega (arith, r, above), omega arith)
Rise-push low high (t ∷ ss) s r above = (r.0, Rise-push t.number high ss s r.1 above)

-- below one number more
pub Rise-more : (low high : ℕ) (ss : List State) → Rise low ss high → Rise low ss (high + 1)
Rise-more low high [] r = omega (arith, r)
Rise-more low high (s ∷ ss) r = (r.0, Rise-more s.number high ss r.1)

pub Rise-above : (low high : ℕ) (ss : List State) → Rise low ss high → All (λ (s : State). low < s.number) ss
Rise-above low high [] r = All-nil (λ (s : State). low < s.number)
Rise-above low high (s ∷ ss) r =
    All-cons (λ (t : State). low < t.number) s ss r.0
    (All-weaker (λ (t : State). s.number < t.number) (λ (t : State). low < t.number) (λ t h. omega (arith, r.0, h)) ss (Rise-above s.number high ss r.1))

-- of the states one alone has the number of a state that is found
pub Rise-alone : (p : State → Bool) (s : State) (low high : ℕ) (ss : List State) → Rise low ss high → find p ss ≡ Some s
    → All (λ (t : State). t.number ≡ s.number → t ≡ s) ss
Rise-alone p s low high [] r e = All-nil (λ (t : State). t.number ≡ s.number → t ≡ s)
Rise-alone p s low high (x ∷ ss) r e = go (p x) e (λ k. Rise-alone p s x.number high ss r.1 k)
  where
    above : All (λ (t : State). x.number < t.number) ss
    above = Rise-above x.number high ss r.1

    later : x ≡ s → (t : State) → x.number < t.number → t.number ≡ s.number → t ≡ s
    later is t h k = absurd (omega (arith, h, k, ap (λ (u : State). u.number) is))

    go : (b : Bool) → (if b then Some x else find p ss) ≡ Some s → (find p ss ≡ Some s → All (λ (t : State). t.number ≡ s.number → t ≡ s) ss)
        → All (λ (t : State). t.number ≡ s.number → t ≡ s) (x ∷ ss)
    go true k rest =
        let same : x ≡ s = cc in
        All-cons (λ (t : State). t.number ≡ s.number → t ≡ s) x ss (λ h. same)
        (All-weaker (λ (t : State). x.number < t.number) (λ (t : State). t.number ≡ s.number → t ≡ s) (later same) ss above)
    go false k rest =
        let behind : x.number < s.number = find-all (λ (t : State). x.number < t.number) p ss s above k in
        All-cons (λ (t : State). t.number ≡ s.number → t ≡ s) x ss (λ h. absurd (omega (arith, behind, h))) (rest k)
