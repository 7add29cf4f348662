-- Up to when what was examined stays: of one more, of those of two stretches, and where some leave.
use Rattle.std.proofs.Common.{◌≡◌, ◌∙◌, ◌≤◌, ◌==◌, ◌||◌, ℕ, Bool, true, false, not, Option, Some, List, [], ◌∷◌, ◌++◌, filter, min, refl, ap, sym, subst, arith, if◌then◌else◌, ◌+◌, drop, take, take-add}
use Rattle.std.specs.List.{AllByRecursion}
use Rattle.pfs_store_contract.specs.Calls.{other_than}
use Rattle.pfs_conf_values.specs.Configs.{Conf}
use Rattle.pfs_store_contract.specs.Purging.{is_among, node_numbers, state_numbers}
use Rattle.pfs_store_index.specs.QuietPurges.{NodeStays}
use Rattle.pfs_store_contract.specs.declared.records.Node.{Node}
use Rattle.pfs_store_contract.specs.declared.records.State.{State}
use Rattle.pfs_store_records.specs.Records.{between}
use Rattle.pfs_store_records.specs.Walks.{IsLeaver, IsNext, IsPassing, IsWalk, StayUntil}
use Rattle.pfs_store_index.specs.Rounds.{waiting}
use Rattle.pfs_store_index.specs.Staying.{NodesHold, StatesHold}
use Rattle.pfs_store_index.proofs.Retained.{node_number}
use Rattle.pfs_store_index.proofs.Leavings.{state_number}
use Rattle.pfs_store_index.proofs.Removals.{all-filter}
use Rattle.pfs_store_index.proofs.Stretches.{among-append, among-between}
use Rattle.pfs_store_records.proofs.Rising.{flip_eq}
use Rattle.pfs_store_index.proofs.RisingWalks.{at_next}

module _ {X : Type 0} (number : X → ℕ) (Stays : ℕ → X → Type 0) where
  -- each of these whose number was examined stays up to a moment
  abbrev pub Hold : List ℕ → ℕ → List X → Type 0
  Hold examined until xs = AllByRecursion (λ x. is_among examined (number x) ≡ true → Stays until x) xs

  -- the same of the one of a number
  abbrev pub HoldOne : ℕ → ℕ → List X → Type 0
  HoldOne n until xs = AllByRecursion (λ x. (n == number x) ≡ true → Stays until x) xs

  pub hold-none : (until : ℕ) (xs : List X) → Hold [] until xs
  hold-none until [] = tt
  hold-none until (x ∷ xs) = ((λ e. absurd cc), hold-none until xs)

  -- where it has left, there is none of its number
  one-gone : (n until : ℕ) (xs : List X) → HoldOne n until (filter (λ x. not (number x == n)) xs)
  one-gone n until [] = tt
  one-gone n until (x ∷ xs) = go (number x == n) refl (one-gone n until xs)
    where
      go : (b : Bool) → (number x == n) ≡ b → HoldOne n until (filter (λ y. not (number y == n)) xs)
          → HoldOne n until (if not b then x ∷ filter (λ y. not (number y == n)) xs else filter (λ y. not (number y == n)) xs)
      go true e more = more
      go false e more = ((λ k. let f = flip_eq (number x) n false e in absurd (cc (k, f))), more)

  one-among : (n until : ℕ) (xs : List X) → HoldOne n until xs → Hold (n ∷ []) until xs
  one-among n until [] h = tt
  one-among n until (x ∷ xs) (h, hs) = ((λ e. h (go (n == number x) e)), one-among n until xs hs)
    where
      go : (b : Bool) → (b || false) ≡ true → b ≡ true
      go true e = e
      go false e = e

  -- those that were passed by
  hold-between : (above last until : ℕ) (ns : List ℕ) (xs : List X) → AllByRecursion (λ x. between above last (number x) ≡ true → Stays until x) xs → Hold (filter (between above last) ns) until xs
  hold-between above last until ns [] h = tt
  hold-between above last until ns (x ∷ xs) (h, hs) = ((λ e. h (among-between above last (number x) ns e)), hold-between above last until ns xs hs)

  -- where more are examined: those of two stretches, a stretch after another, and one more, which has left
  module _ (lower : (u v : ℕ) (x : X) → v ≤ u → Stays u x → Stays v x) where
    hold-both : (a b : List ℕ) (u v : ℕ) (xs : List X) → Hold a u xs → Hold b v xs → Hold (a ++ b) (min u v) xs
    hold-both a b u v [] h k = tt
    hold-both a b u v (x ∷ xs) (h, hs) (k, ks) = ((λ e. go e (is_among a (number x)) refl), hold-both a b u v xs hs ks)
      where
        go : is_among (a ++ b) (number x) ≡ true → (c : Bool) → is_among a (number x) ≡ c → Stays (min u v) x
        go e true t = lower u (min u v) x (omega arith) (h t)
        go e false t =
            let f : is_among b (number x) ≡ true = sym (among-append a b (number x) ∙ ap (λ c. c || is_among b (number x)) t) ∙ e in
            lower v (min u v) x (omega arith) (k f)

    pub hold-more : (i j u v : ℕ) (ws zs : List ℕ) (p : X → Bool) (xs xs' : List X) → zs ≡ drop i ws → xs' ≡ filter p xs
        → Hold (take i ws) u xs → Hold (take j zs) v xs' → Hold (take (i + j) ws) (min u v) xs'
    hold-more i j u v ws zs p xs xs' d e h k =
        subst (λ ns. Hold ns (min u v) xs') (sym (take-add i j ws)) (hold-both (take i ws) (take j (drop i ws)) u v xs'
        (subst (Hold (take i ws) u) (sym e) (all-filter p _ xs h)) (subst (λ ys. Hold (take j ys) v xs') d k))

    pub hold-next : (n u : ℕ) (before after : List ℕ) (xs xs' : List X) → xs' ≡ filter (λ x. not (number x == n)) xs → after ≡ before ++ n ∷ [] → Hold before u xs → Hold after u xs'
    hold-next n u before after xs xs' e t h =
        let same : min u u ≡ u = omega arith in
        subst (λ (q : List ℕ × ℕ × List X). Hold q.0 q.1 q.2) (λ i. (sym t i, same i, sym e i)) (hold-both before (n ∷ []) u u (filter (λ x. not (number x == n)) xs)
        (all-filter (λ x. not (number x == n)) _ xs h) (one-among n u _ (one-gone n u xs)))

-- ---- states

abbrev pub StaysTo : (State → ℕ) → ℕ → State → Type 0
StaysTo moment until s = until ≤ moment s

pub less_stays : (moment : State → ℕ) (u v : ℕ) (x : State) → v ≤ u → StaysTo moment u x → StaysTo moment v x
less_stays moment u v x h k = omega (arith, h, k)

-- none of a stretch leaves
pub hold-stays : (moment : State → ℕ) (leaves : State → Bool) (above most share stayed last until : ℕ) (o : Option State) (xs : List State)
    → IsWalk leaves xs above most share stayed last o → StayUntil moment xs above last until → StatesHold moment (take stayed (waiting above most (state_numbers xs))) until xs
hold-stays moment leaves above most share stayed last until o xs w u =
    subst (λ ns. StatesHold moment ns until xs) w.passed (hold-between state_number (StaysTo moment) above last until (state_numbers xs) xs u)

-- the last one leaves
pub hold-leaves : (moment : State → ℕ) (leaves : State → Bool) (above most share stayed last until : ℕ) (o : Option State) (s : State) (xs xs' : List State) → o ≡ Some s
    → IsWalk leaves xs above most share stayed last o → StayUntil moment xs above last until → xs' ≡ filter (other_than s.number) xs
    → StatesHold moment (take (stayed + 1) (waiting above most (state_numbers xs))) until xs'
hold-leaves moment leaves above most share stayed last until o s xs xs' q w u e =
    let ws = waiting above most (state_numbers xs) in
    let n : IsNext leaves xs last most stayed share s = subst (IsLeaver leaves xs last most stayed share) q w.leaver in
    let x = at_next stayed s.number ws (waiting last most (state_numbers xs)) w.rest n.next in
    hold-next state_number (StaysTo moment) (less_stays moment) s.number until (take stayed ws) _ xs xs' e x.taken (hold-stays moment leaves above most share stayed last until o xs w u)

-- ---- nodes

pub less_kept : (conf : Conf) (states : List State) (u v : ℕ) (x : Node) → v ≤ u → NodeStays conf states u x → NodeStays conf states v x
less_kept conf states u v x h k = λ z. let l = k z in omega (arith, h, l)

-- those that a walk passed by
pub nodes-passed : (conf : Conf) (states : List State) (leaves : Node → Bool) (above most share stayed last until : ℕ) (ns : List Node) → IsPassing node_number leaves ns above most share stayed last
    → AllByRecursion (λ (n : Node). between above last n.number ≡ true → NodeStays conf states until n) ns → NodesHold conf states (take stayed (waiting above most (node_numbers ns))) until ns
nodes-passed conf states leaves above most share stayed last until ns w u =
    subst (λ ks. NodesHold conf states ks until ns) w.passed (hold-between node_number (NodeStays conf states) above last until (node_numbers ns) ns u)
