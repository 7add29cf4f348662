-- A stretch of a slice: states that stay, one after another, and then one that leaves.
use Rattle.std.proofs.Common.{◌≡◌, ◌∙◌, ◌+◌, ◌-◌, ◌<◌, ◌≤◌, ◌==◌, ◌&&◌, ◌||◌, ℕ, Bool, true, false, not, if◌then◌else◌, Option, Some, None, List, [], ◌∷◌, ◌++◌, length, map, filter, take, drop, nat_lt, refl, ap, sym, subst, arith, length-take, length-drop, take-add, drop-drop}
use Rattle.std.specs.List.{AllByRecursion}
use Rattle.std.proofs.lemmas.Bool.Decides.{nat_tests}
use Rattle.pfs_store_contract.specs.Calls.{other_than}
use Rattle.pfs_store_contract.specs.Purging.{is_among, state_numbers}
use Rattle.pfs_store_contract.specs.declared.records.State.{State}
use Rattle.pfs_store_records.specs.Records.{between}
use Rattle.pfs_store_records.specs.Walks.{IsLeaver, IsNext, IsPassing, IsStop, IsWalk}
use Rattle.pfs_store_index.specs.Rounds.{IsExamined, waiting}
use Rattle.pfs_store_index.proofs.Leavings.{state_number}
use Rattle.pfs_store_records.proofs.Rising.{IsRisingBy, same_number}
use Rattle.pfs_store_index.proofs.RisingWalks.{all-in, all-next, at_next, filter-twice, stay_more, stays_by, step-stays, survive-removed, survives}

-- ---- those that were passed by stay

pub among-between : (a l k : ℕ) (ns : List ℕ) → is_among (filter (between a l) ns) k ≡ true → between a l k ≡ true
among-between a l k [] h = absurd cc
among-between a l k (n ∷ ns) h = go (among-between a l k ns) (between a l n) refl (n == k) refl
  where
    go : (is_among (filter (between a l) ns) k ≡ true → between a l k ≡ true) → (b : Bool) → between a l n ≡ b → (c : Bool) → (n == k) ≡ c → between a l k ≡ true
    go more true t true e = subst (λ m. between a l m ≡ true) (same_number k n e) t
    go more true t false e = more (rw (t, e) at h)
    go more false t c e = more (rw t at h)

passed-stay : {X : Type 0} (number : X → ℕ) (leaves : X → Bool) (a l : ℕ) (ns : List ℕ) (xs : List X) → AllByRecursion (λ (x : X). between a l (number x) ≡ true → leaves x ≡ false) xs
    → xs ≡ filter (stays_by number leaves (filter (between a l) ns)) xs
passed-stay number leaves a l ns [] h = refl
passed-stay number leaves a l ns (x ∷ xs) (h, hs) = (λ i. if sym kept i then x ∷ passed-stay number leaves a l ns xs hs i else passed-stay number leaves a l ns xs hs i)
  where
    go : (b : Bool) → is_among (filter (between a l) ns) (number x) ≡ b → not (b && leaves x) ≡ true
    go true e = ap not (h (among-between a l (number x) ns e))
    go false e = refl

    kept : not (is_among (filter (between a l) ns) (number x) && leaves x) ≡ true
    kept = go (is_among (filter (between a l) ns) (number x)) refl

-- ---- how many are examined

passed_fewer : (stayed : ℕ) (passed ws : List ℕ) → stayed ≡ length passed → passed ≡ take stayed ws → stayed ≤ length ws
passed_fewer stayed passed ws c p = omega (arith, c, ap length p, length-take stayed ws)

is_less : (n m : ℕ) → nat_lt n m ≡ true → n < m
is_less n m h = grind (arith, nat_tests)

is_not_less : (n m : ℕ) → nat_lt n m ≡ false → m ≤ n
is_not_less n m h = grind (arith, nat_tests)

all_passed : (share stayed : ℕ) (ws zs : List ℕ) → stayed ≤ share → stayed ≤ length ws → zs ≡ drop stayed ws → (stayed < share → zs ≡ []) → stayed ≡ length (take share ws)
all_passed share stayed ws zs s w e h = go (nat_lt stayed share) refl
  where
    go : (b : Bool) → nat_lt stayed share ≡ b → stayed ≡ length (take share ws)
    go true t =
        let l = is_less stayed share t in
        omega (arith, l, w, ap length (h l), ap length e, length-drop stayed ws, length-take share ws)
    go false t = omega (arith, s, w, is_not_less stayed share t, length-take share ws)

-- none yet
pub examined-none : (share : ℕ) (ws : List ℕ) → IsExamined share 0 share ws ws
examined-none share ws = record {
  rest = refl;
  within = omega arith;
  most = omega arith;
  goes = λ _. omega arith;
  ends = λ h. omega (arith, h, length-take share ws);
}

-- those that were passed by, after which none waits, or no more may be examined
pub examined-passed : (share stayed : ℕ) (passed ws zs : List ℕ) → stayed ≡ length passed → passed ≡ take stayed ws → zs ≡ drop stayed ws → stayed ≤ share → (stayed < share → zs ≡ [])
    → IsExamined share stayed 0 ws zs
examined-passed share stayed passed ws zs c p e s h =
    let w = passed_fewer stayed passed ws c p in
    record {
      rest = e;
      within = w;
      most = omega (arith, s);
      goes = λ z. absurd (omega (arith, z));
      ends = λ _. all_passed share stayed ws zs s w e h;
    }

-- and one more after them
pub examined-next : (share stayed : ℕ) (ws rest : List ℕ) → stayed < share → stayed < length ws → rest ≡ drop (stayed + 1) ws → IsExamined share (stayed + 1) (share - stayed - 1) ws rest
examined-next share stayed ws rest s w e = record {
  rest = e;
  within = omega (arith, w);
  most = omega (arith, s);
  goes = λ _. omega (arith, s);
  ends = λ h. omega (arith, h, s, w, length-take share ws);
}

-- those of two stretches
pub examined-more : (share i j left more : ℕ) (ws zs rest : List ℕ) → 0 < left → IsExamined share i left ws zs → IsExamined left j more zs rest → IsExamined share (i + j) more ws rest
examined-more share i j left more ws zs rest some a b =
    let is : left ≡ share - i = omega (arith, a.goes some) in
    record {
      rest = b.rest ∙ ap (drop j) a.rest ∙ drop-drop j i ws;
      within = omega (arith, a.within, b.within, ap length a.rest, length-drop i ws);
      most = omega (arith, a.most, b.most);
      goes = λ h. omega (arith, a.goes some, b.goes h);
      ends = λ h. all-more share i j ws zs (omega (arith, a.most)) a.within a.rest (b.ends h ∙ ap (λ k. length (take k zs)) is);
    }
  where
    all-more : (share i j : ℕ) (ws zs : List ℕ) → i ≤ share → i ≤ length ws → zs ≡ drop i ws → j ≡ length (take (share - i) zs) → i + j ≡ length (take share ws)
    all-more share i j ws zs s w d e = omega (arith, s, w, e, length-take (share - i) zs, ap length d, length-drop i ws, length-take share ws)

-- ---- one stretch

-- so many of those that waited are examined, the last of them below the cursor or at it
pub record IsStretch (leaves : State → Bool) (above most cursor share examined left : ℕ) (xs xs' : List State) : Type 0 where
  pub stay : xs' ≡ filter (stays_by state_number leaves (take examined (waiting above most (state_numbers xs)))) xs
  pub part : IsExamined share examined left (waiting above most (state_numbers xs)) (waiting cursor most (state_numbers xs'))
  pub to : cursor ≤ most

-- none of them leaves
pub stretch-stays : (leaves : State → Bool) (above most share stayed last : ℕ) (o : Option State) (xs : List State) → o ≡ None
    → IsWalk leaves xs above most share stayed last o → IsStretch leaves above most last share stayed 0 xs xs
stretch-stays leaves above most share stayed last o xs q w = record {
  stay = passed-stay state_number leaves above last (state_numbers xs) xs w.stay ∙ ap (λ zs. filter (stays_by state_number leaves zs) xs) w.passed;
  part = examined-passed share stayed (waiting above last (state_numbers xs)) (waiting above most (state_numbers xs)) (waiting last most (state_numbers xs)) w.count w.passed w.rest w.within
      (subst (IsLeaver leaves xs last most stayed share) q w.leaver);
  to = w.to;
}

-- the last one leaves
pub stretch-leaves : (leaves : State → Bool) (above most share stayed last : ℕ) (o : Option State) (s : State) (xs xs' : List State) → o ≡ Some s
    → IsRisingBy state_number xs → IsWalk leaves xs above most share stayed last o → xs' ≡ filter (other_than s.number) xs
    → IsStretch leaves above most s.number share (stayed + 1) (share - stayed - 1) xs xs'
stretch-leaves leaves above most share stayed last o s xs xs' q r w e =
    let ws = waiting above most (state_numbers xs) in
    let n : IsNext leaves xs last most stayed share s = subst (IsLeaver leaves xs last most stayed share) q w.leaver in
    let before : xs ≡ filter (stays_by state_number leaves (take stayed ws)) xs =
    passed-stay state_number leaves above last (state_numbers xs) xs w.stay ∙ ap (λ zs. filter (stays_by state_number leaves zs) xs) w.passed in
    let x = at_next stayed s.number ws (waiting last most (state_numbers xs)) w.rest n.next in
    let f : xs' ≡ filter (survives state_number leaves s.number) xs = e ∙ survive-removed state_number leaves s.number s xs r n.found n.passes in
    record {
      stay = step-stays state_number leaves s.number stayed ws xs xs xs' before f x.taken;
      part = examined-next share stayed ws (waiting s.number most (state_numbers xs')) n.within x.within
          (ap (λ ys. waiting s.number most (state_numbers ys)) f ∙ all-next state_number leaves last most s.number _ xs r x.first);
      to = (all-in state_number last most s.number xs n.next).most;
    }

-- ---- a walk by those that stay

module _ {X : Type 0} (number : X → ℕ) (leaves : X → Bool) (above most share stayed last : ℕ) (xs : List X) (w : IsPassing number leaves xs above most share stayed last) where
  pub passing-stays : xs ≡ filter (stays_by number leaves (take stayed (waiting above most (map number xs)))) xs
  passing-stays = passed-stay number leaves above last (map number xs) xs w.stay ∙ ap (λ zs. filter (stays_by number leaves zs) xs) w.passed

  -- where none waits after it, or no more may be examined
  pub passing-examined : (stayed < share → waiting last most (map number xs) ≡ []) → IsExamined share stayed 0 (waiting above most (map number xs)) (waiting last most (map number xs))
  passing-examined h = examined-passed share stayed (waiting above last (map number xs)) (waiting above most (map number xs)) (waiting last most (map number xs)) w.count w.passed w.rest w.within h

  -- where it stopped at one that leaves, which is the last
  module _ (x : X) (xs' : List X) (s : IsStop number leaves xs last most stayed share x) (r : IsRisingBy number xs) (e : xs' ≡ filter (λ (y : X). not (number y == number x)) xs) where
    left : xs' ≡ filter (survives number leaves (number x)) xs
    left = e ∙ survive-removed number leaves (number x) x xs r s.found s.passes

    pub stop-taken : take (stayed + 1) (waiting above most (map number xs)) ≡ take stayed (waiting above most (map number xs)) ++ number x ∷ []
    stop-taken = (at_next stayed (number x) (waiting above most (map number xs)) (waiting last most (map number xs)) w.rest s.next).taken

    pub stop-stays : xs' ≡ filter (stays_by number leaves (take (stayed + 1) (waiting above most (map number xs)))) xs
    stop-stays = step-stays number leaves (number x) stayed (waiting above most (map number xs)) xs xs xs' passing-stays left stop-taken

    pub stop-examined : IsExamined share (stayed + 1) (share - stayed - 1) (waiting above most (map number xs)) (waiting (number x) most (map number xs'))
    stop-examined =
        let n = at_next stayed (number x) (waiting above most (map number xs)) (waiting last most (map number xs)) w.rest s.next in
        examined-next share stayed (waiting above most (map number xs)) (waiting (number x) most (map number xs')) s.within n.within
        (ap (λ (ys : List X). waiting (number x) most (map number ys)) left ∙ all-next number leaves last most (number x) _ xs r n.first)

-- ---- one stretch after another

pub among-append : (xs ys : List ℕ) (k : ℕ) → is_among (xs ++ ys) k ≡ (is_among xs k || is_among ys k)
among-append [] ys k = refl
among-append (x ∷ xs) ys k = go (x == k) (among-append xs ys k)
  where
    go : (b : Bool) → is_among (xs ++ ys) k ≡ (is_among xs k || is_among ys k) → (b || is_among (xs ++ ys) k) ≡ ((b || is_among xs k) || is_among ys k)
    go true h = refl
    go false h = h

stays-append : {X : Type 0} (number : X → ℕ) (leaves : X → Bool) (ns ms : List ℕ) (xs : List X)
    → filter (stays_by number leaves ms) (filter (stays_by number leaves ns) xs) ≡ filter (stays_by number leaves (ns ++ ms)) xs
stays-append number leaves ns ms xs =
    filter-twice (stays_by number leaves ms) (stays_by number leaves ns) (stays_by number leaves (ns ++ ms))
    (λ x. stay_more (is_among ns (number x)) (is_among ms (number x)) (leaves x) ∙ ap (λ b. not (b && leaves x)) (sym (among-append ns ms (number x)))) xs

pub stretch-more : {X : Type 0} (number : X → ℕ) (leaves : X → Bool) (i j : ℕ) (ws zs : List ℕ) (xs0 xs xs' : List X) → xs ≡ filter (stays_by number leaves (take i ws)) xs0
    → zs ≡ drop i ws → xs' ≡ filter (stays_by number leaves (take j zs)) xs → xs' ≡ filter (stays_by number leaves (take (i + j) ws)) xs0
stretch-more number leaves i j ws zs xs0 xs xs' e d e' =
    e' ∙ (λ k. filter (stays_by number leaves (take j (d k))) (e k)) ∙ stays-append number leaves (take i ws) (take j (drop i ws)) xs0
    ∙ ap (λ ns. filter (stays_by number leaves ns) xs0) (sym (take-add i j ws))
