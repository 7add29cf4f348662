-- When the next can leave, as slices tell it; and seconds in which nothing leaves: each only moves the rounds.
use Rattle.std.proofs.Common.{◌≡◌, ◌≤◌, ◌<◌, ◌+◌, ◌==◌, ◌&&◌, ◌||◌, ℕ, zero, suc, Bool, true, false, not, nat_le, List, [], ◌∷◌, length, take, drop, take-append-drop, filter, map, max, min, refl, ap, ◌∙◌, sym, subst, arith, length-take, length-drop}
use Rattle.std.specs.List.{AllByRecursion}
use Rattle.std.proofs.lemmas.Bool.Decides.{nat_tests}
use Rattle.std.proofs.lemmas.List.{length-map}
use Rattle.pfs_conf_values.specs.Configs.{Conf}
use Rattle.pfs_store_contract.specs.Counts.{node_states}
use Rattle.pfs_store_contract.specs.Calls.{node_slice_of, state_slice_of}
use Rattle.pfs_store_contract.specs.Leaving.{node_after_leaving}
use Rattle.pfs_store_contract.specs.Passages.{done_after, done_of, purged_both, purged_in}
use Rattle.pfs_store_contract.specs.Purging.{has_expired, is_among, is_over, node_numbers, node_round, node_share, node_slice, node_stays, purge, round, state_numbers, state_round, state_share, state_slice, stays}
use Rattle.pfs_store_contract.specs.Seconds.{seconds}
use Rattle.pfs_store_contract.specs.Worlds.{World, lists}
use Rattle.pfs_store_contract.specs.declared.records.Node.{Node}
use Rattle.pfs_store_contract.specs.declared.records.Purged.{Purged}
use Rattle.pfs_store_contract.specs.declared.records.Slice.{Slice}
use Rattle.pfs_store_contract.specs.declared.records.State.{State}
use Rattle.pfs_store_contract.proofs.FilterLaws.{filter-all}
use Rattle.pfs_store_contract.proofs.Passages.{one-done, purged_with}
use Rattle.pfs_store_records.proofs.Searches.{all-weaker}
use Rattle.pfs_store_index.specs.QuietPurges.{AreNodesKnown, AreStatesKnown, IsKnown, IsPassage, NodeSliceStays, NodeStays, SliceStays, StateStays, known_after, known_before, world_after_quiet}
use Rattle.pfs_store_index.specs.declared.passages.KnownStay.{KnownStay}
use Rattle.pfs_store_index.specs.declared.passages.Passage.{Passage}
use Rattle.pfs_store_index.specs.declared.passages.SliceTold.{SliceTold}
use Rattle.pfs_store_index.proofs.Fewer.{fewer-all, stays-longer}
use Rattle.pfs_store_index.proofs.Removals.{all-filter}
use Rattle.pfs_store_contract.proofs.LeavingLaws.{retained-same}
use Rattle.pfs_store_index.proofs.Stretches.{among-append}

-- ---- what is known

-- the number of each is among those of all
all-among : {X : Type 0} (number : X → ℕ) (xs : List X) → AllByRecursion (λ x. is_among (map number xs) (number x) ≡ true) xs
all-among number [] = tt
all-among number (x ∷ xs) =
    let same : (number x == number x) ≡ true = grind (arith, nat_tests) in
    (ap (λ b. b || is_among (map number xs) (number x)) same, all-weaker _ _ (λ y h. either (number x == number y) _ h) xs (all-among number xs))
  where
    either : (a b : Bool) → b ≡ true → (a || b) ≡ true
    either true b h = refl
    either false b h = h

-- one that is not left of a round, and was not taken of it, was not in it
not-first : (share n : ℕ) (ns : List ℕ) → is_among (take share ns) n ≡ false → is_among (drop share ns) n ≡ false → is_among ns n ≡ false
not-first share n ns h k =
    sym (ap (λ ms. is_among ms n) (take-append-drop share ns)) ∙ among-append (take share ns) (drop share ns) n ∙ (λ i. h i || k i)

not-pending : (held pending : List ℕ) (n : ℕ) → is_among (round held pending) n ≡ false → is_among pending n ≡ false
not-pending held [] n h = refl
not-pending held (p ∷ ps) n h = h

all-both : {X : Type 0} (P Q R : X → Type 0) → ((x : X) → P x → Q x → R x) → (xs : List X) → AllByRecursion P xs → AllByRecursion Q xs → AllByRecursion R xs
all-both P Q R f [] h k = tt
all-both P Q R f (x ∷ xs) (h, hs) (k, ks) = (f x h k, all-both P Q R f xs hs ks)

module _ {X : Type 0} (number : X → ℕ) (Stays : ℕ → X → Type 0) where
  pub known-before : (share : ℕ) (xs : List X) (pending : List ℕ) (most : ℕ) (begins : Bool) → ((x : X) → Stays 0 x) → (begins ≡ true → pending ≡ []) → IsKnown number Stays share xs pending most (known_before begins)
  known-before share xs pending most false stay0 e = record {
    part = all-weaker (λ x. is_among (map number xs) (number x) ≡ true) _ (λ x h k. stay0 x) xs (all-among number xs);
    all = all-weaker (λ x. is_among (map number xs) (number x) ≡ true) _ (λ x h. stay0 x) xs (all-among number xs);
    begun = λ h. absurd (omega (arith, h));
    fullest = λ h. absurd (omega (arith, h));
  }
  known-before share xs pending most true stay0 e =
      let fresh : round (map number xs) pending ≡ map number xs = ap (round (map number xs)) (e refl) in
      let n = ap (λ ns. length (take share ns)) fresh in
      record {
        part = all-weaker (λ x. is_among (map number xs) (number x) ≡ true) _ (λ x h k. let f = sym (ap (λ ns. is_among ns (number x)) fresh) ∙ k in absurd (cc (f, h))) xs (all-among number xs);
        all = all-weaker (λ x. is_among (map number xs) (number x) ≡ true) _ (λ x h. stay0 x) xs (all-among number xs);
        begun = λ h. omega (arith, n, length-take share (map number xs), length-map xs number);
        fullest = λ h. absurd (omega (arith, h));
      }

-- one slice more: of what stays up to a moment, this is known later
module _ {X : Type 0} (number : X → ℕ) (Stays Later : ℕ → X → Type 0) (later : (u v : ℕ) (x : X) → v ≤ u → Stays u x → Later v x) (later0 : (x : X) → Later 0 x) where
  pub known-after : (share : ℕ) (p : X → Bool) (xs : List X) (pending after : List ℕ) (most until : ℕ) (over : Bool) (known : KnownStay)
      → after ≡ drop share (round (map number xs) pending) → (over ≡ true → after ≡ [])
      → AllByRecursion (λ x. is_among (take share (round (map number xs) pending)) (number x) ≡ true → Stays until x) (filter p xs)
      → IsKnown number Stays share xs pending most known
      → IsKnown number Later share (filter p xs) after (max most (length (take share (round (map number xs) pending)))) (known_after known until over)
  known-after share p xs pending after most until over known ea eo told h = go over eo
    where
      ns : List ℕ
      ns = round (map number xs) pending

      ys : List X
      ys = filter p xs

      more : ℕ
      more = max most (length (take share ns))

      fewer : length ys ≤ length xs
      fewer = fewer-all p xs

      one : (x : X) → (is_among ns (number x) ≡ false → Stays known.part x) → (is_among (take share ns) (number x) ≡ true → Stays until x)
          → is_among (drop share ns) (number x) ≡ false → (b : Bool) → is_among (take share ns) (number x) ≡ b → Later (min known.part until) x
      one x k t e true f = later until (min known.part until) x (omega arith) (t f)
      one x k t e false f = later known.part (min known.part until) x (omega arith) (k (not-first share (number x) ns f e))

      part : AllByRecursion (λ x. is_among after (number x) ≡ false → Later (min known.part until) x) ys
      part = all-both _ _ _ (λ x k t e. one x k t (sym (ap (λ zs. is_among zs (number x)) ea) ∙ e) (is_among (take share ns) (number x)) refl) ys
          (all-filter p (λ x. is_among ns (number x) ≡ false → Stays known.part x) xs h.part) told

      go : (b : Bool) → (b ≡ true → after ≡ []) → IsKnown number Later share ys after more (known_after known until b)
      go true e =
          let none : after ≡ [] = e refl in
          let new = known-before number Later share ys after more true later0 (λ _. none) in
          record {
            part = new.part;
            all = all-weaker _ _ (λ x k. k (ap (λ zs. is_among zs (number x)) none)) ys part;
            begun = new.begun;
            fullest = λ k. let b = h.begun (omega (arith, k)) in omega (arith, b, fewer);
          }
      go false e = record {
        part = all-weaker _ _ (λ x k f. k (not-pending (map number ys) after (number x) f)) ys part;
        all = all-weaker _ _ (λ x k. later known.all known.all x (omega arith) k) ys (all-filter p (Stays known.all) xs h.all);
        begun = λ k. let b = h.begun (omega (arith, k)) in omega (arith, b, fewer);
        fullest = λ k. let f = h.fullest k in omega (arith, f, fewer);
      }

-- ---- a slice that takes nothing out

filter-same : {X : Type 0} (p : X → Bool) (xs : List X) → AllByRecursion (λ x. p x ≡ true) xs → filter p xs ≡ xs
filter-same p [] h = refl
filter-same p (x ∷ xs) (h, hs) = rw h (ap (λ ys. x ∷ ys) (filter-same p xs hs))

-- the world after a slice of the states that took none out
abbrev half : Conf → World → World
half conf w = lists w.states w.nodes (drop (state_share conf) (state_round w)) w.pending_nodes w.made

half-stood : (conf : Conf) (w : World) (s : ℕ) → filter (stays conf w.states s (take (state_share conf) (state_round w))) w.states ≡ w.states → state_slice conf w s ≡ half conf w
half-stood conf w s es =
    let ps = drop (state_share conf) (state_round w) in
    (λ i. lists (es i) (map (node_after_leaving conf w.states (es i) s) w.nodes) ps w.pending_nodes w.made)
    ∙ ap (λ (ns : List Node). lists w.states ns ps w.pending_nodes w.made) (sym (retained-same conf w.states s w.nodes))

-- ---- a second, and what is known after it

abbrev number_of_state : State → ℕ
number_of_state s = s.number

abbrev number_of_node : Node → ℕ
number_of_node n = n.number

pub states-before : (conf : Conf) (w : World) (most : ℕ) (begins : Bool) → (begins ≡ true → w.pending_states ≡ []) → AreStatesKnown conf w most (known_before begins)
states-before conf w most begins e = known-before number_of_state (StateStays conf w.states) (state_share conf) w.states w.pending_states most begins (λ x. omega arith) e

pub nodes-before : (conf : Conf) (w : World) (most : ℕ) (begins : Bool) → (begins ≡ true → w.pending_nodes ≡ []) → AreNodesKnown conf w most (known_before begins)
nodes-before conf w most begins e = known-before number_of_node (NodeStays conf w.states) (node_share conf) w.nodes w.pending_nodes most begins (λ x z. omega arith) e

-- what is known of the nodes behind a slice of the states
nodes-behind : (conf : Conf) (w : World) (s most left : ℕ) (before known : KnownStay) → left ≡ (state_slice_of conf w s).removed → (left ≡ 0 → known ≡ before)
    → (0 < left → AreNodesKnown conf (state_slice conf w s) most known) → AreNodesKnown conf w most before → AreNodesKnown conf (state_slice conf w s) most known
nodes-behind conf w s most left before known e same anew h = go (left == 0) refl
  where
    go : (b : Bool) → (left == 0) ≡ b → AreNodesKnown conf (state_slice conf w s) most known
    go true t =
        let none : left ≡ 0 = grind (arith, nat_tests, t) in
        let stood = half-stood conf w s (filter-all (stays conf w.states s (take (state_share conf) (state_round w))) w.states (omega (arith, none, e))) in
        subst (λ (q : World × KnownStay). AreNodesKnown conf q.0 most q.1) (λ i. (sym stood i, sym (same none) i)) h
    go false t = anew (grind (arith, nat_tests, t))

pub second-known : (conf k : Conf) (w between after : World) (s next : ℕ) (at : Passage) (states nodes : SliceTold) (known ks kn : KnownStay) (p : Purged) → k ≡ conf
    → between ≡ state_slice conf w s → states.slice ≡ state_slice_of conf w s → SliceStays conf w states.until between.states → (states.over ≡ true → between.pending_states ≡ [])
    → after ≡ node_slice k between s → NodeSliceStays k between nodes.until after.nodes → (nodes.over ≡ true → after.pending_nodes ≡ [])
    → (states.slice.removed ≡ 0 → known ≡ at.nodes) → (0 < states.slice.removed → (most : ℕ) → AreNodesKnown k between most known)
    → p ≡ purged_both at.purged (purged_in true conf w s) → ks ≡ known_after at.states states.until states.over → kn ≡ known_after known nodes.until nodes.over
    → IsPassage conf w at → IsPassage conf after (record { second = next; purged = p; states = ks; nodes = kn })
second-known conf k w between after s next at states nodes known ks kn p ek eb es us os ea un on same anew ep eks ekn h =
    let slice = state_slice conf w s in
    let is : after ≡ node_slice conf slice s = ea ∙ (λ i. node_slice (ek i) (eb i) s) in
    let stayed = stays conf w.states s (take (state_share conf) (state_round w)) in
    let kept = node_stays conf slice.states s (take (node_share conf) (node_round slice)) in
    let behind = nodes-behind conf w s at.purged.most_nodes states.slice.removed at.nodes known (ap (λ (x : Slice). x.removed) es) same
    (λ l. subst (λ (q : Conf × World). AreNodesKnown q.0 q.1 at.purged.most_nodes known) (λ i. (ek i, eb i)) (anew l at.purged.most_nodes)) h.nodes in
    subst (λ (q : World × Purged × KnownStay × KnownStay). IsPassage conf q.0 (record { second = next; purged = q.1; states = q.2; nodes = q.3 }))
    (λ i. (sym is i, sym ep i, sym eks i, sym ekn i)) (record {
      states = known-after number_of_state (StateStays conf w.states) (StateStays conf slice.states) (λ u v x l t. stays-longer conf stayed w.states v x (omega (arith, l, t))) (λ x. omega arith)
          (state_share conf) stayed w.states w.pending_states slice.pending_states at.purged.most_states states.until states.over at.states refl
          (λ o. sym (ap (λ (v : World). v.pending_states) eb) ∙ os o) (subst (λ (v : World). SliceStays conf w states.until v.states) eb us) h.states;
      nodes = known-after number_of_node (NodeStays conf slice.states) (NodeStays conf slice.states) (λ u v x l t z. let m = t z in omega (arith, l, m)) (λ x z. omega arith)
          (node_share conf) kept slice.nodes slice.pending_nodes (node_slice conf slice s).pending_nodes at.purged.most_nodes nodes.until nodes.over known refl
          (λ o. sym (ap (λ (v : World). v.pending_nodes) is) ∙ on o)
          (subst (λ (q : Conf × World × World). NodeSliceStays q.0 q.1 nodes.until q.2.nodes) (λ i. (ek i, eb i, is i)) un) behind;
      looks = ap (λ n. max n (state_slice_of conf w s).examined) h.looks;
    })

-- ---- quiet seconds

-- nothing leaves before a moment, and no slice of a round examines more than was told
record IsStill (conf : Conf) (w : World) (until : ℕ) (p : Purged) : Type 0 where
  states : AllByRecursion (StateStays conf w.states until) w.states
  nodes : AllByRecursion (NodeStays conf w.states until) w.nodes
  states_fit : length w.pending_states ≤ length (state_numbers w.states)
  nodes_fit : length w.pending_nodes ≤ length (node_numbers w.nodes)
  few_states : min (state_share conf) (length (state_numbers w.states)) ≤ p.most_states
  few_nodes : min (node_share conf) (length (node_numbers w.nodes)) ≤ p.most_nodes
  looks : p.looks ≡ p.most_states

not-yet : (until due s : ℕ) → until ≤ due → s < until → nat_le due s ≡ false
not-yet until due s h l = grind (arith, nat_tests, h, l)

either-stays : (b : Bool) → not (b && false) ≡ true
either-stays true = refl
either-stays false = refl

states-stay : (conf : Conf) (xs : List State) (until s : ℕ) (examined : List ℕ) → s < until → AllByRecursion (StateStays conf xs until) xs → filter (stays conf xs s examined) xs ≡ xs
states-stay conf xs until s examined l h =
    filter-same (stays conf xs s examined) xs (all-weaker _ _ (λ x k. let fresh : has_expired conf xs s x ≡ false = not-yet until _ s k l in
    ap (λ b. not (is_among examined x.number && b)) fresh ∙ either-stays (is_among examined x.number)) xs h)

nodes-stay : (conf : Conf) (held : List State) (until s : ℕ) (examined : List ℕ) (ns : List Node) → s < until → AllByRecursion (NodeStays conf held until) ns → filter (node_stays conf held s examined) ns ≡ ns
nodes-stay conf held until s examined ns l h =
    filter-same (node_stays conf held s examined) ns (all-weaker _ _ (λ n k. let on = held_on n k (node_states conf n.scope n.source held == 0) refl in
    ap (λ b. not (is_among examined n.number && b)) on ∙ either-stays (is_among examined n.number)) ns h)
  where
    held_on : (n : Node) → NodeStays conf held until n → (b : Bool) → (node_states conf n.scope n.source held == 0) ≡ b → is_over conf held s n ≡ false
    held_on n k true e = let fresh = not-yet until n.expires s (k (grind (arith, nat_tests, e))) l in (λ i. e i && fresh i)
    held_on n k false e = ap (λ b. b && nat_le n.expires s) e

-- one of them
second-moved : (conf : Conf) (w : World) (until s : ℕ) (p : Purged) → s < until → IsStill conf w until p
    → (world_after_quiet conf 1 w ≡ purge conf w s) × (p ≡ purged_both p (purged_in true conf w s)) × IsStill conf (world_after_quiet conf 1 w) until p
second-moved conf w until s p l h =
    let stood = half-stood conf w s (states-stay conf w.states until s (take (state_share conf) (state_round w)) l h.states) in
    let kept = nodes-stay conf w.states until s (take (node_share conf) (node_round w)) w.nodes l h.nodes in
    let seen = ap (λ (v : World). (node_slice_of conf v s).examined) stood in
    let fits = round-fits (state_numbers w.states) w.pending_states h.states_fit in
    let node_fits = round-fits (node_numbers w.nodes) w.pending_nodes h.nodes_fit in
    let few : length (take (state_share conf) (state_round w)) ≤ p.most_states = omega (arith, fits, h.few_states, length-take (state_share conf) (state_round w)) in
    let node_few : length (take (node_share conf) (node_round w)) ≤ p.most_nodes = omega (arith, node_fits, h.few_nodes, length-take (node_share conf) (node_round w)) in
    let looks : p.looks ≡ max p.looks (length (take (state_share conf) (state_round w))) = omega (arith, few, h.looks) in
    let states : p.most_states ≡ max p.most_states (length (take (state_share conf) (state_round w))) = omega (arith, few) in
    let nodes : p.most_nodes ≡ max p.most_nodes (node_slice_of conf (state_slice conf w s) s).examined = omega (arith, node_few, seen) in (
      sym (ap (λ (v : World). node_slice conf v s) stood ∙ ap (λ (ns : List Node). lists w.states ns (drop (state_share conf) (state_round w)) (drop (node_share conf) (node_round w)) w.made) kept),
      (λ i. purged_with (looks i) (states i) (nodes i)),
      record {
        states = h.states;
        nodes = h.nodes;
        states_fit = omega (arith, fits, length-drop (state_share conf) (state_round w));
        nodes_fit = omega (arith, node_fits, length-drop (node_share conf) (node_round w));
        few_states = h.few_states;
        few_nodes = h.few_nodes;
        looks = h.looks;
      },
    )
  where
    round-fits : (held pending : List ℕ) → length pending ≤ length held → length (round held pending) ≤ length held
    round-fits held [] k = omega arith
    round-fits held (n ∷ pending) k = k

quiet-left : (conf : Conf) (until to k second : ℕ) (w : World) (p : Purged) → second + k < until → second + k ≤ to → IsStill conf w until p
    → done_after true conf (done_of (world_after_quiet conf k w) p) (seconds (second + k) to) ≡ done_after true conf (done_of w p) (seconds second to)
quiet-left conf until to zero second w p l m h = let e : second + 0 ≡ second = omega arith in ap (λ n. done_after true conf (done_of w p) (seconds n to)) e
quiet-left conf until to (suc k) second w p l m h =
    let e : second + suc k ≡ second + 1 + k = omega arith in
    let one = second-moved conf w until (second + 1) p (omega (arith, l)) h in
    ap (λ n. done_after true conf (done_of (world_after_quiet conf (suc k) w) p) (seconds n to)) e
    ∙ quiet-left conf until to k (second + 1) (world_after_quiet conf 1 w) p (omega (arith, l)) (omega (arith, m)) one.2
    ∙ one-done true conf w (world_after_quiet conf 1 w) p p second to (omega (arith, m)) one.0 one.1

-- all of them
pub passed-left : (conf : Conf) (w w' : World) (at : Passage) (p : Purged) (quiet second to : ℕ) → 0 < quiet → w' ≡ world_after_quiet conf quiet w → p ≡ at.purged → second ≡ at.second + quiet
    → at.second + quiet ≤ to → at.second + quiet < at.states.all → at.second + quiet < at.nodes.all
    → length w.pending_states ≤ length w.states → length w.pending_nodes ≤ length w.nodes → IsPassage conf w at
    → done_after true conf (done_of w' p) (seconds second to) ≡ done_after true conf (done_of w at.purged) (seconds at.second to)
passed-left conf w w' at p quiet second to some ew ep es m ls ln fs fn h =
    let until = min at.states.all at.nodes.all in
    let few = h.states.fullest (omega (arith, ls)) in
    let node_few = h.nodes.fullest (omega (arith, ln)) in
    let s = length-map w.states number_of_state in
    let n = length-map w.nodes number_of_node in
    (λ i. done_after true conf (done_of (ew i) (ep i)) (seconds (es i) to))
    ∙ quiet-left conf until to quiet at.second w at.purged (omega (arith, ls, ln)) m (record {
      states = all-weaker _ _ (λ x k. omega (arith, k)) w.states h.states.all;
      nodes = all-weaker _ _ (λ x k z. let l = k z in omega (arith, l)) w.nodes h.nodes.all;
      states_fit = omega (arith, fs, s);
      nodes_fit = omega (arith, fn, n);
      few_states = omega (arith, few, s);
      few_nodes = omega (arith, node_few, n);
      looks = h.looks;
    })
