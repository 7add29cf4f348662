-- The world of a store after each change of what is held, and what every store keeps.
use Rattle.std.proofs.Common.{◌≡◌, ◌∙◌, ◌+◌, ◌-◌, ◌<◌, ◌≤◌, ◌==◌, ◌&&◌, ◌||◌, ℕ, nat_lt, Bool, true, false, not, if◌then◌else◌, Option, Some, None, is_some, List, [], ◌∷◌, ◌++◌, length, map, filter, take, drop, slice_get, slice_index, refl, ap, sym, subst, arith}
use Rattle.std.specs.List.{AllByRecursion}
use Rattle.std.proofs.lemmas.Bool.Decides.{nat_tests}
use Rattle.std.proofs.lemmas.Option.{slice_get_past}
use Rattle.pfs_addr_values.specs.Packets.{PacketView, run_limit}
use Rattle.pfs_addr_values.specs.declared.addresses.Addr.{Addr}
use Rattle.pfs_addr_values.specs.declared.packets.Dir.{Dir}
use Rattle.pfs_conf_values.specs.Configs.{Conf}
use Rattle.pfs_conf_values.specs.declared.actions.Rate.{Rate}
use Rattle.pfs_conf_values.specs.declared.items.RuleNo.{RuleNo}
use Rattle.pfs_conf_values.specs.Profiles.{effective}
use Rattle.pfs_conf_values.specs.declared.profiles.Profile.{Profile}
use Rattle.pfs_conf_values.specs.declared.profiles.Profile.TheVariants as profile
use Rattle.pfs_track.specs.Lifetimes.{is_expired, scaled_lifetime}
use Rattle.pfs_track.specs.Scores.{score_after}
use Rattle.pfs_store_contract.specs.Admission.{new_node, nodes_with}
use Rattle.pfs_store_contract.proofs.SliceLaws.{lifetime-unread}
use Rattle.pfs_store_contract.specs.Counts.{has_node, is_node, node_scope_of, node_states, rule_states}
use Rattle.pfs_store_contract.specs.Calls.{source_states, stays_elsewhere, stays_unflushed}
use Rattle.pfs_store_contract.specs.Leaving.{is_beside, is_flushed, is_from_to, node_after_leaving, node_retention, world_without}
use Rattle.pfs_store_contract.specs.Plain.{AreCounts}
use Rattle.pfs_store_contract.specs.Purging.{has_expired, is_among, node_numbers, round, state_numbers, state_share, state_slice, stays}
use Rattle.pfs_store_contract.specs.Touching.{completes_at, nodes_scored, nodes_touched, numbered_state_after, node_after_handshake, world_after_touch}
use Rattle.pfs_store_contract.specs.Worlds.{holds_number, lists}
use Rattle.pfs_store_contract.specs.declared.kills.FromTo.{FromTo}
use Rattle.pfs_store_contract.specs.declared.records.Node.{Node}
use Rattle.pfs_store_contract.specs.declared.records.NodeScope.{NodeScope}
use Rattle.pfs_store_contract.specs.declared.records.State.{State}
use Rattle.pfs_store_records.specs.Records.{IsAbove, between}
use Rattle.pfs_store_index.specs.Holdings.{Holding}
use Rattle.pfs_store_index.specs.Rounds.{waiting}
use Rattle.pfs_store_index.specs.QuietPurges.{StateStays}
use Rattle.pfs_store_index.specs.Staying.{StatesHold}
use Rattle.pfs_store_index.specs.Stored.{due_at, AreUnread, IsNumbered, IsStored, has_pair, is_due, world_of}
use Rattle.pfs_store_index.proofs.Turning.{all-numbers, in_range}
use Rattle.pfs_store_index.proofs.Leavings.{state_number}
use Rattle.pfs_store_index.proofs.Meetings.{blind, map-blind}
use Rattle.pfs_store_records.proofs.Searches.{all-push, map-push}
use Rattle.pfs_store_records.proofs.Rising.{Above, Apart, IsRisingBy, head-above, head-apart, rest-rising}
use Rattle.pfs_store_index.proofs.RisingWalks.{stays_by}

-- ---- numbers

pub numbered-filter : {X : Type 0} (number : X → ℕ) (p : X → Bool) (made : ℕ) (xs : List X) → IsNumbered made (map number xs) → IsNumbered made (map number (filter p xs))
numbered-filter number p made [] h = tt
numbered-filter number p made (x ∷ xs) (h, hs) = go (p x) (numbered-filter number p made xs hs)
  where
    go : (b : Bool) → IsNumbered made (map number (filter p xs)) → IsNumbered made (map number (if b then x ∷ filter p xs else filter p xs))
    go true m = (h, m)
    go false m = m

numbered-later : (made : ℕ) (numbers : List ℕ) → IsNumbered made numbers → IsNumbered (made + 1) numbers
numbered-later made [] h = tt
numbered-later made (n ∷ ns) (h, hs) = ((h.0, omega (arith, h.1)), numbered-later made ns hs)

numbered-grown : (made : ℕ) (numbers : List ℕ) → IsNumbered made numbers → IsNumbered (made + 1) (numbers ++ (made + 1) ∷ [])
numbered-grown made numbers k = all-push (λ k. (1 ≤ k) × (k ≤ made + 1)) (made + 1) numbers (numbered-later made numbers k) (omega arith, omega arith)

numbers-kept : (conf : Conf) (before after : List State) (now : ℕ) (ns : List Node) → node_numbers (map (node_after_leaving conf before after now) ns) ≡ node_numbers ns
numbers-kept conf before after now [] = refl
numbers-kept conf before after now (n ∷ ns) = (λ i. go (nat_lt 0 (node_states conf n.scope n.source before) && (node_states conf n.scope n.source after == 0)) i ∷ numbers-kept conf before after now ns i)
  where
    go : (b : Bool) → (if b then record n { expires = now + node_retention conf n.scope } else n).number ≡ n.number
    go true = refl
    go false = refl

pub numbers-renewed : (n : ℕ) (p : PacketView) (now : ℕ) (xs : List State) → state_numbers (map (numbered_state_after n p now) xs) ≡ state_numbers xs
numbers-renewed n p now xs = map-blind n p now (λ (s : State). s.number) xs (blind n p now (λ (s : State). s.number) (λ s. refl))

numbers-scored : (ns : List Node) (a : Addr) (now : ℕ) (sc : Option NodeScope) (rate : Option Rate) → node_numbers (nodes_scored ns a now sc rate) ≡ node_numbers ns
numbers-scored ns a now None rate = refl
numbers-scored ns a now (Some sc) None = refl
numbers-scored ns a now (Some sc) (Some rate) = each ns
  where
    each : (ns : List Node) → node_numbers (map (node_after_handshake sc a rate.seconds now) ns) ≡ node_numbers ns
    each [] = refl
    each (n ∷ ns) = (λ i. go (is_node sc a n) i ∷ each ns i)
      where
        go : (b : Bool) → (if b then record n { score = score_after rate.seconds n.score now } else n).number ≡ n.number
        go true = refl
        go false = refl

-- at most as many as were made
module _ {X : Type 0} (number : X → ℕ) where
  few-above : (low made : ℕ) (xs : List X) → IsRisingBy number xs → Above number low xs → IsNumbered made (map number xs) → low ≤ made → length xs + low ≤ made
  few-above low made [] r a h l = omega arith
  few-above low made (x ∷ xs) r (a, more) (h, hs) l =
      let m = few-above (number x) made xs (rest-rising number x xs r) (head-above number x xs r) hs h.1 in omega (arith, m, a)

  above-zero : (made : ℕ) (xs : List X) → IsNumbered made (map number xs) → Above number 0 xs
  above-zero made [] h = tt
  above-zero made (x ∷ xs) (h, hs) = (omega (arith, h.0), above-zero made xs hs)

  pub few-numbers : (made : ℕ) (xs : List X) → IsRisingBy number xs → IsNumbered made (map number xs) → length xs ≤ made
  few-numbers made xs r h = omega (arith, few-above 0 made xs r (above-zero made xs h) h (omega arith))

pub few-numbered : (made : ℕ) (xs : List State) → IsRisingBy state_number xs → IsNumbered made (state_numbers xs) → length xs ≤ made
few-numbered made xs r h = few-numbers state_number made xs r h

pub made-above : (made : ℕ) (numbers : List ℕ) → IsNumbered made numbers → IsAbove (made + 1) numbers
made-above made [] h = tt
made-above made (n ∷ ns) (h, hs) = (omega (arith, h.1), made-above made ns hs)

-- ---- what is pending where states leave

same_self : (k : ℕ) → (k == k) ≡ true
same_self k = grind (arith, nat_tests)

apart-none : (p : State → Bool) (n : ℕ) (xs : List State) → Apart state_number n xs → holds_number (filter p xs) n ≡ false
apart-none p n [] a = refl
apart-none p n (x ∷ xs) (a, more) = go (p x) (apart-none p n xs more)
  where
    go : (b : Bool) → holds_number (filter p xs) n ≡ false → holds_number (if b then x ∷ filter p xs else filter p xs) n ≡ false
    go true m = ap (λ b. b || holds_number (filter p xs) n) a ∙ m
    go false m = m

flip_no : (a b : ℕ) → (a == b) ≡ false → (b == a) ≡ false
flip_no a b h = grind (arith, nat_tests)

-- a number is held among those that stay where its state stays
hold-stays : (p : State → Bool) (xs : List State) → IsRisingBy state_number xs → AllByRecursion (λ (x : State). holds_number (filter p xs) x.number ≡ p x) xs
hold-stays p [] r = tt
hold-stays p (x ∷ xs) r = (own (p x) refl, later xs (head-apart state_number x xs r) (hold-stays p xs (rest-rising state_number x xs r)))
  where
    own : (b : Bool) → p x ≡ b → holds_number (filter p (x ∷ xs)) x.number ≡ p x
    own true e = rw (e, same_self x.number) refl
    own false e = rw e (apart-none p x.number xs (head-apart state_number x xs r))

    drop_head : (b : Bool) (k : ℕ) → (k == x.number) ≡ false → holds_number (if b then x ∷ filter p xs else filter p xs) k ≡ holds_number (filter p xs) k
    drop_head true k d = ap (λ b. b || holds_number (filter p xs) k) (flip_no k x.number d)
    drop_head false k d = refl

    later : (ys : List State) → Apart state_number x.number ys → AllByRecursion (λ (y : State). holds_number (filter p xs) y.number ≡ p y) ys
        → AllByRecursion (λ (y : State). holds_number (filter p (x ∷ xs)) y.number ≡ p y) ys
    later [] a h = tt
    later (y ∷ ys) (a, more) (h, hs) = (drop_head (p x) y.number a ∙ h, later ys more hs)

waiting-held : (c m : ℕ) (held : ℕ → Bool) (p : State → Bool) (xs : List State) → AllByRecursion (λ (x : State). held x.number ≡ p x) xs
    → waiting c m (state_numbers (filter p xs)) ≡ filter held (waiting c m (state_numbers xs))
waiting-held c m held p [] h = refl
waiting-held c m held p (x ∷ xs) (h, hs) = go (waiting-held c m held p xs hs) (p x) refl (between c m x.number) refl
  where
    go : waiting c m (state_numbers (filter p xs)) ≡ filter held (waiting c m (state_numbers xs)) → (a : Bool) → p x ≡ a → (b : Bool) → between c m x.number ≡ b
        → waiting c m (state_numbers (filter p (x ∷ xs))) ≡ filter held (waiting c m (state_numbers (x ∷ xs)))
    go e true t true u = let k : held x.number ≡ true = h ∙ t in rw (t, u, k) (ap (λ ys. x.number ∷ ys) e)
    go e true t false u = rw (t, u) e
    go e false t true u = let k : held x.number ≡ false = h ∙ t in rw (t, u, k) e
    go e false t false u = rw (t, u) e

pub waiting-without : (c m : ℕ) (p : State → Bool) (xs : List State) → IsRisingBy state_number xs
    → waiting c m (state_numbers (filter p xs)) ≡ filter (holds_number (filter p xs)) (waiting c m (state_numbers xs))
waiting-without c m p xs r = waiting-held c m (holds_number (filter p xs)) p xs (hold-stays p xs r)

-- ---- states leave

pub world-without : (p : State → Bool) (now : ℕ) (h h' : Holding) (c m c' m' made : ℕ) → IsRisingBy state_number h.states → h'.states ≡ filter p h.states
    → h'.nodes ≡ map (node_after_leaving h.config h.states h'.states now) h.nodes → world_of h' c m c' m' made ≡ world_without h.config (world_of h c m c' m' made) p now
world-without p now h h' c m c' m' made r e f =
    let ns : h'.nodes ≡ map (node_after_leaving h.config h.states (filter p h.states) now) h.nodes = f ∙ ap (λ xs. map (node_after_leaving h.config h.states xs now) h.nodes) e in
    let ps : waiting c m (state_numbers h'.states) ≡ filter (holds_number (filter p h.states)) (waiting c m (state_numbers h.states)) =
    ap (λ xs. waiting c m (state_numbers xs)) e ∙ waiting-without c m p h.states r in
    let qs : waiting c' m' (node_numbers h'.nodes) ≡ waiting c' m' (node_numbers h.nodes) =
    ap (waiting c' m') (ap node_numbers ns ∙ numbers-kept h.config h.states (filter p h.states) now h.nodes) in
    (λ i. lists (e i) (ns i) (ps i) (qs i) made)

pub stored-without : (p : State → Bool) (now : ℕ) (h h' : Holding) (c m c' m' c2 m2 made places : ℕ) → h'.config ≡ h.config → h'.states ≡ filter p h.states
    → h'.nodes ≡ map (node_after_leaving h.config h.states h'.states now) h.nodes → IsStored h c m c' m' made places → c2 ≤ m2 → m2 ≤ made → IsStored h' c2 m2 c' m' made places
stored-without p now h h' c m c' m' c2 m2 made places g e f i l k = record {
  order = l;
  mark_made = k;
  node_order = i.node_order;
  node_mark_made = i.node_mark_made;
  few = i.few;
  numbered = subst (λ xs. IsNumbered made (state_numbers xs)) (sym e) (numbered-filter (λ (s : State). s.number) p made h.states i.numbered);
  node_numbered = subst (IsNumbered made) (sym (ap node_numbers f ∙ numbers-kept h.config h.states h'.states now h.nodes)) i.node_numbered;
  places = subst (λ (conf : Conf). places ≤ length conf.items) (sym g) i.places;
  unread = subst (λ (conf : Conf). AreUnread conf places) (sym g) i.unread;
}

-- ---- a slice of the states

pub world-slice : (now share : ℕ) (h h' : Holding) (b k c m c' m' made : ℕ) (rs : List ℕ) → share ≡ state_share h.config
    → rs ≡ round (state_numbers h.states) (waiting b k (state_numbers h.states))
    → h'.states ≡ filter (stays h.config h.states now (take share rs)) h.states → h'.nodes ≡ map (node_after_leaving h.config h.states h'.states now) h.nodes
    → waiting c m (state_numbers h'.states) ≡ drop share rs → world_of h' c m c' m' made ≡ state_slice h.config (world_of h b k c' m' made) now
world-slice now share h h' b k c m c' m' made rs s r e f w =
    let xs : h'.states ≡ filter (stays h.config h.states now (take (state_share h.config) (round (state_numbers h.states) (waiting b k (state_numbers h.states))))) h.states =
    e ∙ (λ i. filter (stays h.config h.states now (take (s i) (r i))) h.states) in
    let ns : h'.nodes ≡ map (node_after_leaving h.config h.states (filter (stays h.config h.states now (take (state_share h.config) (round (state_numbers h.states) (waiting b k (state_numbers h.states))))) h.states) now) h.nodes =
    f ∙ ap (λ ys. map (node_after_leaving h.config h.states ys now) h.nodes) xs in
    let qs : waiting c' m' (node_numbers h'.nodes) ≡ waiting c' m' (node_numbers h.nodes) =
    ap (waiting c' m') (ap node_numbers f ∙ numbers-kept h.config h.states h'.states now h.nodes) in
    (λ i. lists (xs i) (ns i) ((w ∙ (λ j. drop (s j) (r j))) i) (qs i) made)

-- ---- a slice of the nodes

pub stored-nodes : (p : Node → Bool) (h h' : Holding) (c m c' m' c2 m2 made places : ℕ) → h'.config ≡ h.config → h'.states ≡ h.states → h'.nodes ≡ filter p h.nodes
    → IsStored h c m c' m' made places → c2 ≤ m2 → m2 ≤ made → IsStored h' c m c2 m2 made places
stored-nodes p h h' c m c' m' c2 m2 made places g e f i l k = record {
  order = i.order;
  mark_made = i.mark_made;
  node_order = l;
  node_mark_made = k;
  few = i.few;
  numbered = subst (λ xs. IsNumbered made (state_numbers xs)) (sym e) i.numbered;
  node_numbered = subst (λ ns. IsNumbered made (node_numbers ns)) (sym f) (numbered-filter (λ (n : Node). n.number) p made h.nodes i.node_numbered);
  places = subst (λ (conf : Conf). places ≤ length conf.items) (sym g) i.places;
  unread = subst (λ (conf : Conf). AreUnread conf places) (sym g) i.unread;
}

-- ---- a packet of a state

pub world-touched : (s : State) (p : PacketView) (now : ℕ) (h h' : Holding) (c m c' m' made : ℕ) → h'.states ≡ map (numbered_state_after s.number p now) h.states
    → h'.nodes ≡ nodes_touched h.config h.nodes s now (completes_at p s) → world_of h' c m c' m' made ≡ world_after_touch h.config (world_of h c m c' m' made) s p now
world-touched s p now h h' c m c' m' made e f =
    (λ i. lists (e i) (f i) ((ap (λ xs. waiting c m (state_numbers xs)) e ∙ ap (waiting c m) (numbers-renewed s.number p now h.states)) i)
    ((ap (λ ns. waiting c' m' (node_numbers ns)) f ∙ ap (waiting c' m') (same (completes_at p s))) i) made)
  where
    same : (b : Bool) → node_numbers (nodes_touched h.config h.nodes s now b) ≡ node_numbers h.nodes
    same true = numbers-scored h.nodes s.source now (node_scope_of h.config s.rule.0) _
    same false = refl

pub stored-touched : (s : State) (p : PacketView) (now : ℕ) (h h' : Holding) (c m c' m' made places : ℕ) → h'.config ≡ h.config → h'.states ≡ map (numbered_state_after s.number p now) h.states
    → h'.nodes ≡ nodes_touched h.config h.nodes s now (completes_at p s) → IsStored h c m c' m' made places → IsStored h' c m c' m' made places
stored-touched s p now h h' c m c' m' made places g e f i = record {
  order = i.order;
  mark_made = i.mark_made;
  node_order = i.node_order;
  node_mark_made = i.node_mark_made;
  few = i.few;
  numbered = subst (IsNumbered made) (sym (ap state_numbers e ∙ numbers-renewed s.number p now h.states)) i.numbered;
  node_numbered = subst (IsNumbered made) (sym (ap node_numbers f ∙ same (completes_at p s))) i.node_numbered;
  places = subst (λ (conf : Conf). places ≤ length conf.items) (sym g) i.places;
  unread = subst (λ (conf : Conf). AreUnread conf places) (sym g) i.unread;
}
  where
    same : (b : Bool) → node_numbers (nodes_touched h.config h.nodes s now b) ≡ node_numbers h.nodes
    same true = numbers-scored h.nodes s.source now (node_scope_of h.config s.rule.0) _
    same false = refl

-- ---- a state comes

past_mark : (c m made : ℕ) → m ≤ made → between c m (made + 1) ≡ false
past_mark c m made l = grind (arith, nat_tests)

waiting-came : (c m made : ℕ) (numbers : List ℕ) → m ≤ made → waiting c m (numbers ++ (made + 1) ∷ []) ≡ waiting c m numbers
waiting-came c m made [] l = rw (past_mark c m made l) refl
waiting-came c m made (n ∷ ns) l = go (between c m n) (waiting-came c m made ns l)
  where
    go : (b : Bool) → waiting c m (ns ++ (made + 1) ∷ []) ≡ waiting c m ns
        → (if b then n ∷ waiting c m (ns ++ (made + 1) ∷ []) else waiting c m (ns ++ (made + 1) ∷ [])) ≡ (if b then n ∷ waiting c m ns else waiting c m ns)
    go true e = ap (λ ys. n ∷ ys) e
    go false e = e

numbers-with : (ns : List Node) (number : ℕ) (a : Addr) (at : ℕ) (sc : Option NodeScope) (P : List ℕ → Type 0) → P (node_numbers ns) → P (node_numbers ns ++ number ∷ []) → P (node_numbers (nodes_with ns number a at sc))
numbers-with ns number a at None P h k = h
numbers-with ns number a at (Some sc) P h k = go (has_node sc a ns)
  where
    go : (b : Bool) → P (node_numbers (if b then ns else ns ++ new_node number sc a at ∷ []))
    go true = h
    go false = subst P (sym (map-push (λ (n : Node). n.number) (new_node number sc a at) ns)) k

pub world-came : (s : State) (h h' : Holding) (c m c' m' made places : ℕ) → IsStored h c m c' m' made places → s.number ≡ made + 1 → h'.states ≡ h.states ++ s ∷ []
    → h'.nodes ≡ nodes_with h.nodes (made + 1) s.source s.last (node_scope_of h.config s.rule.0)
    → world_of h' c m c' m' (made + 1) ≡ lists (h.states ++ s ∷ []) (nodes_with h.nodes (made + 1) s.source s.last (node_scope_of h.config s.rule.0))
    (waiting c m (state_numbers h.states)) (waiting c' m' (node_numbers h.nodes)) (made + 1)
world-came s h h' c m c' m' made places i n e f =
    (λ j. lists (e j) (f j)
    ((ap (λ xs. waiting c m (state_numbers xs)) e ∙ ap (waiting c m) (map-push (λ (x : State). x.number) s h.states ∙ ap (λ k. state_numbers h.states ++ k ∷ []) n) ∙ waiting-came c m made (state_numbers h.states) i.mark_made) j)
    ((ap (λ ns. waiting c' m' (node_numbers ns)) f
    ∙ numbers-with h.nodes (made + 1) s.source s.last (node_scope_of h.config s.rule.0) (λ ks. waiting c' m' ks ≡ waiting c' m' (node_numbers h.nodes)) refl (waiting-came c' m' made (node_numbers h.nodes) i.node_mark_made)) j)
    (made + 1))

pub stored-came : (s : State) (h h' : Holding) (c m c' m' made places : ℕ) → made < run_limit → IsStored h c m c' m' made places → s.number ≡ made + 1 → h'.config ≡ h.config
    → h'.states ≡ h.states ++ s ∷ [] → h'.nodes ≡ nodes_with h.nodes (made + 1) s.source s.last (node_scope_of h.config s.rule.0) → IsStored h' c m c' m' (made + 1) places
stored-came s h h' c m c' m' made places l i n g e f = record {
  order = i.order;
  mark_made = omega (arith, i.mark_made);
  node_order = i.node_order;
  node_mark_made = omega (arith, i.node_mark_made);
  few = omega arith;
  numbered = subst (IsNumbered (made + 1)) (sym (ap state_numbers e ∙ map-push (λ (x : State). x.number) s h.states ∙ ap (λ k. state_numbers h.states ++ k ∷ []) n)) (numbered-grown made (state_numbers h.states) i.numbered);
  node_numbered = subst (λ ns. IsNumbered (made + 1) (node_numbers ns)) (sym f)
      (numbers-with h.nodes (made + 1) s.source s.last (node_scope_of h.config s.rule.0) (IsNumbered (made + 1)) (numbered-later made (node_numbers h.nodes) i.node_numbered) (numbered-grown made (node_numbers h.nodes) i.node_numbered));
  places = subst (λ (conf : Conf). places ≤ length conf.items) (sym g) i.places;
  unread = subst (λ (conf : Conf). AreUnread conf places) (sym g) i.unread;
}

-- ---- a node comes without a state

pub stored-left : (a : Addr) (now : ℕ) (o : Option NodeScope) (h h' : Holding) (c m c' m' made places : ℕ) → made < run_limit → IsStored h c m c' m' made places → h'.config ≡ h.config
    → h'.states ≡ h.states → h'.nodes ≡ nodes_with h.nodes (made + 1) a now o → IsStored h' c m c' m' (made + 1) places
stored-left a now o h h' c m c' m' made places l i g e f = record {
  order = i.order;
  mark_made = omega (arith, i.mark_made);
  node_order = i.node_order;
  node_mark_made = omega (arith, i.node_mark_made);
  few = omega arith;
  numbered = subst (λ xs. IsNumbered (made + 1) (state_numbers xs)) (sym e) (numbered-later made (state_numbers h.states) i.numbered);
  node_numbered = subst (λ ns. IsNumbered (made + 1) (node_numbers ns)) (sym f)
      (numbers-with h.nodes (made + 1) a now o (IsNumbered (made + 1)) (numbered-later made (node_numbers h.nodes) i.node_numbered) (numbered-grown made (node_numbers h.nodes) i.node_numbered));
  places = subst (λ (conf : Conf). places ≤ length conf.items) (sym g) i.places;
  unread = subst (λ (conf : Conf). AreUnread conf places) (sym g) i.unread;
}

-- ---- a slice under the counts before it

is_less : (n m : ℕ) → nat_lt n m ≡ true → n < m
is_less n m h = grind (arith, nat_tests)

is_not_less : (n m : ℕ) → nat_lt n m ≡ false → m ≤ n
is_not_less n m h = grind (arith, nat_tests)

due-lifetime : (conf : Conf) (counts : List ℕ) (xs : List State) (s : State) → AreCounts counts xs → AreUnread conf (length counts)
    → scaled_lifetime conf s.rule.0 s.phase (slice_index counts s.rule.0) (length xs) ≡ scaled_lifetime conf s.rule.0 s.phase (rule_states s.rule.0 xs) (length xs)
due-lifetime conf counts xs s h u = go (nat_lt s.rule.0 (length counts)) refl
  where
    go : (b : Bool) → nat_lt s.rule.0 (length counts) ≡ b
        → scaled_lifetime conf s.rule.0 s.phase (slice_index counts s.rule.0) (length xs) ≡ scaled_lifetime conf s.rule.0 s.phase (rule_states s.rule.0 xs) (length xs)
    go true t = ap (λ count. scaled_lifetime conf s.rule.0 s.phase count (length xs)) (h s.rule.0 (is_less s.rule.0 (length counts) t))
    go false t =
        lifetime-unread conf s.rule.0 s.phase (slice_index counts s.rule.0) (rule_states s.rule.0 xs) (length xs)
        (u s.rule.0 (is_not_less s.rule.0 (length counts) t))

due-expired : (conf : Conf) (counts : List ℕ) (xs : List State) (now : ℕ) (s : State) → AreCounts counts xs → AreUnread conf (length counts)
    → is_due conf counts (length xs) now s ≡ has_expired conf xs now s
due-expired conf counts xs now s h u = ap (λ seconds. is_expired seconds s.last now) (due-lifetime conf counts xs s h u)

-- up to when states stay is the same under the counts of the first rules
pub due-hold : (conf : Conf) (counts : List ℕ) (all : List State) (examined : List ℕ) (until : ℕ) (xs : List State) → AreCounts counts all → AreUnread conf (length counts)
    → StatesHold (due_at conf counts (length all)) examined until xs
    → AllByRecursion (λ (s : State). is_among examined s.number ≡ true → StateStays conf all until s) xs
due-hold conf counts all examined until [] h u k = tt
due-hold conf counts all examined until (x ∷ xs) h u (k, ks) =
    ((λ e. subst (λ n. until ≤ x.last + n) (due-lifetime conf counts all x h u) (k e)), due-hold conf counts all examined until xs h u ks)

filter-agree : (p q : State → Bool) (xs : List State) → AllByRecursion (λ x. p x ≡ q x) xs → filter p xs ≡ filter q xs
filter-agree p q [] h = refl
filter-agree p q (x ∷ xs) (h, hs) = (λ i. if h i then x ∷ filter-agree p q xs hs i else filter-agree p q xs hs i)

pub due-stays : (conf : Conf) (counts : List ℕ) (all : List State) (now : ℕ) (examined : List ℕ) (xs : List State) → AreCounts counts all → AreUnread conf (length counts)
    → filter (stays_by state_number (is_due conf counts (length all) now) examined) xs ≡ filter (stays conf all now examined) xs
due-stays conf counts all now examined xs h u =
    filter-agree (stays_by state_number (is_due conf counts (length all) now) examined) (stays conf all now examined) xs (each xs)
  where
    each : (ys : List State) → AllByRecursion (λ (y : State). stays_by state_number (is_due conf counts (length all) now) examined y ≡ stays conf all now examined y) ys
    each [] = tt
    each (y ∷ ys) = (ap (λ b. not (is_among examined y.number && b)) (due-expired conf counts all now y h u), each ys)

-- ---- the rules whose counts are read

pub read-within : (b : Bool) (rule read : ℕ) → read ≤ rule → (if b then rule + 1 else read) ≤ rule + 1
read-within true rule read l = omega arith
read-within false rule read l = omega (arith, l)

pub read-more : (has : ℕ → Bool) (rule read : ℕ) → ((r : ℕ) → read ≤ r → r < rule → has r ≡ false) → (r : ℕ) → (if has rule then rule + 1 else read) ≤ r → r < rule + 1 → has r ≡ false
read-more has rule read u r l m = go (has rule) refl l
  where
    same : (n k : ℕ) → (n == k) ≡ true → n ≡ k
    same n k e = grind (arith, nat_tests)

    less : (n k : ℕ) → n < k + 1 → (n == k) ≡ false → n < k
    less n k l e = grind (arith, nat_tests)

    go : (b : Bool) → has rule ≡ b → (if b then rule + 1 else read) ≤ r → has r ≡ false
    go true t l = absurd (omega (arith, l, m))
    go false t l = here (r == rule) refl
      where
        here : (c : Bool) → (r == rule) ≡ c → has r ≡ false
        here true e = ap has (same r rule e) ∙ t
        here false e = u r l (less r rule m e)

-- no rule is past the last one
pub read-all : (conf : Conf) (read : ℕ) → ((r : ℕ) → read ≤ r → r < length conf.items → has_pair conf r ≡ false) → AreUnread conf read
read-all conf read u r l = go (nat_lt r (length conf.items)) refl
  where
    ungiven : (q : Profile) → is_some (effective q None) ≡ false
    ungiven profile.Own = refl
    ungiven profile.OpenBsd74 = refl

    go : (b : Bool) → nat_lt r (length conf.items) ≡ b → has_pair conf r ≡ false
    go true t = u r l (is_less r (length conf.items) t)
    go false t = rw (slice_get_past conf.items r (is_not_less r (length conf.items) t)) (ungiven conf.profile)

-- ---- the states of a source

pub flushed-source : (p : Profile) (d : Dir) (a : Addr) (rule : Option RuleNo) (s : State) → is_flushed p d a rule s ≡ true → is_beside p d a s ≡ true
flushed-source p d a None s h = h
flushed-source p d a (Some r) s h = second (s.rule.0 == r.0) (is_beside p d a s) h
  where
    second : (x y : Bool) → (x && y) ≡ true → y ≡ true
    second true y e = e
    second false y e = absurd cc

abbrev from : Profile → Dir → Addr → ℕ → State → Bool
from p d a made s = is_beside p d a s && between 0 made s.number

from-source : (p : Profile) (d : Dir) (a : Addr) (made : ℕ) (xs : List State) → IsNumbered made (state_numbers xs) → filter (from p d a made) xs ≡ filter (is_beside p d a) xs
from-source p d a made xs h = filter-agree (from p d a made) (is_beside p d a) xs (each xs h)
  where
    and_true : (b c : Bool) → c ≡ true → (b && c) ≡ b
    and_true true c e = e
    and_true false c e = refl

    each : (ys : List State) → IsNumbered made (state_numbers ys) → AllByRecursion (λ (y : State). from p d a made y ≡ is_beside p d a y) ys
    each [] k = tt
    each (y ∷ ys) (k, ks) = (and_true (is_beside p d a y) (between 0 made y.number) (in_range made y.number k.0 k.1), each ys ks)

numbers-length : {X : Type 0} (number : X → ℕ) (xs : List X) → length (map number xs) ≡ length xs
numbers-length number [] = refl
numbers-length number (x ∷ xs) = omega (arith, numbers-length number xs)

pub source-count : (p : Profile) (d : Dir) (a : Addr) (made : ℕ) (xs : List State) → IsNumbered made (state_numbers xs) → length (map (λ (s : State). s.number) (filter (from p d a made) xs)) ≡ source_states p d a xs
source-count p d a made xs h = numbers-length (λ (s : State). s.number) (filter (from p d a made) xs) ∙ ap length (from-source p d a made xs h)

or_true : (b : Bool) → (b || true) ≡ true
or_true true = refl
or_true false = refl

-- every state of the source is among those examined in the end
pub flushed-stays : (p : Profile) (d : Dir) (a : Addr) (rule : Option RuleNo) (made : ℕ) (xs : List State) → IsNumbered made (state_numbers xs)
    → filter (stays_by state_number (is_flushed p d a rule) (map (λ (s : State). s.number) (filter (from p d a made) xs))) xs ≡ filter (stays_unflushed p d a rule) xs
flushed-stays p d a rule made xs h =
    filter-agree (stays_by state_number (is_flushed p d a rule) (map (λ (s : State). s.number) (filter (from p d a made) xs))) (stays_unflushed p d a rule) xs (each xs h (members xs))
  where
    ns : List ℕ
    ns = map (λ (s : State). s.number) (filter (from p d a made) xs)

    among : List State → State → Type 0
    among ys y = from p d a made y ≡ true → is_among (map (λ (s : State). s.number) (filter (from p d a made) ys)) y.number ≡ true

    later : (y : State) (ys zs : List State) → AllByRecursion (among ys) zs → AllByRecursion (among (y ∷ ys)) zs
    later y ys [] k = tt
    later y ys (z ∷ zs) (k, ks) = ((λ f. go (from p d a made y) (k f)), later y ys zs ks)
      where
        go : (b : Bool) → is_among (map (λ (s : State). s.number) (filter (from p d a made) ys)) z.number ≡ true
            → is_among (map (λ (s : State). s.number) (if b then y ∷ filter (from p d a made) ys else filter (from p d a made) ys)) z.number ≡ true
        go true e = ap (λ b. (y.number == z.number) || b) e ∙ or_true (y.number == z.number)
        go false e = e

    members : (ys : List State) → AllByRecursion (among ys) ys
    members [] = tt
    members (y ∷ ys) = ((λ f. rw (f, same_self y.number) refl), later y ys ys (members ys))

    each : (ys : List State) → IsNumbered made (state_numbers ys) → AllByRecursion (among xs) ys
        → AllByRecursion (λ (y : State). stays_by state_number (is_flushed p d a rule) (map (λ (s : State). s.number) (filter (from p d a made) xs)) y ≡ stays_unflushed p d a rule y) ys
    each [] k m = tt
    each (y ∷ ys) (k, ks) (m, ms) = (go (is_flushed p d a rule y) refl, each ys ks ms)
      where
        go : (b : Bool) → is_flushed p d a rule y ≡ b → stays_by state_number (is_flushed p d a rule) (map (λ (s : State). s.number) (filter (from p d a made) xs)) y ≡ stays_unflushed p d a rule y
        go true e =
            let s = flushed-source p d a rule y e in
            let f : from p d a made y ≡ true = (λ i. s i && in_range made y.number k.0 k.1 i) in
            rw (m f, e) refl
        go false e = rw e (no (is_among (map (λ (s : State). s.number) (filter (from p d a made) xs)) y.number))
          where
            no : (b : Bool) → not (b && false) ≡ true
            no true = refl
            no false = refl

-- how many leave
pub left-count : (leaves : State → Bool) (xs : List State) → length xs - length (filter (λ s. not (leaves s)) xs) ≡ length (filter leaves xs)
left-count leaves xs = omega (arith, both xs)
  where
    both : (ys : List State) → length (filter leaves ys) + length (filter (λ s. not (leaves s)) ys) ≡ length ys
    both [] = refl
    both (y ∷ ys) = go (leaves y) (both ys)
      where
        go : (b : Bool) → length (filter leaves ys) + length (filter (λ s. not (leaves s)) ys) ≡ length ys
            → length (if b then y ∷ filter leaves ys else filter leaves ys) + length (if not b then y ∷ filter (λ s. not (leaves s)) ys else filter (λ s. not (leaves s)) ys) ≡ length (y ∷ ys)
        go true e = omega (arith, e)
        go false e = omega (arith, e)

-- how many are flushed
pub flushed-count : (p : Profile) (d : Dir) (a : Addr) (rule : Option RuleNo) (xs : List State) → length xs - length (filter (stays_unflushed p d a rule) xs) ≡ length (filter (is_flushed p d a rule) xs)
flushed-count p d a rule xs = left-count (is_flushed p d a rule) xs

pub flushed-le : (p : Profile) (d : Dir) (a : Addr) (rule : Option RuleNo) (xs : List State) → length (filter (is_flushed p d a rule) xs) ≤ source_states p d a xs
flushed-le p d a rule [] = omega arith
flushed-le p d a rule (x ∷ xs) = go (flushed-le p d a rule xs) (is_flushed p d a rule x) refl (is_beside p d a x) refl
  where
    go : length (filter (is_flushed p d a rule) xs) ≤ source_states p d a xs → (b : Bool) → is_flushed p d a rule x ≡ b → (c : Bool) → is_beside p d a x ≡ c
        → length (filter (is_flushed p d a rule) (x ∷ xs)) ≤ source_states p d a (x ∷ xs)
    go m true t true u = rw (t, u) (omega (arith, m))
    go m true t false u = absurd (cc (flushed-source p d a rule x t, u))
    go m false t true u = rw (t, u) (omega (arith, m))
    go m false t false u = rw (t, u) m

-- ---- all states

-- all numbers wait above 0
pub all-waiting : (made : ℕ) (xs : List State) → IsNumbered made (state_numbers xs) → length (waiting 0 made (state_numbers xs)) ≡ length xs
all-waiting made xs h = ap length (all-numbers made (state_numbers xs) h) ∙ numbers-length (λ (s : State). s.number) xs

-- every state is among those examined in the end
pub killed-stays : (hosts : FromTo) (made : ℕ) (xs : List State) → IsNumbered made (state_numbers xs)
    → filter (stays_by state_number (is_from_to hosts) (waiting 0 made (state_numbers xs))) xs ≡ filter (stays_elsewhere hosts) xs
killed-stays hosts made xs h =
    ap (λ ns. filter (stays_by state_number (is_from_to hosts) ns) xs) (all-numbers made (state_numbers xs) h)
    ∙ filter-agree (stays_by state_number (is_from_to hosts) (state_numbers xs)) (stays_elsewhere hosts) xs (each xs (members xs))
  where
    among : List State → State → Type 0
    among ys y = is_among (state_numbers ys) y.number ≡ true

    later : (y : State) (ys zs : List State) → AllByRecursion (among ys) zs → AllByRecursion (among (y ∷ ys)) zs
    later y ys [] k = tt
    later y ys (z ∷ zs) (k, ks) = (ap (λ b. (y.number == z.number) || b) k ∙ or_true (y.number == z.number), later y ys zs ks)

    members : (ys : List State) → AllByRecursion (among ys) ys
    members [] = tt
    members (y ∷ ys) = (ap (λ b. b || is_among (state_numbers ys) y.number) (same_self y.number), later y ys ys (members ys))

    each : (ys : List State) → AllByRecursion (among xs) ys
        → AllByRecursion (λ (y : State). stays_by state_number (is_from_to hosts) (state_numbers xs) y ≡ stays_elsewhere hosts y) ys
    each [] m = tt
    each (y ∷ ys) (m, ms) = (ap (λ b. not (b && is_from_to hosts y)) m, each ys ms)

-- ---- a number is held where it waits just above the one before

pub held-next : (n : ℕ) (xs : List State) → 1 ≤ n → is_some (slice_get (waiting (n - 1) n (state_numbers xs)) 0) ≡ holds_number xs n
held-next n [] l = refl
held-next n (x ∷ xs) l = rw (same x.number) (go (x.number == n) (held-next n xs l))
  where
    same : (k : ℕ) → between (n - 1) n k ≡ (k == n)
    same k = grind (arith, nat_tests)

    go : (b : Bool) → is_some (slice_get (waiting (n - 1) n (state_numbers xs)) 0) ≡ holds_number xs n
        → is_some (slice_get (if b then x.number ∷ waiting (n - 1) n (state_numbers xs) else waiting (n - 1) n (state_numbers xs)) 0) ≡ (b || holds_number xs n)
    go true e = refl
    go false e = e

pub held-zero : (made : ℕ) (xs : List State) → IsNumbered made (state_numbers xs) → holds_number xs 0 ≡ false
held-zero made [] h = refl
held-zero made (x ∷ xs) (h, hs) = rw (differs x.number h.0) (held-zero made xs hs)
  where
    differs : (k : ℕ) → 1 ≤ k → (k == 0) ≡ false
    differs k l = grind (arith, nat_tests)
