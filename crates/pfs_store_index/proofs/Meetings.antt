-- A packet of a state: each fact of the indexes and counts, of the states and nodes after it.
use Rattle.std.proofs.Common.{◌≡◌, ◌∙◌, ◌+◌, ◌==◌, ◌&&◌, ◌||◌, ℕ, Bool, true, false, cond, if◌then◌else◌, Option, Some, None, List, [], ◌∷◌, length, map, filter, option_map, refl, ap, sym, subst, arith}
use Rattle.std.specs.List.{find, list_any, AllByRecursion}
use Rattle.pfs_addr_values.specs.Packets.{PacketView}
use Rattle.pfs_addr_values.specs.declared.addresses.Addr.{Addr}
use Rattle.pfs_addr_values.specs.declared.packets.FlowKey.{FlowKey}
use Rattle.pfs_conf_values.specs.Configs.{Conf, options_of}
use Rattle.pfs_conf_values.specs.declared.actions.Rate.{Rate}
use Rattle.pfs_track.specs.Scores.{score_after}
use Rattle.pfs_track.specs.StatePhases.{is_done, phase_after}
use Rattle.pfs_store_contract.specs.Counts.{is_connection, is_of_node, node_connections, node_scope_of, node_states}
use Rattle.pfs_store_contract.specs.Touching.{completes_at, goes_forward, nodes_scored, nodes_touched, numbered_state_after, state_after_packet}
use Rattle.pfs_store_contract.specs.declared.records.NodeScope.{NodeScope}
use Rattle.pfs_store_contract.specs.declared.records.State.{State}
use Rattle.pfs_store_records.specs.Records.{Placed, placed_at, states_of}
use Rattle.pfs_store_records.specs.Tallies.{is_tally, nodes_of}
use Rattle.pfs_store_records.specs.declared.nodes.NodeTally.{NodeTally}
use Rattle.pfs_store_records.specs.Changes.{HasTally, IsScored, IsScoped, at_node, is_at, met_by}
use Rattle.pfs_store_index.specs.IndexInvariants.{IsCounted, entry_of}
use Rattle.pfs_store_index.proofs.Leavings.{record_number, state_number}
use Rattle.pfs_store_records.proofs.OneNode.{of_node, tally-at}
use Rattle.pfs_store_records.proofs.Rising.{Apart, IsRisingBy, has_number, head-apart, head-is, rest-rising, same_number}
use Rattle.pfs_store_records.proofs.TallyLaws.{met-faithful}

-- ---- what a packet leaves as it was

abbrev pub IsBlind : {X : Type 0} → ℕ → PacketView → ℕ → (State → X) → Type 0
IsBlind n p now f = (s : State) → f (numbered_state_after n p now s) ≡ f s

pub blind : {X : Type 0} (n : ℕ) (p : PacketView) (now : ℕ) (f : State → X) → ((s : State) → f (state_after_packet p now s) ≡ f s) → IsBlind n p now f
blind n p now f h s = go (s.number == n)
  where
    go : (b : Bool) → f (if b then state_after_packet p now s else s) ≡ f s
    go true = h s
    go false = refl

pub map-blind : {X : Type 0} (n : ℕ) (p : PacketView) (now : ℕ) (f : State → X) (xs : List State) → IsBlind n p now f → map f (map (numbered_state_after n p now) xs) ≡ map f xs
map-blind n p now f [] h = refl
map-blind n p now f (x ∷ xs) h = (λ i. h x i ∷ map-blind n p now f xs h i)

pub count-blind : (n : ℕ) (p : PacketView) (now : ℕ) (q : State → Bool) (xs : List State) → IsBlind n p now q → length (filter q (map (numbered_state_after n p now) xs)) ≡ length (filter q xs)
count-blind n p now q [] h = refl
count-blind n p now q (x ∷ xs) h = rw (h x) (go (count-blind n p now q xs h) (q x))
  where
    go : length (filter q (map (numbered_state_after n p now) xs)) ≡ length (filter q xs) → (b : Bool)
        → length (cond b (numbered_state_after n p now x ∷ filter q (map (numbered_state_after n p now) xs)) (filter q (map (numbered_state_after n p now) xs))) ≡ length (cond b (x ∷ filter q xs) (filter q xs))
    go m true = omega (arith, m)
    go m false = m

pub any-blind : (n : ℕ) (p : PacketView) (now : ℕ) (q : State → Bool) (xs : List State) → IsBlind n p now q → list_any q (map (numbered_state_after n p now) xs) ≡ list_any q xs
any-blind n p now q [] h = refl
any-blind n p now q (x ∷ xs) h = (λ i. h x i || any-blind n p now q xs h i)

pub all-blind : (n : ℕ) (p : PacketView) (now : ℕ) (P : State → Type 0) (xs : List State) → ((s : State) → P s → P (state_after_packet p now s)) → AllByRecursion P xs → AllByRecursion P (map (numbered_state_after n p now) xs)
all-blind n p now P [] keep h = tt
all-blind n p now P (x ∷ xs) keep (h, hs) = (go (x.number == n), all-blind n p now P xs keep hs)
  where
    go : (b : Bool) → P (if b then state_after_packet p now x else x)
    go true = keep x h
    go false = h

-- ---- the record of the state

-- a record after a packet
abbrev pub renewed_record : ℕ → PacketView → ℕ → Placed → Placed
renewed_record n p now r = placed_at r.place (numbered_state_after n p now r.state)

pub states-renewed : (n : ℕ) (p : PacketView) (now : ℕ) (rs : List Placed) → states_of (map (renewed_record n p now) rs) ≡ map (numbered_state_after n p now) (states_of rs)
states-renewed n p now [] = refl
states-renewed n p now (r ∷ rs) = ap (λ xs. numbered_state_after n p now r.state ∷ xs) (states-renewed n p now rs)

pub renew-apart : (n : ℕ) (p : PacketView) (now : ℕ) (rs : List Placed) → Apart record_number n rs → map (renewed_record n p now) rs ≡ rs
renew-apart n p now [] a = refl
renew-apart n p now (r ∷ rs) (a, more) = rw a (ap (λ xs. r ∷ xs) (renew-apart n p now rs more))

-- ---- the indexes by key

pub entry-renewed : (n : ℕ) (p : PacketView) (now : ℕ) (test : Placed → Bool) → ((r : Placed) → test (placed_at r.place (state_after_packet p now r.state)) ≡ test r) → (rs : List Placed)
    → option_map entry_of (find test (map (renewed_record n p now) rs)) ≡ option_map entry_of (find test rs)
entry-renewed n p now test same [] = refl
entry-renewed n p now test same (r ∷ rs) = on (r.state.number == n) (entry-renewed n p now test same rs)
  where
    go : (x : Placed) → entry_of x ≡ entry_of r → (b : Bool) → option_map entry_of (find test (map (renewed_record n p now) rs)) ≡ option_map entry_of (find test rs)
        → option_map entry_of (cond b (Some x) (find test (map (renewed_record n p now) rs))) ≡ option_map entry_of (cond b (Some r) (find test rs))
    go x e true m = ap Some e
    go x e false m = m

    on : (c : Bool) → option_map entry_of (find test (map (renewed_record n p now) rs)) ≡ option_map entry_of (find test rs)
        → option_map entry_of (cond (test (placed_at r.place (if c then state_after_packet p now r.state else r.state))) (Some (placed_at r.place (if c then state_after_packet p now r.state else r.state))) (find test (map (renewed_record n p now) rs)))
        ≡ option_map entry_of (cond (test r) (Some r) (find test rs))
    on true m =
        ap (λ b. option_map entry_of (cond b (Some (placed_at r.place (state_after_packet p now r.state))) (find test (map (renewed_record n p now) rs)))) (same r)
        ∙ go (placed_at r.place (state_after_packet p now r.state)) refl (test r) m
    on false m = go r refl (test r) m

pub keys-renewed : (key : State → FlowKey) (n : ℕ) (p : PacketView) (now : ℕ) → ((s : State) → key (state_after_packet p now s) ≡ key s) → (rs : List Placed)
    → map (λ (r : Placed). key r.state) (map (renewed_record n p now) rs) ≡ map (λ (r : Placed). key r.state) rs
keys-renewed key n p now same [] = refl
keys-renewed key n p now same (r ∷ rs) = (λ i. blind n p now key same r.state i ∷ keys-renewed key n p now same rs i)

-- ---- the node of the state

-- a count of states, which only that of the number changes
count-renewed : (n : ℕ) (p : PacketView) (now : ℕ) (q : State → Bool) (s : State) (xs : List State) → IsRisingBy state_number xs → find (has_number state_number n) xs ≡ Some s
    → length (filter q (map (numbered_state_after n p now) xs)) + cond (q s) 1 0 ≡ length (filter q xs) + cond (q (state_after_packet p now s)) 1 0
count-renewed n p now q s [] r f = absurd cc
count-renewed n p now q s (x ∷ xs) r f = go (count-renewed n p now q s xs (rest-rising state_number x xs r)) (x.number == n) refl
  where
    apart : (ys : List State) → Apart state_number n ys → map (numbered_state_after n p now) ys ≡ ys
    apart [] a = refl
    apart (y ∷ ys) (a, more) = rw a (ap (λ zs. y ∷ zs) (apart ys more))

    add : (u v : Bool) (ys zs : List State) (y z : State) → length ys ≡ length zs → length (cond v (y ∷ ys) ys) + cond u 1 0 ≡ length (cond u (z ∷ zs) zs) + cond v 1 0
    add true true ys zs y z e = omega (arith, e)
    add true false ys zs y z e = omega (arith, e)
    add false true ys zs y z e = omega (arith, e)
    add false false ys zs y z e = omega (arith, e)

    same : length (filter q (map (numbered_state_after n p now) xs)) + cond (q s) 1 0 ≡ length (filter q xs) + cond (q (state_after_packet p now s)) 1 0 → (b : Bool)
        → length (cond b (x ∷ filter q (map (numbered_state_after n p now) xs)) (filter q (map (numbered_state_after n p now) xs))) + cond (q s) 1 0 ≡ length (cond b (x ∷ filter q xs) (filter q xs)) + cond (q (state_after_packet p now s)) 1 0
    same m true = omega (arith, m)
    same m false = m

    go : (find (has_number state_number n) xs ≡ Some s → length (filter q (map (numbered_state_after n p now) xs)) + cond (q s) 1 0 ≡ length (filter q xs) + cond (q (state_after_packet p now s)) 1 0) → (b : Bool) → (x.number == n) ≡ b
        → length (filter q (map (numbered_state_after n p now) (x ∷ xs))) + cond (q s) 1 0 ≡ length (filter q (x ∷ xs)) + cond (q (state_after_packet p now s)) 1 0
    go more true t =
        let k = head-is state_number n x s xs t f in
        let a : Apart state_number n xs = subst (λ m. Apart state_number m xs) (same_number n x.number t) (head-apart state_number x xs r) in
        let e : length (filter q (map (numbered_state_after n p now) xs)) ≡ length (filter q xs) = ap (λ ys. length (filter q ys)) (apart xs a) in
        subst (λ (z : State). length (filter q (map (numbered_state_after n p now) (x ∷ xs))) + cond (q z) 1 0 ≡ length (filter q (x ∷ xs)) + cond (q (state_after_packet p now z)) 1 0) k
        (rw t (add (q x) (q (state_after_packet p now x)) _ _ (state_after_packet p now x) x e))
    go more false t = rw t (same (more (rw t at f)) (q x))

-- the handshake of a state has completed after a packet where it had before, or where it completes with it
abbrev pub CountsDone : State → PacketView → Type 0
CountsDone s p = ◌≡◌ {A = ℕ} (cond (is_done (phase_after s.phase (goes_forward p s) p.flags)) 1 0) (cond (is_done s.phase) 1 0 + cond (completes_at p s) 1 0)

recount : (conf : Conf) (xs : List State) (t u : NodeTally) → u.node.scope ≡ t.node.scope → u.node.source ≡ t.node.source
    → u.states ≡ node_states conf t.node.scope t.node.source xs → u.connections ≡ node_connections conf t.node.scope t.node.source xs → IsCounted conf xs u
recount conf xs t u p q m n =
    (λ j. record {
      node = u.node;
      states = (m ∙ (λ i. node_states conf (sym p i) (sym q i) xs)) j;
      connections = (n ∙ (λ i. node_connections conf (sym p i) (sym q i) xs)) j;
    })

met-states : (rate : Option Rate) (now : ℕ) (c : Bool) (t : NodeTally) → (met_by rate now c t).states ≡ t.states
met-states rate now true t = refl
met-states rate now false t = refl

met-connections : (rate : Option Rate) (now : ℕ) (c : Bool) (t : NodeTally) → (met_by rate now c t).connections ≡ t.connections + cond c 1 0
met-connections rate now true t = refl
met-connections rate now false t = omega arith

counted-met : (conf : Conf) (n : ℕ) (p : PacketView) (now : ℕ) (rate : Option Rate) (s : State) (xs : List State) (t : NodeTally) → IsRisingBy state_number xs
    → find (has_number state_number n) xs ≡ Some s → CountsDone s p → IsScoped conf t → IsCounted conf xs t
    → IsCounted conf (map (numbered_state_after n p now) xs) (at_node (node_scope_of conf s.rule.0) s.source (met_by rate now (completes_at p s)) t)
counted-met conf n p now rate s xs t r f k h e = go (is_at (node_scope_of conf s.rule.0) s.source t) refl
  where
    c : node_states conf t.node.scope t.node.source (map (numbered_state_after n p now) xs) ≡ node_states conf t.node.scope t.node.source xs
    c = count-blind n p now (is_of_node conf t.node.scope t.node.source) xs (blind n p now (is_of_node conf t.node.scope t.node.source) (λ x. refl))

    d : node_connections conf t.node.scope t.node.source (map (numbered_state_after n p now) xs) + cond (is_done s.phase && is_of_node conf t.node.scope t.node.source s) 1 0
        ≡ node_connections conf t.node.scope t.node.source xs + cond (is_done (phase_after s.phase (goes_forward p s) p.flags) && is_of_node conf t.node.scope t.node.source s) 1 0
    d = count-renewed n p now (is_connection conf t.node.scope t.node.source) s xs r f

    es : t.states ≡ node_states conf t.node.scope t.node.source xs
    es = ap (λ (u : NodeTally). u.states) e

    ec : t.connections ≡ node_connections conf t.node.scope t.node.source xs
    ec = ap (λ (u : NodeTally). u.connections) e

    both : (a b : Bool) → b ≡ true → ◌≡◌ {A = ℕ} (cond (a && b) 1 0) (cond a 1 0)
    both true b z = ap (λ (x : Bool). cond {A = ℕ} x 1 0) z
    both false b z = refl

    neither : (a b : Bool) → b ≡ false → ◌≡◌ {A = ℕ} (cond (a && b) 1 0) 0
    neither true b z = ap (λ (x : Bool). cond {A = ℕ} x 1 0) z
    neither false b z = refl

    go : (b : Bool) → is_at (node_scope_of conf s.rule.0) s.source t ≡ b
        → IsCounted conf (map (numbered_state_after n p now) xs) (at_node (node_scope_of conf s.rule.0) s.source (met_by rate now (completes_at p s)) t)
    go true i =
        let o : is_of_node conf t.node.scope t.node.source s ≡ true = of_node conf s t h ∙ i in
        let d1 = both (is_done s.phase) (is_of_node conf t.node.scope t.node.source s) o in
        let d2 = both (is_done (phase_after s.phase (goes_forward p s) p.flags)) (is_of_node conf t.node.scope t.node.source s) o in
        let m : t.connections + cond (completes_at p s) 1 0 ≡ node_connections conf t.node.scope t.node.source (map (numbered_state_after n p now) xs) = omega (arith, d, d1, d2, ec, k) in
        let w : at_node (node_scope_of conf s.rule.0) s.source (met_by rate now (completes_at p s)) t ≡ met_by rate now (completes_at p s) t =
        ap (λ (b : Bool). if b then met_by rate now (completes_at p s) t else t) i in
        let f1 = met-faithful rate now (completes_at p s) in
        subst (IsCounted conf (map (numbered_state_after n p now) xs)) (sym w)
        (recount conf (map (numbered_state_after n p now) xs) t (met_by rate now (completes_at p s) t) (f1.scope t) (f1.source t)
        (met-states rate now (completes_at p s) t ∙ es ∙ sym c) (met-connections rate now (completes_at p s) t ∙ m))
    go false i =
        let o : is_of_node conf t.node.scope t.node.source s ≡ false = of_node conf s t h ∙ i in
        let d1 = neither (is_done s.phase) (is_of_node conf t.node.scope t.node.source s) o in
        let d2 = neither (is_done (phase_after s.phase (goes_forward p s) p.flags)) (is_of_node conf t.node.scope t.node.source s) o in
        let m : t.connections ≡ node_connections conf t.node.scope t.node.source (map (numbered_state_after n p now) xs) = omega (arith, d, d1, d2, ec) in
        let w : at_node (node_scope_of conf s.rule.0) s.source (met_by rate now (completes_at p s)) t ≡ t =
        ap (λ (b : Bool). if b then met_by rate now (completes_at p s) t else t) i in
        subst (IsCounted conf (map (numbered_state_after n p now) xs)) (sym w)
        (recount conf (map (numbered_state_after n p now) xs) t t refl refl (es ∙ sym c) m)

pub all-met : (conf : Conf) (n : ℕ) (p : PacketView) (now : ℕ) (rate : Option Rate) (s : State) (xs : List State) (ts : List NodeTally) → IsRisingBy state_number xs
    → find (has_number state_number n) xs ≡ Some s → CountsDone s p → AllByRecursion (IsScoped conf) ts → AllByRecursion (IsCounted conf xs) ts
    → AllByRecursion (IsCounted conf (map (numbered_state_after n p now) xs)) (map (at_node (node_scope_of conf s.rule.0) s.source (met_by rate now (completes_at p s))) ts)
all-met conf n p now rate s xs [] r f k g h = tt
all-met conf n p now rate s xs (t ∷ ts) r f k (g, gs) (h, hs) = (counted-met conf n p now rate s xs t r f k g h, all-met conf n p now rate s xs ts r f k gs hs)

pub scored-met : (o : Option NodeScope) (a : Addr) (rate : Option Rate) (now : ℕ) (c : Bool) (ts : List NodeTally) → AllByRecursion IsScored ts
    → AllByRecursion IsScored (map (at_node o a (met_by rate now c)) ts)
scored-met o a rate now c [] h = tt
scored-met o a rate now c (t ∷ ts) (h, hs) = (go (is_at o a t) rate c, scored-met o a rate now c ts hs)
  where
    go : (b : Bool) (rate : Option Rate) (c : Bool) → IsScored (if b then met_by rate now c t else t)
    go true None true = h
    go true (Some rate) true = omega arith
    go true rate false = h
    go false rate c = h

pub noded-met : (conf : Conf) (n : ℕ) (p : PacketView) (now : ℕ) (o : Option NodeScope) (a : Addr) (rate : Option Rate) (c : Bool) (xs : List State) (ts : List NodeTally)
    → AllByRecursion (HasTally conf ts) xs → AllByRecursion (HasTally conf (map (at_node o a (met_by rate now c)) ts)) (map (numbered_state_after n p now) xs)
noded-met conf n p now o a rate c xs ts h =
    all-blind n p now (HasTally conf (map (at_node o a (met_by rate now c)) ts)) xs (λ s k. k) (each xs h)
  where
    each : (ys : List State) → AllByRecursion (HasTally conf ts) ys → AllByRecursion (HasTally conf (map (at_node o a (met_by rate now c)) ts)) ys
    each [] k = tt
    each (y ∷ ys) (k, ks) = ((λ sc e. tally-at sc y.source o a (met_by rate now c) (met-faithful rate now c) ts ∙ k sc e), each ys ks)

-- ---- the nodes of the world

pub nodes-met : (conf : Conf) (s : State) (now : ℕ) (c : Bool) (ts : List NodeTally)
    → nodes_of (map (at_node (node_scope_of conf s.rule.0) s.source (met_by (options_of conf s.rule.0).max_src_conn_rate now c)) ts) ≡ nodes_touched conf (nodes_of ts) s now c
nodes-met conf s now true ts = by (node_scope_of conf s.rule.0) (options_of conf s.rule.0).max_src_conn_rate ts
  where
    by : (o : Option NodeScope) (rate : Option Rate) (ts : List NodeTally) → nodes_of (map (at_node o s.source (met_by rate now true)) ts) ≡ nodes_scored (nodes_of ts) s.source now o rate
    by None rate [] = refl
    by None rate (t ∷ ts) = ap (λ ns. t.node ∷ ns) (by None rate ts)
    by (Some sc) None [] = refl
    by (Some sc) None (t ∷ ts) = (λ i. go (is_tally sc s.source t) i ∷ by (Some sc) None ts i)
      where
        go : (b : Bool) → (if b then met_by None now true t else t).node ≡ t.node
        go true = refl
        go false = refl
    by (Some sc) (Some rate) [] = refl
    by (Some sc) (Some rate) (t ∷ ts) = (λ i. go (is_tally sc s.source t) i ∷ by (Some sc) (Some rate) ts i)
      where
        go : (b : Bool) → (if b then met_by (Some rate) now true t else t).node ≡ (if b then record t.node { score = score_after rate.seconds t.node.score now } else t.node)
        go true = refl
        go false = refl
nodes-met conf s now false ts = unmet ts
  where
    unmet : (ts : List NodeTally) → nodes_of (map (at_node (node_scope_of conf s.rule.0) s.source (met_by (options_of conf s.rule.0).max_src_conn_rate now false)) ts) ≡ nodes_of ts
    unmet [] = refl
    unmet (t ∷ ts) = (λ i. go (is_at (node_scope_of conf s.rule.0) s.source t) i ∷ unmet ts i)
      where
        go : (b : Bool) → (if b then t else t).node ≡ t.node
        go true = refl
        go false = refl
