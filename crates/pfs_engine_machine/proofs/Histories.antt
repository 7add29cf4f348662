-- Every act of a run leaves the score of a source's node with the future of its history's: so the two laws of rates hold.
use Rattle.std.proofs.Common.{◌≡◌, ℕ, suc, zero, ◌+◌, ◌-◌, ◌*◌, ◌<◌, ◌≤◌, Bool, true, false, nat_lt, ◌&&◌, ◌||◌, cond, ◌==◌, List, [], ◌∷◌, ◌++◌, filter, map, take, Option, Some, None, inl, refl, ap, ◌∙◌, sym, subst, arith}
use Rattle.std.specs.Option.{ForSome}
use Rattle.std.specs.List.{range_with_len}
use Rattle.std.specs.Prelude.{length, option_map, slice_get}
use Rattle.std.proofs.lemmas.Bool.{false≢true}
use Rattle.std.proofs.lemmas.Bool.Decides.{nat_tests}
use Rattle.pfs_addr_values.proofs.SameLaws.{same_addr_self, same_addr_true}
use Rattle.pfs_addr_values.specs.Packets.{PacketView}
use Rattle.pfs_addr_values.specs.Sameness.{same_addr}
use Rattle.pfs_addr_values.specs.declared.addresses.Addr.{Addr}
use Rattle.pfs_conf_values.specs.Configs.{Conf, options_of, rate_seconds}
use Rattle.pfs_conf_values.specs.Invariants.{IsConfig}
use Rattle.pfs_conf_values.specs.declared.actions.Rate.{Rate}
use Rattle.pfs_store_contract.specs.Admission.{leaves_node, world_after_admission, world_after_refusal, new_node, new_state, nodes_with}
use Rattle.pfs_store_contract.specs.Calls.{stays_elsewhere}
use Rattle.pfs_store_contract.specs.Counts.{has_node, is_node, is_of_node, node_scope_of, node_states, same_scope}
use Rattle.pfs_store_contract.specs.Handshakes.{hits_connections, hits_rate, over_rate}
use Rattle.pfs_store_contract.specs.Leaving.{world_without}
use Rattle.pfs_store_contract.specs.Purging.{node_round, node_share, purge, state_round, state_share, state_slice, stays}
use Rattle.pfs_store_contract.specs.Touching.{completes_at, is_asking, is_taken, may_reopen, node_score, nodes_scored, nodes_touched, score_in, world_after_touch}
use Rattle.pfs_store_contract.specs.Worlds.{World}
use Rattle.pfs_store_contract.specs.Seconds.{world_after_purges}
use Rattle.pfs_store_contract.specs.declared.records.Limit.{Limit}
use Rattle.pfs_store_contract.specs.declared.records.Node.{Node}
use Rattle.pfs_store_contract.specs.declared.records.NodeScope.{NodeScope}
use Rattle.pfs_store_contract.specs.declared.records.State.{State}
use Rattle.pfs_track.specs.Scores.{score_after, zero_score}
use Rattle.pfs_track.specs.declared.scores.Score.{Score}
use Rattle.pfs_engine_machine.proofs.Counts.{any-push, count-filter_le, count-push}
use Rattle.pfs_engine_machine.specs.MachineInvariants.{moment_of, own_scope}
use Rattle.pfs_engine_machine.specs.Guards.{Guard, brings_cookie, gets_cookie}
use Rattle.pfs_engine_machine.specs.Machine.{MachineContents, Machine, answer_behind_guard, answer_to_arrival, machine_at_moment, answer_to_packet, answer_of_exceeded, answer_of_key, answer_of_state, answer_of_handshake, due, exceeded_of, first_moment, held_for, held_of, outcome_of_held, start, step, machine_after, outcomes_of}
use Rattle.pfs_engine_machine.specs.Rates.{Handshake, completed_state, score_through, handshake_at, handshaking_state, handshakes, history_score, is_from, moments_of, with_handshake}
use Rattle.pfs_engine_machine.specs.Runs.{IsInOrder}
use Rattle.pfs_engine_machine.specs.declared.events.Event.{Event}
use Rattle.pfs_engine_machine.specs.declared.events.Arrival.{Arrival}
use Rattle.pfs_engine_machine.specs.declared.events.Arrival.TheVariants as arrival
use Rattle.pfs_engine_machine.specs.declared.events.Outcome.TheVariants as outcome
use Rattle.pfs_engine_machine.proofs.GuardLaws.{gets-alone}
use Rattle.pfs_engine_machine.proofs.PacketChanges.{Changes, key_has}
use Rattle.pfs_engine_machine.proofs.Reopening.{alone-completes, anew-completes, completing_meets, met_has, met_same}
use Rattle.pfs_engine_machine.proofs.KeptAdmission.{nodes_with-own}
use Rattle.pfs_engine_machine.proofs.Limits.{world_with_stray}
use Rattle.pfs_engine_machine.proofs.Hearing.{IsRated, RemembersIn, found-count, heard, is_of, long, rated, scope-rated, score-this, scored-in, states-touched}
use Rattle.pfs_engine_machine.proofs.Lists.{both, each-of, each-push}
use Rattle.pfs_engine_machine.proofs.Running.{order-front, order-last}
use Rattle.pfs_engine_machine.proofs.Remembering.{IsKnown, KnowsScore, Remembers, remembers-later, remembers-left, remembers-purged}
use Rattle.pfs_store_contract.proofs.ScopeLaws.{same_scope_true}
use Rattle.pfs_engine_machine.specs.RateMemory.{IsHandshake, RateIsRemembered, ScoreIsRemembered, rate_hit, score_compared}
use Rattle.pfs_engine_machine.specs.Sides.{state_for}

-- ---- a new state

-- a node is made where a source has none
remembers-new : (rule : ℕ) (source : Addr) (seconds now : ℕ) (history : Score) (count : ℕ) (nodes : List Node) (number : ℕ) (scope : NodeScope) (from : Addr) (at : ℕ)
    → has_node scope from nodes ≡ false → Remembers rule source seconds now history count nodes
    → Remembers rule source seconds now history count (nodes ++ new_node number scope from at ∷ [])
remembers-new rule source seconds now history count nodes number scope from at lack r =
    let x : Node = new_node number scope from at in
    let pushed = any-push (is_node (own_scope rule) source) nodes x in
    record {
      nodes = each-push (IsKnown rule source seconds now history count) nodes x r.nodes
          (λ e. record { agrees = r.absent (absent_is e); last = omega arith; over = λ z. inl refl });
      absent = λ e. r.absent (left_false (has_node (own_scope rule) source nodes) (is_node (own_scope rule) source x) (sym pushed ∙ e));
      noded = λ some. pushed ∙ left_true (has_node (own_scope rule) source nodes) (is_node (own_scope rule) source x) (r.noded some);
    }
  where
    left_false : (a b : Bool) → (a || b) ≡ false → a ≡ false
    left_false false b e = refl
    left_false true b e = absurd (false≢true (sym e))

    left_true : (a b : Bool) → a ≡ true → (a || b) ≡ true
    left_true true b e = refl
    left_true false b e = absurd (false≢true e)

    absent_is : (same_scope scope (own_scope rule) && same_addr from source) ≡ true → has_node (own_scope rule) source nodes ≡ false
    absent_is e =
        let p = both (same_scope scope (own_scope rule)) (same_addr from source) e in
        ap (λ (s : NodeScope). has_node s source nodes) (sym (same_scope_true scope (own_scope rule) p.0))
        ∙ ap (λ (a : Addr). has_node scope a nodes) (sym (same_addr_true from source p.1)) ∙ lack

-- which nodes there are beside a new state
nodes-in : (rule : ℕ) (source : Addr) (seconds now : ℕ) (history : Score) (count : ℕ) (nodes : List Node) (number : ℕ) (from : Addr) (at : ℕ) (o : Option NodeScope)
    → Remembers rule source seconds now history count nodes → Remembers rule source seconds now history count (nodes_with nodes number from at o)
nodes-in rule source seconds now history count nodes number from at None r = r
nodes-in rule source seconds now history count nodes number from at (Some scope) r = go (has_node scope from nodes) refl
  where
    go : (b : Bool) → has_node scope from nodes ≡ b → Remembers rule source seconds now history count (cond b nodes (nodes ++ new_node number scope from at ∷ []))
    go true e = r
    go false e = remembers-new rule source seconds now history count nodes number scope from at e r

-- one state more of a source that has a node
more-count : (rule : ℕ) (source : Addr) (seconds now : ℕ) (history : Score) (count count' : ℕ) (nodes : List Node) → count ≤ count'
    → (0 < count' → has_node (own_scope rule) source nodes ≡ true) → Remembers rule source seconds now history count nodes
    → Remembers rule source seconds now history count' nodes
more-count rule source seconds now history count count' nodes h noded r = record {
  nodes = each-of (IsKnown rule source seconds now history count) (IsKnown rule source seconds now history count')
      (λ n f e. let k : KnowsScore seconds now history count n = f e in record { agrees = k.agrees; last = k.last; over = λ z. k.over (omega (arith, z, h)) }) nodes r.nodes;
  absent = r.absent;
  noded = noded;
}

admitted-in : (conf : Conf) (rule : ℕ) (source : Addr) (x : Rate) (now : ℕ) (history : Score) (w : World) (p going : PacketView) (cookie : Bool) (other at : ℕ) → IsRated conf rule x
    → RemembersIn conf rule source x.seconds now history w → RemembersIn conf rule source x.seconds now history (world_after_admission conf w p going other cookie at)
admitted-in conf rule source x now history w p going cookie other at i r =
    let new : State = new_state conf (w.made + 1) p going other cookie at in
    let before : ℕ = node_states conf (own_scope rule) source w.states in
    let grown = count-push (is_of_node conf (own_scope rule) source) w.states new in
    let nodes : List Node = nodes_with w.nodes (w.made + 1) p.source.addr at (node_scope_of conf other) in
    let held = nodes-in rule source x.seconds now history before w.nodes (w.made + 1) p.source.addr at (node_scope_of conf other) r in
    more-count rule source x.seconds now history before (node_states conf (own_scope rule) source (w.states ++ new ∷ [])) nodes (omega (arith, grown))
    (λ some. go ((other == rule) && same_addr p.source.addr source) refl grown some held.noded) held
  where
    go : (b : Bool) → ((other == rule) && same_addr p.source.addr source) ≡ b
        → node_states conf (own_scope rule) source (w.states ++ new_state conf (w.made + 1) p going other cookie at ∷ []) ≡ node_states conf (own_scope rule) source w.states + cond b 1 0
        → 0 < node_states conf (own_scope rule) source (w.states ++ new_state conf (w.made + 1) p going other cookie at ∷ [])
        → (0 < node_states conf (own_scope rule) source w.states → has_node (own_scope rule) source (nodes_with w.nodes (w.made + 1) p.source.addr at (node_scope_of conf other)) ≡ true)
        → has_node (own_scope rule) source (nodes_with w.nodes (w.made + 1) p.source.addr at (node_scope_of conf other)) ≡ true
    go true e g some h =
        let q = both (other == rule) (same_addr p.source.addr source) e in
        let rules : other ≡ rule = let f = q.0 in grind (arith, nat_tests) in
        let sources : p.source.addr ≡ source = same_addr_true p.source.addr source q.1 in
        let scope_is : node_scope_of conf other ≡ Some (own_scope rule) = ap (node_scope_of conf) rules ∙ scope-rated conf rule x i in
        rw (scope_is, sources) (nodes_with-own w.nodes (w.made + 1) at source (own_scope rule))
    go false e g some h = h (omega (arith, g, some))

-- a refusal may leave a node
refused-in : (conf : Conf) (rule : ℕ) (source : Addr) (seconds now : ℕ) (history : Score) (w : World) (p : PacketView) (other at : ℕ) (l : Limit)
    → RemembersIn conf rule source seconds now history w → RemembersIn conf rule source seconds now history (world_after_refusal conf w p.source.addr other at l)
refused-in conf rule source seconds now history w p other at l r = by (leaves_node conf w p.source.addr other l)
  where
    by : (b : Bool) → RemembersIn conf rule source seconds now history (cond b (world_with_stray conf w p.source.addr other at) w)
    by true = nodes-in rule source seconds now history (node_states conf (own_scope rule) source w.states) w.nodes (w.made + 1) p.source.addr at (node_scope_of conf other) r
    by false = r

-- ---- what comes of a packet

without-in : (conf : Conf) (rule : ℕ) (source : Addr) (x : Rate) (now : ℕ) (history : Score) (w : World) (stay : State → Bool) → IsRated conf rule x
    → RemembersIn conf rule source x.seconds now history w → RemembersIn conf rule source x.seconds now history (world_without conf w stay now)
without-in conf rule source x now history w stay i r =
    remembers-left conf w.states (filter stay w.states) rule source x.seconds now history w.nodes (long conf rule x i) (count-filter_le (is_of_node conf (own_scope rule) source) stay w.states) r

with-count : (rule : ℕ) (source : Addr) (seconds now : ℕ) (history : Score) (count count' : ℕ) (nodes : List Node) → count' ≡ count
    → Remembers rule source seconds now history count nodes → Remembers rule source seconds now history count' nodes
with-count rule source seconds now history count count' nodes e r = subst (λ (c : ℕ). Remembers rule source seconds now history c nodes) (sym e) r

-- the history after a packet of a state that is found
touched-in : (conf : Conf) (rule : ℕ) (source : Addr) (x : Rate) (now : ℕ) (history : Score) (w : World) (p : PacketView) (s : State) → IsRated conf rule x
    → state_for w p ≡ Some s → RemembersIn conf rule source x.seconds now history w
    → RemembersIn conf rule source x.seconds now (heard rule source x.seconds history now (completed_state p (Some s))) (world_after_touch conf w s p now)
touched-in conf rule source x now history w p s i found r =
    with-count rule source x.seconds now (heard rule source x.seconds history now (completed_state p (Some s))) (node_states conf (own_scope rule) source w.states)
    (node_states conf (own_scope rule) source (world_after_touch conf w s p now).states) (world_after_touch conf w s p now).nodes
    (states-touched conf (own_scope rule) source s.number p now w.states) (go (completes_at p s))
  where
    go : (b : Bool) → Remembers rule source x.seconds now (heard rule source x.seconds history now (cond b (Some s) None)) (node_states conf (own_scope rule) source w.states) (nodes_touched conf w.nodes s now b)
    go true = scored-in conf rule source x now history (node_states conf (own_scope rule) source w.states) w.nodes s i (found-count conf rule source p w s found) r
    go false = r

packet-in : (conf : Conf) (rule : ℕ) (source : Addr) (x : Rate) (now : ℕ) (history : Score) (w : World) (p : PacketView) (cookie : Bool) → IsRated conf rule x
    → RemembersIn conf rule source x.seconds now history w
    → Changes conf w p cookie now (RemembersIn conf rule source x.seconds now (heard rule source x.seconds history now (completed_state p (state_for w p))))
packet-in conf rule source x now history w p cookie i r = record {
  passes = λ fresh. given (state_for w p) None w fresh r;
  admits = λ other going fresh none led free. given (state_for w p) None (world_after_admission conf w p going other cookie now) fresh (admitted-in conf rule source x now history w p going cookie other now i r);
  touches = λ s found. given (state_for w p) (Some s) (world_after_touch conf w s p now) found (touched-in conf rule source x now history w p s i found r);
  refuses = λ other limit fresh met. given (state_for w p) None (world_after_refusal conf w p.source.addr other now limit) fresh
      (refused-in conf rule source x.seconds now history w p other now limit r);
  kills = λ v stay k. without-in conf rule source x now (heard rule source x.seconds history now (completed_state p (state_for w p))) v stay i k;
}
  where
    given : (o o' : Option State) (v : World) → o ≡ o' → RemembersIn conf rule source x.seconds now (heard rule source x.seconds history now (completed_state p o')) v
        → RemembersIn conf rule source x.seconds now (heard rule source x.seconds history now (completed_state p o)) v
    given o o' v e k = subst (λ (o : Option State). RemembersIn conf rule source x.seconds now (heard rule source x.seconds history now (completed_state p o)) v) (sym e) k

-- ---- a purge

purge-in : (conf : Conf) (rule : ℕ) (source : Addr) (x : Rate) (now : ℕ) (history : Score) (w : World) → IsRated conf rule x
    → RemembersIn conf rule source x.seconds now history w → RemembersIn conf rule source x.seconds now history (purge conf w now)
purge-in conf rule source x now history w i r =
    let v : World = state_slice conf w now in
    let stay = stays conf w.states now (take (state_share conf) (state_round w)) in
    let s : RemembersIn conf rule source x.seconds now history v =
    remembers-left conf w.states v.states rule source x.seconds now history w.nodes (long conf rule x i) (count-filter_le (is_of_node conf (own_scope rule) source) stay w.states) r in
    remembers-purged conf rule source x.seconds now history v.states (take (node_share conf) (node_round v)) v.nodes s

later-in : (conf : Conf) (rule : ℕ) (source : Addr) (seconds now later : ℕ) (history : Score) (w : World) → now ≤ later
    → RemembersIn conf rule source seconds now history w → RemembersIn conf rule source seconds later history w
later-in conf rule source seconds now later history w le r = remembers-later rule source seconds now later history (node_states conf (own_scope rule) source w.states) w.nodes le r

purges-in : (conf : Conf) (rule : ℕ) (source : Addr) (x : Rate) (history : Score) → IsRated conf rule x → (n from : ℕ) (w : World)
    → RemembersIn conf rule source x.seconds from history w → RemembersIn conf rule source x.seconds (from + n) history (world_after_purges conf w (range_with_len (from + 1) n))
purges-in conf rule source x history i zero from w r = later-in conf rule source x.seconds from (from + 0) history w (omega arith) r
purges-in conf rule source x history i (suc n) from w r =
    let v : World = purge conf w (from + 1) in
    let k : RemembersIn conf rule source x.seconds (from + 1) history v =
    purge-in conf rule source x (from + 1) history w i (later-in conf rule source x.seconds from (from + 1) history w (omega arith) r) in
    later-in conf rule source x.seconds (from + 1 + n) (from + suc n) history (world_after_purges conf v (range_with_len (from + 1 + 1) n)) (omega arith)
    (purges-in conf rule source x history i n (from + 1) v k)

due-in : (conf : Conf) (rule : ℕ) (source : Addr) (x : Rate) (history : Score) → IsRated conf rule x → (w : World) (last : Option ℕ) (now : ℕ) → ForSome last (λ l. l ≤ now)
    → RemembersIn conf rule source x.seconds (moment_of last) history w → RemembersIn conf rule source x.seconds now history (world_after_purges conf w (due last now))
due-in conf rule source x history i w None now h r = later-in conf rule source x.seconds 0 now history w (omega arith) r
due-in conf rule source x history i w (Some last) now h r =
    let before : last ≤ now = h last refl in
    later-in conf rule source x.seconds (last + (now - last)) now history (world_after_purges conf w (range_with_len (last + 1) (now - last))) (omega (arith, before))
    (purges-in conf rule source x history i (now - last) last w r)

-- ---- an event

-- a packet that may begin a connection anew completes no handshake, whichever state it meets
completed_when_met : (conf : Conf) (h : MachineContents) (p : PacketView) (now : ℕ)
    → completed_state p (state_for (held_for conf h p now).world p) ≡ completed_state p (state_for h.world p)
completed_when_met conf h p now = by (may_reopen conf p) refl
  where
    none : may_reopen conf p ≡ true → (found : Option State) → completed_state p found ≡ None
    none anew None = refl
    none anew (Some s) = ap (λ (b : Bool). cond b (Some s) None) (anew-completes conf p s anew)

    by : (b : Bool) → may_reopen conf p ≡ b → completed_state p (state_for (held_for conf h p now).world p) ≡ completed_state p (state_for h.world p)
    by true e = none e (state_for (held_for conf h p now).world p) ∙ sym (none e (state_for h.world p))
    by false e = ap (λ (m : MachineContents). completed_state p (state_for m.world p)) (met_same conf h p now e)

-- nor does one that gets a cookie
none_completed : (conf : Conf) (g : Guard) (w : World) (p : PacketView) (found : Option State) → gets_cookie conf g w p ≡ true → completed_state p found ≡ None
none_completed conf g w p None gets = refl
none_completed conf g w p (Some s) gets = ap (λ (b : Bool). cond b (Some s) None) (alone-completes p s (gets-alone conf g w p gets))

answered-in : (conf : Conf) (rule : ℕ) (source : Addr) (x : Rate) (now : ℕ) (history : Score) (h : MachineContents) (p : PacketView) (cookie : Bool) → IsRated conf rule x
    → RemembersIn conf rule source x.seconds now history h.world
    → RemembersIn conf rule source x.seconds now (heard rule source x.seconds history now (completed_state p (state_for h.world p))) (answer_to_packet conf h p cookie now).1.world
answered-in conf rule source x now history h p cookie i r =
    let met : MachineContents = held_for conf h p now in
    let same : completed_state p (state_for met.world p) ≡ completed_state p (state_for h.world p) = completed_when_met conf h p now in
    subst (λ (o : Option State). RemembersIn conf rule source x.seconds now (heard rule source x.seconds history now o) (answer_of_key conf met p cookie now).1.world) same
    (key_has conf met p cookie now (RemembersIn conf rule source x.seconds now (heard rule source x.seconds history now (completed_state p (state_for met.world p))))
    (packet-in conf rule source x now history met.world p cookie i
    (met_has conf h p now (RemembersIn conf rule source x.seconds now history) r (λ stay. without-in conf rule source x now history h.world stay i r))))

guarded-in : (conf : Conf) (rule : ℕ) (source : Addr) (x : Rate) (now : ℕ) (history : Score) (g : Guard) (h : MachineContents) (p : PacketView) → IsRated conf rule x
    → RemembersIn conf rule source x.seconds now history h.world
    → RemembersIn conf rule source x.seconds now (heard rule source x.seconds history now (completed_state p (state_for h.world p))) (answer_behind_guard conf g h p now).1.world
guarded-in conf rule source x now history g h p i r = by (gets_cookie conf g h.world p) refl
  where
    after : Option State → World → Type 0
    after o w = RemembersIn conf rule source x.seconds now (heard rule source x.seconds history now o) w

    by : (b : Bool) → gets_cookie conf g h.world p ≡ b
        → after (completed_state p (state_for h.world p)) (cond b (outcome.Cookie, h) (answer_to_packet conf h p (brings_cookie g h.world p) now)).1.world
    by true e = subst (λ (o : Option State). after o h.world) (sym (none_completed conf g h.world p (state_for h.world p) e)) r
    by false e = answered-in conf rule source x now history h p (brings_cookie g h.world p) i r

acted-in : (conf : Conf) (rule : ℕ) (source : Addr) (x : Rate) (first now : ℕ) (history : Score) (g : Guard) (h : MachineContents) → IsRated conf rule x → (what : Arrival)
    → RemembersIn conf rule source x.seconds now history h.world
    → RemembersIn conf rule source x.seconds now (heard rule source x.seconds history now (handshaking_state h.world what)) (answer_to_arrival conf g h first now what).1.world
acted-in conf rule source x first now history g h i arrival.Skip r = r
acted-in conf rule source x first now history g h i (arrival.Table table done) r = r
acted-in conf rule source x first now history g h i (arrival.Kill hosts) r = without-in conf rule source x now history h.world (stays_elsewhere hosts) i r
acted-in conf rule source x first now history g h i arrival.HeldQuery r = r
acted-in conf rule source x first now history g h i (arrival.Packet p) r = guarded-in conf rule source x now history g h p i r

abbrev RemembersAt : Conf → ℕ → Addr → ℕ → Score → Machine → Type 0
RemembersAt conf rule source seconds history m = RemembersIn conf rule source seconds (moment_of m.last) history m.held.world

step-in : (conf : Conf) (rule : ℕ) (source : Addr) (x : Rate) (history : Score) (m : Machine) (e : Event) → IsRated conf rule x → ForSome m.last (λ l. l ≤ e.time)
    → RemembersAt conf rule source x.seconds history m
    → RemembersAt conf rule source x.seconds (heard rule source x.seconds history e.time (handshake_at conf m e)) (step conf m e).1
unfolding step
step-in conf rule source x history m e i h r =
    acted-in conf rule source x (first_moment m.first e.time) e.time history (machine_at_moment conf m e.time).guard (machine_at_moment conf m e.time).held i e.what (due-in conf rule source x history i m.held.world m.last e.time h r)

-- ---- the history

folded-heard : (rule : ℕ) (source : Addr) (seconds : ℕ) (history : Score) (now : ℕ) (o : Option State) (others : List Handshake)
    → score_through seconds history (moments_of rule source (with_handshake now o others)) ≡ score_through seconds (heard rule source seconds history now o) (moments_of rule source others)
folded-heard rule source seconds history now None others = refl
folded-heard rule source seconds history now (Some s) others = go (is_of rule source s)
  where
    rest : List Handshake
    rest = filter (is_from rule source) others

    go : (b : Bool) → score_through seconds history (map (λ (h : Handshake). h.moment) (cond b (record { rule = s.rule.0; source = s.source; moment = now } ∷ rest) rest))
        ≡ score_through seconds (cond b (score_after seconds history now) history) (moments_of rule source others)
    go true = refl
    go false = refl

history-in : (conf : Conf) (rule : ℕ) (source : Addr) (x : Rate) (history : Score) (m : Machine) (es : List Event) → IsRated conf rule x → IsInOrder m.last es
    → RemembersAt conf rule source x.seconds history m
    → RemembersAt conf rule source x.seconds (score_through x.seconds history (moments_of rule source (handshakes conf m es))) (machine_after conf m es)
unfolding machine_after step
history-in conf rule source x history m [] i order r = r
history-in conf rule source x history m (e ∷ es) i order r =
    let next : Machine = (step conf m e).1 in
    subst (λ (h : Score). RemembersAt conf rule source x.seconds h (machine_after conf next es)) (sym (folded-heard rule source x.seconds history e.time (handshake_at conf m e) (handshakes conf next es)))
    (history-in conf rule source x (heard rule source x.seconds history e.time (handshake_at conf m e)) next es i order.2 (step-in conf rule source x history m e i order.0 r))

folded-push : (conf : Conf) (rule : ℕ) (source : Addr) (seconds : ℕ) (history : Score) (m : Machine) (es : List Event) (e : Event)
    → score_through seconds history (moments_of rule source (handshakes conf m (es ++ e ∷ [])))
    ≡ heard rule source seconds (score_through seconds history (moments_of rule source (handshakes conf m es))) e.time (handshake_at conf (machine_after conf m es) e)
unfolding machine_after
folded-push conf rule source seconds history m [] e = folded-heard rule source seconds history e.time (handshake_at conf m e) []
folded-push conf rule source seconds history m (d ∷ es) e =
    let next : Machine = (step conf m d).1 in
    let o : Option State = handshake_at conf m d in
    folded-heard rule source seconds history d.time o (handshakes conf next (es ++ e ∷ []))
    ∙ folded-push conf rule source seconds (heard rule source seconds history d.time o) next es e
    ∙ ap (λ (h : Score). heard rule source seconds h e.time (handshake_at conf (machine_after conf next es) e)) (sym (folded-heard rule source seconds history d.time o (handshakes conf next es)))

remembers-start : (conf : Conf) (rule : ℕ) (source : Addr) (seconds : ℕ) → RemembersAt conf rule source seconds zero_score (start conf)
remembers-start conf rule source seconds = record { nodes = tt; absent = λ e t h. refl; noded = λ some. absurd (omega (arith, some)) }

-- ---- the law

completed-is : (p : PacketView) (o : Option State) (s : State) → completed_state p o ≡ Some s → (o ≡ Some s) × (completes_at p s ≡ true)
completed-is p None s e = cc
completed-is p (Some t) s e = go (completes_at p t) refl e
  where
    go : (b : Bool) → completes_at p t ≡ b → cond b (Some t) None ≡ Some s → (Some t ≡ Some s) × (completes_at p s ≡ true)
    go true f g = let same : t ≡ s = cc in (ap (λ (u : State). Some u) same, ap (completes_at p) (sym same) ∙ f)
    go false f g = cc

own-handshake : (s : State) → is_of s.rule.0 s.source s ≡ true
own-handshake s = rw (one s.rule.0, same_addr_self s.source) refl
  where
    one : (a : ℕ) → (a == a) ≡ true
    one a = grind (arith, nat_tests)

-- the score that is compared with the limit
score-in : (conf : Conf) (x : Rate) (now : ℕ) (history : Score) (w : World) (p : PacketView) (s : State) → IsRated conf s.rule.0 x → state_for w p ≡ Some s
    → completes_at p s ≡ true → RemembersIn conf s.rule.0 s.source x.seconds now history w → score_in s.source (world_after_touch conf w s p now).nodes (node_scope_of conf s.rule.0) ≡ score_after x.seconds history now
score-in conf x now history w p s i found act_done r =
    let some : 0 < node_states conf (own_scope s.rule.0) s.source w.states = found-count conf s.rule.0 s.source p w s found (own-handshake s) in
    ap (λ (b : Bool). score_in s.source (nodes_touched conf w.nodes s now b) (node_scope_of conf s.rule.0)) act_done
    ∙ ap (λ (o : Option NodeScope). score_in s.source (nodes_scored w.nodes s.source now o (options_of conf s.rule.0).max_src_conn_rate) o) (scope-rated conf s.rule.0 x i)
    ∙ ap (λ (o : Option Rate). node_score (own_scope s.rule.0) s.source (nodes_scored w.nodes s.source now (Some (own_scope s.rule.0)) o)) i.is
    ∙ score-this s.rule.0 s.source x.seconds now history (node_states conf (own_scope s.rule.0) s.source w.states) w.nodes r.nodes (r.noded some)

-- the outcome says whether the score is over the limit
rate-hit : (conf : Conf) (h : MachineContents) (s : State) (now : ℕ) (taken asks conn rate : Bool)
    → rate_hit (answer_of_exceeded conf h s.number s.dir s.rule s.source now (outcome_of_held s.rule taken asks) (exceeded_of conn rate)).0 ≡ rate
rate-hit conf h s now taken asks true true = refl
rate-hit conf h s now taken asks true false = refl
rate-hit conf h s now taken asks false true = refl
rate-hit conf h s now true true false false = refl
rate-hit conf h s now true false false false = refl
rate-hit conf h s now false asks false false = refl

hit-in : (conf : Conf) (x : Rate) (now : ℕ) (h : MachineContents) (p : PacketView) (cookie : Bool) (s : State) → IsRated conf s.rule.0 x → completed_state p (state_for h.world p) ≡ Some s
    → rate_hit (answer_to_packet conf h p cookie now).0 ≡ nat_lt (1000 * x.limit) (score_in s.source (world_after_touch conf h.world s p now).nodes (node_scope_of conf s.rule.0)).value
hit-in conf x now h p cookie s i e =
    let q = completed-is p (state_for h.world p) s e in
    let v : MachineContents = held_of (world_after_touch conf h.world s p now) h.tables in
    let score : Score = score_in s.source v.world.nodes (node_scope_of conf s.rule.0) in
    ap (λ (m : MachineContents). rate_hit (answer_of_key conf m p cookie now).0) (completing_meets conf h p now s q.1)
    ∙ ap (λ (found : Option State). rate_hit (answer_of_state conf h p cookie now found).0) q.0
    ∙ ap (λ (b : Bool). rate_hit (answer_of_handshake conf v s now (outcome_of_held s.rule (is_taken p s) (is_asking p s)) b).0) q.1
    ∙ rate-hit conf v s now (is_taken p s) (is_asking p s) (hits_connections conf v.world s) (hits_rate conf v.world s)
    ∙ ap (λ (r : Option Rate). over_rate r score.value) i.is

-- a packet that completes a handshake gets no cookie
guarded-hit : (conf : Conf) (x : Rate) (now : ℕ) (g : Guard) (h : MachineContents) (p : PacketView) (s : State) → IsRated conf s.rule.0 x → completed_state p (state_for h.world p) ≡ Some s
    → rate_hit (answer_behind_guard conf g h p now).0 ≡ nat_lt (1000 * x.limit) (score_in s.source (world_after_touch conf h.world s p now).nodes (node_scope_of conf s.rule.0)).value
guarded-hit conf x now g h p s i e = by (gets_cookie conf g h.world p) refl
  where
    by : (b : Bool) → gets_cookie conf g h.world p ≡ b
        → rate_hit (cond b (outcome.Cookie, h) (answer_to_packet conf h p (brings_cookie g h.world p) now)).0
        ≡ nat_lt (1000 * x.limit) (score_in s.source (world_after_touch conf h.world s p now).nodes (node_scope_of conf s.rule.0)).value
    by true f = absurd (let no = sym (none_completed conf g h.world p (state_for h.world p) f) ∙ e in cc)
    by false f = hit-in conf x now h p (brings_cookie g h.world p) s i e

score-at : (conf : Conf) (x : Rate) (now : ℕ) (history : Score) (w : World) (what : Arrival) (s : State) → IsRated conf s.rule.0 x → handshaking_state w what ≡ Some s
    → RemembersIn conf s.rule.0 s.source x.seconds now history w → score_compared conf w now what s ≡ score_after x.seconds history now
score-at conf x now history w arrival.Skip s i e r = cc
score-at conf x now history w (arrival.Table table done) s i e r = cc
score-at conf x now history w (arrival.Kill hosts) s i e r = cc
score-at conf x now history w arrival.HeldQuery s i e r = cc
score-at conf x now history w (arrival.Packet p) s i e r =
    let q = completed-is p (state_for w p) s e in score-in conf x now history w p s i q.0 q.1 r

hit-at : (conf : Conf) (x : Rate) (first now : ℕ) (g : Guard) (h : MachineContents) (what : Arrival) (s : State) → IsRated conf s.rule.0 x → handshaking_state h.world what ≡ Some s
    → rate_hit (answer_to_arrival conf g h first now what).0 ≡ nat_lt (1000 * x.limit) (score_compared conf h.world now what s).value
hit-at conf x first now g h arrival.Skip s i e = cc
hit-at conf x first now g h (arrival.Table table done) s i e = cc
hit-at conf x first now g h (arrival.Kill hosts) s i e = cc
hit-at conf x first now g h arrival.HeldQuery s i e = cc
hit-at conf x first now g h (arrival.Packet p) s i e = guarded-hit conf x now g h p s i e

pub score-is-remembered : (conf : Conf) (events : List Event) → IsConfig conf → IsInOrder None events → ScoreIsRemembered conf events
score-is-remembered conf events sound order before e s rate is =
    let i : IsRated conf s.rule.0 rate = rated conf sound s.rule.0 rate is.rated in
    let o : IsInOrder None (before ++ e ∷ []) = order-front None (before ++ e ∷ []) is.run.0 (subst (IsInOrder None) is.run.1 order) in
    let m : Machine = machine_after conf (start conf) before in
    let past : Score = score_through rate.seconds zero_score (moments_of s.rule.0 s.source (handshakes conf (start conf) before)) in
    let r : RemembersAt conf s.rule.0 s.source rate.seconds past m =
    history-in conf s.rule.0 s.source rate zero_score (start conf) before i (order-front None before (e ∷ []) o) (remembers-start conf s.rule.0 s.source rate.seconds) in
    let now : RemembersIn conf s.rule.0 s.source rate.seconds e.time past (machine_at_moment conf m e.time).held.world =
    due-in conf s.rule.0 s.source rate past i m.held.world m.last e.time (order-last conf (start conf) before e o) r in
    score-at conf rate e.time past (machine_at_moment conf m e.time).held.world e.what s i is.completes now
    ∙ sym (folded-push conf s.rule.0 s.source rate.seconds zero_score (start conf) before e ∙ ap (heard s.rule.0 s.source rate.seconds past e.time) is.completes
    ∙ ap (λ (b : Bool). cond b (score_after rate.seconds past e.time) past) (own-handshake s))
    ∙ ap (λ (n : ℕ). score_through n zero_score (moments_of s.rule.0 s.source (handshakes conf (start conf) (before ++ e ∷ [])))) (sym (ap rate_seconds is.rated))

-- the outcome of an event of a run
outcome-at : (conf : Conf) (m : Machine) (before : List Event) (e : Event) (later : List Event)
    → slice_get (outcomes_of conf m ((before ++ e ∷ []) ++ later)) (length before) ≡ Some (step conf (machine_after conf m before) e).0
unfolding outcomes_of machine_after
outcome-at conf m [] e later = refl
outcome-at conf m (d ∷ before) e later = outcome-at conf (step conf m d).1 before e later

-- that of a handshake
outcome-hit : (conf : Conf) (events : List Event) → IsConfig conf → IsInOrder None events
    → (before : List Event) (e : Event) (s : State) (rate : Rate) → IsHandshake conf events before e s rate
    → rate_hit (step conf (machine_after conf (start conf) before) e).0 ≡ nat_lt (1000 * rate.limit) (history_score conf s.rule.0 s.source (before ++ e ∷ [])).value
unfolding step
outcome-hit conf events sound order before e s rate is =
    let m : Machine = machine_after conf (start conf) before in
    hit-at conf rate (first_moment m.first e.time) e.time (machine_at_moment conf m e.time).guard (machine_at_moment conf m e.time).held e.what s (rated conf sound s.rule.0 rate is.rated) is.completes
    ∙ ap (λ (y : Score). nat_lt (1000 * rate.limit) y.value) (score-is-remembered conf events sound order before e s rate is)

pub rate-is-remembered : (conf : Conf) (events : List Event) → IsConfig conf → IsInOrder None events → RateIsRemembered conf events
rate-is-remembered conf events sound order before e s rate is =
    ap (λ (es : List Event). option_map rate_hit (slice_get (outcomes_of conf (start conf) es) (length before))) is.run.1
    ∙ ap (option_map rate_hit) (outcome-at conf (start conf) before e is.run.0)
    ∙ ap (λ (b : Bool). Some b) (outcome-hit conf events sound order before e s rate is)
