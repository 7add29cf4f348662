-- A number whose state, or whose node, is to go at each purge is gone within two rounds.
use Rattle.std.proofs.Common.{◌≡◌, ℕ, suc, ◌+◌, ◌*◌, ◌<◌, ◌≤◌, Bool, true, false, ◌&&◌, not, cond, List, [], ◌∷◌, ◌++◌, length, filter, map, take, drop, Option, Some, None, ◌⊎◌, inl, inr, refl, ap, ◌∙◌, sym, subst, arith}
use Rattle.std.specs.List.{All, AllByRecursion}
use Rattle.std.proofs.lemmas.Bool.{false≢true}
use Rattle.std.proofs.lemmas.List.{length-map}
use Rattle.std.proofs.lemmas.List.Elements.{recursion_from_All}
use Rattle.pfs_addr_values.specs.declared.addresses.Addr.{Addr}
use Rattle.pfs_conf_values.specs.Configs.{Conf, timeout_of}
use Rattle.pfs_conf_values.specs.Invariants.{IsConfig}
use Rattle.pfs_conf_values.specs.declared.timeouts.TimeoutName.TheVariants as timeout
use Rattle.pfs_store_contract.specs.Admission.{new_node, new_state, nodes_with}
use Rattle.pfs_store_contract.specs.Calls.{stays_elsewhere}
use Rattle.pfs_store_contract.specs.Counts.{has_node, node_scope_of}
use Rattle.pfs_store_contract.specs.Leaving.{world_with_stay}
use Rattle.pfs_store_contract.specs.Purging.{has_expired, is_among, is_over, node_numbers, node_share, purge, round, share, state_numbers, state_share, state_slice}
use Rattle.pfs_store_contract.specs.Touching.{completes_at}
use Rattle.pfs_store_contract.specs.Worlds.{World, holds_number}
use Rattle.pfs_store_contract.specs.declared.records.Node.{Node}
use Rattle.pfs_store_contract.specs.declared.records.NodeScope.{NodeScope}
use Rattle.pfs_store_contract.specs.declared.records.State.{State}
use Rattle.pfs_engine_machine.specs.Machine.{MachineContents, start}
use Rattle.pfs_engine_machine.specs.declared.events.Event.{Event}
use Rattle.pfs_engine_machine.proofs.PacketChanges.{IsKeptByPackets, answered_keeps}
use Rattle.pfs_engine_machine.proofs.Limits.{refused_has}
use Rattle.pfs_engine_machine.proofs.Lists.{each-of}
use Rattle.pfs_engine_machine.proofs.HeldNumbers.{any-number, gone, numbers-left, numbers-renewed, numbers-touched, old, still_gone}
use Rattle.pfs_engine_machine.proofs.Rounds.{IsDue, due-end, due-filter, due-slice, due-start, share-enough}
use Rattle.pfs_engine_machine.proofs.RunActs.{done_all-append}
use Rattle.pfs_engine_machine.proofs.Small.{IsSmall, node_limit, small-done, small-done_all, small-empty, small-states, state_limit}
use Rattle.pfs_engine_machine.specs.Acts.{RunAct, Arrive, Change, Kill, Purge, after, act_done, acts_done, purges}
use Rattle.pfs_engine_machine.specs.Staleness.{IsOver, NodesGo}

abbrev pub interval_of : Conf → ℕ
interval_of conf = timeout_of conf timeout.Interval

-- ---- a number is gone, or goes within so many purges

abbrev Fate : ℕ → ℕ → ℕ → ℕ → List ℕ → List ℕ → Type 0
Fate each interval k n held pending = (is_among held n ≡ false) ⊎ IsDue each interval k n pending

-- one slice, over whatever has numbers
fate-slice : {X : Type 0} (f : X → ℕ) (leaves : X → Bool) (each interval k n : ℕ) (xs : List X) (pending : List ℕ) → length xs ≤ interval * each
    → AllByRecursion (λ x. f x ≡ n → leaves x ≡ true) xs → Fate each interval (suc k) n (map f xs) pending
    → Fate each interval k n (map f (filter (λ x. not (is_among (take each (round (map f xs) pending)) (f x) && leaves x)) xs)) (drop each (round (map f xs) pending))
fate-slice {X = X} f leaves each interval k n xs pending few all (inl h) =
    inl (still_gone f (λ x. not (is_among (take each (round (map f xs) pending)) (f x) && leaves x)) n xs h)
fate-slice {X = X} f leaves each interval k n xs pending few all (inr d) =
    go (is_among (map f xs) n) refl (is_among (take each (round (map f xs) pending)) n) refl
  where
    out : is_among (take each (round (map f xs) pending)) n ≡ true → (x : X) → (f x ≡ n → leaves x ≡ true) → f x ≡ n
        → not (is_among (take each (round (map f xs) pending)) (f x) && leaves x) ≡ false
    out e x h same = rw (same, e, h same) refl

    go : (a : Bool) → is_among (map f xs) n ≡ a → (b : Bool) → is_among (take each (round (map f xs) pending)) n ≡ b
        → Fate each interval k n (map f (filter (λ x. not (is_among (take each (round (map f xs) pending)) (f x) && leaves x)) xs)) (drop each (round (map f xs) pending))
    go false h b e = inl (still_gone f (λ x. not (is_among (take each (round (map f xs) pending)) (f x) && leaves x)) n xs h)
    go true h true e =
        inl (gone f (λ x. not (is_among (take each (round (map f xs) pending)) (f x) && leaves x)) n xs
        (each-of (λ x. f x ≡ n → leaves x ≡ true) (λ x. f x ≡ n → not (is_among (take each (round (map f xs) pending)) (f x) && leaves x) ≡ false) (out e) xs all))
    go true h false e = inr (due-slice each interval k n (map f xs) pending h (omega (arith, length-map xs f, few)) d e)

fate-same : (each interval k n : ℕ) (held held' pending : List ℕ) → held' ≡ held → Fate each interval k n held pending → Fate each interval k n held' pending
fate-same each interval k n held held' pending e (inl h) = inl (ap (λ (xs : List ℕ). is_among xs n) e ∙ h)
fate-same each interval k n held held' pending e (inr d) = inr d

-- the new one has another number
fate-push : {X : Type 0} (f : X → ℕ) (each interval k n : ℕ) (xs : List X) (x : X) (pending : List ℕ) → n < f x
    → Fate each interval k n (map f xs) pending → Fate each interval k n (map f (xs ++ x ∷ [])) pending
fate-push f each interval k n xs x pending lt (inr d) = inr d
fate-push f each interval k n xs x pending lt (inl h) = inl (go (is_among (map f (xs ++ x ∷ [])) n) refl)
  where
    go : (b : Bool) → is_among (map f (xs ++ x ∷ [])) n ≡ b → b ≡ false
    go false e = refl
    go true e = absurd (false≢true (sym h ∙ old f n xs x lt e))

fate-kill : (each interval k n : ℕ) (stays : State → Bool) (ss : List State) (pending : List ℕ) → Fate each interval k n (state_numbers ss) pending
    → Fate each interval k n (state_numbers (filter stays ss)) (filter (holds_number (filter stays ss)) pending)
fate-kill each interval k n stays ss pending (inl h) = inl (still_gone (λ (s : State). s.number) stays n ss h)
fate-kill each interval k n stays ss pending (inr d) = go (is_among (state_numbers (filter stays ss)) n) refl
  where
    go : (b : Bool) → is_among (state_numbers (filter stays ss)) n ≡ b → Fate each interval k n (state_numbers (filter stays ss)) (filter (holds_number (filter stays ss)) pending)
    go false e = inl e
    go true e = inr (due-filter each interval k n (holds_number (filter stays ss)) pending (any-number (λ (s : State). s.number) n (filter stays ss) ∙ e) d)

-- a round is over within an interval
enough : (limit interval count : ℕ) → 1 ≤ interval → count ≤ limit → count ≤ interval * share limit interval
enough limit interval count one h = omega (arith, share-enough limit interval one, h)

-- after the last purge it is gone
fate-end : (each interval n : ℕ) (held pending : List ℕ) → 1 ≤ interval → Fate each interval 0 n held pending → is_among held n ≡ false
fate-end each interval n held pending one (inl e) = e
fate-end each interval n held pending one (inr d) = absurd (due-end each interval n pending one d)

-- what waits for so many purges waits for none after them, where each of them brings it one nearer
after-purges : (conf : Conf) (Waits : ℕ → World → Type 0) (AtPurge : World → ℕ → Type 0) → ((k : ℕ) → IsKeptByPackets conf (Waits k))
    → ((k s : ℕ) (w : World) → IsSmall conf w → AtPurge w s → Waits (suc k) w → Waits k (purge conf w s))
    → (m : MachineContents) (acts : List RunAct) → IsSmall conf m.world → Waits (purges acts) m.world
    → ((before rest : List RunAct) (s : ℕ) → acts ≡ before ++ Purge s ∷ rest → AtPurge (acts_done conf m before).world s)
    → Waits 0 (acts_done conf m acts).world
after-purges conf Waits AtPurge packets purged m [] small h all = h
after-purges conf Waits AtPurge packets purged m (act ∷ acts) small h all =
    after-purges conf Waits AtPurge packets purged (act_done conf m act) acts (small-done conf m act small) (on act h (λ s e. all [] acts s (ap (λ (a : RunAct). a ∷ acts) e)))
    (λ before rest s e. all (act ∷ before) rest s (ap (λ (xs : List RunAct). act ∷ xs) e))
  where
    on : (a : RunAct) → Waits (purges (a ∷ acts)) m.world → ((s : ℕ) → a ≡ Purge s → AtPurge m.world s) → Waits (purges acts) (act_done conf m a).world
    on (Purge s) k at = purged (purges acts) s m.world small (at s refl) k
    on (Arrive now p cookie) k at = answered_keeps conf (Waits (purges acts)) (packets (purges acts)) m p cookie now k
    on (Change first now table done) k at = k
    on (Kill now hosts) k at = (packets (purges acts)).kills m.world (stays_elsewhere hosts) now k

-- ---- states

record StateAwaits (conf : Conf) (k n : ℕ) (w : World) : Type 0 where
  made : n ≤ w.made
  fate : Fate (state_share conf) (interval_of conf) k n (state_numbers w.states) w.pending_states

state-packets : (conf : Conf) (k n : ℕ) → IsKeptByPackets conf (StateAwaits conf k n)
state-packets conf k n = record {
  touches = λ w s p now h. record {
    made = h.made;
    fate = fate-same (state_share conf) (interval_of conf) k n _ _ w.pending_states (numbers-renewed s.number p now w.states) h.fate;
  };
  kills = λ w stays now h. record { made = h.made; fate = fate-kill (state_share conf) (interval_of conf) k n stays w.states w.pending_states h.fate };
  admits = λ w p going cookie rule now none led free h. record {
    made = omega (arith, h.made);
    fate = fate-push (λ (s : State). s.number) (state_share conf) (interval_of conf) k n w.states (new_state conf (w.made + 1) p going rule cookie now) w.pending_states (omega (arith, h.made)) h.fate;
  };
  refuses = λ w p rule now l met h.
      refused_has conf w rule p.source.addr now l (StateAwaits conf k n) met h (λ free. record { made = omega (arith, h.made); fate = h.fate });
}

state-purged : (conf : Conf) (k n : ℕ) (w : World) (s : ℕ) → 1 ≤ interval_of conf → IsSmall conf w
    → All (λ (t : State). t.number ≡ n → has_expired conf w.states s t ≡ true) w.states → StateAwaits conf (suc k) n w → StateAwaits conf k n (purge conf w s)
state-purged conf k n w s one small all h = record {
  made = h.made;
  fate = fate-slice (λ (t : State). t.number) (has_expired conf w.states s) (state_share conf) (interval_of conf) k n w.states w.pending_states
      (enough (state_limit conf) (interval_of conf) (length w.states) one small.states)
      (recursion_from_All (λ (t : State). t.number ≡ n → has_expired conf w.states s t ≡ true) w.states all) h.fate;
}

-- at each purge among these acts the state of this number, where it is still held, is expired
abbrev pub IsExpiredThroughout : Conf → MachineContents → ℕ → List RunAct → Type 0
IsExpiredThroughout conf m n acts =
    (before rest : List RunAct) (s : ℕ) → acts ≡ before ++ Purge s ∷ rest →
    All (λ (t : State). t.number ≡ n → has_expired conf (acts_done conf m before).world.states s t ≡ true) (acts_done conf m before).world.states

state-goes : (conf : Conf) (n : ℕ) (m : MachineContents) (acts : List RunAct) → 1 ≤ interval_of conf → IsSmall conf m.world → StateAwaits conf (purges acts) n m.world
    → IsExpiredThroughout conf m n acts → is_among (state_numbers (acts_done conf m acts).world.states) n ≡ false
state-goes conf n m acts one small h all =
    fate-end _ (interval_of conf) n _ _ one
    (after-purges conf (λ k. StateAwaits conf k n) (λ w s. All (λ (t : State). t.number ≡ n → has_expired conf w.states s t ≡ true) w.states) (λ k. state-packets conf k n)
    (λ k s w few expired waits. state-purged conf k n w s one few expired waits) m acts small h all).fate

-- in any 2 * interval purges in a row, the state of a number that is made by then, and expired at each of them, goes
pub numbered-go : (conf : Conf) (earlier meanwhile : List RunAct) (n : ℕ) → IsConfig conf → purges meanwhile ≡ 2 * interval_of conf
    → n ≤ (after conf earlier).world.made → IsExpiredThroughout conf (after conf earlier) n meanwhile
    → is_among (state_numbers (after conf (earlier ++ meanwhile)).world.states) n ≡ false
numbered-go conf earlier meanwhile n sound count made all =
    let m : MachineContents = after conf earlier in
    let small : IsSmall conf m.world = small-done_all conf (start conf).held earlier (small-empty conf) in
    let due : Fate (state_share conf) (interval_of conf) (2 * interval_of conf) n (state_numbers m.world.states) m.world.pending_states =
    inr (due-start (state_share conf) (interval_of conf) n m.world.pending_states (enough (state_limit conf) (interval_of conf) (length m.world.pending_states) sound.interval small.pending_states)) in
    let first : StateAwaits conf (2 * interval_of conf) n m.world = record { made = made; fate = due } in
    ap (λ (v : MachineContents). is_among (state_numbers v.world.states) n) (done_all-append conf (start conf).held earlier meanwhile)
    ∙ state-goes conf n m meanwhile sound.interval small (subst (λ (k : ℕ). StateAwaits conf k n m.world) (sym count) first) all

-- ---- nodes

record NodeAwaits (conf : Conf) (k n : ℕ) (w : World) : Type 0 where
  made : n ≤ w.made
  fate : Fate (node_share conf) (interval_of conf) k n (node_numbers w.nodes) w.pending_nodes

-- states that leave leave the nodes there
node-left : (conf : Conf) (k n : ℕ) (w : World) (states : List State) (pending : List ℕ) (now : ℕ) → NodeAwaits conf k n w
    → NodeAwaits conf k n (world_with_stay conf w states pending now)
node-left conf k n w states pending now h = record {
  made = h.made;
  fate = fate-same (node_share conf) (interval_of conf) k n _ _ w.pending_nodes (numbers-left conf w.states states now w.nodes) h.fate;
}

node-admitted : (conf : Conf) (k n made now : ℕ) (nodes : List Node) (pending : List ℕ) (source : Addr) (o : Option NodeScope) → n ≤ made
    → Fate (node_share conf) (interval_of conf) k n (node_numbers nodes) pending
    → Fate (node_share conf) (interval_of conf) k n (node_numbers (nodes_with nodes (made + 1) source now o)) pending
node-admitted conf k n made now nodes pending source None le h = h
node-admitted conf k n made now nodes pending source (Some scope) le h = go (has_node scope source nodes)
  where
    go : (b : Bool) → Fate (node_share conf) (interval_of conf) k n (node_numbers (cond b nodes (nodes ++ new_node (made + 1) scope source now ∷ []))) pending
    go true = h
    go false = fate-push (λ (d : Node). d.number) (node_share conf) (interval_of conf) k n nodes (new_node (made + 1) scope source now) pending (omega (arith, le)) h

node-packets : (conf : Conf) (k n : ℕ) → IsKeptByPackets conf (NodeAwaits conf k n)
node-packets conf k n = record {
  touches = λ w s p now h. record {
    made = h.made;
    fate = fate-same (node_share conf) (interval_of conf) k n _ _ w.pending_nodes (numbers-touched conf w.nodes s now (completes_at p s)) h.fate;
  };
  kills = λ w stays now h. node-left conf k n w (filter stays w.states) (filter (holds_number (filter stays w.states)) w.pending_states) now h;
  admits = λ w p going cookie rule now none led free h. record {
    made = omega (arith, h.made);
    fate = node-admitted conf k n w.made now w.nodes w.pending_nodes p.source.addr (node_scope_of conf rule) h.made h.fate;
  };
  refuses = λ w p rule now l met h. refused_has conf w rule p.source.addr now l (NodeAwaits conf k n) met h (λ free. record {
    made = omega (arith, h.made);
    fate = node-admitted conf k n w.made now w.nodes w.pending_nodes p.source.addr (node_scope_of conf rule) h.made h.fate;
  });
}

node-purged : (conf : Conf) (k n : ℕ) (w : World) (s : ℕ) → 1 ≤ interval_of conf → IsSmall conf w → IsOver conf n w s → NodeAwaits conf (suc k) n w → NodeAwaits conf k n (purge conf w s)
node-purged conf k n w s one small all h =
    let v : World = state_slice conf w s in
    let sliced = node-left conf (suc k) n w v.states v.pending_states s h in
    record {
      made = h.made;
      fate = fate-slice (λ (d : Node). d.number) (is_over conf v.states s) (node_share conf) (interval_of conf) k n v.nodes v.pending_nodes
          (enough (node_limit conf) (interval_of conf) (length v.nodes) one (small-states conf w s small).nodes)
          (recursion_from_All (λ (d : Node). d.number ≡ n → is_over conf v.states s d ≡ true) v.nodes all) sliced.fate;
    }

-- at each purge among these acts the node of this number, where it is still held, is over
abbrev IsOverThroughout : Conf → MachineContents → ℕ → List RunAct → Type 0
IsOverThroughout conf m n acts = (before rest : List RunAct) (s : ℕ) → acts ≡ before ++ Purge s ∷ rest → IsOver conf n (acts_done conf m before).world s

node-goes : (conf : Conf) (n : ℕ) (m : MachineContents) (acts : List RunAct) → 1 ≤ interval_of conf → IsSmall conf m.world → NodeAwaits conf (purges acts) n m.world
    → IsOverThroughout conf m n acts → is_among (node_numbers (acts_done conf m acts).world.nodes) n ≡ false
node-goes conf n m acts one small h all =
    fate-end _ (interval_of conf) n _ _ one
    (after-purges conf (λ k. NodeAwaits conf k n) (λ w s. IsOver conf n w s) (λ k. node-packets conf k n)
    (λ k s w few over waits. node-purged conf k n w s one few over waits) m acts small h all).fate

pub nodes-go : (conf : Conf) (events : List Event) → IsConfig conf → NodesGo conf events
nodes-go conf events sound earlier meanwhile later n rounds all held =
    let m : MachineContents = after conf earlier in
    let small : IsSmall conf m.world = small-done_all conf (start conf).held earlier (small-empty conf) in
    let made = small.node_made n (sym (any-number (λ (d : Node). d.number) n m.world.nodes) ∙ held) in
    let due : Fate (node_share conf) (interval_of conf) (2 * interval_of conf) n (node_numbers m.world.nodes) m.world.pending_nodes =
    inr (due-start (node_share conf) (interval_of conf) n m.world.pending_nodes (enough (node_limit conf) (interval_of conf) (length m.world.pending_nodes) sound.interval small.pending_nodes)) in
    let first : NodeAwaits conf (2 * interval_of conf) n m.world = record { made = made; fate = due } in
    any-number (λ (d : Node). d.number) n (after conf (earlier ++ meanwhile)).world.nodes
    ∙ ap (λ (v : MachineContents). is_among (node_numbers v.world.nodes) n) (done_all-append conf (start conf).held earlier meanwhile)
    ∙ node-goes conf n m meanwhile sound.interval small (subst (λ (k : ℕ). NodeAwaits conf k n m.world) (sym rounds.purges) first)
    (λ before rest s e. subst (λ (v : MachineContents). IsOver conf n v.world s) (done_all-append conf (start conf).held earlier before) (all before rest s e))
