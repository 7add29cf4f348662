-- What is held is few, and its numbers are those that were made: for every list of acts, in whatever order their moments come.
use Rattle.std.proofs.Common.{◌≡◌, ℕ, ◌+◌, ◌≤◌, Bool, true, false, cond, List, [], ◌∷◌, ◌++◌, length, filter, take, drop, Option, Some, None, refl, arith, length-drop, length-append}
use Rattle.std.proofs.lemmas.Bool.{false≢true}
use Rattle.std.proofs.lemmas.List.{length-map}
use Rattle.pfs_addr_values.specs.Packets.{PacketView}
use Rattle.pfs_addr_values.specs.declared.addresses.Addr.{Addr}
use Rattle.pfs_conf_values.specs.Configs.{Conf, limit_of, options_of}
use Rattle.pfs_conf_values.specs.declared.actions.Rate.{Rate}
use Rattle.pfs_conf_values.specs.declared.limits.LimitName.TheVariants as limit_name
use Rattle.pfs_store_contract.specs.Admission.{world_after_admission, world_after_refusal, new_node, new_state, nodes_with}
use Rattle.pfs_store_contract.specs.Calls.{packet_limit, stays_elsewhere}
use Rattle.pfs_store_contract.specs.Counts.{has_node, node_scope_of}
use Rattle.pfs_store_contract.specs.Leaving.{node_after_leaving, world_with_stay, world_without}
use Rattle.pfs_store_contract.specs.Purging.{is_among, node_numbers, node_round, node_share, node_slice, node_stays, round, state_numbers, state_round, state_share, state_slice, stays}
use Rattle.pfs_store_contract.specs.Touching.{completes_at, nodes_scored, nodes_touched, numbered_state_after, node_after_handshake, world_after_touch}
use Rattle.pfs_store_contract.specs.Worlds.{World, empty_world, holds_number}
use Rattle.pfs_store_contract.specs.declared.records.Limit.{Limit}
use Rattle.pfs_store_contract.specs.declared.records.Node.{Node}
use Rattle.pfs_store_contract.specs.declared.records.NodeScope.{NodeScope}
use Rattle.pfs_store_contract.specs.declared.records.State.{State}
use Rattle.pfs_engine_machine.specs.Machine.{MachineContents}
use Rattle.pfs_engine_machine.proofs.PacketChanges.{answered_keeps}
use Rattle.pfs_engine_machine.proofs.HeldNumbers.{among-same, made-more, numbers-left, numbers-renewed, numbers-touched, was}
use Rattle.pfs_engine_machine.proofs.Limits.{meets_none, nodes_room, refused_has}
use Rattle.pfs_engine_machine.proofs.Rounds.{length-filter-le}
use Rattle.pfs_engine_machine.specs.Acts.{RunAct, Arrive, Change, Kill, Purge, act_done, acts_done}

abbrev pub state_limit : Conf → ℕ
state_limit conf = limit_of conf limit_name.States

abbrev pub node_limit : Conf → ℕ
node_limit conf = limit_of conf limit_name.SrcNodes

pub record IsSmall (conf : Conf) (w : World) : Type 0 where
  pub states : length w.states ≤ state_limit conf
  pub nodes : length w.nodes ≤ node_limit conf
  pub pending_states : length w.pending_states ≤ state_limit conf
  pub pending_nodes : length w.pending_nodes ≤ node_limit conf
  pub state_made : (n : ℕ) → is_among (state_numbers w.states) n ≡ true → n ≤ w.made
  pub node_made : (n : ℕ) → is_among (node_numbers w.nodes) n ≡ true → n ≤ w.made

-- ---- one more

made-admitted : (nodes : List Node) (made now : ℕ) (source : Addr) (o : Option NodeScope) → ((n : ℕ) → is_among (node_numbers nodes) n ≡ true → n ≤ made)
    → (n : ℕ) → is_among (node_numbers (nodes_with nodes (made + 1) source now o)) n ≡ true → n ≤ made + 1
made-admitted nodes made now source None h n k = omega (arith, h n k)
made-admitted nodes made now source (Some scope) h n k = go (has_node scope source nodes) k
  where
    new : Node
    new = new_node (made + 1) scope source now

    go : (b : Bool) → is_among (node_numbers (cond b nodes (nodes ++ new ∷ []))) n ≡ true → n ≤ made + 1
    go true e = omega (arith, h n e)
    go false e = made-more (λ (d : Node). d.number) made nodes new refl h n e

small-admitted : (conf : Conf) (w : World) (p going : PacketView) (cookie : Bool) (rule now : ℕ) → packet_limit conf w p rule ≡ None → IsSmall conf w → IsSmall conf (world_after_admission conf w p going rule cookie now)
small-admitted conf w p going cookie rule now e k =
    let new : State = new_state conf (w.made + 1) p going rule cookie now in
    let free = meets_none conf w rule p.source.addr e in
    record {
      states = omega (arith, length-append w.states (new ∷ []), free.room);
      nodes = nodes_room conf w (options_of conf rule) p.source.addr (w.made + 1) now (node_scope_of conf rule) free.sources k.nodes;
      pending_states = k.pending_states;
      pending_nodes = k.pending_nodes;
      state_made = made-more (λ (s : State). s.number) w.made w.states new refl k.state_made;
      node_made = made-admitted w.nodes w.made now p.source.addr (node_scope_of conf rule) k.node_made;
    }

small-refused : (conf : Conf) (w : World) (p : PacketView) (rule now : ℕ) (l : Limit) → packet_limit conf w p rule ≡ Some l → IsSmall conf w
    → IsSmall conf (world_after_refusal conf w p.source.addr rule now l)
small-refused conf w p rule now l e k = refused_has conf w rule p.source.addr now l (IsSmall conf) e k (λ free. record {
  states = k.states;
  nodes = nodes_room conf w (options_of conf rule) p.source.addr (w.made + 1) now (node_scope_of conf rule) free k.nodes;
  pending_states = k.pending_states;
  pending_nodes = k.pending_nodes;
  state_made = λ n h. omega (arith, k.state_made n h);
  node_made = made-admitted w.nodes w.made now p.source.addr (node_scope_of conf rule) k.node_made;
})

-- ---- as many

length-scored : (ns : List Node) (source : Addr) (now : ℕ) (scope : Option NodeScope) (rate : Option Rate) → length (nodes_scored ns source now scope rate) ≡ length ns
length-scored ns source now None rate = refl
length-scored ns source now (Some scope) None = refl
length-scored ns source now (Some scope) (Some rate) = length-map ns (node_after_handshake scope source rate.seconds now)

length-touched : (conf : Conf) (ns : List Node) (s : State) (now : ℕ) (completes : Bool) → length (nodes_touched conf ns s now completes) ≡ length ns
length-touched conf ns s now true = length-scored ns s.source now (node_scope_of conf s.rule.0) (options_of conf s.rule.0).max_src_conn_rate
length-touched conf ns s now false = refl

small-touched : (conf : Conf) (w : World) (s : State) (p : PacketView) (now : ℕ) → IsSmall conf w → IsSmall conf (world_after_touch conf w s p now)
small-touched conf w s p now k = record {
  states = omega (arith, length-map w.states (numbered_state_after s.number p now), k.states);
  nodes = omega (arith, length-touched conf w.nodes s now (completes_at p s), k.nodes);
  pending_states = k.pending_states;
  pending_nodes = k.pending_nodes;
  state_made = λ n h. k.state_made n (among-same n _ _ (numbers-renewed s.number p now w.states) h);
  node_made = λ n h. k.node_made n (among-same n _ _ (numbers-touched conf w.nodes s now (completes_at p s)) h);
}

-- ---- fewer

small-left : (conf : Conf) (w : World) (p : State → Bool) (pending : List ℕ) (now : ℕ) → length pending ≤ state_limit conf → IsSmall conf w
    → IsSmall conf (world_with_stay conf w (filter p w.states) pending now)
small-left conf w p pending now few k = record {
  states = omega (arith, length-filter-le p w.states, k.states);
  nodes = omega (arith, length-map w.nodes (node_after_leaving conf w.states (filter p w.states) now), k.nodes);
  pending_states = few;
  pending_nodes = k.pending_nodes;
  state_made = λ n h. k.state_made n (was (λ (s : State). s.number) p n w.states h);
  node_made = λ n h. k.node_made n (among-same n _ _ (numbers-left conf w.states (filter p w.states) now w.nodes) h);
}

small-without : (conf : Conf) (w : World) (stay : State → Bool) (now : ℕ) → IsSmall conf w → IsSmall conf (world_without conf w stay now)
small-without conf w stay now k =
    let still = holds_number (filter stay w.states) in
    small-left conf w stay (filter still w.pending_states) now (omega (arith, length-filter-le still w.pending_states, k.pending_states)) k

drop-few : (k most : ℕ) (held pending : List ℕ) → length held ≤ most → length pending ≤ most → length (drop k (round held pending)) ≤ most
drop-few k most held [] h l = omega (arith, length-drop k held, h)
drop-few k most held (m ∷ ms) h l = omega (arith, length-drop k (m ∷ ms), l)

pub small-states : (conf : Conf) (w : World) (s : ℕ) → IsSmall conf w → IsSmall conf (state_slice conf w s)
small-states conf w s k =
    small-left conf w (stays conf w.states s (take (state_share conf) (state_round w))) (drop (state_share conf) (state_round w)) s
    (drop-few (state_share conf) (state_limit conf) (state_numbers w.states) w.pending_states (omega (arith, length-map w.states (λ (s : State). s.number), k.states)) k.pending_states) k

small-nodes : (conf : Conf) (w : World) (s : ℕ) → IsSmall conf w → IsSmall conf (node_slice conf w s)
small-nodes conf w s k =
    let stay = node_stays conf w.states s (take (node_share conf) (node_round w)) in
    record {
      states = k.states;
      nodes = omega (arith, length-filter-le stay w.nodes, k.nodes);
      pending_states = k.pending_states;
      pending_nodes = drop-few (node_share conf) (node_limit conf) (node_numbers w.nodes) w.pending_nodes (omega (arith, length-map w.nodes (λ (n : Node). n.number), k.nodes)) k.pending_nodes;
      state_made = k.state_made;
      node_made = λ n h. k.node_made n (was (λ (n : Node). n.number) stay n w.nodes h);
    }

-- ---- together

pub small-done : (conf : Conf) (m : MachineContents) (a : RunAct) → IsSmall conf m.world → IsSmall conf (act_done conf m a).world
small-done conf m (Purge s) k = small-nodes conf (state_slice conf m.world s) s (small-states conf m.world s k)
small-done conf m (Arrive now p cookie) k =
    answered_keeps conf (IsSmall conf) (record { touches = small-touched conf; kills = small-without conf; admits = λ w q going with at moment none led free. small-admitted conf w q going with at moment none; refuses = small-refused conf }) m p cookie now k
small-done conf m (Change first now table done) k = k
small-done conf m (Kill now hosts) k = small-without conf m.world (stays_elsewhere hosts) now k

pub small-done_all : (conf : Conf) (m : MachineContents) (acts : List RunAct) → IsSmall conf m.world → IsSmall conf (acts_done conf m acts).world
small-done_all conf m [] k = k
small-done_all conf m (a ∷ acts) k = small-done_all conf (act_done conf m a) acts (small-done conf m a k)

pub small-empty : (conf : Conf) → IsSmall conf empty_world
small-empty conf = record {
  states = omega arith;
  nodes = omega arith;
  pending_states = omega arith;
  pending_nodes = omega arith;
  state_made = λ n h. absurd (false≢true h);
  node_made = λ n h. absurd (false≢true h);
}
