-- A packet of a held state keeps what a machine keeps: it is within `max-src-conn`, or states are killed for it.
use Rattle.std.proofs.Common.{◌≡◌, ◌≤◌, ◌⊎◌, inl, inr, ℕ, Bool, true, false, if◌then◌else◌, Option, None, Some, List, All, filter, length, map, refl, ap, sym, ◌∙◌, arith, ◌==◌}
use Rattle.std.proofs.lemmas.List.{length-map}
use Rattle.std.proofs.lemmas.List.Elements.{All-filter, All-map, All-weaker}
use Rattle.pfs_addr_values.proofs.SameLaws.{same_key_true}
use Rattle.pfs_addr_values.specs.Keys.{key_of}
use Rattle.pfs_addr_values.specs.Packets.{PacketView, is_from_inside}
use Rattle.pfs_addr_values.specs.Sameness.{same_key}
use Rattle.pfs_addr_values.specs.declared.addresses.Addr.{Addr}
use Rattle.pfs_addr_values.specs.declared.packets.FlowKey.{FlowKey}
use Rattle.pfs_eval.specs.Entries.{Entry}
use Rattle.pfs_eval.specs.Tables.{added_to, entry_count}
use Rattle.pfs_conf_values.specs.Configs.{Conf, limit_of, options_of}
use Rattle.pfs_conf_values.specs.declared.actions.Overload.{Overload}
use Rattle.pfs_conf_values.specs.declared.actions.Scope.{Scope}
use Rattle.pfs_conf_values.specs.declared.items.RuleNo.{RuleNo}
use Rattle.pfs_conf_values.specs.declared.limits.LimitName.TheVariants as limit_name
use Rattle.pfs_store_contract.proofs.MomentLaws.{left-up_to_now, world_touched-up_to_now}
use Rattle.pfs_store_contract.specs.Counts.{has_node, is_of_node, is_of_rule, node_connections, node_scope_of, node_states, rule_states, scope_nodes}
use Rattle.pfs_store_contract.specs.Handshakes.{flush_of, hits_connections, hits_rate, stays_at_kill}
use Rattle.pfs_store_contract.specs.Leaving.{world_without, end_on, sent_on_side}
use Rattle.pfs_store_contract.specs.Touching.{completes_at, is_asking, is_taken, goes_forward, nodes_touched, numbered_state_after, world_after_touch, state_after_packet}
use Rattle.pfs_store_contract.specs.Worlds.{IsUpToNow, World, inner_key}
use Rattle.pfs_store_contract.specs.declared.records.Node.{Node}
use Rattle.pfs_store_contract.specs.declared.records.NodeScope.{NodeScope}
use Rattle.pfs_store_contract.specs.declared.records.State.{State}
use Rattle.pfs_engine_machine.specs.MachineInvariants.{HasNode, HasSource, IsKept, IsPhaseOf, IsWithin, KeysDiffer, Rise, TracksAlone, own_scope, IsPlain, outer_key, HasPhase}
use Rattle.pfs_engine_machine.specs.Machine.{MachineContents, answer_of_exceeded, answer_of_state, exceeded_of, held_of, answer_of_kill, outcome_of_held, tables_after_addition}
use Rattle.pfs_engine_machine.specs.Refusals.{is_tcp}
use Rattle.pfs_engine_machine.specs.declared.events.Exceeded.{Exceeded}
use Rattle.pfs_engine_machine.specs.declared.events.Exceeded.TheVariants as exceeded
use Rattle.pfs_engine_machine.specs.Sides.{state_for, met_key}
use Rattle.pfs_engine_machine.proofs.Additions.{entries_after-size, entries_after-within}
use Rattle.pfs_engine_machine.proofs.Alike.{AreAlike, left_all-alike, nodes_touched-alike}
use Rattle.pfs_engine_machine.proofs.Changes.{find-all, find-passes}
use Rattle.pfs_engine_machine.proofs.Connections.{IsAlone, connections-killed, connections-same, connections-within}
use Rattle.pfs_engine_machine.proofs.Counts.{count-filter_le, count-map, count_le}
use Rattle.pfs_engine_machine.proofs.Keys.{keys-filter, keys-map, found-by}
use Rattle.pfs_engine_machine.proofs.KeptTime.{kept_tables, within_less}
use Rattle.pfs_engine_machine.proofs.Numbers.{Rise-alone, Rise-filter, Rise-map}
use Rattle.pfs_engine_machine.proofs.Renewals.{is_tcp-completes, renewed-phase, renewed-same}
use Rattle.pfs_addr_values.specs.declared.packets.Dir.{Dir}
use Rattle.pfs_addr_values.specs.declared.packets.Dir.TheVariants as dir

-- what a machine keeps while a handshake is looked at: all but that connections are within `max-src-conn`
record IsKeptBut (conf : Conf) (m : MachineContents) (now : ℕ) : Type 0 where
  states : length m.world.states ≤ limit_of conf limit_name.States
  nodes : length m.world.nodes ≤ limit_of conf limit_name.SrcNodes
  entries : entry_count m.tables ≤ limit_of conf limit_name.TableEntries
  of_rules : (rule : ℕ) → IsWithin (options_of conf rule).max (rule_states rule m.world.states)
  source_nodes : (rule : ℕ) → TracksAlone conf rule → IsWithin (options_of conf rule).max_src_nodes (scope_nodes (own_scope rule) m.world.nodes)
  source_states : (rule : ℕ) (source : Addr) → TracksAlone conf rule → IsWithin (options_of conf rule).max_src_states (node_states conf (own_scope rule) source m.world.states)
  numbers : Rise 0 m.world.states m.world.made
  keys : KeysDiffer outer_key m.world.states
  inner_keys : KeysDiffer inner_key m.world.states
  plain : All (IsPlain conf) m.world.states
  noded : All (HasNode conf m.world.nodes) m.world.states
  phases : All HasPhase m.world.states
  sources : All HasSource m.world.states
  tables : length m.tables ≡ length conf.tables
  moments : IsUpToNow now m.world

-- the connections of each source of a rule that tracks them by itself are within `max-src-conn`
abbrev AreFew : Conf → List State → Type 0
AreFew conf states = (rule : ℕ) (source : Addr) → TracksAlone conf rule
    → IsWithin (options_of conf rule).max_src_conn (node_connections conf (own_scope rule) source states)

kept_whole : (conf : Conf) (m : MachineContents) (now : ℕ) → IsKeptBut conf m now → AreFew conf m.world.states → IsKept conf m now
kept_whole conf m now k few = record {
  limits = record {
    states = k.states;
    nodes = k.nodes;
    entries = k.entries;
    rule_states = k.of_rules;
    source_nodes = k.source_nodes;
    source_states = k.source_states;
    source_connections = few;
  };
  numbers = k.numbers;
  keys = k.keys;
  inner_keys = k.inner_keys;
  plain = k.plain;
  noded = k.noded;
  phases = k.phases;
  sources = k.sources;
  tables = k.tables;
  moments = k.moments;
}

-- ---- the state's packet

-- nodes that are alike are those of the same states
HasNode-alike : (conf : Conf) (before after : List Node) → AreAlike before after → (s : State) → HasNode conf before s → HasNode conf after s
HasNode-alike conf before after alike s h = λ scope is. alike.has scope s.source ∙ h scope is

renewed-noded : (conf : Conf) (nodes : List Node) (number : ℕ) (p : PacketView) (now : ℕ) (s : State) → HasNode conf nodes s
    → HasNode conf nodes (numbered_state_after number p now s)
renewed-noded conf nodes number p now s h = λ scope is.
    let same = renewed-same number p now s in
    ap (λ (a : Addr). has_node scope a nodes) same.source ∙ h scope (sym (ap (λ (r : RuleNo). node_scope_of conf r.0) same.rule) ∙ is)

renewed-of_node : (conf : Conf) (scope : NodeScope) (source : Addr) (number : ℕ) (p : PacketView) (now : ℕ) (s : State)
    → is_of_node conf scope source (numbered_state_after number p now s) ≡ is_of_node conf scope source s
renewed-of_node conf scope source number p now s = let same = renewed-same number p now s in rw (same.rule, same.source)

renewed-source : (number : ℕ) (p : PacketView) (now : ℕ) (s : State) → HasSource s → HasSource (numbered_state_after number p now s)
renewed-source number p now s h = go (s.number == number)
  where
    by : (d : Dir) → (end_on d (sent_on_side d s)).addr ≡ s.source → (end_on d (sent_on_side d (state_after_packet p now s))).addr ≡ s.source
    by dir.In k = k
    by dir.Out k = k

    go : (b : Bool) → HasSource (if b then state_after_packet p now s else s)
    go true = by s.dir h
    go false = h

renewed-inner : (number : ℕ) (p : PacketView) (now : ℕ) (s : State) → inner_key (numbered_state_after number p now s) ≡ inner_key s
renewed-inner number p now s = go (s.number == number)
  where
    go : (b : Bool) → inner_key (if b then state_after_packet p now s else s) ≡ inner_key s
    go true = refl
    go false = refl

kept_but_touched : (conf : Conf) (m : MachineContents) (p : PacketView) (now : ℕ) (s : State) → IsKept conf m now
    → IsKeptBut conf (held_of (world_after_touch conf m.world s p now) m.tables) now
kept_but_touched conf m p now s k =
    let w = m.world in
    let f = numbered_state_after s.number p now in
    let alike = nodes_touched-alike conf w.nodes s now (completes_at p s) in
    let nodes = nodes_touched conf w.nodes s now (completes_at p s) in
    record {
      states = omega (arith, length-map w.states f, k.limits.states);
      nodes = omega (arith, alike.size, k.limits.nodes);
      entries = k.limits.entries;
      of_rules = λ rule n is.
          omega (arith, count-map (is_of_rule rule) f (λ (t : State). rw ((renewed-same s.number p now t).rule)) w.states, k.limits.rule_states rule n is);
      source_nodes = λ rule tracks n is. omega (arith, alike.counts (own_scope rule), k.limits.source_nodes rule tracks n is);
      source_states = λ rule source tracks n is.
          omega (arith, count-map (is_of_node conf (own_scope rule) source) f (renewed-of_node conf (own_scope rule) source s.number p now) w.states, k.limits.source_states rule source tracks n is);
      numbers = Rise-map f (λ (t : State). (renewed-same s.number p now t).number) 0 w.made w.states k.numbers;
      keys = keys-map outer_key f (λ (t : State). (renewed-same s.number p now t).key) w.states k.keys;
      inner_keys = keys-map inner_key f (renewed-inner s.number p now) w.states k.inner_keys;
      plain = All-map (IsPlain conf) f w.states
          (All-weaker (IsPlain conf) (λ (t : State). IsPlain conf (f t)) (λ t h none. (renewed-same s.number p now t).inner ∙ h none) w.states k.plain);
      noded = All-map (HasNode conf nodes) f w.states
          (All-weaker (HasNode conf w.nodes) (λ (t : State). HasNode conf nodes (f t))
          (λ t h. renewed-noded conf nodes s.number p now t (HasNode-alike conf w.nodes nodes alike t h)) w.states k.noded);
      sources = All-map HasSource f w.states
          (All-weaker HasSource (λ (t : State). HasSource (f t)) (λ t h. renewed-source s.number p now t h) w.states k.sources);
      phases = All-map HasPhase f w.states (All-weaker HasPhase (λ (t : State). HasPhase (f t)) (renewed-phase s.number p now) w.states k.phases);
      tables = k.tables;
      moments = world_touched-up_to_now conf w p now (Some s) k.moments;
    }

-- the state alone has its number
alone_of : (conf : Conf) (m : MachineContents) (p : PacketView) (now : ℕ) (s : State) → state_for m.world p ≡ Some s → IsKept conf m now → IsAlone s m.world.states
alone_of conf m p now s found k =
    Rise-alone (λ (t : State). same_key (met_key p t) (key_of p)) s 0 m.world.made m.world.states k.numbers (sym (found-by m.world p) ∙ found)

-- where the handshake does not complete, or hits no `max-src-conn`, no source has too many connections
few_touched : (conf : Conf) (m : MachineContents) (p : PacketView) (now : ℕ) (s : State) → state_for m.world p ≡ Some s
    → ((completes_at p s ≡ false) ⊎ (hits_connections conf (world_after_touch conf m.world s p now) s ≡ false))
    → IsKept conf m now → AreFew conf (world_after_touch conf m.world s p now).states
few_touched conf m p now s found why k rule source tracks = go why (is_of_node conf (own_scope rule) source s) refl
  where
    alone : IsAlone s m.world.states
    alone = alone_of conf m p now s found k

    same : ((completes_at p s ≡ false) ⊎ (is_of_node conf (own_scope rule) source s ≡ false))
        → IsWithin (options_of conf rule).max_src_conn (node_connections conf (own_scope rule) source (map (numbered_state_after s.number p now) m.world.states))
    same because = λ n is.
        omega (arith, connections-same conf (own_scope rule) source s p now m.world.states alone because, k.limits.source_connections rule source tracks n is)

    go : ((completes_at p s ≡ false) ⊎ (hits_connections conf (world_after_touch conf m.world s p now) s ≡ false))
        → (own : Bool) → is_of_node conf (own_scope rule) source s ≡ own
        → IsWithin (options_of conf rule).max_src_conn (node_connections conf (own_scope rule) source (map (numbered_state_after s.number p now) m.world.states))
    go (inl before) own e = same (inl before)
    go (inr few) true e = connections-within conf m.world p now s rule source tracks e few
    go (inr few) false e = same (inr e)

pub kept_touched : (conf : Conf) (m : MachineContents) (p : PacketView) (now : ℕ) (s : State) → state_for m.world p ≡ Some s
    → ((completes_at p s ≡ false) ⊎ (hits_connections conf (world_after_touch conf m.world s p now) s ≡ false))
    → IsKept conf m now → IsKept conf (held_of (world_after_touch conf m.world s p now) m.tables) now
kept_touched conf m p now s found why k =
    kept_whole conf (held_of (world_after_touch conf m.world s p now) m.tables) now (kept_but_touched conf m p now s k) (few_touched conf m p now s found why k)

-- ---- states are killed

kept_but_without : (conf : Conf) (m : MachineContents) (stays : State → Bool) (at now : ℕ) → IsKeptBut conf m now
    → IsKeptBut conf (held_of (world_without conf m.world stays at) m.tables) now
kept_but_without conf m stays at now k =
    let w = m.world in
    let alike = left_all-alike conf w.states (filter stays w.states) at w.nodes in
    let nodes = (world_without conf w stays at).nodes in
    record {
      states = omega (arith, count_le stays w.states, k.states);
      nodes = omega (arith, alike.size, k.nodes);
      entries = k.entries;
      of_rules = λ rule. within_less (options_of conf rule).max _ _ (count-filter_le (is_of_rule rule) stays w.states) (k.of_rules rule);
      source_nodes = λ rule tracks n is. omega (arith, alike.counts (own_scope rule), k.source_nodes rule tracks n is);
      source_states = λ rule source tracks.
          within_less (options_of conf rule).max_src_states _ _ (count-filter_le (is_of_node conf (own_scope rule) source) stays w.states) (k.source_states rule source tracks);
      numbers = Rise-filter stays 0 w.made w.states k.numbers;
      keys = keys-filter outer_key stays w.states k.keys;
      inner_keys = keys-filter inner_key stays w.states k.inner_keys;
      plain = All-filter stays (IsPlain conf) w.states k.plain;
      noded = All-filter stays (HasNode conf nodes) w.states (All-weaker (HasNode conf w.nodes) (HasNode conf nodes) (HasNode-alike conf w.nodes nodes alike) w.states k.noded);
      sources = All-filter stays HasSource w.states k.sources;
      phases = All-filter stays HasPhase w.states k.phases;
      tables = k.tables;
      moments = left-up_to_now conf w (filter stays w.states) (world_without conf w stays at).pending_states at now k.moments;
    }

-- the tables: one entry more at most, and only below the limit
tables_by-size : (conf : Conf) (tables : List (List Entry)) (source : Addr) (now : ℕ) (overload : Option Overload)
    → length (tables_after_addition conf tables source now overload) ≡ length tables
tables_by-size conf tables source now None = refl
tables_by-size conf tables source now (Some v) =
    entries_after-size tables v.table.0 source now (added_to tables (limit_of conf limit_name.TableEntries) v.table.0 source)

tables_by-within : (conf : Conf) (tables : List (List Entry)) (source : Addr) (now : ℕ) (overload : Option Overload)
    → entry_count tables ≤ limit_of conf limit_name.TableEntries → entry_count (tables_after_addition conf tables source now overload) ≤ limit_of conf limit_name.TableEntries
tables_by-within conf tables source now None le = le
tables_by-within conf tables source now (Some v) le = entries_after-within tables (limit_of conf limit_name.TableEntries) v.table.0 source now le

few_killed : (conf : Conf) (m : MachineContents) (p : PacketView) (now : ℕ) (s : State) (flush : Option Scope) → state_for m.world p ≡ Some s
    → IsKept conf m now
    → AreFew conf (filter (stays_at_kill conf.profile flush s.number s.dir s.rule s.source) (world_after_touch conf m.world s p now).states)
few_killed conf m p now s flush found k rule source tracks =
    within_less (options_of conf rule).max_src_conn _ _ (connections-killed conf m.world p now s flush (own_scope rule) source (alone_of conf m p now s found k)) (k.limits.source_connections rule source tracks)

pub kept_killed : (conf : Conf) (m : MachineContents) (p : PacketView) (now : ℕ) (s : State) (limits : Exceeded) → state_for m.world p ≡ Some s
    → IsKept conf m now → IsKept conf (answer_of_kill conf (held_of (world_after_touch conf m.world s p now) m.tables) s.number s.dir s.rule s.source now limits).1 now
kept_killed conf m p now s limits found k =
    let overload = (options_of conf s.rule.0).overload in
    let stays = stays_at_kill conf.profile (flush_of overload) s.number s.dir s.rule s.source in
    let first = held_of (world_after_touch conf m.world s p now) m.tables in
    let second = held_of (world_without conf first.world stays now) first.tables in
    let few = few_killed conf m p now s (flush_of overload) found k in
    let after = kept_whole conf second now (kept_but_without conf first stays now now (kept_but_touched conf m p now s k)) few in
    kept_tables conf second (tables_after_addition conf second.tables s.source now overload) now
    (tables_by-within conf second.tables s.source now overload after.limits.entries) (tables_by-size conf second.tables s.source now overload) after

-- ---- together

kept_by_handshake : (conf : Conf) (m : MachineContents) (p : PacketView) (now : ℕ) (s : State) (conn rate : Bool) → state_for m.world p ≡ Some s
    → IsKept conf m now → conn ≡ hits_connections conf (world_after_touch conf m.world s p now) s
    → (completes : Bool) → completes_at p s ≡ completes
    → IsKept conf (answer_of_exceeded conf (held_of (world_after_touch conf m.world s p now) m.tables) s.number s.dir s.rule s.source now
    (outcome_of_held s.rule (is_taken p s) (is_asking p s)) (if completes then exceeded_of conn rate else None)).1 now
kept_by_handshake conf m p now s conn rate found k is false done = kept_touched conf m p now s found (inl done) k
kept_by_handshake conf m p now s true true found k is true done = kept_killed conf m p now s exceeded.Both found k
kept_by_handshake conf m p now s true false found k is true done = kept_killed conf m p now s exceeded.Connections found k
kept_by_handshake conf m p now s false true found k is true done = kept_killed conf m p now s exceeded.Rate found k
kept_by_handshake conf m p now s false false found k is true done = kept_touched conf m p now s found (inr (sym is)) k

pub kept_held : (conf : Conf) (m : MachineContents) (p : PacketView) (cookie : Bool) (now : ℕ) (s : State) → state_for m.world p ≡ Some s
    → IsKept conf m now → IsKept conf (answer_of_state conf m p cookie now (Some s)).1 now
kept_held conf m p cookie now s found k =
    let after = world_after_touch conf m.world s p now in
    kept_by_handshake conf m p now s (hits_connections conf after s) (hits_rate conf after s) found k refl (completes_at p s) refl

-- no state is made
pub made_held : (conf : Conf) (m : MachineContents) (p : PacketView) (cookie : Bool) (now : ℕ) (s : State) → (answer_of_state conf m p cookie now (Some s)).1.world.made ≡ m.world.made
made_held conf m p cookie now s = by (if completes_at p s then exceeded_of (hits_connections conf after s) (hits_rate conf after s) else None)
  where
    after : World
    after = world_after_touch conf m.world s p now

    by : (limits : Option Exceeded) → (answer_of_exceeded conf (held_of after m.tables) s.number s.dir s.rule s.source now (outcome_of_held s.rule (is_taken p s) (is_asking p s)) limits).1.world.made ≡ m.world.made
    by (Some e) = refl
    by None = refl

-- ---- of a state that is held

-- its phase is one of the protocol of the key that a packet meets
met-phase : (p : PacketView) (s : State) → HasPhase s → IsPhaseOf (met_key p s).proto s.phase
met-phase p s both = by (is_from_inside p)
  where
    by : (b : Bool) → IsPhaseOf (if b then inner_key s else s.key).proto s.phase
    by true = both.1
    by false = both.0

-- only TCP completes
pub proto_of_completed : (conf : Conf) (m : MachineContents) (p : PacketView) (now : ℕ) (s : State) → IsKept conf m now → state_for m.world p ≡ Some s
    → completes_at p s ≡ true → is_tcp p.proto ≡ true
proto_of_completed conf m p now s k found done =
    let there = sym (found-by m.world p) ∙ found in
    let key : met_key p s ≡ key_of p = same_key_true (met_key p s) (key_of p) (find-passes (λ (t : State). same_key (met_key p t) (key_of p)) m.world.states s there) in
    let both : HasPhase s = find-all HasPhase (λ (t : State). same_key (met_key p t) (key_of p)) m.world.states s k.phases there in
    ap (λ (f : FlowKey). is_tcp f.proto) (sym key) ∙ is_tcp-completes (met_key p s).proto s.phase (goes_forward p s) p.flags (met-phase p s both) done
