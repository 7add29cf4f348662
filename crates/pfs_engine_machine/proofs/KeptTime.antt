-- The empty machine keeps what every machine keeps, and so does time that passes.
use Rattle.std.proofs.Common.{◌≡◌, ◌∙◌, ◌<◌, ◌≤◌, ◌==◌, ◌&&◌, not, nat_le, ℕ, Bool, true, Option, Some, None, List, [], ◌∷◌, All, filter, length, map, set, take, refl, arith}
use Rattle.std.specs.Option.{ForSome}
use Rattle.std.specs.Prelude.{slice_index_or}
use Rattle.std.proofs.lemmas.Bool.Decides.{nat_tests}
use Rattle.std.proofs.lemmas.List.{length-map}
use Rattle.std.proofs.lemmas.List.Elements.{All-filter, All-nil, All-weaker}
use Rattle.pfs_addr_values.proofs.SameLaws.{same_addr_true}
use Rattle.pfs_addr_values.specs.Sameness.{same_addr}
use Rattle.pfs_addr_values.specs.declared.addresses.Addr.{Addr}
use Rattle.pfs_eval.specs.Entries.{Entry, entry_of_text, is_entry}
use Rattle.pfs_eval.specs.Tables.{entered_to, entries_at, entries_entered, entry_count, is_old}
use Rattle.pfs_eval.proofs.TextTables.{count-config}
use Rattle.pfs_conf_values.specs.Configs.{Conf, limit_of, options_of}
use Rattle.pfs_conf_values.specs.declared.limits.LimitName.TheVariants as limit_name
use Rattle.pfs_conf_values.specs.Invariants.{IsConfig}
use Rattle.pfs_conf_values.specs.declared.tables.TableDef.{TableDef}
use Rattle.pfs_store_contract.proofs.MomentLaws.{empty_world-up_to_now, later-up_to_now, left-up_to_now, node_slice-up_to_now}
use Rattle.pfs_store_contract.specs.Calls.{stays_elsewhere, world_elsewhere}
use Rattle.pfs_store_contract.specs.Counts.{is_connection, is_node, is_of_node, is_of_rule, node_states, same_scope}
use Rattle.pfs_store_contract.specs.Leaving.{node_after_leaving, world_with_stay}
use Rattle.pfs_store_contract.specs.Purging.{is_among, node_round, node_share, node_slice, node_stays, purge, state_round, state_share, state_slice, stays}
use Rattle.pfs_store_contract.specs.Worlds.{World, inner_key}
use Rattle.pfs_store_contract.specs.Seconds.{world_after_purges}
use Rattle.pfs_store_contract.specs.declared.kills.FromTo.{FromTo}
use Rattle.pfs_store_contract.specs.declared.records.Node.{Node}
use Rattle.pfs_store_contract.specs.declared.records.NodeScope.{NodeScope}
use Rattle.pfs_store_contract.specs.declared.records.State.{State}
use Rattle.pfs_engine_machine.proofs.Additions.{entries_entered-size, entries_entered-within, filtered-fewer, filtered-size}
use Rattle.pfs_engine_machine.proofs.Keys.{keys-filter}
use Rattle.pfs_engine_machine.proofs.Numbers.{Rise-filter}
use Rattle.pfs_engine_machine.proofs.Counts.{any-filter, any-map, count-at, count-filter_le, count-map, count_le}
use Rattle.pfs_engine_machine.proofs.Scopes.{is_of_node-own}
use Rattle.pfs_engine_machine.specs.MachineInvariants.{HasNode, HasSource, IsKept, IsWithin, moment_of, own_scope, IsPlain, outer_key, HasPhase}
use Rattle.std.proofs.lemmas.Bool.{and_parts}
use Rattle.pfs_store_contract.proofs.ScopeLaws.{same_scope_true}
use Rattle.pfs_engine_machine.specs.declared.events.Command.{Command}
use Rattle.pfs_engine_machine.specs.declared.events.Command.TheVariants as command
use Rattle.pfs_engine_machine.specs.Machine.{MachineContents, Machine, machine_at_moment, due, answer_to_command, first_moment, held_of, start}

-- ---- the start

pub kept_start : (conf : Conf) → IsConfig conf → IsKept conf (start conf).held 0
kept_start conf sound = record {
  limits = record {
    states = omega arith;
    nodes = omega arith;
    entries = omega (arith, count-config conf, sound.few_entries);
    rule_states = λ rule n is. omega arith;
    source_nodes = λ rule alone n is. omega arith;
    source_states = λ rule source alone n is. omega arith;
    source_connections = λ rule source alone n is. omega arith;
  };
  numbers = omega arith;
  keys = tt;
  inner_keys = tt;
  plain = All-nil (IsPlain conf);
  noded = All-nil (HasNode conf []);
  phases = All-nil HasPhase;
  sources = All-nil HasSource;
  tables = length-map conf.tables (λ (t : TableDef). map entry_of_text t.entries);
  moments = empty_world-up_to_now 0;
}

-- ---- states leave

-- a smaller count is within the maximum too
pub within_less : (most : Option ℕ) (a b : ℕ) → a ≤ b → IsWithin most b → IsWithin most a
within_less most a b le h n is = omega (arith, le, h n is)

-- an expiry changes neither the scope nor the source of a node
pub left-is_node : (conf : Conf) (before after : List State) (now : ℕ) (scope : NodeScope) (source : Addr) (n : Node)
    → is_node scope source (node_after_leaving conf before after now n) ≡ is_node scope source n
left-is_node conf before after now scope source n = grind arith

left-scope : (conf : Conf) (before after : List State) (now : ℕ) (scope : NodeScope) (n : Node)
    → same_scope (node_after_leaving conf before after now n).scope scope ≡ same_scope n.scope scope
left-scope conf before after now scope n = grind arith

-- the states that pass a test stay, at whatever moment, with whatever numbers pending
pub kept_left : (conf : Conf) (m : MachineContents) (p : State → Bool) (pending : List ℕ) (at now : ℕ) → IsKept conf m now
    → IsKept conf (held_of (world_with_stay conf m.world (filter p m.world.states) pending at) m.tables) now
kept_left conf m p pending at now k =
    let w = m.world in
    let change = node_after_leaving conf w.states (filter p w.states) at in
    record {
      limits = record {
        states = omega (arith, count_le p w.states, k.limits.states);
        nodes = omega (arith, length-map w.nodes change, k.limits.nodes);
        entries = k.limits.entries;
        rule_states = λ rule. within_less (options_of conf rule).max _ _ (count-filter_le (is_of_rule rule) p w.states) (k.limits.rule_states rule);
        source_nodes = λ rule alone n is.
            omega (arith, count-map (λ (n : Node). same_scope n.scope (own_scope rule)) change (left-scope conf w.states (filter p w.states) at (own_scope rule)) w.nodes, k.limits.source_nodes rule alone n is);
        source_states = λ rule source alone.
            within_less (options_of conf rule).max_src_states _ _ (count-filter_le (is_of_node conf (own_scope rule) source) p w.states) (k.limits.source_states rule source alone);
        source_connections = λ rule source alone.
            within_less (options_of conf rule).max_src_conn _ _ (count-filter_le (is_connection conf (own_scope rule) source) p w.states) (k.limits.source_connections rule source alone);
      };
      numbers = Rise-filter p 0 w.made w.states k.numbers;
      keys = keys-filter outer_key p w.states k.keys;
      inner_keys = keys-filter inner_key p w.states k.inner_keys;
      plain = All-filter p (IsPlain conf) w.states k.plain;
      noded = All-weaker (HasNode conf w.nodes) (HasNode conf (map change w.nodes))
          (λ s h scope is. any-map (is_node scope s.source) change (left-is_node conf w.states (filter p w.states) at scope s.source) w.nodes ∙ h scope is)
          (filter p w.states) (All-filter p (HasNode conf w.nodes) w.states k.noded);
      phases = All-filter p HasPhase w.states k.phases;
      sources = All-filter p HasSource w.states k.sources;
      tables = k.tables;
      moments = left-up_to_now conf w (filter p w.states) pending at now k.moments;
    }

pub kept_state_slice : (conf : Conf) (m : MachineContents) (at now : ℕ) → IsKept conf m now → IsKept conf (held_of (state_slice conf m.world at) m.tables) now
kept_state_slice conf m at now k = kept_left conf m (stays conf m.world.states at (take (state_share conf) (state_round m.world))) _ at now k

-- those stay that do not go from hosts to hosts
pub kept_elsewhere : (conf : Conf) (m : MachineContents) (hosts : FromTo) (at now : ℕ) → IsKept conf m now → IsKept conf (held_of (world_elsewhere conf m.world hosts at) m.tables) now
kept_elsewhere conf m hosts at now k = kept_left conf m (stays_elsewhere hosts) _ at now k

-- ---- nodes leave

-- the node of a state that is held stays
node_stays-held : (conf : Conf) (states : List State) (at : ℕ) (examined : List ℕ) (scope : NodeScope) (source : Addr)
    → 0 < node_states conf scope source states → (n : Node) → is_node scope source n ≡ true → node_stays conf states at examined n ≡ true
node_stays-held conf states at examined scope source some n is =
    let same = same_scope_true n.scope scope (and_parts (same_scope n.scope scope) (same_addr n.source source) is).0 in
    let from = same_addr_true n.source source (and_parts (same_scope n.scope scope) (same_addr n.source source) is).1 in
    let count : node_states conf n.scope n.source states ≡ node_states conf scope source states = rw (same, from) refl in
    by (is_among examined n.number) (nat_le n.expires at) (node_states conf n.scope n.source states) (omega (arith, count, some))
  where
    by : (a b : Bool) (c : ℕ) → 0 < c → not (a && ((c == 0) && b)) ≡ true
    by a b c h = grind (arith, nat_tests)

-- a slice of the nodes leaves each held state its node
noded_slice : (conf : Conf) (nodes : List Node) (states : List State) (at : ℕ) (examined : List ℕ) → All (HasNode conf nodes) states
    → All (HasNode conf (filter (node_stays conf states at examined) nodes)) states
noded_slice conf nodes states at examined h k d within scope is =
    let s = slice_index_or states k d in
    let some = count-at (is_of_node conf scope s.source) states k d within (is_of_node-own conf s scope is) in
    any-filter (is_node scope s.source) (node_stays conf states at examined) (node_stays-held conf states at examined scope s.source some) nodes (h k d within scope is)

pub kept_node_slice : (conf : Conf) (m : MachineContents) (at now : ℕ) → IsKept conf m now → IsKept conf (held_of (node_slice conf m.world at) m.tables) now
kept_node_slice conf m at now k =
    let w = m.world in
    let examined = take (node_share conf) (node_round w) in
    let p = node_stays conf w.states at examined in
    record {
      limits = record {
        states = k.limits.states;
        nodes = omega (arith, count_le p w.nodes, k.limits.nodes);
        entries = k.limits.entries;
        rule_states = k.limits.rule_states;
        source_nodes = λ rule alone.
            within_less (options_of conf rule).max_src_nodes _ _ (count-filter_le (λ (n : Node). same_scope n.scope (own_scope rule)) p w.nodes) (k.limits.source_nodes rule alone);
        source_states = k.limits.source_states;
        source_connections = k.limits.source_connections;
      };
      numbers = k.numbers;
      keys = k.keys;
      inner_keys = k.inner_keys;
      plain = k.plain;
      noded = noded_slice conf w.nodes w.states at examined k.noded;
      phases = k.phases;
      sources = k.sources;
      tables = k.tables;
      moments = node_slice-up_to_now conf w at now k.moments;
    }

-- ---- time passes

pub kept_purge : (conf : Conf) (h : MachineContents) (at now : ℕ) → IsKept conf h now → IsKept conf (held_of (purge conf h.world at) h.tables) now
kept_purge conf h at now k =
    kept_node_slice conf (held_of (state_slice conf h.world at) h.tables) at now (kept_state_slice conf h at now k)

pub kept_purged : (conf : Conf) (w : World) (tables : List (List Entry)) (now : ℕ) (seconds : List ℕ) → IsKept conf (held_of w tables) now
    → IsKept conf (held_of (world_after_purges conf w seconds) tables) now
kept_purged conf w tables now [] k = k
kept_purged conf w tables now (s ∷ seconds) k =
    kept_purged conf (purge conf w s) tables now seconds (kept_purge conf (held_of w tables) s now k)

-- other tables are as many, with entries within the limit; and it may be later
kept_beside : (conf : Conf) (h : MachineContents) (tables : List (List Entry)) (last now : ℕ) → entry_count tables ≤ limit_of conf limit_name.TableEntries
    → length tables ≡ length h.tables → last ≤ now → IsKept conf h last → IsKept conf (held_of h.world tables) now
kept_beside conf h tables last now within size later k = record {
  limits = record {
    states = k.limits.states;
    nodes = k.limits.nodes;
    entries = within;
    rule_states = k.limits.rule_states;
    source_nodes = k.limits.source_nodes;
    source_states = k.limits.source_states;
    source_connections = k.limits.source_connections;
  };
  numbers = k.numbers;
  keys = k.keys;
  inner_keys = k.inner_keys;
  plain = k.plain;
  noded = k.noded;
  phases = k.phases;
  sources = k.sources;
  tables = size ∙ k.tables;
  moments = later-up_to_now last now h.world later k.moments;
}

-- a later moment
pub kept_later : (conf : Conf) (h : MachineContents) (last now : ℕ) → last ≤ now → IsKept conf h last → IsKept conf h now
kept_later conf h last now later k = kept_beside conf h h.tables last now k.limits.entries refl later k

pub kept_advanced : (conf : Conf) (m : Machine) (now : ℕ) → ForSome m.last (λ last. last ≤ now) → IsKept conf m.held (moment_of m.last)
    → IsKept conf (machine_at_moment conf m now).held now
kept_advanced conf m now later k =
    kept_later conf (machine_at_moment conf m now).held (moment_of m.last) now (by m.last later) (kept_purged conf m.held.world m.held.tables (moment_of m.last) (due m.last now) k)
  where
    by : (last : Option ℕ) → ForSome last (λ last. last ≤ now) → moment_of last ≤ now
    by None h = omega arith
    by (Some last) h = h last refl

-- ---- a table changes

pub kept_tables : (conf : Conf) (h : MachineContents) (tables : List (List Entry)) (now : ℕ) → entry_count tables ≤ limit_of conf limit_name.TableEntries
    → length tables ≡ length h.tables → IsKept conf h now → IsKept conf (held_of h.world tables) now
kept_tables conf h tables now within size k = kept_beside conf h tables now now within size (omega arith) k

-- entries leave it
kept_filtered : (conf : Conf) (h : MachineContents) (stays : Entry → Bool) (table now : ℕ) → IsKept conf h now
    → IsKept conf (held_of h.world (set h.tables table (filter stays (entries_at h.tables table)))) now
kept_filtered conf h stays table now k =
    kept_tables conf h (set h.tables table (filter stays (entries_at h.tables table))) now
    (omega (arith, filtered-fewer h.tables table stays, k.limits.entries)) (filtered-size h.tables table stays) k

pub kept_command : (conf : Conf) (h : MachineContents) (first at table : ℕ) (done : Command) (now : ℕ) → IsKept conf h now → IsKept conf (answer_to_command conf h first at table done).1 now
kept_command conf h first at table (command.Expire seconds) now k = kept_filtered conf h (λ (e : Entry). not (is_old first at seconds e.1)) table now k
kept_command conf h first at table (command.Add e) now k =
    let limit = limit_of conf limit_name.TableEntries in
    let became = entered_to h.tables limit table e in
    kept_tables conf h (entries_entered h.tables table e at became) now (entries_entered-within h.tables limit table e at k.limits.entries)
    (entries_entered-size h.tables table e at became) k
kept_command conf h first at table (command.Delete e) now k = kept_filtered conf h (λ (x : Entry). not (is_entry e x)) table now k

-- the first moment is not after the last one
pub first_advanced : (conf : Conf) (m : Machine) (now : ℕ) → ForSome m.last (λ last. last ≤ now) → moment_of m.first ≤ moment_of m.last
    → moment_of (machine_at_moment conf m now).first ≤ now
first_advanced conf m now later h = by m.first h (moment_within m.last later)
  where
    moment_within : (last : Option ℕ) → ForSome last (λ l. l ≤ now) → moment_of last ≤ now
    moment_within None k = omega arith
    moment_within (Some last) k = k last refl

    by : (first : Option ℕ) → moment_of first ≤ moment_of m.last → moment_of m.last ≤ now → first_moment first now ≤ now
    by None k l = omega arith
    by (Some first) k l = omega (arith, k, l)

-- ---- no second makes a state

pub made_purged : (conf : Conf) (w : World) (seconds : List ℕ) → (world_after_purges conf w seconds).made ≡ w.made
made_purged conf w [] = refl
made_purged conf w (s ∷ seconds) = made_purged conf (purge conf w s) seconds

pub made_advanced : (conf : Conf) (m : Machine) (now : ℕ) → (machine_at_moment conf m now).held.world.made ≡ m.held.world.made
made_advanced conf m now = made_purged conf m.held.world (due m.last now)
