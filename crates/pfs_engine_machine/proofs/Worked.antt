-- Worked runs of the machine, each by computation.
use Rattle.std.proofs.Common.{◌≡◌, ℕ, Bool, true, false, Option, None, Some, List, [], ◌∷◌, ◌++◌, refl}
use Rattle.pfs_addr_values.specs.Packets.{PacketView}
use Rattle.pfs_addr_values.specs.Prefixes.{cleared_addr, covers}
use Rattle.pfs_addr_values.specs.declared.addresses.Addr.{Addr}
use Rattle.pfs_addr_values.specs.declared.addresses.Addr.TheVariants.{V4}
use Rattle.pfs_addr_values.specs.declared.flag_sets.Flags.{Flags}
use Rattle.pfs_addr_values.specs.declared.packets.Dir.TheVariants.{In, Out}
use Rattle.pfs_addr_values.specs.declared.packets.Endpoint.{Endpoint}
use Rattle.pfs_addr_values.specs.declared.protocols.Proto.{Proto}
use Rattle.pfs_addr_values.specs.declared.protocols.Proto.TheVariants.{Tcp, Udp}
use Rattle.pfs_eval.specs.Matching.{matches_item}
use Rattle.pfs_eval.specs.Tables.{table_answer}
use Rattle.pfs_eval.specs.Verdict.{packet_behind, path_from, verdict, packet_at_cut, lost_by}
use Rattle.pfs_eval.specs.declared.tables.Added.{Added}
use Rattle.pfs_eval.specs.declared.tables.Added.TheVariants as added
use Rattle.pfs_eval.specs.declared.entries.TableEntry.{TableEntry}
use Rattle.pfs_eval.specs.declared.tables.Entered.TheVariants as entered
use Rattle.pfs_conf_values.specs.Configs.{Conf, any_packet, any_side, no_options, any_way}
use Rattle.pfs_conf_values.specs.declared.actions.Action.{Action}
use Rattle.pfs_conf_values.specs.declared.actions.Action.TheVariants as action
use Rattle.pfs_conf_values.specs.declared.actions.Overload.{Overload}
use Rattle.pfs_conf_values.specs.declared.actions.Scope.TheVariants as scope
use Rattle.pfs_conf_values.specs.declared.filters.Filter.{Filter}
use Rattle.pfs_conf_values.specs.declared.filters.Host.TheVariants as host
use Rattle.pfs_conf_values.specs.declared.items.Item.{Item}
use Rattle.pfs_conf_values.specs.declared.items.RuleNo.{RuleNo}
use Rattle.pfs_conf_values.specs.declared.items.ItemKind.TheVariants as item
use Rattle.pfs_conf_values.specs.declared.profiles.Profile.TheVariants as profile
use Rattle.pfs_conf_values.specs.declared.syncookies.Syncookies.{Syncookies}
use Rattle.pfs_conf_values.specs.declared.syncookies.Syncookies.TheVariants as syncookies
use Rattle.pfs_conf_values.specs.declared.tables.TableDef.{TableDef}
use Rattle.pfs_store_contract.specs.declared.records.Limit.{Limit}
use Rattle.pfs_store_contract.specs.declared.records.Limit.TheVariants as limit
use Rattle.pfs_engine_machine.specs.Machine.{Machine, entries_held, nodes_held, start, states_held, step, machine_after, outcomes_of}
use Rattle.pfs_engine_machine.specs.Rates.{history_score}
use Rattle.pfs_engine_machine.specs.declared.events.Event.{Event}
use Rattle.pfs_engine_machine.specs.declared.events.Exceeded.TheVariants as exceeded
use Rattle.pfs_engine_machine.specs.declared.events.Outcome.{Outcome}
use Rattle.pfs_engine_machine.specs.declared.events.Outcome.TheVariants as outcome
use Rattle.pfs_engine_machine.specs.declared.events.Arrival.TheVariants.{HeldQuery, Packet, Skip, Table}
use Rattle.pfs_engine_machine.specs.declared.events.Command.TheVariants as command
use Rattle.pfs_conf_values.specs.Translations.{no_translation}
use Rattle.pfs_eval.specs.Translating.{translated, nat_by, rdr_by}

-- ---- configurations: limits of states and nodes, the timeouts that differ, tables and items

-- `tcp.closed`, `tcp.first`, `udp.first`, `src.track`, `interval`
pub record Times : Type 0 where
  pub closed : ℕ
  pub first : ℕ
  pub udp : ℕ
  pub track : ℕ
  pub interval : ℕ

abbrev usual : Times
usual = record { closed = 90; first = 120; udp = 60; track = 0; interval = 10 }

abbrev conf : ℕ → ℕ → Times → List TableDef → List Item → Conf
conf states nodes t tables items = record {
  profile = profile.Own;
  syncookies = syncookies.Never;
  routes = [];
  limits = record { states = states; src_nodes = nodes; tables = 1000; table_entries = 200000 };
  timeouts = t.first ∷ 30 ∷ 86400 ∷ 900 ∷ 45 ∷ t.closed ∷ t.udp ∷ 30 ∷ 60 ∷ 60 ∷ 30 ∷ 60 ∷ t.track ∷ t.interval ∷ 0 ∷ 0 ∷ [];
  tables = tables;
  items = items;
}

-- the same under the profile of OpenBSD 7.4
abbrev of_openbsd : Conf → Conf
of_openbsd c = record c { profile = profile.OpenBsd74 }

abbrev rule : Bool → Filter → Action → Item
rule quick filter does = record { depth = 0; what = item.Rule (record { quick = quick; filter = filter; came = any_way; tag = None; translation = no_translation; action = does }) }

abbrev of_proto : Proto → Filter
of_proto p = record any_packet { dir = Some In; proto = Some p }

-- ---- packets and events

abbrev source : ℕ → Addr
source n = V4 (198 ∷ 51 ∷ 100 ∷ n ∷ [])

abbrev server : Addr
server = V4 (192 ∷ 0 ∷ 2 ∷ 1 ∷ [])

abbrev end_at : Addr → ℕ → Endpoint
end_at addr port = record { addr = addr; port = port }

abbrev flagged : Bool → Bool → Bool → Flags
flagged syn ack rst =
    record { fin = false; syn = syn; rst = rst; psh = false; ack = ack; urg = false; ece = false; cwr = false }

abbrev to_server : Proto → ℕ → ℕ → ℕ → Flags → PacketView
to_server proto n sport dport flags =
    record { dir = In; ifname = []; proto = proto; source = end_at (source n) sport; destination = end_at server dport; flags = flags; tag = None; came_by = None }

abbrev from_server : ℕ → ℕ → Flags → PacketView
from_server n port flags =
    record { dir = Out; ifname = []; proto = Tcp; source = end_at server 80; destination = end_at (source n) port; flags = flags; tag = None; came_by = None }

abbrev comes : ℕ → PacketView → Event
comes now p = record { time = now; what = Packet p }

abbrev nothing : ℕ → Event
nothing now = record { time = now; what = Skip }

abbrev expire : ℕ → ℕ → ℕ → Event
expire now table seconds = record { time = now; what = Table (record { 0 = table }) (command.Expire seconds) }

-- an entry of the first table: a prefix with so many bits, negated or not
abbrev entry : Addr → ℕ → Bool → TableEntry
entry addr bits negated = record { prefix = record { addr = addr; bits = bits }; negated = negated }

abbrev add : ℕ → TableEntry → Event
add now e = record { time = now; what = Table (record { 0 = 0 }) (command.Add e) }

abbrev delete : ℕ → TableEntry → Event
delete now e = record { time = now; what = Table (record { 0 = 0 }) (command.Delete e) }

abbrev ask : ℕ → Event
ask now = record { time = now; what = HeldQuery }

abbrev amounts : ℕ → ℕ → ℕ → Outcome
amounts states nodes entries = outcome.HeldAnswer (record { states = states; nodes = nodes; entries = entries })

abbrev udp : ℕ → ℕ → ℕ → Event
udp now n port = comes now (to_server Udp n port 53 (flagged false false false))

abbrev syn : ℕ → ℕ → ℕ → Event
syn now n port = comes now (to_server Tcp n port 80 (flagged true false false))

abbrev reset : ℕ → ℕ → ℕ → Event
reset now n port = comes now (to_server Tcp n port 80 (flagged false false true))

abbrev handshake : ℕ → ℕ → ℕ → List Event
handshake now n port =
    syn now n port ∷ comes now (from_server n port (flagged true true false)) ∷ comes now (to_server Tcp n port 80 (flagged false true false)) ∷ []

-- ---- outcomes

abbrev number : ℕ → RuleNo
number n = record { 0 = n }

abbrev made : ℕ → Outcome
made n = outcome.New (number n)

abbrev of_state : ℕ → Outcome
of_state n = outcome.State (number n)

abbrev dropped : ℕ → Limit → Outcome
dropped n l = outcome.Drop (number n) l

-- the outcomes of a run, and how many states, nodes and entries are held after it
abbrev held_after : Machine → ℕ × ℕ × ℕ
held_after m = (states_held m, nodes_held m, entries_held m)

abbrev run_of : Conf → List Event → List Outcome × (ℕ × ℕ × ℕ)
run_of c es = (outcomes_of c (start c) es, held_after (machine_after c (start c) es))

-- ---- a node is kept for `src.track` after its last state

abbrev one_source : Conf
one_source =
    conf 100 100 (record usual { udp = 5; track = 20; interval = 1 }) [] (rule false (of_proto Udp) (action.Keep (record no_options { scope = Some scope.Rule; max_src_nodes = Some 1 })) ∷ [])

one_source_after : run_of one_source (udp 0 1 1 ∷ udp 10 2 1 ∷ udp 30 2 1 ∷ [])
    ≡ (made 0 ∷ dropped 0 limit.MaxSrcNodes ∷ made 0 ∷ [], (1, 1, 0))
unfolding outcomes_of machine_after step verdict packet_behind packet_at_cut lost_by translated nat_by rdr_by path_from matches_item table_answer
one_source_after = refl

-- ---- `max-src-conn` with `overload` and `flush`: the source is blocked, and its states of the rule are killed

abbrev guarded : Option Overload → Conf
guarded overload =
    conf 100 100 usual (record { name = 98 ∷ []; is_const = false; entries = [] } ∷ [])
    (rule true (record any_packet { from = record any_side { host = host.Table (record { 0 = 0 }) false } }) action.Block
    ∷ rule false (of_proto Udp) (action.Keep no_options)
    ∷ rule false (of_proto Tcp) (action.Keep (record no_options { scope = Some scope.Rule; max_src_conn = Some 1; overload = overload }))
    ∷ [])

abbrev two_handshakes : List Event
two_handshakes = udp 0 1 53000 ∷ (handshake 0 1 1000 ++ (handshake 0 1 1001 ++ syn 0 1 1002 ∷ []))

abbrev guarded_outcomes : ℕ → List Outcome
guarded_outcomes killed =
    made 1
    ∷ made 2
    ∷ of_state 2
    ∷ of_state 2
    ∷ made 2
    ∷ of_state 2
    ∷ outcome.Kill (number 2) exceeded.Connections (Some added.New) killed
    ∷ outcome.Block (number 0)
    ∷ []

flushed_by_rule : run_of (guarded (Some (record { table = record { 0 = 0 }; flush = Some scope.Rule }))) two_handshakes
    ≡ (guarded_outcomes 2, (1, 1, 1))
unfolding outcomes_of machine_after step verdict packet_behind packet_at_cut lost_by translated nat_by rdr_by path_from matches_item table_answer covers cleared_addr
flushed_by_rule = refl

flushed_by_source : run_of (guarded (Some (record { table = record { 0 = 0 }; flush = Some scope.Global }))) two_handshakes
    ≡ (guarded_outcomes 3, (0, 1, 1))
unfolding outcomes_of machine_after step verdict packet_behind packet_at_cut lost_by translated nat_by rdr_by path_from matches_item table_answer covers cleared_addr
flushed_by_source = refl

-- ---- the rate of a source outlives its states

abbrev rated : ℕ → ℕ → Conf
rated most seconds =
    conf 100 100 (record usual { closed = 0; interval = 1 }) [] (rule false (of_proto Tcp) (action.Keep (record no_options { scope = Some scope.Rule; max_src_conn_rate = Some (record { limit = most; seconds = seconds }) })) ∷ [])

abbrev again : ℕ → List Event
again now = handshake 0 1 1 ++ (reset 0 1 1 ∷ handshake now 1 2)

abbrev before_again : List Outcome
before_again = made 0 ∷ of_state 0 ∷ of_state 0 ∷ of_state 0 ∷ made 0 ∷ of_state 0 ∷ []

again_soon : run_of (rated 1 4) (again 3) ≡ (before_again ++ outcome.Kill (number 0) exceeded.Rate None 1 ∷ [], (0, 1, 0))
unfolding outcomes_of machine_after step verdict packet_behind packet_at_cut lost_by translated nat_by rdr_by path_from matches_item table_answer
again_soon = refl

again_later : run_of (rated 1 4) (again 4) ≡ (before_again ++ of_state 0 ∷ [], (1, 1, 0))
unfolding outcomes_of machine_after step verdict packet_behind packet_at_cut lost_by translated nat_by rdr_by path_from matches_item table_answer
again_later = refl

again_long_after : run_of (rated 1 4) (again 5) ≡ (before_again ++ of_state 0 ∷ [], (1, 1, 0))
unfolding outcomes_of machine_after step verdict packet_behind packet_at_cut lost_by translated nat_by rdr_by path_from matches_item table_answer
again_long_after = refl

-- the history of its handshakes has the same score
history_soon : (history_score (rated 1 4) 0 (source 1) (again 3)).value ≡ 1250
unfolding step verdict packet_behind packet_at_cut lost_by translated nat_by rdr_by path_from matches_item table_answer
history_soon = refl

-- ---- a flood against rounds: what came later does not wait in the round of what came before

abbrev slow : Conf
slow = conf 6 100 (record usual { first = 4; udp = 1; interval = 5 }) [] (rule false any_packet (action.Keep no_options) ∷ [])

flooded : run_of slow
    (syn 0 1 1
    ∷ udp 0 2 1
    ∷ udp 0 2 2
    ∷ udp 1 2 3
    ∷ udp 1 2 4
    ∷ udp 2 2 5
    ∷ udp 2 2 6
    ∷ udp 3 2 7
    ∷ udp 3 2 8
    ∷ udp 4 2 9
    ∷ udp 4 2 10
    ∷ udp 5 2 11
    ∷ udp 5 2 12
    ∷ nothing 6
    ∷ [])
    ≡ (
      made 0
          ∷ made 0
          ∷ made 0
          ∷ made 0
          ∷ made 0
          ∷ made 0
          ∷ made 0
          ∷ made 0
          ∷ made 0
          ∷ made 0
          ∷ made 0
          ∷ made 0
          ∷ dropped 0 limit.States
          ∷ outcome.Skip
          ∷ [],
      (4, 0, 0),
    )
unfolding outcomes_of machine_after step verdict packet_behind packet_at_cut lost_by translated nat_by rdr_by path_from matches_item table_answer
flooded = refl

-- ---- a slice of the nodes does not go on into the next round

abbrev four_nodes : Conf
four_nodes =
    conf 100 4 (record usual { udp = 0; interval = 2 }) [] (rule false (of_proto Udp) (action.Keep (record no_options { scope = Some scope.Rule })) ∷ [])

rounds_of_nodes : run_of four_nodes
    (udp 0 1 1
    ∷ udp 0 2 1
    ∷ udp 0 3 1
    ∷ udp 0 4 1
    ∷ udp 0 5 1
    ∷ udp 1 5 1
    ∷ udp 1 6 1
    ∷ udp 1 7 1
    ∷ udp 1 8 1
    ∷ udp 2 8 1
    ∷ udp 2 9 1
    ∷ [])
    ≡ (
      made 0
          ∷ made 0
          ∷ made 0
          ∷ made 0
          ∷ dropped 0 limit.SrcNodes
          ∷ made 0
          ∷ made 0
          ∷ made 0
          ∷ dropped 0 limit.SrcNodes
          ∷ made 0
          ∷ dropped 0 limit.SrcNodes
          ∷ [],
      (1, 4, 0),
    )
unfolding outcomes_of machine_after step verdict packet_behind packet_at_cut lost_by translated nat_by rdr_by path_from matches_item table_answer
rounds_of_nodes = refl

-- ---- a state that has expired and was not purged is matched still

expired_matches : run_of (conf 100 100 (record usual { udp = 0 }) [] (rule false (of_proto Udp) (action.Keep no_options) ∷ [])) (udp 0 1 1 ∷ udp 0 1 1 ∷ [])
    ≡ (made 0 ∷ of_state 0 ∷ [], (1, 0, 0))
unfolding outcomes_of machine_after step verdict packet_behind packet_at_cut lost_by translated nat_by rdr_by path_from matches_item table_answer
expired_matches = refl

-- ---- table entries expire: an entry of the text counts from the first event, one that was added from its packet, and one that
-- was held keeps its moment

abbrev expiring : Conf
expiring =
    conf 100 100 usual (record { name = 98 ∷ []; is_const = false; entries = (record { addr = V4 (203 ∷ 0 ∷ 113 ∷ 9 ∷ []); bits = 32 }, false) ∷ [] } ∷ [])
    (rule false (of_proto Tcp) (action.Keep (record no_options { scope = Some scope.Rule; max_src_conn = Some 1; overload = Some (record { table = record { 0 = 0 }; flush = None }) })) ∷ [])

abbrev killed_as : Added → Outcome
killed_as a = outcome.Kill (number 0) exceeded.Connections (Some a) 1

entries_expire : run_of expiring
    (nothing 100
    ∷ (handshake 104 1 1000
    ++ (handshake 104 1 1001
    ++ (handshake 106 1 1002 ++ expire 108 0 5 ∷ expire 109 0 5 ∷ []))))
    ≡ (
      outcome.Skip
          ∷ made 0
          ∷ of_state 0
          ∷ of_state 0
          ∷ made 0
          ∷ of_state 0
          ∷ killed_as added.New
          ∷ made 0
          ∷ of_state 0
          ∷ killed_as added.AlreadyThere
          ∷ outcome.Expire 1
          ∷ outcome.Expire 1
          ∷ [],
      (1, 1, 0),
    )
unfolding outcomes_of machine_after step verdict packet_behind packet_at_cut lost_by translated nat_by rdr_by path_from matches_item table_answer covers cleared_addr
entries_expire = refl

text_entries_stay : run_of expiring (nothing 100 ∷ expire 100 0 5 ∷ []) ≡ (outcome.Skip ∷ outcome.Expire 0 ∷ [], (0, 0, 1))
unfolding outcomes_of machine_after step verdict packet_behind packet_at_cut lost_by translated nat_by rdr_by path_from matches_item table_answer
text_entries_stay = refl

first_expires : run_of expiring (expire 100 0 0 ∷ []) ≡ (outcome.Expire 1 ∷ [], (0, 0, 0))
unfolding outcomes_of machine_after step verdict packet_behind packet_at_cut lost_by translated nat_by rdr_by path_from matches_item table_answer
first_expires = refl

-- ---- entries are added and taken out: one with the other sign is a conflict, the same one is held and keeps its age

abbrev tabled : ℕ → Conf
tabled most =
    let c = conf 100 100 usual (record { name = 98 ∷ []; is_const = false; entries = [] } ∷ []) [] in
    record c { limits = record { states = 100; src_nodes = 100; tables = 1000; table_entries = most } }

added_and_deleted : run_of (tabled 2)
    (add 6 (entry (source 0) 24 false)
    ∷ add 6 (entry (source 1) 32 true)
    ∷ add 7 (entry (source 1) 32 false)
    ∷ add 7 (entry (source 0) 24 false)
    ∷ add 7 (entry (source 2) 32 false)
    ∷ delete 8 (entry (source 1) 32 false)
    ∷ delete 8 (entry (source 1) 32 true)
    ∷ ask 9
    ∷ [])
    ≡ (
      outcome.Add entered.New
          ∷ outcome.Add entered.New
          ∷ outcome.Add entered.Conflict
          ∷ outcome.Add entered.AlreadyThere
          ∷ outcome.Add entered.Full
          ∷ outcome.Delete 0
          ∷ outcome.Delete 1
          ∷ amounts 0 0 1
          ∷ [],
      (0, 0, 1),
    )
unfolding outcomes_of machine_after step covers cleared_addr
added_and_deleted = refl

added_ages : run_of (tabled 2) (add 6 (entry (source 1) 32 false) ∷ add 7 (entry (source 1) 32 false) ∷ expire 15 0 10 ∷ expire 16 0 10 ∷ [])
    ≡ (outcome.Add entered.New ∷ outcome.Add entered.AlreadyThere ∷ outcome.Expire 0 ∷ outcome.Expire 1 ∷ [], (0, 0, 0))
unfolding outcomes_of machine_after step covers cleared_addr
added_ages = refl

-- ---- how much is held is told after the purges that are due

held_after_purges : run_of (conf 100 100 (record usual { udp = 2; interval = 1 }) [] (rule false (of_proto Udp) (action.Keep no_options) ∷ []))
    (udp 5 1 1 ∷ ask 5 ∷ ask 7 ∷ [])
    ≡ (made 0 ∷ amounts 1 0 0 ∷ amounts 0 0 0 ∷ [], (0, 0, 0))
unfolding outcomes_of machine_after step verdict packet_behind packet_at_cut lost_by translated nat_by rdr_by path_from matches_item table_answer
held_after_purges = refl

-- ---- under OpenBSD's profile the node that `max` leaves is held until a slice of the nodes examines it

abbrev one_state : Option ℕ → Conf
one_state most_nodes =
    conf 100 100 (record usual { track = 100 }) []
    (rule false (of_proto Udp) (action.Keep (record no_options { scope = Some scope.Rule; max = Some 1; max_src_nodes = most_nodes })) ∷ [])

abbrev two_sources : List Event
two_sources = udp 0 1 1 ∷ udp 0 2 1 ∷ ask 0 ∷ ask 1 ∷ []

node_left_by_max : run_of (of_openbsd (one_state None)) two_sources
    ≡ (made 0 ∷ dropped 0 limit.Max ∷ amounts 1 2 0 ∷ amounts 1 1 0 ∷ [], (1, 1, 0))
unfolding outcomes_of machine_after step verdict packet_behind packet_at_cut lost_by translated nat_by rdr_by path_from matches_item table_answer
node_left_by_max = refl

no_node_left : run_of (one_state None) two_sources ≡ (made 0 ∷ dropped 0 limit.Max ∷ amounts 1 1 0 ∷ amounts 1 1 0 ∷ [], (1, 1, 0))
unfolding outcomes_of machine_after step verdict packet_behind packet_at_cut lost_by translated nat_by rdr_by path_from matches_item table_answer
no_node_left = refl

-- unless a state is made for it before
abbrev shared_nodes : Conf
shared_nodes =
    conf 100 100 usual []
    (rule false (of_proto Udp) (action.Keep (record no_options { scope = Some scope.Global; max = Some 1 }))
    ∷ rule false (of_proto Tcp) (action.Keep (record no_options { scope = Some scope.Global }))
    ∷ [])

left_node_taken : run_of (of_openbsd shared_nodes) (udp 0 1 1 ∷ udp 0 2 1 ∷ syn 0 2 1 ∷ ask 1 ∷ [])
    ≡ (made 0 ∷ dropped 0 limit.Max ∷ made 1 ∷ amounts 2 2 0 ∷ [], (2, 2, 0))
unfolding outcomes_of machine_after step verdict packet_behind packet_at_cut lost_by translated nat_by rdr_by path_from matches_item table_answer
left_node_taken = refl

-- and `max` is asked behind the maximum of nodes
max_asked_last : run_of (of_openbsd (one_state (Some 1))) (udp 0 1 1 ∷ udp 0 2 1 ∷ udp 0 1 2 ∷ [])
    ≡ (made 0 ∷ dropped 0 limit.MaxSrcNodes ∷ dropped 0 limit.Max ∷ [], (1, 1, 0))
unfolding outcomes_of machine_after step verdict packet_behind packet_at_cut lost_by translated nat_by rdr_by path_from matches_item table_answer
max_asked_last = refl

max_asked_first : run_of (one_state (Some 1)) (udp 0 1 1 ∷ udp 0 2 1 ∷ udp 0 1 2 ∷ [])
    ≡ (made 0 ∷ dropped 0 limit.Max ∷ dropped 0 limit.Max ∷ [], (1, 1, 0))
unfolding outcomes_of machine_after step verdict packet_behind packet_at_cut lost_by translated nat_by rdr_by path_from matches_item table_answer
max_asked_first = refl

-- ---- there a SYN of the ports of a connection that was reset begins another, which the rate counts too

abbrev reset_and_again : List Event
reset_and_again = handshake 0 1 1 ++ (reset 0 1 1 ∷ handshake 0 1 1)

begun_again : run_of (of_openbsd (rated 1 4)) reset_and_again ≡ (before_again ++ outcome.Kill (number 0) exceeded.Rate None 1 ∷ [], (0, 1, 0))
unfolding outcomes_of machine_after step verdict packet_behind packet_at_cut lost_by translated nat_by rdr_by path_from matches_item table_answer
begun_again = refl

not_begun_again : run_of (rated 1 4) reset_and_again
    ≡ (made 0 ∷ of_state 0 ∷ of_state 0 ∷ of_state 0 ∷ of_state 0 ∷ of_state 0 ∷ of_state 0 ∷ [], (1, 1, 0))
unfolding outcomes_of machine_after step verdict packet_behind packet_at_cut lost_by translated nat_by rdr_by path_from matches_item table_answer
not_begun_again = refl

-- ---- there a flush takes the states to the source too, whose keys have it at the end from which its packet came

abbrev both_ways : Conf
both_ways =
    conf 100 100 usual (record { name = 98 ∷ []; is_const = false; entries = [] } ∷ [])
    (rule false (record any_packet { proto = Some Udp }) (action.Keep no_options)
    ∷ rule false (of_proto Tcp)
    (action.Keep (record no_options { scope = Some scope.Rule; max_src_conn = Some 1; overload = Some (record { table = record { 0 = 0 }; flush = Some scope.Global }) }))
    ∷ [])

abbrev to_and_from : List Event
to_and_from =
    udp 0 1 1 ∷ comes 0 (record (from_server 1 2 (flagged false false false)) { proto = Udp }) ∷ handshake 0 1 1 ++ handshake 0 1 2

abbrev flushed_global : ℕ → List Outcome
flushed_global killed =
    made 0 ∷ made 0 ∷ made 1 ∷ of_state 1 ∷ of_state 1 ∷ made 1 ∷ of_state 1 ∷ outcome.Kill (number 1) exceeded.Connections (Some added.New) killed ∷ []

flushed_by_side : run_of (of_openbsd both_ways) to_and_from ≡ (flushed_global 4, (0, 1, 1))
unfolding outcomes_of machine_after step verdict packet_behind packet_at_cut lost_by translated nat_by rdr_by path_from matches_item table_answer covers cleared_addr
flushed_by_side = refl

flushed_of_source : run_of both_ways to_and_from ≡ (flushed_global 3, (1, 1, 1))
unfolding outcomes_of machine_after step verdict packet_behind packet_at_cut lost_by translated nat_by rdr_by path_from matches_item table_answer covers cleared_addr
flushed_of_source = refl

-- ---- SYN cookies: at most ten states, of which adaptive begins above two

abbrev cookies_by : Syncookies → Conf
cookies_by s = record (of_openbsd (conf 10 100 usual [] (rule false (of_proto Tcp) (action.Keep no_options) ∷ []))) { syncookies = s }

abbrev answer : ℕ → ℕ → ℕ → Event
answer now n port = comes now (from_server n port (flagged true true false))

-- nothing is held of a SYN
always_given : run_of (cookies_by syncookies.Always) (syn 0 1 1 ∷ ask 0 ∷ syn 1 1 1 ∷ [])
    ≡ (outcome.Cookie ∷ amounts 0 0 0 ∷ outcome.Cookie ∷ [], (0, 0, 0))
unfolding outcomes_of machine_after step verdict packet_behind packet_at_cut lost_by translated nat_by rdr_by path_from matches_item table_answer
always_given = refl

-- the fourth comes while three are half open
adaptive_begun : run_of (cookies_by (syncookies.Adaptive 20 10)) (syn 0 1 1 ∷ syn 0 1 2 ∷ syn 0 1 3 ∷ syn 0 1 4 ∷ syn 0 1 5 ∷ [])
    ≡ (made 0 ∷ made 0 ∷ made 0 ∷ outcome.Cookie ∷ outcome.Cookie ∷ [], (3, 0, 0))
unfolding outcomes_of machine_after step verdict packet_behind packet_at_cut lost_by translated nat_by rdr_by path_from matches_item table_answer
adaptive_begun = refl

-- a connection that the server has answered is not half open
adaptive_calm : run_of (cookies_by (syncookies.Adaptive 20 10)) (syn 0 1 1 ∷ syn 0 1 2 ∷ syn 0 1 3 ∷ answer 0 1 3 ∷ syn 0 1 4 ∷ [])
    ≡ (made 0 ∷ made 0 ∷ made 0 ∷ of_state 0 ∷ made 0 ∷ [], (4, 0, 0))
unfolding outcomes_of machine_after step verdict packet_behind packet_at_cut lost_by translated nat_by rdr_by path_from matches_item table_answer
adaptive_calm = refl

-- ---- pf leads the handshakes of a connection: at the maker's packets it asks the server, from the ACK on that completes the first one

abbrev ack : ℕ → ℕ → ℕ → Event
ack now n port = comes now (to_server Tcp n port 80 (flagged false true false))

abbrev answered : ℕ → Outcome
answered n = outcome.Answered (number n)

abbrev taken : ℕ → Outcome
taken n = outcome.Taken (number n)

abbrev asking : ℕ → Outcome
asking n = outcome.Asking (number n)

abbrev proxied : Conf
proxied = of_openbsd (conf 10 100 usual [] (rule false (of_proto Tcp) (action.Keep (record no_options { synproxy = true })) ∷ []))

server_asked : run_of proxied (syn 0 1 1 ∷ syn 0 1 1 ∷ answer 0 1 1 ∷ ack 0 1 1 ∷ ack 0 1 1 ∷ answer 0 1 1 ∷ ack 0 1 1 ∷ [])
    ≡ (answered 0 ∷ taken 0 ∷ taken 0 ∷ asking 0 ∷ asking 0 ∷ taken 0 ∷ of_state 0 ∷ [], (1, 0, 0))
unfolding outcomes_of machine_after step verdict packet_behind packet_at_cut lost_by translated nat_by rdr_by path_from matches_item table_answer
server_asked = refl
