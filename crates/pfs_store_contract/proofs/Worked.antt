-- Worked examples of the definitions, each by computation.
use Rattle.std.proofs.Common.{◌≡◌, ℕ, Bool, true, false, Option, None, Some, Err, Ok, List, [], ◌∷◌, length, refl}
use Rattle.std.specs.Prelude.{option_map}
use Rattle.pfs_addr_values.specs.Packets.{PacketView}
use Rattle.pfs_addr_values.specs.Keys.{key_of}
use Rattle.pfs_addr_values.specs.declared.addresses.Addr.{Addr}
use Rattle.pfs_addr_values.specs.declared.addresses.Addr.TheVariants.{V4}
use Rattle.pfs_addr_values.specs.declared.flag_sets.Flags.{Flags}
use Rattle.pfs_addr_values.specs.declared.packets.Dir.TheVariants.{In, Out}
use Rattle.pfs_addr_values.specs.declared.packets.Endpoint.{Endpoint}
use Rattle.pfs_addr_values.specs.declared.protocols.Proto.TheVariants.{Tcp, Udp}
use Rattle.pfs_conf_values.specs.Configs.{Conf, no_options, no_rule}
use Rattle.pfs_conf_values.specs.declared.actions.Action.TheVariants as action
use Rattle.pfs_conf_values.specs.declared.actions.Scope.TheVariants as scope
use Rattle.pfs_conf_values.specs.declared.actions.StateOptions.{StateOptions}
use Rattle.pfs_conf_values.specs.declared.items.Item.{Item}
use Rattle.pfs_conf_values.specs.declared.items.ItemKind.TheVariants as what
use Rattle.pfs_conf_values.specs.declared.profiles.Profile.TheVariants as profile
use Rattle.pfs_conf_values.specs.declared.syncookies.Syncookies.TheVariants as syncookies
use Rattle.pfs_store_contract.specs.Calls.{flushed_count, packet_limit, answer_at, world_at, world_killed, node_slice_of, state_slice_of, touch_of, world_touched}
use Rattle.pfs_store_contract.specs.Purging.{purge, state_share, state_slice}
use Rattle.pfs_store_contract.specs.Touching.{reopens}
use Rattle.pfs_store_contract.specs.Worlds.{World, empty_world, state_with}
use Rattle.pfs_store_contract.specs.declared.records.Limit.TheVariants as limit
use Rattle.pfs_store_contract.specs.declared.records.Touched.{Touched}

-- ---- configurations and packets

-- a rule that keeps state
abbrev keeping : StateOptions → Item
keeping o = record { depth = 0; what = what.Rule (record no_rule { action = action.Keep o }) }

-- limits of states and nodes, `udp.first`, `src.track`, `interval`, the adaptive pair, and rules with these options
abbrev conf_of : ℕ → ℕ → ℕ → ℕ → ℕ → ℕ → ℕ → List Item → Conf
conf_of states src_nodes udp_first src_track interval start end items = record {
  profile = profile.Own;
  syncookies = syncookies.Never;
  routes = [];
  limits = record { states = states; src_nodes = src_nodes; tables = 1000; table_entries = 200000 };
  timeouts = 120 ∷ 30 ∷ 86400 ∷ 900 ∷ 45 ∷ 90 ∷ udp_first ∷ 30 ∷ 60 ∷ 60 ∷ 30 ∷ 60 ∷ src_track ∷ interval ∷ start ∷ end ∷ [];
  tables = [];
  items = items;
}

-- two limits, all else as it is unless set, and no adaptive pair
abbrev limited : ℕ → ℕ → StateOptions → Conf
limited states src_nodes o = conf_of states src_nodes 60 0 10 0 0 (keeping o ∷ [])

abbrev a1 : Addr
a1 = V4 (198 ∷ 51 ∷ 100 ∷ 1 ∷ [])

abbrev a2 : Addr
a2 = V4 (198 ∷ 51 ∷ 100 ∷ 2 ∷ [])

abbrev a3 : Addr
a3 = V4 (198 ∷ 51 ∷ 100 ∷ 3 ∷ [])

abbrev end_at : Addr → ℕ → Endpoint
end_at addr port = record { addr = addr; port = port }

abbrev flagged : Bool → Bool → Flags
flagged syn ack =
    record { fin = false; syn = syn; rst = false; psh = false; ack = ack; urg = false; ece = false; cwr = false }

-- a packet of a source and port to a server
abbrev udp : Addr → ℕ → PacketView
udp source port = record {
  dir = In;
  ifname = [];
  proto = Udp;
  source = end_at source port;
  destination = end_at (V4 (192 ∷ 0 ∷ 2 ∷ 1 ∷ [])) 53;
  flags = flagged false false;
  tag = None;
  came_by = None;
}

-- a packet of the server to it
abbrev udp_out : Addr → ℕ → PacketView
udp_out to port = record (udp to port) { dir = Out; source = (udp to port).destination; destination = end_at to port }

-- the three packets of a handshake
abbrev syn : Addr → ℕ → PacketView
syn source port = record {
  dir = In;
  ifname = [];
  proto = Tcp;
  source = end_at source port;
  destination = end_at (V4 (192 ∷ 0 ∷ 2 ∷ 1 ∷ [])) 80;
  flags = flagged true false;
  tag = None;
  came_by = None;
}

abbrev ack : Addr → ℕ → PacketView
ack source port = record (syn source port) { flags = flagged false true }

abbrev syn_ack : Addr → ℕ → PacketView
syn_ack source port = record {
  dir = Out;
  ifname = [];
  proto = Tcp;
  source = end_at (V4 (192 ∷ 0 ∷ 2 ∷ 1 ∷ [])) 80;
  destination = end_at source port;
  flags = flagged true true;
  tag = None;
  came_by = None;
}

-- the world after a packet that makes a state, or is refused
abbrev after_new : Conf → World → PacketView → ℕ → World
after_new conf w p now = world_at conf w p p 0 false now (packet_limit conf w p 0)

-- the world after a packet of a state
abbrev after_more : Conf → World → PacketView → ℕ → World
after_more conf w p now = world_touched conf w p now (state_with (key_of p) w)

-- ---- at most two states of a source

abbrev two_each : Conf
two_each = limited 100 100 (record no_options { scope = Some scope.Global; max_src_states = Some 2 })

abbrev two_states : World
two_states = after_new two_each (after_new two_each empty_world (udp a1 1) 5) (udp a1 2) 5

third-refused : packet_limit two_each two_states (udp a1 3) 0 ≡ Some limit.MaxSrcStates
third-refused = refl

other-admitted : answer_at two_states (packet_limit two_each two_states (udp a2 1) 0) ≡ Ok (record { 0 = 3 })
other-admitted = refl

two-nodes : length (after_new two_each two_states (udp a2 1) 5).nodes ≡ 2
two-nodes = refl

-- ---- the limits of states and of nodes

abbrev tracked : ℕ → ℕ → Conf
tracked states src_nodes = limited states src_nodes (record no_options { scope = Some scope.Rule })

one-state : answer_at (after_new (tracked 1 5) empty_world (udp a1 1) 5)
    (packet_limit (tracked 1 5) (after_new (tracked 1 5) empty_world (udp a1 1) 5) (udp a2 1) 0) ≡ Err limit.States
one-state = refl

-- a refusal makes no node
no-node : after_new (tracked 1 5) (after_new (tracked 1 5) empty_world (udp a1 1) 5) (udp a2 1) 5
    ≡ after_new (tracked 1 5) empty_world (udp a1 1) 5
no-node = refl

one-node : packet_limit (tracked 9 1) (after_new (tracked 9 1) empty_world (udp a1 1) 5) (udp a2 1) 0 ≡ Some limit.SrcNodes
one-node = refl

own-node : packet_limit (tracked 9 1) (after_new (tracked 9 1) empty_world (udp a1 1) 5) (udp a1 2) 0 ≡ None
own-node = refl

-- ---- handshakes

abbrev connected : Conf
connected = limited 100 100 (record no_options { scope = Some scope.Rule; max_src_conn = Some 1; max_src_conn_rate = Some (record { limit = 3; seconds = 10 }) })

-- after the first two packets of a handshake
abbrev half_open : World → ℕ → ℕ → World
half_open w port now = after_more connected (after_new connected w (syn a1 port) now) (syn_ack a1 port) now

abbrev opened : World → ℕ → ℕ → World
opened w port now = after_more connected (half_open w port now) (ack a1 port) now

-- what is reported of the third packet
abbrev told : World → ℕ → ℕ → Option Touched
told w port now =
    option_map (touch_of connected (half_open w port now) (ack a1 port) now) (state_with (key_of (ack a1 port)) (half_open w port now))

abbrev tells : ℕ → ℕ → ℕ → Option Touched
tells connections value last = Some (record {
  rule = record { 0 = 0 };
  source = a1;
  dir = In;
  completed = true;
  taken = false;
  asks = false;
  tag = None;
  connections = connections;
  score = record { value = value; last = last };
})

first-told : told empty_world 1 0 ≡ tells 1 1000 0
first-told = refl

second-told : told (opened empty_world 1 0) 2 0 ≡ tells 2 2000 0
second-told = refl

second-later : told (opened empty_world 1 0) 2 1 ≡ tells 2 1900 1
second-later = refl

third-later : told (opened (opened empty_world 1 0) 2 1) 3 2 ≡ tells 3 2710 2
third-later = refl

-- a later packet completes no handshake again
no-more : option_map (λ (t : Touched). t.completed)
    (option_map (touch_of connected (opened empty_world 1 0) (ack a1 1) 0) (state_with (key_of (ack a1 1)) (opened empty_world 1 0)))
    ≡ Some false
no-more = refl

-- a killed state is no connection any more
killed-counts : told (world_killed connected (opened empty_world 1 0) 1 0) 2 0 ≡ tells 1 2000 0
killed-counts = refl

-- ---- states expire under the counts before the slice

abbrev scaling : Conf
scaling = conf_of 10 100 60 0 1 6 12 (keeping no_options ∷ [])

abbrev eight : World
eight =
    after_new scaling
    (after_new scaling
    (after_new scaling
    (after_new scaling
    (after_new scaling
    (after_new scaling
    (after_new scaling (after_new scaling empty_world (udp a1 1) 0) (udp a1 2) 0)
    (udp a1 3)
    0)
    (udp a1 4)
    0)
    (udp a1 5)
    0)
    (udp a1 6)
    0)
    (udp a1 7)
    0)
    (udp a1 8)
    0

eight-stay : state_slice_of scaling eight 39 ≡ record { examined = 8; removed = 0 }
eight-stay = refl

eight-leave : state_slice_of scaling eight 40 ≡ record { examined = 8; removed = 8 }
eight-leave = refl

-- ---- a node is kept for a while after its last state

abbrev kept : Conf
kept = conf_of 100 100 5 20 1 0 0 (keeping (record no_options { scope = Some scope.Rule; max_src_nodes = Some 1 }) ∷ [])

abbrev one : World
one = after_new kept empty_world (udp a1 1) 0

-- its last state leaves at 5
abbrev left_alone : World
left_alone = purge kept one 5

alone : length left_alone.states ≡ 0
alone = refl

kept-refuses : packet_limit kept left_alone (udp a2 1) 0 ≡ Some limit.MaxSrcNodes
kept-refuses = refl

kept-24 : node_slice_of kept left_alone 24 ≡ record { examined = 1; removed = 0 }
kept-24 = refl

over-25 : node_slice_of kept left_alone 25 ≡ record { examined = 1; removed = 1 }
over-25 = refl

-- ---- rounds

abbrev slow : Conf
slow = conf_of 6 100 1 0 5 0 0 (keeping no_options ∷ [])

slow-share : state_share slow ≡ 2
slow-share = refl

abbrev three : World
three = after_new slow (after_new slow (after_new slow empty_world (udp a1 1) 0) (udp a1 2) 0) (udp a1 3) 0

-- two are examined, then the third one alone, though another state came
two-first : state_slice_of slow three 1 ≡ record { examined = 2; removed = 2 }
two-first = refl

third-alone : state_slice_of slow (after_new slow (state_slice slow three 1) (udp a1 4) 1) 2 ≡ record { examined = 1; removed = 1 }
third-alone = refl

-- ---- under the profile of OpenBSD 7.4

abbrev of_openbsd : Conf → Conf
of_openbsd conf = record conf { profile = profile.OpenBsd74 }

-- one state at most, and nodes that are kept for 20 seconds
abbrev single : Conf
single = of_openbsd (conf_of 100 100 5 20 1 0 0 (keeping (record no_options { scope = Some scope.Rule; max = Some 1; max_src_nodes = Some 2 }) ∷ []))

-- `max` refuses the second source, whose node stays
abbrev refused : World
refused = after_new single (after_new single empty_world (udp a1 1) 0) (udp a2 1) 3

refused-max : packet_limit single (after_new single empty_world (udp a1 1) 0) (udp a2 1) 0 ≡ Some limit.Max
refused-max = refl

refused-noded : length refused.nodes ≡ 2
refused-noded = refl

-- before `max` the third source meets `max-src-nodes`
third-nodes : packet_limit single refused (udp a3 1) 0 ≡ Some limit.MaxSrcNodes
third-nodes = refl

-- the node without a state leaves at once; the other one 20 seconds after its last state, which left at 5
refused-goes : node_slice_of single refused 3 ≡ record { examined = 2; removed = 1 }
refused-goes = refl

stays-24 : node_slice_of single (purge single refused 5) 24 ≡ record { examined = 1; removed = 0 }
stays-24 = refl

goes-25 : node_slice_of single (purge single refused 5) 25 ≡ record { examined = 1; removed = 1 }
goes-25 = refl

-- a state of the source, and one to it: a flush of what came in from there takes both; without the profile the first
abbrev both_ways : Conf → World
both_ways conf = after_new conf (after_new conf empty_world (udp a1 1) 0) (udp_out a1 2) 0

both-flushed : flushed_count profile.OpenBsd74 (both_ways slow) In a1 None ≡ 2
both-flushed = refl

one-flushed : flushed_count profile.Own (both_ways slow) In a1 None ≡ 1
one-flushed = refl

-- a connection that was reset: a SYN of its ports is one of no state; without the profile it is one of that state
abbrev reset : Conf → World
reset conf = after_more conf (after_new conf empty_world (syn a1 1) 0) (record (syn a1 1) { flags = record (flagged false false) { rst = true } }) 1

reset-reopens : option_map (reopens (of_openbsd connected) (syn a1 1)) (state_with (key_of (syn a1 1)) (reset (of_openbsd connected))) ≡ Some true
reset-reopens = refl

reset-stays : option_map (reopens connected (syn a1 1)) (state_with (key_of (syn a1 1)) (reset connected)) ≡ Some false
reset-stays = refl

-- with ACK it does not
reset-acknowledged : option_map (reopens (of_openbsd connected) (record (syn a1 1) { flags = flagged true true })) (state_with (key_of (syn a1 1)) (reset (of_openbsd connected))) ≡ Some false
reset-acknowledged = refl
