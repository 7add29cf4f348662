-- What the calls of a store answer and leave, by the definitions of the machine.
use Rattle.std.specs.Prelude.{ℕ, ◌≡◌, ◌+◌, ◌-◌, ◌==◌, ⊤, not, false, Bool, if◌then◌else◌, Option, Some, None, List, length, filter, option_map, take, Result, Ok, Err}
use Rattle.pfs_addr_values.specs.Packets.{PacketView}
use Rattle.pfs_addr_values.specs.declared.addresses.Addr.{Addr}
use Rattle.pfs_addr_values.specs.declared.packets.Dir.{Dir}
use Rattle.pfs_addr_values.specs.declared.packets.Dir.TheVariants as dir
use Rattle.pfs_addr_values.specs.declared.packets.FlowKey.{FlowKey}
use Rattle.pfs_conf_values.specs.Configs.{Conf}
use Rattle.pfs_conf_values.specs.declared.items.RuleNo.{RuleNo}
use Rattle.pfs_conf_values.specs.declared.profiles.Profile.{Profile}
use Rattle.pfs_track.specs.Scores.{zero_score}
use Rattle.pfs_store_contract.specs.Admission.{leaves_node, limit_met, world_after_admission, world_after_refusal}
use Rattle.pfs_store_contract.specs.Counts.{node_scope_of}
use Rattle.pfs_store_contract.specs.Leaving.{is_beside, is_flushed, is_from_to, world_without}
use Rattle.pfs_store_contract.specs.Purging.{node_round, node_share, node_slice, state_round, state_share, state_slice}
use Rattle.pfs_store_contract.specs.Touching.{completes_at, connections_in, is_asking, is_taken, reopens, score_in, world_after_touch}
use Rattle.pfs_store_contract.specs.Worlds.{World}
use Rattle.pfs_store_contract.specs.declared.kills.FromTo.{FromTo}
use Rattle.pfs_store_contract.specs.declared.records.Limit.{Limit}
use Rattle.pfs_store_contract.specs.declared.records.Slice.{Slice}
use Rattle.pfs_store_contract.specs.declared.records.State.{State}
use Rattle.pfs_store_contract.specs.declared.records.StateNo.{StateNo}
use Rattle.pfs_store_contract.specs.declared.records.Touched.{Touched}

-- ---- what is asked of a state

abbrev pub state_number : State → StateNo
state_number s = record { 0 = s.number }

abbrev pub state_rule : State → RuleNo
state_rule s = s.rule

-- the key with which its packets of this direction go on, where it is another than that with which they come
abbrev pub onward_key : Dir → State → Option FlowKey
onward_key dir.In s = s.inner
onward_key dir.Out s = option_map (λ inner. s.key) s.inner

-- ---- a new state

-- the limit that a packet meets at a rule
abbrev pub packet_limit : Conf → World → PacketView → ℕ → Option Limit
packet_limit conf w p rule = limit_met conf w rule p.source.addr

-- where this limit is met, or none
abbrev pub answer_at : World → Option Limit → Result StateNo Limit
answer_at w None = Ok (record { 0 = w.made + 1 })
answer_at w (Some l) = Err l

abbrev pub world_at : Conf → World → PacketView → PacketView → ℕ → Bool → ℕ → Option Limit → World
world_at conf w p going rule cookie now None = world_after_admission conf w p going rule cookie now
world_at conf w p going rule cookie now (Some l) = world_after_refusal conf w p.source.addr rule now l

-- the world once a source has asked for a state, which is not made: where a limit is met, after the refusal
abbrev pub world_asked : Conf → World → Addr → ℕ → ℕ → Option Limit → World
world_asked conf w source rule now None = w
world_asked conf w source rule now (Some l) = world_after_refusal conf w source rule now l

-- to ask takes no memory, but for a node that a refusal leaves
abbrev pub IsAskedFree : Conf → World → Addr → ℕ → Option Limit → Type 0
IsAskedFree conf w source rule None = ⊤
IsAskedFree conf w source rule (Some l) = leaves_node conf w source rule l ≡ false

-- a refusal takes no memory, but for a node that it leaves
abbrev pub IsFreeRefusal : Conf → World → PacketView → ℕ → Option Limit → Type 0
IsFreeRefusal conf w p rule None = ⊥
IsFreeRefusal conf w p rule (Some l) = leaves_node conf w p.source.addr rule l ≡ false

-- ---- a packet of a state

abbrev pub world_touched : Conf → World → PacketView → ℕ → Option State → World
world_touched conf w p now None = w
world_touched conf w p now (Some s) = world_after_touch conf w s p now

-- every state but one
abbrev pub other_than : ℕ → State → Bool
other_than number s = not (s.number == number)

abbrev pub world_killed : Conf → World → ℕ → ℕ → World
world_killed conf w number now = world_without conf w (other_than number) now

-- a SYN for a connection that has closed kills its state
abbrev pub world_reopened : Conf → World → PacketView → ℕ → Option State → World
world_reopened conf w p now None = w
world_reopened conf w p now (Some s) = if reopens conf p s then world_killed conf w s.number now else w

-- the rule, the source, the direction in which it was made, whether the handshake completed, whether pf takes the packet itself, whether it
-- asks the other peer, and the connections and the score after it
abbrev pub touch_of : Conf → World → PacketView → ℕ → State → Touched
touch_of conf w p now s = record {
  rule = s.rule;
  source = s.source;
  dir = s.dir;
  completed = completes_at p s;
  taken = is_taken p s;
  asks = is_asking p s;
  tag = s.tag;
  connections = connections_in conf s.source (world_after_touch conf w s p now).states (node_scope_of conf s.rule.0);
  score = score_in s.source (world_after_touch conf w s p now).nodes (node_scope_of conf s.rule.0);
}

-- the same, where the connections and the score are told at these packets alone; at others they are 0
abbrev pub told_at : Bool → Touched → Touched
told_at told t = record t { connections = if told then t.connections else 0; score = if told then t.score else zero_score }

abbrev pub renewal_of : Conf → World → PacketView → ℕ → State → Touched
renewal_of conf w p now s = told_at (completes_at p s) (touch_of conf w p now s)

-- ---- states are flushed

-- the states of a source are flushed, all of them or those of one rule
abbrev pub stays_unflushed : Profile → Dir → Addr → Option RuleNo → State → Bool
stays_unflushed profile dir source rule s = not (is_flushed profile dir source rule s)

abbrev pub world_flushed : Conf → World → Dir → Addr → Option RuleNo → ℕ → World
world_flushed conf w dir source rule now = world_without conf w (stays_unflushed conf.profile dir source rule) now

-- how many are flushed
abbrev pub flushed_count : Profile → World → Dir → Addr → Option RuleNo → ℕ
flushed_count profile w dir source rule = length (filter (is_flushed profile dir source rule) w.states)

-- the states that a flush takes for those of a source, of whatever rules
abbrev pub source_states : Profile → Dir → Addr → List State → ℕ
source_states profile dir source states = length (filter (is_beside profile dir source) states)

-- ---- an administrator takes states out

-- those stay that do not go from these hosts to those
abbrev pub stays_elsewhere : FromTo → State → Bool
stays_elsewhere hosts s = not (is_from_to hosts s)

abbrev pub world_elsewhere : Conf → World → FromTo → ℕ → World
world_elsewhere conf w hosts now = world_without conf w (stays_elsewhere hosts) now

-- how many leave
abbrev pub from_to_count : World → FromTo → ℕ
from_to_count w hosts = length (filter (is_from_to hosts) w.states)

-- ---- how many a slice examines and takes out

abbrev pub state_slice_of : Conf → World → ℕ → Slice
state_slice_of conf w now = record {
  examined = length (take (state_share conf) (state_round w));
  removed = length w.states - length (state_slice conf w now).states;
}

abbrev pub node_slice_of : Conf → World → ℕ → Slice
node_slice_of conf w now = record {
  examined = length (take (node_share conf) (node_round w));
  removed = length w.nodes - length (node_slice conf w now).nodes;
}
