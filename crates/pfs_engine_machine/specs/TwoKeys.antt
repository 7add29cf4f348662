-- What holds of states with two keys, where addresses are translated: no two have one key, and a packet and its answers are of one state.
-- (pf.conf(5), TRANSLATION)
use Rattle.std.specs.Prelude.{ℕ, ◌≡◌, ◌++◌, Bool, true, false, List, Some, option_map}
use Rattle.pfs_addr_values.specs.Packets.{PacketView, is_from_inside}
use Rattle.pfs_addr_values.specs.declared.packets.Dir.{Dir}
use Rattle.pfs_addr_values.specs.declared.packets.Dir.TheVariants.{In, Out}
use Rattle.pfs_conf_values.specs.Configs.{Conf}
use Rattle.pfs_conf_values.specs.declared.items.RuleNo.{RuleNo}
use Rattle.pfs_store_contract.specs.Calls.{state_number}
use Rattle.pfs_store_contract.specs.Worlds.{World, inner_key}
use Rattle.pfs_engine_machine.specs.Acts.{RunAct, acts_of, after}
use Rattle.pfs_engine_machine.specs.MachineInvariants.{KeysDiffer, outer_key}
use Rattle.pfs_engine_machine.specs.Machine.{MachineContents, answer_to_packet, going_from, held_for, outcome_of_new}
use Rattle.pfs_engine_machine.specs.Sides.{state_for}
use Rattle.pfs_engine_machine.specs.declared.events.Event.{Event}

-- ---- at most one state has a key

-- on the wire, and inside
pub record HaveKeysAlone (w : World) : Type 0 where
  pub outer : KeysDiffer outer_key w.states
  pub inner : KeysDiffer inner_key w.states

-- after each purge, each packet that gets no cookie, each command and each kill of a run
abbrev pub KeysStayAlone : Conf → List Event → Type 0
KeysStayAlone conf events =
    (earlier later : List RunAct) → acts_of conf events ≡ earlier ++ later → HaveKeysAlone (after conf earlier).world

-- ---- a packet and its answers

abbrev pub turned_way : Dir → Dir
turned_way In = Out
turned_way Out = In

abbrev pub is_out : Dir → Bool
is_out In = false
is_out Out = true

-- a packet answers another: it is of its protocol, and goes between the same ends the other way; if that is out, from inside
pub record IsAnswerTo (p a : PacketView) : Type 0 where
  pub way : a.dir ≡ turned_way p.dir
  pub proto : a.proto ≡ p.proto
  pub from : a.source ≡ p.destination
  pub to : a.destination ≡ p.source
  pub inside : is_from_inside a ≡ is_out a.dir

-- where a packet makes a state, what answers it as it goes on is of that state, which is the last that was made
abbrev pub AnswersBelong : Conf → Type 0
AnswersBelong conf =
    (h : MachineContents) (p a : PacketView) (cookie : Bool) (now : ℕ) (rule : RuleNo) (answered : Bool) →
    (answer_to_packet conf h p cookie now).0 ≡ outcome_of_new rule answered →
    IsAnswerTo (going_from conf (held_for conf h p now) p cookie) a →
    option_map state_number (state_for (answer_to_packet conf h p cookie now).1.world a)
    ≡ Some (record { 0 = (answer_to_packet conf h p cookie now).1.world.made })
