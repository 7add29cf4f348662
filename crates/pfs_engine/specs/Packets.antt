-- What an engine makes of a packet, by what its store reports of it, and which packets need no memory before they are answered. (not promised)
use Rattle.std.specs.Prelude.{ℕ, Bool, true, false, if◌then◌else◌, Option, Some, None, ◌≡◌}
use Rattle.pfs_addr_values.specs.Packets.{PacketView}
use Rattle.pfs_conf_values.specs.Configs.{Conf, options_of, rule_of, translates}
use Rattle.pfs_conf_values.specs.declared.actions.Action.{Action}
use Rattle.pfs_conf_values.specs.declared.actions.Action.TheVariants as action
use Rattle.pfs_store_contract.specs.Calls.{IsFreeRefusal, packet_limit}
use Rattle.pfs_store_contract.specs.Counts.{exceeds_maximum}
use Rattle.pfs_store_contract.specs.Handshakes.{over_rate}
use Rattle.pfs_store_contract.specs.declared.records.State.{State}
use Rattle.pfs_store_contract.specs.declared.records.Touched.{Touched}
use Rattle.pfs_engine_machine.specs.Guards.{Guard, asked, brings_cookie, gets_cookie}
use Rattle.pfs_engine_machine.specs.Machine.{MachineContents, answer_of_exceeded, deciding_rule, exceeded_of, held_for, losing_rule, outcome_of_held, packet_ruled}
use Rattle.pfs_engine_machine.specs.Refusals.{IsFreeOf}
use Rattle.pfs_engine_machine.specs.Sides.{state_for, are_free}
use Rattle.pfs_engine_machine.specs.declared.events.Outcome.{Outcome}
use Rattle.pfs_store_contract.specs.Worlds.{World}
use Rattle.pfs_store_contract.specs.declared.records.Limit.{Limit}
use Rattle.pfs_addr_values.specs.Keys.{key_of}

-- a packet touched the state of this number
abbrev pub answer_of_touch : Conf → MachineContents → ℕ → ℕ → Touched → Outcome × MachineContents
answer_of_touch conf h number now t =
    let o = options_of conf t.rule.0 in
    let limits = exceeded_of (exceeds_maximum o.max_src_conn t.connections) (over_rate o.max_src_conn_rate t.score.value) in
    answer_of_exceeded conf h number t.dir t.rule t.source now (outcome_of_held t.rule t.taken t.asks) (if t.completed then limits else None)

-- where no rule translates, the keys are free of a state that a packet would make, which goes on under its own key
abbrev pub IsFreeUnlessTranslated : Conf → World → PacketView → Type 0
IsFreeUnlessTranslated conf w p = (going : PacketView) → key_of going ≡ key_of p → translates conf ≡ false → are_free w p going ≡ true

-- where no limit is met, another state has a key of the state, so that none is made; where one is, no node is left
abbrev pub NeedsNoneAtLimits : Conf → World → PacketView → PacketView → ℕ → Option Limit → Type 0
NeedsNoneAtLimits conf w p going rule None = are_free w p going ≡ false
NeedsNoneAtLimits conf w p going rule (Some l) = IsFreeRefusal conf w p rule (Some l)

-- a rule makes no state of a packet, which goes on as another
abbrev pub NeedsNoneAt : Conf → MachineContents → PacketView → PacketView → ℕ → Action → Type 0
NeedsNoneAt conf h p going rule action.Match = Unit {0}
NeedsNoneAt conf h p going rule action.Block = Unit {0}
NeedsNoneAt conf h p going rule action.Pass = Unit {0}
NeedsNoneAt conf h p going rule (action.Keep o) = NeedsNoneAtLimits conf h.world p going rule (packet_limit conf h.world p rule)

abbrev pub NeedsNoneBy : Conf → MachineContents → PacketView → PacketView → Option ℕ → Type 0
NeedsNoneBy conf h p going None = Unit {0}
NeedsNoneBy conf h p going (Some rule) = NeedsNoneAt conf h p going rule (rule_of conf rule).action

-- a packet that is lost needs none
abbrev pub NeedsNoneUnlessLost : Conf → MachineContents → PacketView → PacketView → Option ℕ → Option ℕ → Type 0
NeedsNoneUnlessLost conf h p going decides None = NeedsNoneBy conf h p going decides
NeedsNoneUnlessLost conf h p going decides (Some rule) = Unit {0}

-- a packet of this state needs none, or, where there is none, by the rule that decides
abbrev pub NeedsNone : Conf → MachineContents → PacketView → Bool → Option State → Type 0
NeedsNone conf h p cookie None =
    NeedsNoneUnlessLost conf h p (packet_ruled conf h (asked p cookie)) (deciding_rule conf h (asked p cookie)) (losing_rule conf h (asked p cookie))
NeedsNone conf h p cookie (Some s) = IsFreeOf conf p s.rule

-- a packet that meets this, and brings a cookie, or not, needs none
abbrev pub NeedsNoneOf : Conf → MachineContents → PacketView → Bool → Type 0
NeedsNoneOf conf h p cookie = NeedsNone conf h p cookie (state_for h.world p)

-- a packet needs none behind the guard, by whether it gets a cookie
abbrev pub NeedsNoneUnless : Bool → Conf → MachineContents → PacketView → Bool → Type 0
NeedsNoneUnless true conf met p cookie = ⊥
NeedsNoneUnless false conf met p cookie = NeedsNoneOf conf met p cookie

abbrev pub NeedsNoneBehindGuard : Conf → Guard → MachineContents → PacketView → ℕ → Type 0
NeedsNoneBehindGuard conf g h p now = NeedsNoneUnless (gets_cookie conf g h.world p) conf (held_for conf h p now) p (brings_cookie g h.world p)
