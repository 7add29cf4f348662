-- A packet keeps what every machine keeps.
use Rattle.std.proofs.Common.{◌≡◌, ◌≤◌, ◌+◌, ℕ, Bool, true, false, if◌then◌else◌, Option, None, Some, arith, refl}
use Rattle.pfs_addr_values.specs.Packets.{PacketView}
use Rattle.pfs_conf_values.specs.Configs.{Conf, rule_of}
use Rattle.pfs_conf_values.specs.Invariants.{IsConfig}
use Rattle.pfs_conf_values.specs.declared.actions.Action.{Action}
use Rattle.pfs_conf_values.specs.declared.actions.Action.TheVariants as action
use Rattle.pfs_store_contract.specs.Admission.{leaves_node}
use Rattle.pfs_store_contract.specs.Calls.{packet_limit}
use Rattle.pfs_store_contract.specs.declared.records.Limit.{Limit}
use Rattle.pfs_store_contract.specs.declared.records.State.{State}
use Rattle.pfs_engine_machine.specs.MachineInvariants.{IsKept}
use Rattle.pfs_engine_machine.specs.Guards.{Guard, asked, brings_cookie, gets_cookie}
use Rattle.pfs_engine_machine.specs.Machine.{MachineContents, answer_behind_guard, answer_of_action, answer_of_key, answer_of_limits, answer_of_rule, answer_of_state, answer_to_packet, deciding_rule, held_behind_guard, held_for, held_refused, packet_ruled, answer_of_keys, answer_of_loss, losing_rule}
use Rattle.pfs_engine_machine.specs.declared.events.Outcome.TheVariants as outcome
use Rattle.pfs_engine_machine.specs.Sides.{state_for, are_free}
use Rattle.pfs_engine_machine.proofs.GuardLaws.{IsTcpWith, brought-tcp}
use Rattle.pfs_engine_machine.proofs.KeptAdmission.{kept_admitted, kept_refused, IsLedOn}
use Rattle.pfs_engine_machine.proofs.KeptHandshakes.{kept_held, made_held}
use Rattle.pfs_engine_machine.proofs.Limits.{world_with_stray}
use Rattle.pfs_engine_machine.proofs.Reopening.{kept_met, made_met}
use Rattle.pfs_engine_machine.proofs.Leading.{led_on}

kept_keys : (conf : Conf) (m : MachineContents) (p going : PacketView) (cookie : Bool) (now rule : ℕ) → IsConfig conf → IsTcpWith cookie p.proto → IsKept conf m now → IsLedOn conf p going
    → packet_limit conf m.world p rule ≡ None
    → (free : Bool) → are_free m.world p going ≡ free → IsKept conf (answer_of_keys conf m p going cookie now rule free).1 now
kept_keys conf m p going cookie now rule c tcp k led met true e = kept_admitted conf m p going cookie rule now c tcp led e met k
kept_keys conf m p going cookie now rule c tcp k led met false e = k

kept_limit : (conf : Conf) (m : MachineContents) (p going : PacketView) (cookie : Bool) (now rule : ℕ) → IsConfig conf → IsTcpWith cookie p.proto → IsKept conf m now → IsLedOn conf p going
    → (limit : Option Limit) → packet_limit conf m.world p rule ≡ limit → IsKept conf (answer_of_limits conf m p going cookie now rule limit).1 now
kept_limit conf m p going cookie now rule c tcp k led None e = kept_keys conf m p going cookie now rule c tcp k led e (are_free m.world p going) refl
kept_limit conf m p going cookie now rule c tcp k led (Some l) e = kept_refused conf m p rule now l e k

kept_action : (conf : Conf) (m : MachineContents) (p going : PacketView) (cookie : Bool) (now rule : ℕ) → IsConfig conf → IsTcpWith cookie p.proto → IsKept conf m now → IsLedOn conf p going
    → (what : Action) → IsKept conf (answer_of_action conf m p going cookie now rule what).1 now
kept_action conf m p going cookie now rule c tcp k led action.Match = k
kept_action conf m p going cookie now rule c tcp k led action.Block = k
kept_action conf m p going cookie now rule c tcp k led action.Pass = k
kept_action conf m p going cookie now rule c tcp k led (action.Keep o) = kept_limit conf m p going cookie now rule c tcp k led (packet_limit conf m.world p rule) refl

kept_rule : (conf : Conf) (m : MachineContents) (p going : PacketView) (cookie : Bool) (now : ℕ) → IsConfig conf → IsTcpWith cookie p.proto → IsKept conf m now → IsLedOn conf p going
    → (rule : Option ℕ) → IsKept conf (answer_of_rule conf m p going cookie now rule).1 now
kept_rule conf m p going cookie now c tcp k led None = k
kept_rule conf m p going cookie now c tcp k led (Some rule) = kept_action conf m p going cookie now rule c tcp k led (rule_of conf rule).action

kept_loss : (conf : Conf) (m : MachineContents) (p : PacketView) (cookie : Bool) (now : ℕ) → IsConfig conf → IsTcpWith cookie p.proto → IsKept conf m now
    → (loses : Option ℕ)
    → IsKept conf (answer_of_loss conf m p (packet_ruled conf m (asked p cookie)) cookie now (deciding_rule conf m (asked p cookie)) loses).1 now
kept_loss conf m p cookie now c tcp k (Some rule) = k
kept_loss conf m p cookie now c tcp k None =
    kept_rule conf m p (packet_ruled conf m (asked p cookie)) cookie now c tcp k (led_on conf m p cookie) (deciding_rule conf m (asked p cookie))

kept_state : (conf : Conf) (m : MachineContents) (p : PacketView) (cookie : Bool) (now : ℕ) → IsConfig conf → IsTcpWith cookie p.proto → IsKept conf m now
    → (found : Option State) → state_for m.world p ≡ found → IsKept conf (answer_of_state conf m p cookie now found).1 now
kept_state conf m p cookie now c tcp k None e = kept_loss conf m p cookie now c tcp k (losing_rule conf m (asked p cookie))
kept_state conf m p cookie now c tcp k (Some s) e = kept_held conf m p cookie now s e k

-- of what it meets
pub kept_key : (conf : Conf) (m : MachineContents) (p : PacketView) (cookie : Bool) (now : ℕ) → IsConfig conf → IsTcpWith cookie p.proto → IsKept conf m now → IsKept conf (answer_of_key conf m p cookie now).1 now
kept_key conf m p cookie now c tcp k = kept_state conf m p cookie now c tcp k (state_for m.world p) refl

pub kept_answered : (conf : Conf) (m : MachineContents) (p : PacketView) (cookie : Bool) (now : ℕ) → IsConfig conf → IsTcpWith cookie p.proto → IsKept conf m now
    → IsKept conf (answer_to_packet conf m p cookie now).1 now
kept_answered conf m p cookie now c tcp k = kept_key conf (held_for conf m p now) p cookie now c tcp (kept_met conf m p now k)

-- ---- behind the guard

-- of what a packet meets there
pub kept_met_behind_guard : (conf : Conf) (g : Guard) (m : MachineContents) (p : PacketView) (now : ℕ) → IsKept conf m now
    → IsKept conf (held_behind_guard conf g m p now) now
kept_met_behind_guard conf g m p now k = by (gets_cookie conf g m.world p)
  where
    by : (b : Bool) → IsKept conf (if b then m else held_for conf m p now) now
    by true = k
    by false = kept_met conf m p now k

pub kept_behind_guard : (conf : Conf) (g : Guard) (m : MachineContents) (p : PacketView) (now : ℕ) → IsConfig conf → IsKept conf m now
    → IsKept conf (answer_behind_guard conf g m p now).1 now
kept_behind_guard conf g m p now c k = by (gets_cookie conf g m.world p)
  where
    by : (b : Bool) → IsKept conf (if b then (outcome.Cookie, m) else answer_to_packet conf m p (brings_cookie g m.world p) now).1 now
    by true = k
    by false = kept_answered conf m p (brings_cookie g m.world p) now c (brought-tcp g m.world p) k

-- ---- at most one number is given

made_refused : (conf : Conf) (m : MachineContents) (p : PacketView) (now rule : ℕ) (l : Limit) → (held_refused conf m p now rule l).world.made ≤ m.world.made + 1
made_refused conf m p now rule l = by (leaves_node conf m.world p.source.addr rule l)
  where
    by : (b : Bool) → (if b then world_with_stray conf m.world p.source.addr rule now else m.world).made ≤ m.world.made + 1
    by true = omega arith
    by false = omega arith

made_limit : (conf : Conf) (m : MachineContents) (p going : PacketView) (cookie : Bool) (now rule : ℕ) (limit : Option Limit) → (answer_of_limits conf m p going cookie now rule limit).1.world.made ≤ m.world.made + 1
made_limit conf m p going cookie now rule None = by (are_free m.world p going)
  where
    by : (free : Bool) → (answer_of_keys conf m p going cookie now rule free).1.world.made ≤ m.world.made + 1
    by true = omega arith
    by false = omega arith
made_limit conf m p going cookie now rule (Some l) = made_refused conf m p now rule l

made_action : (conf : Conf) (m : MachineContents) (p going : PacketView) (cookie : Bool) (now rule : ℕ) (what : Action) → (answer_of_action conf m p going cookie now rule what).1.world.made ≤ m.world.made + 1
made_action conf m p going cookie now rule action.Match = omega arith
made_action conf m p going cookie now rule action.Block = omega arith
made_action conf m p going cookie now rule action.Pass = omega arith
made_action conf m p going cookie now rule (action.Keep o) = made_limit conf m p going cookie now rule (packet_limit conf m.world p rule)

made_rule : (conf : Conf) (m : MachineContents) (p going : PacketView) (cookie : Bool) (now : ℕ) (rule : Option ℕ) → (answer_of_rule conf m p going cookie now rule).1.world.made ≤ m.world.made + 1
made_rule conf m p going cookie now None = omega arith
made_rule conf m p going cookie now (Some rule) = made_action conf m p going cookie now rule (rule_of conf rule).action

made_state : (conf : Conf) (m : MachineContents) (p : PacketView) (cookie : Bool) (now : ℕ) (found : Option State) → (answer_of_state conf m p cookie now found).1.world.made ≤ m.world.made + 1
made_state conf m p cookie now None = by (losing_rule conf m (asked p cookie))
  where
    by : (loses : Option ℕ)
        → (answer_of_loss conf m p (packet_ruled conf m (asked p cookie)) cookie now (deciding_rule conf m (asked p cookie)) loses).1.world.made ≤ m.world.made + 1
    by None = made_rule conf m p (packet_ruled conf m (asked p cookie)) cookie now (deciding_rule conf m (asked p cookie))
    by (Some rule) = omega arith
made_state conf m p cookie now (Some s) = omega (arith, made_held conf m p cookie now s)

pub made_key : (conf : Conf) (m : MachineContents) (p : PacketView) (cookie : Bool) (now : ℕ) → (answer_of_key conf m p cookie now).1.world.made ≤ m.world.made + 1
made_key conf m p cookie now = made_state conf m p cookie now (state_for m.world p)

pub made_answered : (conf : Conf) (m : MachineContents) (p : PacketView) (cookie : Bool) (now : ℕ) → (answer_to_packet conf m p cookie now).1.world.made ≤ m.world.made + 1
made_answered conf m p cookie now = omega (arith, made_key conf (held_for conf m p now) p cookie now, made_met conf m p now)

pub made_met_behind_guard : (conf : Conf) (g : Guard) (m : MachineContents) (p : PacketView) (now : ℕ) → (held_behind_guard conf g m p now).world.made ≡ m.world.made
made_met_behind_guard conf g m p now = by (gets_cookie conf g m.world p)
  where
    by : (b : Bool) → (if b then m else held_for conf m p now).world.made ≡ m.world.made
    by true = refl
    by false = made_met conf m p now

pub made_behind_guard : (conf : Conf) (g : Guard) (m : MachineContents) (p : PacketView) (now : ℕ) → (answer_behind_guard conf g m p now).1.world.made ≤ m.world.made + 1
made_behind_guard conf g m p now = by (gets_cookie conf g m.world p)
  where
    by : (b : Bool) → (if b then (outcome.Cookie, m) else answer_to_packet conf m p (brings_cookie g m.world p) now).1.world.made ≤ m.world.made + 1
    by true = omega arith
    by false = made_answered conf m p (brings_cookie g m.world p) now
