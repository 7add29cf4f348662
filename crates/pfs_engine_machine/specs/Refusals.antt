-- When a new state is refused, and which packets need no memory.
use Rattle.std.specs.Prelude.{ℕ, ◌≡◌, ◌⊎◌, Bool, true, false, Some, None, IsSome}
use Rattle.pfs_addr_values.specs.Packets.{PacketView}
use Rattle.pfs_addr_values.specs.declared.protocols.Proto.{Proto}
use Rattle.pfs_addr_values.specs.declared.protocols.Proto.TheVariants as proto
use Rattle.pfs_conf_values.specs.Configs.{Conf, options_at, options_of}
use Rattle.pfs_conf_values.specs.declared.items.RuleNo.{RuleNo}
use Rattle.pfs_store_contract.specs.Admission.{leaves_node}
use Rattle.pfs_store_contract.specs.Calls.{packet_limit}
use Rattle.pfs_store_contract.specs.Worlds.{World}
use Rattle.pfs_store_contract.specs.declared.records.Limit.{Limit}
use Rattle.pfs_engine_machine.specs.Guards.{Guard, asked, brings_cookie, gets_cookie}
use Rattle.pfs_engine_machine.specs.Machine.{MachineContents, deciding_rule, held_for, losing_rule}
use Rattle.pfs_engine_machine.specs.Sides.{state_for}
use Rattle.pfs_engine_machine.specs.declared.events.Outcome.{Outcome}
use Rattle.pfs_engine_machine.specs.declared.events.Outcome.TheVariants as outcome

-- only TCP has handshakes
abbrev pub is_tcp : Proto → Bool
is_tcp proto.Tcp = true
is_tcp proto.Udp = false
is_tcp (proto.Other n) = false

-- the packet is one of no held state, no rule loses it, or the SYN whose cookie it brings, this rule decides on it and keeps state, and this
-- is the first limit that the state meets
pub record IsDropped (conf : Conf) (h : MachineContents) (p : PacketView) (cookie : Bool) (rule : ℕ) (limit : Limit) : Type 0 where
  pub fresh : state_for h.world p ≡ None
  pub passes : losing_rule conf h (asked p cookie) ≡ None
  pub rule_is : deciding_rule conf h (asked p cookie) ≡ Some rule
  pub keeps : IsSome (options_at conf rule)
  pub met : packet_limit conf h.world p rule ≡ Some limit

-- it gets no cookie, and meets this limit at what it meets
pub record IsDroppedBehindGuard (conf : Conf) (g : Guard) (h : MachineContents) (p : PacketView) (now rule : ℕ) (limit : Limit) : Type 0 where
  pub let_on : gets_cookie conf g h.world p ≡ false
  pub dropped : IsDropped conf (held_for conf h p now) p (brings_cookie g h.world p) rule limit

-- a packet of a state of this rule needs no memory: it is not TCP, or the rule has no `overload`
abbrev pub IsFreeOf : Conf → PacketView → RuleNo → Type 0
IsFreeOf conf p rule = (is_tcp p.proto ≡ false) ⊎ ((options_of conf rule.0).overload ≡ None)

-- a packet that meets this world, and of which this comes, needs no memory: it gets no cookie, no state is made, and no node by a
-- refusal; and it is one of no held state, or needs none there
abbrev pub IsFree : Conf → World → PacketView → Outcome → Type 0
IsFree conf w p outcome.Cookie = ⊥
IsFree conf w p (outcome.New rule) = ⊥
IsFree conf w p (outcome.Answered rule) = ⊥
IsFree conf w p (outcome.State rule) = IsFreeOf conf p rule
IsFree conf w p (outcome.Taken rule) = IsFreeOf conf p rule
IsFree conf w p (outcome.Asking rule) = IsFreeOf conf p rule
IsFree conf w p (outcome.Kill rule limits overload killed) = IsFreeOf conf p rule
IsFree conf w p (outcome.Drop rule limit) = leaves_node conf w p.source.addr rule.0 limit ≡ false
IsFree conf w p _ = Unit {0}
