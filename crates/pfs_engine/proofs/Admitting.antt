-- What comes of a rule that keeps state is what comes of its limits.
use Rattle.std.proofs.Common.{◌≡◌, ◌∙◌, ℕ, Bool, Option, Some, None, ap, sym}
use Rattle.pfs_addr_values.specs.Packets.{PacketView}
use Rattle.pfs_conf_values.specs.Configs.{Conf}
use Rattle.pfs_store_contract.specs.Admission.{limit_met}
use Rattle.pfs_store_contract.specs.Worlds.{World}
use Rattle.pfs_engine_machine.specs.Machine.{MachineContents, answer_of_limits, held_of, answer_of_keys}
use Rattle.pfs_engine.specs.Packets.{NeedsNoneAtLimits}
use Rattle.pfs_store_contract.specs.Calls.{packet_limit, IsAskedFree}
use Rattle.pfs_store_contract.specs.declared.records.Limit.{Limit}
use Rattle.pfs_addr_values.specs.declared.addresses.Addr.{Addr}
use Rattle.pfs_engine_machine.specs.Sides.{are_free}

pub asked_free : (conf : Conf) (w : World) (p going : PacketView) (rule : ℕ) (l : Option Limit) → NeedsNoneAtLimits conf w p going rule l → IsAskedFree conf w p.source.addr rule l
asked_free conf w p going rule None none = tt
asked_free conf w p going rule (Some l) none = none

-- the same packet, where the world is the same
pub keys_are_limits : (conf store_conf : Conf) (h : MachineContents) (v : World) (p going : PacketView) (cookie : Bool) (now rule : ℕ) (source : Addr) → store_conf ≡ conf → source ≡ p.source.addr
    → limit_met store_conf h.world rule source ≡ None → v ≡ h.world
    → answer_of_keys conf (held_of v h.tables) p going cookie now rule (are_free v p going)
    ≡ answer_of_limits conf h p going cookie now rule (packet_limit conf h.world p rule)
keys_are_limits conf store_conf h v p going cookie now rule source made_for from none same =
    let met : packet_limit conf h.world p rule ≡ None = (λ i. limit_met (sym made_for i) h.world rule (sym from i)) ∙ none in
    ap (λ (x : World). answer_of_keys conf (held_of x h.tables) p going cookie now rule (are_free x p going)) same
    ∙ sym (ap (answer_of_limits conf h p going cookie now rule) met)
