-- What a packet may do to what is held: nothing, make a state, leave a node at a refusal, renew a state, and kill some.
use Rattle.std.proofs.Common.{◌≡◌, ◌∙◌, ℕ, Bool, true, if◌then◌else◌, Option, Some, None, refl, subst, sym}
use Rattle.pfs_addr_values.specs.Packets.{PacketView}
use Rattle.pfs_conf_values.specs.Configs.{Conf, options_of}
use Rattle.pfs_store_contract.specs.Admission.{world_after_admission, world_after_refusal}
use Rattle.pfs_store_contract.specs.Calls.{packet_limit}
use Rattle.pfs_store_contract.specs.Handshakes.{stays_at_kill, flush_of, hits_connections, hits_rate}
use Rattle.pfs_store_contract.specs.Leaving.{world_without}
use Rattle.pfs_store_contract.specs.Touching.{completes_at, is_asking, is_taken, world_after_touch}
use Rattle.pfs_store_contract.specs.Worlds.{World}
use Rattle.pfs_store_contract.specs.declared.records.Limit.{Limit}
use Rattle.pfs_store_contract.specs.declared.records.State.{State}
use Rattle.pfs_engine_machine.proofs.Answering as answering
use Rattle.pfs_engine_machine.proofs.Reopening.{met_has}
use Rattle.pfs_engine_machine.specs.Machine.{MachineContents, answer_of_exceeded, answer_of_handshake, answer_of_key, answer_of_state, answer_to_packet, exceeded_of, held_for, held_of, outcome_of_held}
use Rattle.pfs_engine_machine.specs.declared.events.Exceeded.{Exceeded}
use Rattle.pfs_engine_machine.specs.declared.events.Outcome.{Outcome}
use Rattle.pfs_engine_machine.specs.Sides.{state_for, are_free}
use Rattle.pfs_engine_machine.proofs.KeptAdmission.{IsLedOn}

-- a fact of what a packet leaves, from what it may do to what it meets
pub record Changes (conf : Conf) (w : World) (p : PacketView) (cookie : Bool) (now : ℕ) (Q : World → Type 0) : Type 0 where
  pub passes : state_for w p ≡ None → Q w
  pub admits : (rule : ℕ) (going : PacketView) → state_for w p ≡ None → packet_limit conf w p rule ≡ None → IsLedOn conf p going → are_free w p going ≡ true
      → Q (world_after_admission conf w p going rule cookie now)
  pub refuses : (rule : ℕ) (limit : Limit) → state_for w p ≡ None → packet_limit conf w p rule ≡ Some limit → Q (world_after_refusal conf w p.source.addr rule now limit)
  pub touches : (s : State) → state_for w p ≡ Some s → Q (world_after_touch conf w s p now)
  pub kills : (v : World) (stays : State → Bool) → Q v → Q (world_without conf v stays now)

handshake_has : (conf : Conf) (h : MachineContents) (s : State) (now : ℕ) (unhindered : Outcome) (completes : Bool) (Q : World → Type 0)
    → ((v : World) (stays : State → Bool) → Q v → Q (world_without conf v stays now)) → Q h.world → Q (answer_of_handshake conf h s now unhindered completes).1.world
handshake_has conf h s now unhindered completes Q kills k = by (if completes then exceeded_of (hits_connections conf h.world s) (hits_rate conf h.world s) else None)
  where
    by : (limits : Option Exceeded) → Q (answer_of_exceeded conf h s.number s.dir s.rule s.source now unhindered limits).1.world
    by (Some e) = kills h.world (stays_at_kill conf.profile (flush_of (options_of conf s.rule.0).overload) s.number s.dir s.rule s.source) k
    by None = k

pub key_has : (conf : Conf) (h : MachineContents) (p : PacketView) (cookie : Bool) (now : ℕ) (Q : World → Type 0) → Changes conf h.world p cookie now Q → Q (answer_of_key conf h p cookie now).1.world
key_has conf h p cookie now Q c = go (state_for h.world p) refl
  where
    go : (found : Option State) → state_for h.world p ≡ found → Q (answer_of_key conf h p cookie now).1.world
    go None fresh = answering.answered_has conf h p cookie now (λ (a : Outcome × MachineContents). Q a.1.world) (record {
      held = λ s found. absurd (let same = sym fresh ∙ found in cc);
      passes = c.passes fresh;
      passed = λ rule. c.passes fresh;
      blocked = λ rule. c.passes fresh;
      lost = λ rule. c.passes fresh;
      conflicts = λ rule. c.passes fresh;
      refused = λ rule limit is. c.refuses rule limit fresh is.met;
      made = λ rule going none led free new same. c.admits rule going fresh none led free;
    })
    go (Some s) found =
        subst (λ (o : Option State). Q (answer_of_state conf h p cookie now o).1.world) (sym found)
        (handshake_has conf (held_of (world_after_touch conf h.world s p now) h.tables) s now (outcome_of_held s.rule (is_taken p s) (is_asking p s)) (completes_at p s) Q c.kills (c.touches s found))

-- ---- a fact that each change keeps

pub record IsKeptByPackets (conf : Conf) (P : World → Type 0) : Type 0 where
  pub touches : (w : World) (s : State) (p : PacketView) (now : ℕ) → P w → P (world_after_touch conf w s p now)
  pub kills : (w : World) (stays : State → Bool) (now : ℕ) → P w → P (world_without conf w stays now)
  pub admits : (w : World) (p going : PacketView) (cookie : Bool) (rule now : ℕ) → packet_limit conf w p rule ≡ None → IsLedOn conf p going → are_free w p going ≡ true
      → P w → P (world_after_admission conf w p going rule cookie now)
  pub refuses : (w : World) (p : PacketView) (rule now : ℕ) (limit : Limit) → packet_limit conf w p rule ≡ Some limit → P w
      → P (world_after_refusal conf w p.source.addr rule now limit)

key_keeps : (conf : Conf) (P : World → Type 0) → IsKeptByPackets conf P → (h : MachineContents) (p : PacketView) (cookie : Bool) (now : ℕ) → P h.world → P (answer_of_key conf h p cookie now).1.world
key_keeps conf P k h p cookie now i = key_has conf h p cookie now P (record {
  passes = λ fresh. i;
  admits = λ rule going fresh none led free. k.admits h.world p going cookie rule now none led free i;
  refuses = λ rule limit fresh met. k.refuses h.world p rule now limit met i;
  touches = λ s found. k.touches h.world s p now i;
  kills = λ v stays j. k.kills v stays now j;
})

pub answered_keeps : (conf : Conf) (P : World → Type 0) → IsKeptByPackets conf P → (h : MachineContents) (p : PacketView) (cookie : Bool) (now : ℕ) → P h.world → P (answer_to_packet conf h p cookie now).1.world
answered_keeps conf P k h p cookie now i =
    key_keeps conf P k (held_for conf h p now) p cookie now (met_has conf h p now P i (λ stays. k.kills h.world stays now i))
