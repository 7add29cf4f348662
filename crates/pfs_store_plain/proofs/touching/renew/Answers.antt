-- Answer of renew: one state more is gone through, renewed if it has the number.
use Rattle.std.proofs.Common.{◌<◌, length, arith}
use Rattle.std.proofs.lemmas.List.{get_or_default}
use Rattle.std.proofs.lemmas.List.Edits.{map_over_more}
use Rattle.pfs_store_contract.specs.Touching.{numbered_state_after}
use Rattle.pfs_store_plain.proofs.touching.renew.Goals as goal

pub loop-state-preserved : goal.loop-state-preserved
loop-state-preserved c =
    let within : c.loop-state.state-index < length c.loop-state.states = omega arith in
    rw c.renewed.ensures (map_over_more (numbered_state_after c.args.number c.args.packet.now c.args.now) c.args.states.now c.loop-state.states c.loop-state.state-index _ (omega arith) c.loop-state.invariant (get_or_default c.loop-state.states c.loop-state.state-index _ _ within))
