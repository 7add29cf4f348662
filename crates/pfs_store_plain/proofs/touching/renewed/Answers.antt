-- Answer of renewed: the state of the number takes the phase and the moment of the packet.
use Rattle.std.proofs.Common.{arith}
use Rattle.std.proofs.lemmas.Grind.{common_steps}
use Rattle.pfs_store_plain.proofs.touching.renewed.Goals as goal

pub returns-then-state-number : goal.returns-then-state-number
returns-then-state-number c = grind (arith, common_steps)
