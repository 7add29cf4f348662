-- Answer of Work::of_packet: what it is made of.
use Rattle.std.proofs.Common.{refl}
use Rattle.pfs_engine.proofs.works.Work.of_packet.Goals as goal

pub returns : goal.returns
returns c = refl
