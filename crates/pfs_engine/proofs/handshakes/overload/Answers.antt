-- Answer of overload: the table of a rule's `overload` is one that there is (`known`).
use Rattle.std.proofs.Common.{refl}
use Rattle.pfs_engine_machine.proofs.OptionLaws.{some_of}
use Rattle.pfs_engine.proofs.handshakes.overload.Goals as goal

pub returns-clause-known : goal.returns-clause-known
returns-clause-known c = some_of _ _ (c.in_ok-options.ensures.kept _ refl).overload
