-- Answer of Signs::clear: 0 tells nothing.
use Rattle.pfs_eval.proofs.Telling.{zeros-true}
use Rattle.pfs_eval.proofs.signs.Signs.clear.Goals as goal

pub returns : goal.returns
returns c = λ es. zeros-true _ _ es (c.fill.ensures.items (λ y e. e))
