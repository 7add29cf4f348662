-- Answer of Signs::with_capacity: 0 tells nothing.
use Rattle.pfs_eval.proofs.Telling.{zeros-true}
use Rattle.pfs_eval.proofs.signs.Signs.with_capacity.Goals as goal

pub returns : goal.returns
returns c = λ es. zeros-true _ _ es (c.in_ok-words.ensures.items_if_clones_equal (λ y e. e))
