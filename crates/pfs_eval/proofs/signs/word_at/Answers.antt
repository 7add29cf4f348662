-- Answer of word_at: 0 tells nothing.
use Rattle.pfs_eval.proofs.Telling.{zero-true}
use Rattle.pfs_eval.proofs.signs.word_at.Goals as goal

pub returns-in-None : goal.returns-in-None
returns-in-None c = λ es h. zero-true es
