-- Answer of bit_of: one, shifted by less than a word's bits.
use Rattle.pfs_eval.proofs.Known.{bit-shift}
use Rattle.pfs_eval.proofs.blooms.bit_of.Goals as goal

pub returns : goal.returns
returns c = bit-shift c.args.number
