-- Answer of has_no_letter: it has no letter where it has no byte.
use Rattle.std.proofs.Common.{rules}
use Rattle.pfs_conf_filters.proofs.flag_words.has_no_letter.Goals as goal

pub returns : goal.returns
returns c = search rules
