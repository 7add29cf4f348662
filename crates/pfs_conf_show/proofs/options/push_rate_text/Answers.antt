-- Answer of push_rate_text: the handshakes, a slash, and the seconds.
use Rattle.std.proofs.Common.{arith}
use Rattle.std.proofs.lemmas.Grind.{common_steps}
use Rattle.pfs_conf_show.proofs.options.push_rate_text.Goals as goal

pub returns : goal.returns
returns c = grind (arith, common_steps)
