-- Answer of push_received_on: the words, the `!` before them if there is one, and the name.
use Rattle.std.proofs.Common.{sym}
use Rattle.pfs_conf_show.proofs.extras.push_received_on.Goals as goal

pub returns-in_ok-push_asked : goal.returns-in_ok-push_asked
returns-in_ok-push_asked c = rw (c.in-Some.is, sym c.as_bytes.ensures) c.in_ok-push_asked.ensures
