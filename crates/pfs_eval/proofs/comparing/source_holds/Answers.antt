-- Answer of source_holds: what is kept of a prefix of IPv4 is asked as the prefix is.
use Rattle.std.proofs.Common.{ap, ◌∙◌}
use Rattle.pfs_eval.specs.Glances.{inet_holds}
use Rattle.pfs_eval.specs.Matching.{filter_of}
use Rattle.pfs_eval.proofs.Glancing.{is-inet}
use Rattle.pfs_eval.proofs.comparing.source_holds.Goals as goal

pub returns-in-Inet : goal.returns-in-Inet
returns-in-Inet c =
    is-inet c.args.tables.now.entries (filter_of c.args.what.now).from.host c.args.glance.now.source c.args.packet.now.source.addr c.inet_holds.result
    c.in-Inet.is c.requires (c.inet_holds.ensures ∙ ap (λ a. inet_holds c.args.glance.now.source a) c.src.ensures)
