-- Answer of Table::holds: there is an entry for a host where its prefix has a mark.
use Rattle.std.proofs.Common.{◌∙◌, ap}
use Rattle.std.specs.Prelude.{is_some}
use Rattle.pfs_eval.specs.Entries.{holds_host, holds_prefix}
use Rattle.pfs_eval.proofs.Narrowest.{mark-holds}
use Rattle.pfs_eval.proofs.entries.Table.holds.Goals as goal

pub returns : goal.returns
returns c =
    c.is_some.ensures
    ∙ ap is_some c.mark_at.ensures
    ∙ mark-holds c.args.host c.width.result c.self.inside.map.entries
    ∙ ap (holds_prefix c.self.inside.map.entries c.args.host) c.width.ensures
    ∙ ap (λ s. holds_host s.entries c.args.host) c.self.view_is
