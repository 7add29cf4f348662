-- Answer of Tables::is_full: the count that is kept is that of the entries.
use Rattle.std.proofs.Common.{ap, ◌∙◌}
use Rattle.std.specs.Prelude.{nat_le}
use Rattle.pfs_eval.specs.Holdings.{Holdings}
use Rattle.pfs_eval.specs.Tables.{entry_count}
use Rattle.pfs_eval.proofs.tables.Tables.is_full.Goals as goal

pub returns : goal.returns
returns c = ap (nat_le c.self.inside.limit) c.self.invariant.0 ∙ ap (λ (h : Holdings). nat_le h.limit (entry_count h.entries)) c.self.view_is
