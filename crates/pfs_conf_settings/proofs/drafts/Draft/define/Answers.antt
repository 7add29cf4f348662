-- Answer of Draft::define: a draft stays one where a table is defined.
use Rattle.pfs_conf_settings.proofs.DraftLaws.{IsDraft_with_tables}
use Rattle.pfs_conf_settings.proofs.drafts.Draft.define.Goals as goal

pub invariant_of-self : goal.invariant_of-self
invariant_of-self c = IsDraft_with_tables _ c.define.new.self c.self.invariant c.define.ensures.more
