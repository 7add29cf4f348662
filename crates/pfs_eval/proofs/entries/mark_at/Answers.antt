-- Answer of mark_at: what may not be there has no mark.
use Rattle.std.proofs.Common.{◌∙◌, sym}
use Rattle.pfs_eval.proofs.Known.{not-there}
use Rattle.pfs_eval.proofs.entries.mark_at.Goals as goal

pub returns-then-not-may_have : goal.returns-then-not-may_have
returns-then-not-may_have c =
    sym (not-there c.args.bloom.now c.args.addr c.args.bits c.args.map.now.entries c.requires.known (sym c.may_have.ensures ∙ c.if-not-may_have.true))
