-- Answers of entry_sign: what may not be there has no sign.
use Rattle.std.proofs.Common.{ap, sym, ◌∙◌}
use Rattle.std.specs.Option.{option_map}
use Rattle.pfs_eval.specs.declared.entries.Mark.{Mark}
use Rattle.pfs_eval.proofs.Known.{not-there}
use Rattle.pfs_eval.proofs.entries.entry_sign.Goals as goal

pub returns-then-not-may_have : goal.returns-then-not-may_have
returns-then-not-may_have c =
    ap (option_map (λ (m : Mark). m.negated))
    (sym (not-there c.args.bloom.now c.args.addr c.args.bits c.args.map.now.entries c.requires.known (sym c.may_have.ensures ∙ c.if-not-may_have.true)))
