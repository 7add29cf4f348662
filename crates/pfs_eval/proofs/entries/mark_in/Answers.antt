-- Answer of mark_in: the look-up gives the mark of that prefix.
use Rattle.std.proofs.Common.{◌∙◌, rules, subst}
use Rattle.pfs_eval.proofs.Narrowest.{TellsOnly, lookup-mark_at}
use Rattle.pfs_eval.proofs.entries.mark_in.Goals as goal

pub returns : goal.returns
returns c =
    c.copied.ensures ∙ c.get.ensures.value
    ∙ lookup-mark_at _ c.args.addr c.args.bits c.args.map.now.entries c.prefix.ensures.addr c.requires.networks
    (subst (TellsOnly _) c.prefix.ensures.value (record { same = λ q h. search rules; self = search rules }))
