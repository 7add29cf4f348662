-- Answer of tell_all: the sign of the next entry is told.
use Rattle.std.proofs.Common.{ap, sym, ◌∙◌, rules, subst}
use Rattle.std.specs.Option.{option_map}
use Rattle.pfs_eval.specs.declared.entries.Mark.{Mark}
use Rattle.pfs_eval.proofs.Narrowest.{TellsOnly, lookup-mark_at}
use Rattle.pfs_eval.proofs.TextTables.{own_network}
use Rattle.pfs_eval.proofs.entries.tell_all.Goals as goal

pub loop-place-preserved : goal.loop-place-preserved
loop-place-preserved c =
    let p = c.unwrap.result.0.now in
    let own = c.addr.ensures.network in
    let got = rw c.unwrap.ensures at c.get_index.ensures.value in
    let mark = sym got
    ∙ lookup-mark_at _ p.addr p.bits c.args.map.now.entries own.addr c.requires.networks
    (subst (TellsOnly _) (sym (own_network p own)) (record { same = λ q h. search rules; self = search rules })) in
    c.tell.ensures c.args.map.now.entries
    (rw (c.addr.ensures.value, c.bits.ensures.value) (ap (option_map (λ (m : Mark). m.negated)) (sym mark)))
    c.loop-place.invariant
