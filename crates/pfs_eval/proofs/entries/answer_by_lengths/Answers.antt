-- Answers of answer_by_lengths: the entry of the longest length decides; where none is found at any length, no.
use Rattle.std.proofs.Common.{◌≤◌, ◌+◌, ◌∙◌, arith, sym}
use Rattle.pfs_addr_values.specs.Addresses.{width_of}
use Rattle.pfs_eval.proofs.Narrowest.{hidden-all, hidden-found, hidden-less, hidden-none, next-below}
use Rattle.pfs_eval.proofs.entries.answer_by_lengths.Goals as goal

pub loop-hidden-init : goal.loop-hidden-init
loop-hidden-init c =
    let a = c.args.addr in
    let es = c.args.map.now.entries in
    rw c.next-hidden.ensures
    (c.requires.on.most a 0 (omega arith), next-below c.args.lengths.now a 0 es c.requires.noted (hidden-all a es c.requires.networks))

pub returns-in-Some : goal.returns-in-Some
returns-in-Some c =
    hidden-found c.args.addr c.width-width.result c.loop-hidden.hidden c.args.map.now.entries c.in-Some.negated c.width-width.ensures c.loop-hidden-test.true
    c.loop-hidden.invariant.1 (sym c.entry_sign.ensures ∙ c.in-Some.is)

pub loop-hidden-preserved : goal.loop-hidden-preserved
loop-hidden-preserved c =
    let a = c.args.addr in
    let es = c.args.map.now.entries in
    let n = c.loop-hidden.hidden + 1 in
    let fewer = hidden-less a c.width-width.result c.loop-hidden.hidden es c.width-width.ensures c.loop-hidden-test.true
    c.loop-hidden.invariant.1 (sym c.entry_sign.ensures ∙ c.in_default.is) in
    let within : n ≤ width_of a + 1 = omega arith in
    rw c.next-hidden-in-loop-hidden.ensures
    (c.requires.on.most a n within, next-below c.args.lengths.now a n es c.requires.noted fewer)

pub returns : goal.returns
returns c =
    hidden-none c.args.addr c.width-width.result c.loop-hidden.hidden c.args.map.now.entries c.width-width.ensures c.loop-hidden-test.false c.loop-hidden.invariant.1
