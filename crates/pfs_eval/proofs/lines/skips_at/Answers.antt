-- The skips of an item, by whether another follows in its body.
use Rattle.std.proofs.Common.{◌<◌, length, arith, ap, refl, sym, ◌∙◌}
use Rattle.std.proofs.lemmas.Option.{slice_get_read}
use Rattle.pfs_eval.specs.declared.lines.Line.{Line}
use Rattle.pfs_eval.proofs.LinesMade.{looked_up, none_past, skips-alone, skips-joined}
use Rattle.pfs_eval.proofs.Paths.{some_same}
use Rattle.pfs_eval.proofs.lines.skips_at.Goals as goal

pub returns-then-next-line : goal.returns-then-next-line
returns-then-next-line c =
    let lines = c.args.lines.now in
    let within : c.args.place < length lines = omega (arith, c.requires.place, c.requires.lines.long) in
    skips-joined c.args.config.now.items lines c.args.place c.body_end-behind.result c.index-lines-place.result c.in-Some.next.now c.joined.result c.requires.lines
    (omega (arith, c.body_end-behind.ensures.value)) (slice_get_read lines _ c.args.place _ refl within c.index-lines-place.is)
    (looked_up lines c.body_end-behind.result c.in-Some.next.now (c.in-Some.ensures.lookup.0, c.in-Some.ensures.lookup.1)) c.body_end-behind.ensures.value c.if-next-line.true c.joined.ensures

pub returns-else-next-line : goal.returns-else-next-line
returns-else-next-line c =
    let lines = c.args.lines.now in
    let within : c.args.place < length lines = omega (arith, c.requires.place, c.requires.lines.long) in
    let at = looked_up lines c.body_end-behind.result c.in-Some.next.now (c.in-Some.ensures.lookup.0, c.in-Some.ensures.lookup.1) in
    skips-alone c.args.config.now.items lines c.args.place c.body_end-behind.result c.index-lines-place.result c.all_to.result c.requires.lines
    (slice_get_read lines _ c.args.place _ refl within c.index-lines-place.is) c.body_end-behind.ensures.value
    (λ next there d. c.if-next-line.false (ap (λ (l : Line). l.item.depth) (some_same (sym at ∙ there)) ∙ d)) c.all_to.ensures

pub returns-in-None : goal.returns-in-None
returns-in-None c =
    let lines = c.args.lines.now in
    let within : c.args.place < length lines = omega (arith, c.requires.place, c.requires.lines.long) in
    skips-alone c.args.config.now.items lines c.args.place c.body_end-behind.result c.index-lines-place.result c.all_to-in-None.result c.requires.lines
    (slice_get_read lines _ c.args.place _ refl within c.index-lines-place.is) c.body_end-behind.ensures.value
    (λ next there d. none_past lines c.body_end-behind.result next c.in-None.ensures.lookup.0 there) c.all_to-in-None.ensures
