-- Answers of clauses: its loop reads up to the line end as defined, at a step, a refusal and the end.
use Rattle.std.proofs.Common.{sym, ◌∙◌}
use Rattle.std.proofs.lemmas.Result.{err_from_is_err_and}
use Rattle.pfs_conf_tokens.specs.Keys.{ends_line}
use Rattle.pfs_conf_tokens.specs.TokenResults.{refusal_at}
use Rattle.pfs_conf_tokens.proofs.Laws.{until_goes_on, until_stops, until_fails}
use Rattle.pfs_conf.specs.Reading.{clause_at}
use Rattle.pfs_conf.proofs.OnlineLaws.{clause_shrinks}
use Rattle.pfs_conf.proofs.rules.clauses.Goals as goal

pub loop-verb-preserved : goal.loop-verb-preserved
loop-verb-preserved c = sym (until_goes_on ends_line (clause_at c.args.verb c.args.parameters.now) c.loop-verb.clauses c.in_ok-clauses.clauses c.loop-verb.cursor c.clause.new.cursor (clause_shrinks c.args.verb c.args.parameters.now) (sym c.is_at_line_end.ensures ∙ c.loop-verb-test.true) c.in_ok-clauses.ensures) ∙ c.loop-verb.invariant

pub loop-verb-smaller : goal.loop-verb-smaller
loop-verb-smaller c = (clause_shrinks c.args.verb c.args.parameters.now c.loop-verb.clauses).less c.loop-verb.cursor c.in_ok-clauses.clauses c.clause.new.cursor c.in_ok-clauses.ensures

pub returns-in_err-clauses : goal.returns-in_err-clauses
returns-in_err-clauses c =
    let p = err_from_is_err_and c.from_residual.result c.from_residual.ensures.1 in
    rw (p.1, p.2) (sym c.loop-verb.invariant ∙ until_fails ends_line (clause_at c.args.verb c.args.parameters.now) c.loop-verb.clauses c.loop-verb.cursor (refusal_at c.in_err-clauses.field-0.0 c.clause.new.cursor) (sym c.is_at_line_end.ensures ∙ c.loop-verb-test.true) c.in_err-clauses.ensures)

pub returns : goal.returns
returns c = sym c.loop-verb.invariant ∙ rw c.advance.ensures (until_stops ends_line (clause_at c.args.verb c.args.parameters.now) c.loop-verb.clauses c.loop-verb.cursor (sym c.is_at_line_end.ensures ∙ c.loop-verb-test.false))
