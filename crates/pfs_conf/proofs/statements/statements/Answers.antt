-- Answers of statements: its loop reads up to the text's end as defined, at a step, a refusal and the end.
use Rattle.std.proofs.Common.{sym, ◌∙◌}
use Rattle.std.proofs.lemmas.Result.{err_from_is_err_and}
use Rattle.pfs_conf_tokens.specs.Reading.{ends_text}
use Rattle.pfs_conf_tokens.proofs.Laws.{up_to_goes_on, up_to_stops}
use Rattle.pfs_conf.specs.Reading.{statement_at, statements_at}
use Rattle.pfs_conf.proofs.OnlineLaws.{online_statement, statement_shrinks}
use Rattle.pfs_conf.proofs.LexedLaws.{left_lexed}
use Rattle.pfs_conf.proofs.LoadLaws.{statements_fail}
use Rattle.pfs_conf.proofs.statements.statements.Goals as goal

pub loop-alloc-preserved : goal.loop-alloc-preserved
loop-alloc-preserved c = (
  sym (up_to_goes_on ends_text statement_at c.loop-alloc.progress c.statement.new.progress c.loop-alloc.cursor c.statement.new.cursor statement_shrinks (sym c.is_at_end.ensures ∙ c.loop-alloc-test.true) c.in_ok-statement.ensures.value) ∙ c.loop-alloc.invariant.0,
  c.in_ok-statement.ensures.order,
  left_lexed (online_statement c.loop-alloc.progress) c.loop-alloc.cursor c.statement.new.progress c.statement.new.cursor c.in_ok-statement.ensures.value c.loop-alloc.invariant.2,
)

pub loop-alloc-smaller : goal.loop-alloc-smaller
loop-alloc-smaller c = (statement_shrinks c.loop-alloc.progress).less c.loop-alloc.cursor c.statement.new.progress c.statement.new.cursor c.in_ok-statement.ensures.value

pub returns-in_err-statement : goal.returns-in_err-statement
unfolding statements_at
returns-in_err-statement c =
    let p = err_from_is_err_and c.from_residual.result c.from_residual.ensures.1 in
    rw (p.1, p.2) (statements_fail c.in_err-statement.field-0.0 c.loop-alloc.progress c.statement.new.progress c.statement.new.cursor c.loop-alloc.cursor _ (sym c.is_at_end.ensures ∙ c.loop-alloc-test.true) c.in_err-statement.ensures.value c.loop-alloc.invariant.0)

pub returns : goal.returns
unfolding statements_at
returns c = sym c.loop-alloc.invariant.0 ∙ up_to_stops ends_text statement_at c.loop-alloc.progress c.loop-alloc.cursor (sym c.is_at_end.ensures ∙ c.loop-alloc-test.false)
