-- Answers of more_log_items: its loop reads up to the `)` as defined, at a step, a refusal and the end.
use Rattle.std.proofs.Common.{sym, ◌∙◌}
use Rattle.std.proofs.lemmas.Result.{err_from_is_err_and}
use Rattle.pfs_conf_tokens.specs.Reading.{closes_parens, next_of}
use Rattle.pfs_conf_tokens.specs.TokenResults.{refusal_at}
use Rattle.pfs_conf_tokens.proofs.Laws.{until_goes_on, until_stops, until_fails}
use Rattle.pfs_conf_filters.specs.Reading.{log_item_at}
use Rattle.pfs_conf_filters.proofs.OnlineLaws.{next_log_item_shrinks}
use Rattle.pfs_conf_filters.proofs.heads.more_log_items.Goals as goal

pub loop-cursor-preserved : goal.loop-cursor-preserved
loop-cursor-preserved c = sym (until_goes_on closes_parens (next_of log_item_at) tt tt c.loop-cursor.cursor c.next_log_item.new.cursor next_log_item_shrinks (sym c.is_at_close_paren.ensures ∙ c.loop-cursor-test.true) c.in_ok-next_log_item.ensures) ∙ c.loop-cursor.invariant

pub loop-cursor-smaller : goal.loop-cursor-smaller
loop-cursor-smaller c = (next_log_item_shrinks tt).less c.loop-cursor.cursor tt c.next_log_item.new.cursor c.in_ok-next_log_item.ensures

pub returns-in_err-next_log_item : goal.returns-in_err-next_log_item
returns-in_err-next_log_item c =
    let p = err_from_is_err_and c.from_residual.result c.from_residual.ensures.1 in
    rw (p.1, p.2) (sym c.loop-cursor.invariant ∙ until_fails closes_parens (next_of log_item_at) tt c.loop-cursor.cursor (refusal_at c.in_err-next_log_item.field-0.0 c.next_log_item.new.cursor) (sym c.is_at_close_paren.ensures ∙ c.loop-cursor-test.true) c.in_err-next_log_item.ensures)

pub returns : goal.returns
returns c = sym c.loop-cursor.invariant ∙ rw c.advance.ensures (until_stops closes_parens (next_of log_item_at) tt c.loop-cursor.cursor (sym c.is_at_close_paren.ensures ∙ c.loop-cursor-test.false))
