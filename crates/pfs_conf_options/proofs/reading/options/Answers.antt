-- Answers of options: its loop reads up to the `)` as defined, at a step, a refusal and the end.
use Rattle.std.proofs.Common.{sym, ◌∙◌}
use Rattle.std.proofs.lemmas.Result.{err_from_is_err_and}
use Rattle.pfs_conf_tokens.specs.Reading.{closes_parens, next_of}
use Rattle.pfs_conf_tokens.specs.TokenResults.{refusal_at}
use Rattle.pfs_conf_tokens.proofs.Laws.{until_goes_on, until_stops, until_fails}
use Rattle.pfs_conf_options.specs.Reading.{option_at}
use Rattle.pfs_conf_options.proofs.OptionLaws.{next_option_shrinks}
use Rattle.pfs_conf_options.proofs.reading.options.Goals as goal

pub loop-cursor-preserved : goal.loop-cursor-preserved
loop-cursor-preserved c = sym (until_goes_on closes_parens (next_of option_at) c.loop-cursor.options c.in_ok-options.options c.loop-cursor.cursor c.next_option.new.cursor next_option_shrinks (sym c.is_at_close_paren.ensures ∙ c.loop-cursor-test.true) c.in_ok-options.ensures) ∙ c.loop-cursor.invariant

pub loop-cursor-smaller : goal.loop-cursor-smaller
loop-cursor-smaller c = (next_option_shrinks c.loop-cursor.options).less c.loop-cursor.cursor c.in_ok-options.options c.next_option.new.cursor c.in_ok-options.ensures

pub returns-in_err-options : goal.returns-in_err-options
returns-in_err-options c =
    let p = err_from_is_err_and c.from_residual-in_err-options.result c.from_residual-in_err-options.ensures.1 in
    rw (p.1, p.2) (sym c.loop-cursor.invariant ∙ until_fails closes_parens (next_of option_at) c.loop-cursor.options c.loop-cursor.cursor (refusal_at c.in_err-options.field-0.0 c.next_option.new.cursor) (sym c.is_at_close_paren.ensures ∙ c.loop-cursor-test.true) c.in_err-options.ensures)

pub returns : goal.returns
returns c = sym c.loop-cursor.invariant ∙ rw c.advance.ensures (until_stops closes_parens (next_of option_at) c.loop-cursor.options c.loop-cursor.cursor (sym c.is_at_close_paren.ensures ∙ c.loop-cursor-test.false))
