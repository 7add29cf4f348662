-- Answers of skip_lines: a line end in front is gone over, and before any other token nothing is.
use Rattle.std.proofs.Common.{sym, ap, ◌∙◌}
use Rattle.pfs_conf_tokens.specs.Grammar.{skip_lines}
use Rattle.pfs_conf_tokens.proofs.LineLaws.{skip_over, skip_stays}
use Rattle.pfs_conf_tokens.proofs.numbers.skip_lines.Goals as goal

pub loop-cursor-preserved : goal.loop-cursor-preserved
loop-cursor-preserved c = ap skip_lines c.advance.ensures ∙ (skip_over c.loop-cursor.cursor (sym c.is_at_line_end.ensures ∙ c.loop-cursor-test.true) ∙ c.loop-cursor.invariant)

pub returns : goal.returns
returns c = skip_stays c.loop-cursor.cursor (sym c.is_at_line_end.ensures ∙ c.loop-cursor-test.false) ∙ c.loop-cursor.invariant
