-- Answers of more_parts: its loop reads up to the line end as defined, at a step, a refusal and the end.
use Rattle.std.proofs.Common.{sym, ◌∙◌, Err, subst, Result, List}
use Rattle.pfs_conf_tokens.specs.Tokens.{Tok}
use Rattle.pfs_conf_tokens.specs.Keys.{ends_line}
use Rattle.pfs_conf_tokens.specs.Reading.{Refused}
use Rattle.pfs_conf_tokens.proofs.Laws.{up_to_goes_on, up_to_stops}
use Rattle.pfs_conf_settings.specs.declared.tables.Parts.{Parts}
use Rattle.pfs_conf_settings.specs.AdditionResults.{Extends}
use Rattle.pfs_conf_settings.specs.Tables.{part_at}
use Rattle.pfs_conf_settings.proofs.Stopping.{up_to_extends_fails}
use Rattle.pfs_conf_settings.proofs.TableLaws.{part_shrinks}
use Rattle.pfs_conf_settings.proofs.tables.more_parts.Goals as goal

pub parts-preserved : goal.parts-preserved
parts-preserved c =
    sym (up_to_goes_on ends_line part_at c.parts.parts c.part.new.parts c.parts.cursor c.part.new.cursor part_shrinks (sym c.is_at_line_end.ensures ∙ c.parts-test.true) c.in_default.ensures)
    ∙ c.parts.invariant

pub parts-smaller : goal.parts-smaller
parts-smaller c = (part_shrinks c.parts.parts).less c.parts.cursor c.part.new.parts c.part.new.cursor c.in_default.ensures

pub returns-in-Err : goal.returns-in-Err
returns-in-Err c =
    subst (λ (r : Result (Parts × List Tok) Refused). Extends (Err c.in-Err.error) c.part.new.cursor c.part.new.parts r) c.parts.invariant
    (up_to_extends_fails ends_line part_at c.parts.parts c.parts.cursor c.part.new.cursor c.part.new.parts c.in-Err.error (sym c.is_at_line_end.ensures ∙ c.parts-test.true) c.in-Err.ensures)

pub returns : goal.returns
returns c = sym c.parts.invariant ∙ up_to_stops ends_line part_at c.parts.parts c.parts.cursor (sym c.is_at_line_end.ensures ∙ c.parts-test.false)
