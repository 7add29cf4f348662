-- Answers of more_entries: its loop reads up to the `}` as defined, at a step, a refusal and the end.
use Rattle.std.proofs.Common.{sym, ◌∙◌, Err, subst, Result, List}
use Rattle.pfs_conf_tokens.specs.Tokens.{Tok}
use Rattle.pfs_conf_tokens.specs.Reading.{closes_braces, next_of, Refused}
use Rattle.pfs_conf_tokens.proofs.Laws.{until_goes_on, until_stops}
use Rattle.pfs_conf_values.specs.Entries.{TextEntry}
use Rattle.pfs_conf_settings.specs.AdditionResults.{Extends}
use Rattle.pfs_conf_settings.specs.Tables.{lined_entry_at}
use Rattle.pfs_conf_settings.proofs.Stopping.{extends_fails}
use Rattle.pfs_conf_settings.proofs.TableLaws.{next_entry_shrinks}
use Rattle.pfs_conf_settings.proofs.tables.more_entries.Goals as goal

pub loop-cursor-preserved : goal.loop-cursor-preserved
loop-cursor-preserved c =
    sym (until_goes_on closes_braces (next_of lined_entry_at) c.loop-cursor.entries c.next_entry.new.entries c.loop-cursor.cursor c.next_entry.new.cursor
    next_entry_shrinks (sym c.is_at_close_brace.ensures ∙ c.loop-cursor-test.true) c.in_default.ensures)
    ∙ c.loop-cursor.invariant

pub loop-cursor-smaller : goal.loop-cursor-smaller
loop-cursor-smaller c = (next_entry_shrinks c.loop-cursor.entries).less c.loop-cursor.cursor c.next_entry.new.entries c.next_entry.new.cursor c.in_default.ensures

pub returns-in-Err : goal.returns-in-Err
returns-in-Err c =
    subst (λ (r : Result (List TextEntry × List Tok) Refused). Extends (Err c.in-Err.error) c.next_entry.new.cursor c.next_entry.new.entries r) c.loop-cursor.invariant
    (extends_fails closes_braces (next_of lined_entry_at) c.loop-cursor.entries c.loop-cursor.cursor c.next_entry.new.cursor c.next_entry.new.entries c.in-Err.error
    (sym c.is_at_close_brace.ensures ∙ c.loop-cursor-test.true) c.in-Err.ensures)

pub returns : goal.returns
returns c =
    sym c.loop-cursor.invariant
    ∙ rw c.advance.ensures (until_stops closes_braces (next_of lined_entry_at) c.loop-cursor.entries c.loop-cursor.cursor (sym c.is_at_close_brace.ensures ∙ c.loop-cursor-test.false))
