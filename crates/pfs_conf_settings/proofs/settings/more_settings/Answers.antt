-- Answers of more_settings: its loop reads up to the `}` as defined, at a step, a refusal and the end.
use Rattle.std.proofs.Common.{sym, ◌∙◌, Err, subst, Result, List}
use Rattle.pfs_conf_tokens.specs.Tokens.{Tok}
use Rattle.pfs_conf_tokens.specs.Reading.{closes_braces, next_of, Refused}
use Rattle.pfs_conf_tokens.proofs.Laws.{until_goes_on, until_stops}
use Rattle.pfs_conf_settings.specs.Drafts.{Drafted}
use Rattle.pfs_conf_settings.specs.AdditionResults.{Extends}
use Rattle.pfs_conf_settings.specs.Settings.{lined_setting_at}
use Rattle.pfs_conf_settings.proofs.SettingLaws.{next_setting_shrinks}
use Rattle.pfs_conf_settings.proofs.Stopping.{extends_fails}
use Rattle.pfs_conf_settings.proofs.settings.more_settings.Goals as goal

pub loop-setting-preserved : goal.loop-setting-preserved
loop-setting-preserved c =
    sym (until_goes_on closes_braces (next_of (lined_setting_at c.args.setting)) c.loop-setting.draft c.next_setting.new.draft c.loop-setting.cursor c.next_setting.new.cursor
    (next_setting_shrinks c.args.setting) (sym c.is_at_close_brace.ensures ∙ c.loop-setting-test.true) c.in_default.ensures)
    ∙ c.loop-setting.invariant

pub loop-setting-smaller : goal.loop-setting-smaller
loop-setting-smaller c = (next_setting_shrinks c.args.setting c.loop-setting.draft).less c.loop-setting.cursor c.next_setting.new.draft c.next_setting.new.cursor c.in_default.ensures

pub returns-in-Err : goal.returns-in-Err
returns-in-Err c =
    subst (λ (r : Result (Drafted × List Tok) Refused). Extends (Err c.in-Err.error) c.next_setting.new.cursor c.next_setting.new.draft r) c.loop-setting.invariant
    (extends_fails closes_braces (next_of (lined_setting_at c.args.setting)) c.loop-setting.draft c.loop-setting.cursor c.next_setting.new.cursor c.next_setting.new.draft c.in-Err.error
    (sym c.is_at_close_brace.ensures ∙ c.loop-setting-test.true) c.in-Err.ensures)

pub returns : goal.returns
returns c =
    sym c.loop-setting.invariant
    ∙ rw c.advance.ensures (until_stops closes_braces (next_of (lined_setting_at c.args.setting)) c.loop-setting.draft c.loop-setting.cursor (sym c.is_at_close_brace.ensures ∙ c.loop-setting-test.false))
