-- Invariant of more_settings: reading on gives what reading from the start gives; fewer tokens each time.
use Rattle.std.proofs.Common.{◌≡◌, length}
use Rattle.pfs_conf_tokens.specs.Reading.{closes_braces, until_all, next_of}
use Rattle.pfs_conf_settings.specs.Settings.{lined_setting_at}
use Rattle.pfs_conf_settings.proofs.settings.more_settings.Given as goal

abbrev pub invariant-loop-setting : goal.invariant-loop-setting
invariant-loop-setting l = until_all closes_braces (next_of (lined_setting_at l.fn.setting)) l.draft l.cursor ≡ until_all closes_braces (next_of (lined_setting_at l.fn.setting)) l.fn.draft l.fn.cursor

abbrev pub decreases-loop-setting : goal.decreases-loop-setting
decreases-loop-setting l = length l.cursor
