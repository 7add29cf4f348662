-- Invariant of more_entries: reading on gives what reading from the start gives; fewer tokens each time.
use Rattle.std.proofs.Common.{◌≡◌, length}
use Rattle.pfs_conf_tokens.specs.Reading.{closes_braces, until_all, next_of}
use Rattle.pfs_conf_settings.specs.Tables.{lined_entry_at}
use Rattle.pfs_conf_settings.proofs.tables.more_entries.Given as goal

abbrev pub invariant-loop-cursor : goal.invariant-loop-cursor
invariant-loop-cursor l = until_all closes_braces (next_of lined_entry_at) l.entries l.cursor ≡ until_all closes_braces (next_of lined_entry_at) l.fn.entries l.fn.cursor

abbrev pub decreases-loop-cursor : goal.decreases-loop-cursor
decreases-loop-cursor l = length l.cursor
