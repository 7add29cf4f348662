-- Invariant of more_parts: reading on gives what reading from the start gives; fewer tokens each time.
use Rattle.std.proofs.Common.{◌≡◌, length}
use Rattle.pfs_conf_tokens.specs.Keys.{ends_line}
use Rattle.pfs_conf_tokens.specs.Reading.{up_to_all}
use Rattle.pfs_conf_settings.specs.Tables.{part_at}
use Rattle.pfs_conf_settings.proofs.tables.more_parts.Given as goal

abbrev pub invariant-parts : goal.invariant-parts
invariant-parts l = up_to_all ends_line part_at l.parts l.cursor ≡ up_to_all ends_line part_at l.fn.parts l.fn.cursor

abbrev pub decreases-parts : goal.decreases-parts
decreases-parts l = length l.cursor
