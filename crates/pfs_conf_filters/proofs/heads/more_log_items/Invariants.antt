-- Invariant of more_log_items: reading on gives what reading from the start gives; fewer tokens each time.
use Rattle.std.proofs.Common.{◌≡◌, length}
use Rattle.pfs_conf_tokens.specs.Reading.{closes_parens, until_all, next_of}
use Rattle.pfs_conf_filters.specs.Reading.{log_item_at}
use Rattle.pfs_conf_filters.proofs.heads.more_log_items.Given as goal

abbrev pub invariant-loop-cursor : goal.invariant-loop-cursor
invariant-loop-cursor l = until_all closes_parens (next_of log_item_at) tt l.cursor ≡ until_all closes_parens (next_of log_item_at) tt l.fn.cursor

abbrev pub decreases-loop-cursor : goal.decreases-loop-cursor
decreases-loop-cursor l = length l.cursor
