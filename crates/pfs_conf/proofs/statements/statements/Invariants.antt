-- Invariant of statements: reading on gives what reading from the start gives; items in order, tokens lexed.
use Rattle.std.proofs.Common.{◌≡◌, length}
use Rattle.pfs_conf_tokens.specs.Reading.{ends_text, up_to_all}
use Rattle.pfs_conf.specs.Statements.{nothing}
use Rattle.pfs_conf.specs.Reading.{statement_at}
use Rattle.pfs_conf.specs.ReaderResults.{IsAtDepth}
use Rattle.pfs_conf.specs.PhraseBounds.{AreLexed}
use Rattle.pfs_conf.proofs.statements.statements.Given as goal

abbrev pub invariant-loop-alloc : goal.invariant-loop-alloc
invariant-loop-alloc l = (up_to_all ends_text statement_at l.progress l.cursor ≡ up_to_all ends_text statement_at nothing l.fn.cursor) × IsAtDepth l.progress × AreLexed l.cursor

abbrev pub decreases-loop-alloc : goal.decreases-loop-alloc
decreases-loop-alloc l = length l.cursor
