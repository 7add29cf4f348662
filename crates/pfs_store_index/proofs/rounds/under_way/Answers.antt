-- Answers of under_way: where no number waits a new round begins with all, else the round goes on (`waiting`).
use Rattle.std.proofs.Common.{◌∙◌, sym}
use Rattle.std.specs.Map.{keys_of}
use Rattle.pfs_store_index.proofs.Turning.{round-begins, round-goes}
use Rattle.pfs_store_index.proofs.rounds.under_way.Goals as goal

pub returns-then-is_over-clause-waiting : goal.returns-then-is_over-clause-waiting
returns-then-is_over-clause-waiting c = round-begins c.args.made (keys_of c.args.places.now.entries) _ c.requires.numbered (sym c.is_over.ensures ∙ c.if-is_over.true)

pub returns-else-is_over-clause-waiting : goal.returns-else-is_over-clause-waiting
returns-else-is_over-clause-waiting c = round-goes (keys_of c.args.places.now.entries) _ (sym c.is_over.ensures ∙ c.if-is_over.false)
