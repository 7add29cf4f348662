-- Answers of next_between: the first entry in a range has the least number there, or there is none.
use Rattle.std.proofs.Common.{◌∙◌, sym}
use Rattle.pfs_store_index.proofs.Turning.{next-none, next-some}
use Rattle.pfs_store_index.proofs.rounds.next_between.Goals as goal

pub returns-in-Some : goal.returns-in-Some
returns-in-Some c = next-some c.args.above c.args.most _ _ _ c.args.places.now.entries (sym c.in-Some.ensures.steps ∙ c.between.ensures.between)

pub returns-in-None : goal.returns-in-None
returns-in-None c = next-none c.args.above c.args.most c.args.places.now.entries (sym c.in-None.ensures.steps.0 ∙ c.between.ensures.between)
