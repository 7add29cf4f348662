-- Answers of go_on: whole rounds are no move; else a new round begins, or a slice of this one is passed.
use Rattle.std.proofs.Common.{◌∙◌, sym}
use Rattle.std.specs.Map.{keys_of}
use Rattle.pfs_store_index.proofs.Turning.{round-begun, whole-passed}
use Rattle.pfs_store_index.proofs.rounds.go_on.Goals as goal

pub returns-then-whole-left-clause-waiting : goal.returns-then-whole-left-clause-waiting
returns-then-whole-left-clause-waiting c =
    whole-passed c.args.share c.whole_round-whole.result c.args.left (keys_of c.args.places.now.entries) _ (sym c.is_over.ensures ∙ c.if-is_over.true) c.whole_round-whole.ensures.whole

pub returns-else-whole-left-clause-waiting : goal.returns-else-whole-left-clause-waiting
returns-else-whole-left-clause-waiting c =
    round-begun c.args.share c.args.left c.args.made (keys_of c.args.places.now.entries) _ _ c.requires.numbered c.requires.some (sym c.is_over.ensures ∙ c.if-is_over.true)
    c.sliced.ensures.waiting
