-- Answers of find_option: the look goes on or ends as the next option says, and finds nothing where no turn is left.
use Rattle.std.proofs.Common.{length, sym, ◌∙◌, arith}
use Rattle.pfs_capture_files.specs.declared.options.Look.TheVariants.{On, Here, Nowhere}
use Rattle.pfs_capture_files.proofs.OptionLaws.{left-turn, left-none}
use Rattle.pfs_capture_files.proofs.options.find_option.Goals as goal

pub returns-in-Here-clause-is : goal.returns-in-Here-clause-is
returns-in-Here-clause-is c =
    sym (left-turn (length c.args.body.now) c.loop-turn._turn c.args.order c.args.body.now c.args.wanted c.loop-turn.at (Here c.in-Here.place) (omega arith) (sym c.in-Here.ensures.is)) ∙ c.loop-turn.invariant

pub returns-in-Nowhere-clause-is : goal.returns-in-Nowhere-clause-is
returns-in-Nowhere-clause-is c =
    sym (left-turn (length c.args.body.now) c.loop-turn._turn c.args.order c.args.body.now c.args.wanted c.loop-turn.at Nowhere (omega arith) (sym c.in-Nowhere.ensures.is)) ∙ c.loop-turn.invariant

pub loop-turn-preserved : goal.loop-turn-preserved
loop-turn-preserved c =
    sym (left-turn (length c.args.body.now) c.loop-turn._turn c.args.order c.args.body.now c.args.wanted c.loop-turn.at (On c.in-On.next) (omega arith) (sym c.in-On.ensures.is)) ∙ c.loop-turn.invariant

pub returns-clause-is : goal.returns-clause-is
returns-clause-is c =
    sym (left-none (length c.args.body.now) c.loop-turn._turn c.args.order c.args.body.now c.args.wanted c.loop-turn.at (omega arith)) ∙ c.loop-turn.invariant
