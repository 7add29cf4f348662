-- Answers of walk: it goes on, ends or stops as the next header says, and finds nothing where no turn is left.
use Rattle.std.proofs.Common.{length, sym, ◌∙◌, arith}
use Rattle.pfs_capture_packets.specs.declared.walks.Next.TheVariants.{On, Here, Stop}
use Rattle.pfs_capture_packets.proofs.WalkLaws.{left-turn, left-none}
use Rattle.pfs_capture_packets.proofs.walks.walk.Goals as goal

pub returns-in-Here : goal.returns-in-Here
returns-in-Here c =
    sym (left-turn (length c.args.bytes.now) c.loop-turn._turn c.args.layer c.args.bytes.now c.loop-turn.place Here (omega arith) (sym c.in-Here.ensures)) ∙ c.loop-turn.invariant

pub returns-in-Stop : goal.returns-in-Stop
returns-in-Stop c =
    sym (left-turn (length c.args.bytes.now) c.loop-turn._turn c.args.layer c.args.bytes.now c.loop-turn.place (Stop c.in-Stop.reason) (omega arith) (sym c.in-Stop.ensures)) ∙ c.loop-turn.invariant

pub loop-turn-preserved : goal.loop-turn-preserved
loop-turn-preserved c =
    sym (left-turn (length c.args.bytes.now) c.loop-turn._turn c.args.layer c.args.bytes.now c.loop-turn.place (On c.in-On.next) (omega arith) (sym c.in-On.ensures)) ∙ c.loop-turn.invariant

pub returns : goal.returns
returns c =
    sym (left-none (length c.args.bytes.now) c.loop-turn._turn c.args.layer c.args.bytes.now c.loop-turn.place (omega arith)) ∙ c.loop-turn.invariant
