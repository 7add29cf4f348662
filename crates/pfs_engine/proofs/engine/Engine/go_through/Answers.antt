-- Answers of Engine::go_through: how many packets were taken (`taken`), where memory was refused to the second event (`err`), and the work of both (`work`).
use Rattle.std.proofs.Common.{◌≡◌, ◌∙◌, Some, None, sym}
use Rattle.pfs_engine.specs.Ways.{record_of_packet}
use Rattle.pfs_engine.proofs.Rows.{IsFirst, is-first, refused-second, second-event, taken-alone, taken-both, work-both}
use Rattle.pfs_engine.proofs.engine.Engine.go_through.Goals as goal
use Rattle.pfs_engine.proofs.engine.Engine.go_through.Goals.{After-go_on, In_ok-outcome}
use Rattle.pfs_engine_machine.specs.Ways.{second_event, second_packet}
use Rattle.pfs_engine_machine.specs.declared.events.Arrival.TheVariants as arrival

-- the first event, and what came of it
first : (g : _) (c : In_ok-outcome g)
    → IsFirst c.args.self.now.config c.args.self.now.machine c.go_in.new.self.machine (record_of_packet c.args.time c.args.packet.now) (record_of_packet c.args.time c.go_in.new.packet) c.in_ok-outcome.outcome c.go_in.new.self.going
first g c = is-first _ _ _ _ _ _ _ c.go_in.ensures.packet c.in_ok-outcome.ensures.ok (c.in_ok-outcome.ensures.going c.requires.routes)

-- the second, where there is one
second : (g : _) (c : After-go_on g)
    → Some (record_of_packet c.args.time c.in-Some.packet) ≡ second_event c.args.self.now.config (record_of_packet c.args.time c.args.packet.now) (record_of_packet c.args.time c.go_in.new.packet) c.in_ok-outcome.outcome c.go_in.new.self.going
second g c =
    second-event c.args.self.now.config c.args.time c.args.packet.now c.go_in.new.packet c.in_ok-outcome.outcome c.go_in.new.self.going (Some c.in-Some.packet)
    (sym c.in-Some.is ∙ c.second_packet.ensures ∙ (λ i. second_packet ((c.config.ensures ∙ c.go_in.ensures.keeps.config) i) c.in_ok-outcome.outcome (c.going.ensures i) (arrival.Packet c.args.packet.now) (arrival.Packet c.go_in.new.packet)))

pub returns-in-None-clause-taken : goal.returns-in-None-clause-taken
returns-in-None-clause-taken g c =
    let none = second-event c.args.self.now.config c.args.time c.args.packet.now c.go_in.new.packet c.in_ok-outcome.outcome c.go_in.new.self.going None
    (sym c.in-None.is ∙ c.second_packet.ensures ∙ (λ i. second_packet ((c.config.ensures ∙ c.go_in.ensures.keeps.config) i) c.in_ok-outcome.outcome (c.going.ensures i) (arrival.Packet c.args.packet.now) (arrival.Packet c.go_in.new.packet))) in
    taken-alone _ _ _ _ _ _ _ _ _ (first g (goal.at.returns-in-None-clause-taken g c).In_ok-outcome) none c.in_ok-outcome.ensures.taken.taken

pub returns-in-Some-clause-err : goal.returns-in-Some-clause-err
returns-in-Some-clause-err g c =
    let at = goal.at.returns-in-Some-clause-err g c in
    refused-second _ _ _ _ _ _ _ _ _ _ (first g at.In_ok-outcome) (second g at.After-go_on) (rw c.go_in.ensures.keeps.config at c.go_on.ensures.err)

pub returns-in-Some-clause-taken : goal.returns-in-Some-clause-taken
returns-in-Some-clause-taken g c =
    let at = goal.at.returns-in-Some-clause-taken g c in
    taken-both _ _ _ _ _ _ _ _ _ _ _ _ (first g at.In_ok-outcome) (second g at.After-go_on) tt c.in_ok-outcome.ensures.taken.taken c.go_on.ensures.taken

pub returns-in-Some-clause-work : goal.returns-in-Some-clause-work
returns-in-Some-clause-work g c =
    let at = goal.at.returns-in-Some-clause-work g c in
    work-both _ _ _ _ _ _ _ _ _ _ _ _ (first g at.In_ok-outcome) (second g at.After-go_on) c.in_ok-outcome.ensures.work (rw c.go_in.ensures.keeps.config at c.go_on.ensures.work)
