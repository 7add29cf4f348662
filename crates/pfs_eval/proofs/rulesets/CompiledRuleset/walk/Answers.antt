-- Each visit keeps what is left of the walk, and its end has nothing left.
use Rattle.std.proofs.Common.{ap, ◌<◌, length, arith, inl, refl, sym, subst, ◌∙◌}
use Rattle.std.proofs.lemmas.Option.{slice_get_read}
use Rattle.pfs_addr_values.specs.Packets.{PacketView}
use Rattle.pfs_eval.specs.Asking.{asking}
use Rattle.pfs_eval.specs.Glances.{IsWordOf}
use Rattle.pfs_eval.specs.Visits.{is_left_with}
use Rattle.pfs_eval.proofs.Glancing.{deep-enough, ends-there, glance-read, glances_of, same-name}
use Rattle.pfs_eval.proofs.Visiting.{IsFound, IsVisit, Tells, left-start, lines_of, visit, walk_end}
use Rattle.pfs_eval.proofs.rulesets.CompiledRuleset.walk.Goals as goal
use Rattle.pfs_eval.proofs.rulesets.CompiledRuleset.walk.Goals.{After-on-walk}

pub loop-walk-init : goal.loop-walk-init
loop-walk-init g c = record {
  left = left-start _ _ _ _ _;
  few = omega arith;
  name = subst (λ n. IsWordOf n c.name_word-name.result) c.ifname.ensures c.name_word-name.ensures;
}

pub failing-failed-requires-clause-kept : goal.failing-failed-requires-clause-kept
failing-failed-requires-clause-kept g c =
    (glance-read c.loop-walk.walk.place c.index-lines-walk.result c.index-glances-walk-in-loop-walk.result c.self.invariant.1 c.as_slice-lines.ensures.value
    c.as_slice-glances.ensures.value c.loop-walk-test.true c.index-lines-walk.is c.index-glances-walk-in-loop-walk.is).filter

pub failing-failed-requires-clause-name : goal.failing-failed-requires-clause-name
failing-failed-requires-clause-name g c = c.loop-walk.invariant.name

pub on-walk-requires-clause-skips : goal.on-walk-requires-clause-skips
on-walk-requires-clause-skips g c =
    (glance-read c.loop-walk.walk.place c.index-lines-walk.result c.index-glances-walk-in-loop-walk.result c.self.invariant.1 c.as_slice-lines.ensures.value
    c.as_slice-glances.ensures.value c.loop-walk-test.true c.index-lines-walk.is c.index-glances-walk-in-loop-walk.is).skips

-- no visit changes the packet's interface
named : (g : _) (c : After-on-walk g) → IsWordOf c.on-walk.new.packet.ifname c.name_word-name.result
named g c = subst (λ n. IsWordOf n c.name_word-name.result)
    (sym (ap (λ (q : PacketView). q.ifname) c.on-walk.ensures.packet ∙ same-name (g.S.Sides.taken c.args.sides.now) c.loop-walk.packet c.index-lines-walk.result c.failing-failed.result))
    c.loop-walk.invariant.name

-- one visit
visited : (g : _) (c : After-on-walk g)
    → IsVisit (is_left_with c.args.tables.now.entries) (asking c.args.self.now c.args.tables.now.entries (g.S.Sides.taken c.args.sides.now)) c.args.self.now c.args.packet.now c.loop-walk.walk c.on-walk.result c.on-walk.new.packet c.failing-failed.new.visits c.args.meter.now
visited g c =
    let lines = c.as_slice-lines.result.now in
    let are = lines_of c.self.invariant.0 c.self.view_is c.as_slice-lines.ensures.value in
    let kept = glances_of c.self.invariant.1 c.as_slice-lines.ensures.value c.as_slice-glances.ensures.value in
    let within : c.loop-walk.walk.place < length lines = omega (arith, kept.long, c.loop-walk-test.true) in
    let at = slice_get_read lines _ c.loop-walk.walk.place _ refl within c.index-lines-walk.is in
    let tested = glance-read c.loop-walk.walk.place c.index-lines-walk.result c.index-glances-walk.result c.self.invariant.1 c.as_slice-lines.ensures.value
    c.as_slice-glances.ensures.value c.loop-walk-test.true c.index-lines-walk.is c.index-glances-walk.is in
    let told : Tells c.args.tables.now.entries c.loop-walk.packet c.index-lines-walk.result c.failing-failed.result = record { first = c.failing-failed.ensures.first; answer = c.failing-failed.ensures.answer } in
    visit c.args.tables.now.entries (g.S.Sides.taken c.args.sides.now) c.args.self.now c.args.packet.now lines c.loop-walk.walk c.on-walk.result c.loop-walk.packet c.on-walk.new.packet c.index-lines-walk.result c.index-lines-walk.result c.failing-failed.result c.loop-walk.meter c.failing-failed.new.visits c.args.meter.now are at at
    (deep-enough c.as_slice-glances.result.now c.loop-walk.walk.place c.loop-walk.walk.stop_depth c.index-lines-walk.result c.index-glances-walk.result tested c.index-glances-walk.is c.if-walk-glances.true) told c.on-walk.ensures.walk c.on-walk.ensures.packet c.failing-failed.ensures.visit c.loop-walk.invariant.left

pub loop-walk-smaller : goal.loop-walk-smaller
loop-walk-smaller g c = omega (arith, (visited g (goal.at.loop-walk-smaller g c).After-on-walk).forward)

pub loop-walk-preserved : goal.loop-walk-preserved
loop-walk-preserved g c =
    let v = visited g (goal.at.loop-walk-preserved g c).After-on-walk in
    record { left = v.left; few = omega (arith, v.forward); name = named g (goal.at.loop-walk-preserved g c).After-on-walk }

-- the end at an item that is not deep enough
stopped : (g : _) (c : goal.Else-walk-glances g) → IsFound c.args.tables.now.entries (g.S.Sides.taken c.args.sides.now) c.args.packet.now c.args.self.now c.loop-walk.walk.found c.loop-walk.packet c.loop-walk.meter c.args.meter.now
stopped g c =
    let are = lines_of c.self.invariant.0 c.self.view_is c.as_slice-lines.ensures.value in
    walk_end are (ends-there c.loop-walk.walk c.index-glances-walk.result c.self.invariant.1 c.as_slice-lines.ensures.value c.as_slice-glances.ensures.value
    c.loop-walk-test.true c.index-glances-walk.is c.if-walk-glances.false) c.loop-walk.invariant.left

-- and after the last line
passed : (g : _) (c : goal.After-loop-walk g) → IsFound c.args.tables.now.entries (g.S.Sides.taken c.args.sides.now) c.args.packet.now c.args.self.now c.loop-walk.walk.found c.loop-walk.packet c.loop-walk.meter c.args.meter.now
passed g c =
    let are = lines_of c.self.invariant.0 c.self.view_is c.as_slice-lines.ensures.value in
    let kept = glances_of c.self.invariant.1 c.as_slice-lines.ensures.value c.as_slice-glances.ensures.value in
    walk_end are (inl (omega (arith, kept.long, c.loop-walk-test.false))) c.loop-walk.invariant.left

pub returns-else-walk-glances-clause-verdict : goal.returns-else-walk-glances-clause-verdict
returns-else-walk-glances-clause-verdict g c = (stopped g c).verdict

pub returns-after-loop-walk-clause-verdict : goal.returns-after-loop-walk-clause-verdict
returns-after-loop-walk-clause-verdict g c = (passed g c).verdict

pub returns-else-walk-glances-clause-packet : goal.returns-else-walk-glances-clause-packet
returns-else-walk-glances-clause-packet g c = (stopped g c).packet

pub returns-after-loop-walk-clause-packet : goal.returns-after-loop-walk-clause-packet
returns-after-loop-walk-clause-packet g c = (passed g c).packet

pub returns-else-walk-glances-clause-visits : goal.returns-else-walk-glances-clause-visits
returns-else-walk-glances-clause-visits g c = (stopped g c).visits

pub returns-after-loop-walk-clause-visits : goal.returns-after-loop-walk-clause-visits
returns-after-loop-walk-clause-visits g c = (passed g c).visits

pub returns-else-walk-glances-clause-least : goal.returns-else-walk-glances-clause-least
returns-else-walk-glances-clause-least g c = (stopped g c).least

pub returns-after-loop-walk-clause-least : goal.returns-after-loop-walk-clause-least
returns-after-loop-walk-clause-least g c = (passed g c).least

pub returns-else-walk-glances-clause-most : goal.returns-else-walk-glances-clause-most
returns-else-walk-glances-clause-most g c = (stopped g c).most

pub returns-after-loop-walk-clause-most : goal.returns-after-loop-walk-clause-most
returns-after-loop-walk-clause-most g c = (passed g c).most
