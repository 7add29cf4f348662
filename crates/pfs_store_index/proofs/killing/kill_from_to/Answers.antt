-- Answers of kill_from_to: one state more, and at the end which states stay (`states`) and `looks`.
use Rattle.std.proofs.Common.{◌≡◌, ◌∙◌, sym, ap, refl, filter, take, map, arith}
use Rattle.std.proofs.lemmas.List.{take_all}
use Rattle.pfs_store_contract.specs.Leaving.{is_from_to, node_after_leaving}
use Rattle.pfs_store_contract.specs.Purging.{state_numbers}
use Rattle.pfs_store_index.specs.Rounds.{state_survives, waiting}
use Rattle.pfs_store_contract.proofs.LeavingLaws.{retained-same}
use Rattle.pfs_store_index.proofs.Retained.{step-nodes}
use Rattle.pfs_store_index.proofs.Leavings.{state_number}
use Rattle.pfs_store_index.proofs.Storing.{all-waiting, killed-stays}
use Rattle.pfs_store_index.proofs.RisingWalks.{all-examined, all-fewer, all-in, all-next, at_next, stays-none, stays_by, step-stays}
use Rattle.pfs_store_index.proofs.killing.kill_from_to.Goals as goal

pub loop-number-init : goal.loop-number-init
loop-number-init g c = record {
  config = refl;
  order = omega arith;
  within = omega arith;
  states = stays-none state_number (is_from_to c.args.hosts.now) c.args.indexes.now.states;
  nodes = retained-same c.args.indexes.now.config c.args.indexes.now.states c.args.now c.args.indexes.now.nodes;
  rest = refl;
  looks = omega arith;
}

pub strike-requires-clause-held : goal.strike-requires-clause-held
strike-requires-clause-held g c =
    (all-in state_number c.loop-number.cursor c.args.made c.in-Some.number c.loop-number.indexes.states (sym c.in-Some.ensures)).held

pub strike-requires-clause-room : goal.strike-requires-clause-room
strike-requires-clause-room g c =
    let i = c.loop-number.invariant in
    omega (arith, i.looks, i.within, all-fewer state_number 0 c.args.made c.args.indexes.now.states, c.requires.few, c.requires.room)

pub overflow_add-examined : goal.overflow_add-examined
overflow_add-examined g c =
    omega (arith, c.loop-number.invariant.within, all-fewer state_number 0 c.args.made c.args.indexes.now.states, c.requires.few)

pub loop-number-preserved : goal.loop-number-preserved
loop-number-preserved g c =
    let i = c.loop-number.invariant in
    let n = c.in-Some.number in
    let conf = c.args.indexes.now.config in
    let ws = waiting 0 c.args.made (state_numbers c.args.indexes.now.states) in
    let leaves = is_from_to c.args.hosts.now in
    let q = all-in state_number c.loop-number.cursor c.args.made n c.loop-number.indexes.states (sym c.in-Some.ensures) in
    let x = at_next c.loop-number.examined n ws (waiting c.loop-number.cursor c.args.made (state_numbers c.loop-number.indexes.states)) i.rest (sym c.in-Some.ensures) in
    let m : c.strike.new.indexes.nodes ≡ map (node_after_leaving conf c.loop-number.indexes.states c.strike.new.indexes.states c.args.now) c.loop-number.indexes.nodes =
    c.strike.ensures.nodes ∙ (λ j. map (node_after_leaving (i.config j) c.loop-number.indexes.states c.strike.new.indexes.states c.args.now) c.loop-number.indexes.nodes) in
    let struck : c.strike.new.indexes.states ≡ filter (state_survives leaves n) c.loop-number.indexes.states = c.strike.ensures.states in
    record {
      config = c.strike.ensures.config ∙ i.config;
      order = q.most;
      within = omega (arith, x.within);
      states = step-stays state_number leaves n c.loop-number.examined ws c.args.indexes.now.states c.loop-number.indexes.states c.strike.new.indexes.states i.states struck x.taken;
      nodes = step-nodes conf (stays_by state_number leaves (take c.loop-number.examined ws)) (state_survives leaves n) c.args.now c.args.indexes.now.states c.loop-number.indexes.states c.strike.new.indexes.states c.args.indexes.now.nodes c.loop-number.indexes.nodes _ i.states struck i.nodes m;
      rest = ap (λ xs. waiting n c.args.made (state_numbers xs)) struck ∙ all-next state_number leaves c.loop-number.cursor c.args.made n _ c.loop-number.indexes.states c.strike.ensures.rising x.first;
      looks = omega (arith, c.strike.ensures.looks, i.looks);
    }

pub returns-clause-states : goal.returns-clause-states
returns-clause-states g c =
    let i = c.loop-number.invariant in
    let ws = waiting 0 c.args.made (state_numbers c.args.indexes.now.states) in
    let l = all-examined c.loop-number.examined ws (waiting c.loop-number.cursor c.args.made (state_numbers c.loop-number.indexes.states)) i.rest (sym c.next_state.ensures ∙ c.in_default.is) in
    i.states ∙ ap (λ zs. filter (stays_by state_number (is_from_to c.args.hosts.now) zs) c.args.indexes.now.states) (take_all c.loop-number.examined ws l)
    ∙ killed-stays c.args.hosts.now c.args.made c.args.indexes.now.states c.requires.numbered

pub returns-clause-looks : goal.returns-clause-looks
returns-clause-looks g c =
    let i = c.loop-number.invariant in
    let ws = waiting 0 c.args.made (state_numbers c.args.indexes.now.states) in
    let l = all-examined c.loop-number.examined ws (waiting c.loop-number.cursor c.args.made (state_numbers c.loop-number.indexes.states)) i.rest (sym c.next_state.ensures ∙ c.in_default.is) in
    omega (arith, i.looks, i.within, l, all-waiting c.args.made c.args.indexes.now.states c.requires.numbered)
