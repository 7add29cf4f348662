-- Answers of flush: one state of the source more, and at the end which states stay (`states`) and `looks`.
use Rattle.std.proofs.Common.{◌≡◌, ◌∙◌, ℕ, List, Option, Some, sym, ap, refl, filter, slice_get, take, map, arith}
use Rattle.std.proofs.lemmas.List.{take_all}
use Rattle.pfs_addr_values.specs.declared.addresses.Addr.{Addr}
use Rattle.pfs_addr_values.specs.declared.packets.Dir.{Dir}
use Rattle.pfs_conf_values.specs.Configs.{Conf}
use Rattle.pfs_store_contract.specs.Leaving.{is_beside, is_flushed, node_after_leaving}
use Rattle.pfs_store_contract.specs.declared.records.State.{State}
use Rattle.pfs_store_index.specs.Rounds.{state_survives, waiting_of}
use Rattle.pfs_store_contract.proofs.LeavingLaws.{retained-same}
use Rattle.pfs_store_index.proofs.Retained.{step-nodes}
use Rattle.pfs_store_index.proofs.Leavings.{state_number}
use Rattle.pfs_store_index.proofs.Storing.{flushed-stays, source-count}
use Rattle.pfs_store_index.proofs.RisingWalks.{all-examined, at_next, stays-none, stays_by, step-stays, waiting-fewer, waiting-in, waiting-next}
use Rattle.pfs_store_index.proofs.flushing.flush.Goals as goal

-- the next of the states that a flush takes for those of the source, of the configuration that stays
asked : (k conf : Conf) (d : Dir) (a : Addr) (cursor made : ℕ) (xs : List State) (o : Option ℕ) → k ≡ conf → o ≡ slice_get (waiting_of (is_beside k.profile d a) cursor made xs) 0
    → slice_get (waiting_of (is_beside conf.profile d a) cursor made xs) 0 ≡ o
asked k conf d a cursor made xs o e h = (λ j. slice_get (waiting_of (is_beside (sym e j).profile d a) cursor made xs) 0) ∙ sym h

pub loop-number-init : goal.loop-number-init
loop-number-init g c = record {
  config = refl;
  order = omega arith;
  within = omega arith;
  states = stays-none state_number (is_flushed c.args.indexes.now.config.profile c.args.what.dir c.args.what.source c.args.what.rule) c.args.indexes.now.states;
  nodes = retained-same c.args.indexes.now.config c.args.indexes.now.states c.args.now c.args.indexes.now.nodes;
  rest = refl;
  looks = omega arith;
}

pub strike-requires-clause-held : goal.strike-requires-clause-held
strike-requires-clause-held g c =
    (waiting-in state_number (is_beside c.args.indexes.now.config.profile c.args.what.dir c.args.what.source) c.loop-number.cursor c.args.made c.in-Some.number c.loop-number.indexes.states (asked c.loop-number.indexes.config c.args.indexes.now.config c.args.what.dir c.args.what.source c.loop-number.cursor c.args.made c.loop-number.indexes.states (Some c.in-Some.number) c.loop-number.invariant.config c.in-Some.ensures)).held

pub strike-requires-clause-room : goal.strike-requires-clause-room
strike-requires-clause-room g c =
    let i = c.loop-number.invariant in
    omega (arith, i.looks, i.within, waiting-fewer state_number (is_beside c.args.indexes.now.config.profile c.args.what.dir c.args.what.source) 0 c.args.made c.args.indexes.now.states, c.requires.few, c.requires.room)

pub overflow_add-examined : goal.overflow_add-examined
overflow_add-examined g c =
    omega (arith, c.loop-number.invariant.within, waiting-fewer state_number (is_beside c.args.indexes.now.config.profile c.args.what.dir c.args.what.source) 0 c.args.made c.args.indexes.now.states, c.requires.few)

pub loop-number-preserved : goal.loop-number-preserved
loop-number-preserved g c =
    let i = c.loop-number.invariant in
    let n = c.in-Some.number in
    let conf = c.args.indexes.now.config in
    let test = is_beside c.args.indexes.now.config.profile c.args.what.dir c.args.what.source in
    let ws = waiting_of (is_beside c.args.indexes.now.config.profile c.args.what.dir c.args.what.source) 0 c.args.made c.args.indexes.now.states in
    let leaves = is_flushed c.args.indexes.now.config.profile c.args.what.dir c.args.what.source c.args.what.rule in
    let q = waiting-in state_number test c.loop-number.cursor c.args.made n c.loop-number.indexes.states (asked c.loop-number.indexes.config c.args.indexes.now.config c.args.what.dir c.args.what.source c.loop-number.cursor c.args.made c.loop-number.indexes.states (Some c.in-Some.number) c.loop-number.invariant.config c.in-Some.ensures) in
    let x = at_next c.loop-number.examined n ws (waiting_of (is_beside c.args.indexes.now.config.profile c.args.what.dir c.args.what.source) c.loop-number.cursor c.args.made c.loop-number.indexes.states) i.rest (asked c.loop-number.indexes.config c.args.indexes.now.config c.args.what.dir c.args.what.source c.loop-number.cursor c.args.made c.loop-number.indexes.states (Some c.in-Some.number) c.loop-number.invariant.config c.in-Some.ensures) in
    let m : c.strike.new.indexes.nodes ≡ map (node_after_leaving conf c.loop-number.indexes.states c.strike.new.indexes.states c.args.now) c.loop-number.indexes.nodes =
    c.strike.ensures.nodes ∙ (λ j. map (node_after_leaving (i.config j) c.loop-number.indexes.states c.strike.new.indexes.states c.args.now) c.loop-number.indexes.nodes) in
    let struck : c.strike.new.indexes.states ≡ filter (state_survives leaves n) c.loop-number.indexes.states =
    c.strike.ensures.states ∙ (λ j. filter (state_survives (is_flushed (i.config j).profile c.args.what.dir c.args.what.source c.args.what.rule) n) c.loop-number.indexes.states) in
    record {
      config = c.strike.ensures.config ∙ i.config;
      order = q.most;
      within = omega (arith, x.within);
      states = step-stays state_number leaves n c.loop-number.examined ws c.args.indexes.now.states c.loop-number.indexes.states c.strike.new.indexes.states i.states struck x.taken;
      nodes = step-nodes conf (stays_by state_number leaves (take c.loop-number.examined ws)) (state_survives leaves n) c.args.now c.args.indexes.now.states c.loop-number.indexes.states c.strike.new.indexes.states c.args.indexes.now.nodes c.loop-number.indexes.nodes _ i.states struck i.nodes m;
      rest = ap (waiting_of (is_beside c.args.indexes.now.config.profile c.args.what.dir c.args.what.source) n c.args.made) struck ∙ waiting-next state_number test leaves c.loop-number.cursor c.args.made n _ c.loop-number.indexes.states c.strike.ensures.rising x.first;
      looks = omega (arith, c.strike.ensures.looks, i.looks);
    }

pub returns-clause-states : goal.returns-clause-states
returns-clause-states g c =
    let i = c.loop-number.invariant in
    let ws = waiting_of (is_beside c.args.indexes.now.config.profile c.args.what.dir c.args.what.source) 0 c.args.made c.args.indexes.now.states in
    let l = all-examined c.loop-number.examined ws (waiting_of (is_beside c.args.indexes.now.config.profile c.args.what.dir c.args.what.source) c.loop-number.cursor c.args.made c.loop-number.indexes.states) i.rest (asked c.loop-number.indexes.config c.args.indexes.now.config c.args.what.dir c.args.what.source c.loop-number.cursor c.args.made c.loop-number.indexes.states c.next_beside.result i.config c.next_beside.ensures ∙ c.in_default.is) in
    i.states ∙ ap (λ zs. filter (stays_by state_number (is_flushed c.args.indexes.now.config.profile c.args.what.dir c.args.what.source c.args.what.rule) zs) c.args.indexes.now.states) (take_all c.loop-number.examined ws l)
    ∙ flushed-stays c.args.indexes.now.config.profile c.args.what.dir c.args.what.source c.args.what.rule c.args.made c.args.indexes.now.states c.requires.numbered

pub returns-clause-looks : goal.returns-clause-looks
returns-clause-looks g c =
    let i = c.loop-number.invariant in
    let ws = waiting_of (is_beside c.args.indexes.now.config.profile c.args.what.dir c.args.what.source) 0 c.args.made c.args.indexes.now.states in
    let l = all-examined c.loop-number.examined ws (waiting_of (is_beside c.args.indexes.now.config.profile c.args.what.dir c.args.what.source) c.loop-number.cursor c.args.made c.loop-number.indexes.states) i.rest (asked c.loop-number.indexes.config c.args.indexes.now.config c.args.what.dir c.args.what.source c.loop-number.cursor c.args.made c.loop-number.indexes.states c.next_beside.result i.config c.next_beside.ensures ∙ c.in_default.is) in
    omega (arith, i.looks, i.within, l, source-count c.args.indexes.now.config.profile c.args.what.dir c.args.what.source c.args.made c.args.indexes.now.states c.requires.numbered)
