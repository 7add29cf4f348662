-- Answers of StateRecords::remove: the record is there, leaves (`records`, `states`), and is counted no more; numbers rise.
use Rattle.std.proofs.Common.{◌≡◌, ◌∙◌, ◌==◌, List, Some, ap, arith, filter, sym, true}
use Rattle.std.specs.List.{find, list_any}
use Rattle.pfs_track.specs.StatePhases.{is_half_open}
use Rattle.pfs_track.specs.declared.state_phases.StatePhase.{StatePhase}
use Rattle.pfs_store_contract.specs.Counts.{half_open}
use Rattle.pfs_store_contract.specs.Purging.{state_numbers}
use Rattle.pfs_store_contract.specs.declared.records.State.{State}
use Rattle.pfs_store_records.specs.RecordPlaces.{number_in, one_if, RecordIsAt, record_in}
use Rattle.pfs_store_records.specs.Records.{IsRising, Placed, leaves_number, states_of}
use Rattle.pfs_store_records.proofs.HalfOpens.{half-found, half-removed}
use Rattle.pfs_store_records.proofs.Ordered.{found, held-removed, in_none, kept-removed}
use Rattle.pfs_store_records.proofs.RecordLaws.{any-states, has_place, read-value, rising-states, states-filter, updated}
use Rattle.pfs_store_records.proofs.state_records.StateRecords.remove.Goals as goal

pub remove-kept-requires : goal.remove-kept-requires
remove-kept-requires c =
    let f = found number_in RecordIsAt (record_in c.self.inside.slab) c.args.number c.in-Some.place c.self.inside.places.entries c.self.invariant.kept.placed (sym c.in-Some.ensures.value) in
    has_place c.self.inside.slab c.in-Some.place f.0 f.1

-- the state that leaves
leaver : (c : goal.After-phase) → find (λ (s : State). s.number == c.args.number) (states_of c.args.self.now) ≡ Some c.remove-kept.result
leaver c =
    sym (rw (sym c.self.view_is) (read-value c.args.number c.self.inside.slab c.self.inside.places.entries c.in-Some.place c.remove-kept.result c.self.invariant.kept.placed (sym c.in-Some.ensures.value) c.remove-kept.ensures.value))

pub without-self-inside-requires : goal.without-self-inside-requires
without-self-inside-requires c =
    let there = half-found c.args.number c.remove-kept.result (states_of c.args.self.now) (leaver c) in
    let before = ap (λ (ps : List Placed). half_open (states_of ps)) c.self.view_is in
    omega (arith, there, before, c.self.invariant.counted, ap (λ (p : StatePhase). one_if (is_half_open p)) c.phase.ensures)

pub unreachable-requires : goal.unreachable-requires
unreachable-requires c =
    let a : list_any (λ (p : Placed). number_in p == c.args.number) c.args.self.now ≡ true = sym (any-states c.args.number c.args.self.now) ∙ c.requires in
    in_none number_in RecordIsAt (record_in c.self.inside.slab) c.args.number c.self.inside.places.entries c.self.invariant.kept.placed (sym c.in-None.ensures.value) (rw c.self.view_is a)

pub returns-clause-records : goal.returns-clause-records
returns-clause-records c =
    held-removed number_in RecordIsAt (record_in c.self.inside.slab) (record_in c.remove-kept.new.self) c.in-Some.place c.args.number c.self.inside.places.entries _
    (sym c.in-Some.ensures.value) (updated c.self.inside.slab _ c.in-Some.place _ c.remove-kept.ensures.updates) c.self.invariant.kept c.remove.ensures.entries
    ∙ ap (filter (leaves_number c.args.number)) c.self.view_is

pub returns-clause-states : goal.returns-clause-states
returns-clause-states c = ap states_of (returns-clause-records c) ∙ states-filter c.args.number c.args.self.now

pub invariant_of-self : goal.invariant_of-self
invariant_of-self c =
    let rising : IsRising (state_numbers (states_of c.args.self.now)) = rw (sym c.self.view_is) (rising-states c.self.inside.slab c.self.inside.places.entries c.self.invariant.kept) in
    let left = half-removed c.args.number c.remove-kept.result (states_of c.args.self.now) rising (leaver c.before.before) in
    let before = ap (λ (ps : List Placed). half_open (states_of ps)) c.self.view_is in
    record {
      kept = kept-removed number_in RecordIsAt (record_in c.self.inside.slab) (record_in c.remove-kept.new.self) c.in-Some.place c.args.number c.self.inside.places.entries _
          (sym c.in-Some.ensures.value) (updated c.self.inside.slab _ c.in-Some.place _ c.remove-kept.ensures.updates) c.self.invariant.kept c.remove.ensures.entries c.remove.ensures.ordered;
      counted = omega (arith, left, before, c.self.invariant.counted, c.without-self-inside.ensures, ap (λ (p : StatePhase). one_if (is_half_open p)) c.phase.ensures, ap half_open (returns-clause-states c));
    }

pub returns-clause-rising : goal.returns-clause-rising
returns-clause-rising c = rising-states c.remove-kept.new.self _ (invariant_of-self c).kept
