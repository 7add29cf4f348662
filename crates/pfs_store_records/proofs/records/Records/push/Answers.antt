-- Answers of Records::push: the keys of a state lie aside before its record is there, and where it is refused no more.
use Rattle.std.proofs.Common.{◌∙◌, ◌++◌, ◌∷◌, [], List, ap, map, subst, sym}
use Rattle.pfs_store_contract.specs.Purging.{state_numbers}
use Rattle.pfs_store_records.specs.ApartKeys.{whole_record, keys_apart}
use Rattle.pfs_store_records.specs.Records.{IsAbove, IsRising, Placed, placed_at, states_of}
use Rattle.pfs_store_records.proofs.Joining.{none-aside, numbers-joined, push-joined, same-joined, undone}
use Rattle.pfs_store_records.proofs.RecordLaws.{states-push}
use Rattle.pfs_store_records.proofs.records.Records.push.Goals as goal

pub insert-requires : goal.insert-requires
insert-requires c =
    let above : IsAbove c.args.state.now.number (state_numbers (states_of c.self.inside.packed)) =
    subst (IsAbove c.args.state.now.number) (ap (λ (ps : List Placed). state_numbers (states_of ps)) (sym c.self.view_is) ∙ numbers-joined c.self.inside.aside c.self.inside.packed) c.requires.above in
    record { absent = none-aside c.args.state.now.number c.self.inside.aside (states_of c.self.inside.packed) c.self.invariant above }

pub returns-in_err-insert-clause-rising : goal.returns-in_err-insert-clause-rising
returns-in_err-insert-clause-rising c = subst IsRising (sym (numbers-joined c.insert.new.self c.self.inside.packed)) c.numbers_rise.ensures

pub push-requires-clause-above : goal.push-requires-clause-above
push-requires-clause-above c =
    subst (IsAbove c.args.state.now.number) (ap (λ (ps : List Placed). state_numbers (states_of ps)) (sym c.self.view_is) ∙ numbers-joined c.self.inside.aside c.self.inside.packed) c.requires.above

pub returns-in-Ok-clause-records : goal.returns-in-Ok-clause-records
returns-in-Ok-clause-records c =
    let above : IsAbove c.args.state.now.number (state_numbers (states_of c.self.inside.packed)) =
    subst (IsAbove c.args.state.now.number) (ap (λ (ps : List Placed). state_numbers (states_of ps)) (sym c.self.view_is) ∙ numbers-joined c.self.inside.aside c.self.inside.packed) c.requires.above in
    ap (map (whole_record c.insert.new.self)) c.in-Ok.ensures.records
    ∙ push-joined c.in-Ok.place c.args.state.now c.self.inside.aside c.insert.new.self c.self.inside.packed c.in_ok-insert.ensures.ok above
    ∙ ap (λ ps. ps ++ placed_at c.in-Ok.place c.args.state.now ∷ []) c.self.view_is

pub returns-in-Ok-clause-states : goal.returns-in-Ok-clause-states
returns-in-Ok-clause-states c = ap states_of (returns-in-Ok-clause-records c) ∙ states-push c.in-Ok.place c.args.state.now c.args.self.now

pub returns-in-Ok-clause-rising : goal.returns-in-Ok-clause-rising
returns-in-Ok-clause-rising c = subst IsRising (sym (numbers-joined c.insert.new.self c.push.new.self)) c.push.ensures.rising

pub returns-in-Err-clause-err : goal.returns-in-Err-clause-err
returns-in-Err-clause-err c =
    let above : IsAbove c.args.state.now.number (state_numbers (states_of c.self.inside.packed)) =
    subst (IsAbove c.args.state.now.number) (ap (λ (ps : List Placed). state_numbers (states_of ps)) (sym c.self.view_is) ∙ numbers-joined c.self.inside.aside c.self.inside.packed) c.requires.above in
    let absent = none-aside c.args.state.now.number c.self.inside.aside (states_of c.self.inside.packed) c.self.invariant above in
    ap (map (whole_record c.remove.new.self)) c.in-Err.ensures.err
    ∙ same-joined c.self.inside.aside c.remove.new.self c.self.inside.packed
    (undone c.args.state.now.number (keys_apart c.args.state.now) c.self.inside.aside c.insert.new.self c.remove.new.self absent c.in_ok-insert.ensures.ok c.remove.ensures)
    ∙ c.self.view_is

pub returns-in-Err-clause-rising : goal.returns-in-Err-clause-rising
returns-in-Err-clause-rising c = subst IsRising (sym (numbers-joined c.remove.new.self c.push.new.self)) c.push.ensures.rising
