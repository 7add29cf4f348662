-- Answers of Records::onward_key: what lies aside are the keys of the state.
use Rattle.std.proofs.Common.{◌≡◌, ◌∙◌, ◌==◌, List, None, Some, ap, map, refl, sym}
use Rattle.std.specs.List.{find}
use Rattle.std.specs.Option.{option_and_then}
use Rattle.pfs_store_contract.specs.Calls.{onward_key}
use Rattle.pfs_store_contract.specs.declared.records.State.{State}
use Rattle.pfs_store_records.specs.ApartKeys.{whole_record, lying}
use Rattle.pfs_store_records.specs.Records.{Placed, states_of}
use Rattle.pfs_store_records.proofs.Joining.{onward-none, onward-some}
use Rattle.pfs_store_records.proofs.records.Records.onward_key.Goals as goal

pub returns-in-None-default : goal.returns-in-None-default
returns-in-None-default c =
    let e : lying c.self.inside.aside c.args.number ≡ None = sym c.get.ensures ∙ c.in-None-default.is-0 in
    sym (onward-none c.args.number c.args.dir c.self.inside.aside c.self.inside.packed e)
    ∙ ap (λ (ps : List Placed). option_and_then (onward_key c.args.dir) (find (λ (x : State). x.number == c.args.number) (states_of ps))) c.self.view_is

pub returns-in-Some-In : goal.returns-in-Some-In
returns-in-Some-In c =
    let e : lying c.self.inside.aside c.args.number ≡ Some c.in-Some-In.keys = sym c.get.ensures ∙ c.in-Some-In.is-0 in
    let f = onward-some c.args.number c.in-Some-In.keys c.self.inside.aside c.self.inside.packed c.self.invariant e in
    let goes : Some c.in-Some-In.keys.inner ≡ option_and_then (onward_key c.args.dir) (find (λ (x : State). x.number == c.args.number) (states_of (map (whole_record c.self.inside.aside) c.self.inside.packed))) =
    rw (c.in-Some-In.is-1, f.1) refl in
    goes ∙ ap (λ (ps : List Placed). option_and_then (onward_key c.args.dir) (find (λ (x : State). x.number == c.args.number) (states_of ps))) c.self.view_is

pub returns-in-Some-Out : goal.returns-in-Some-Out
returns-in-Some-Out c =
    let e : lying c.self.inside.aside c.args.number ≡ Some c.in-Some-Out.keys = sym c.get.ensures ∙ c.in-Some-Out.is-0 in
    let f = onward-some c.args.number c.in-Some-Out.keys c.self.inside.aside c.self.inside.packed c.self.invariant e in
    let goes : Some c.in-Some-Out.keys.wire ≡ option_and_then (onward_key c.args.dir) (find (λ (x : State). x.number == c.args.number) (states_of (map (whole_record c.self.inside.aside) c.self.inside.packed))) =
    rw (c.in-Some-Out.is-1, f.1) refl in
    goes ∙ ap (λ (ps : List Placed). option_and_then (onward_key c.args.dir) (find (λ (x : State). x.number == c.args.number) (states_of ps))) c.self.view_is
