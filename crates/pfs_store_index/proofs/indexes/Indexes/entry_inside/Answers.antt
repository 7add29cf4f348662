-- Answers of Indexes::entry_inside: where the second index has the key, its state is the one; else the first has it, if its keys are not apart.
use Rattle.std.proofs.Common.{◌≡◌, ◌∙◌, ◌==◌, None, Some, ap, option_map, sym}
use Rattle.std.specs.List.{find}
use Rattle.std.specs.Map.{lookup}
use Rattle.std.specs.Option.{option_and_then}
use Rattle.pfs_addr_values.specs.Sameness.{same_key}
use Rattle.pfs_addr_values.specs.declared.packets.Dir.TheVariants.{In}
use Rattle.pfs_store_contract.specs.Calls.{onward_key}
use Rattle.pfs_store_contract.specs.declared.records.State.{State}
use Rattle.pfs_store_records.specs.Records.{states_of}
use Rattle.pfs_store_index.specs.Holdings.{Holding}
use Rattle.pfs_store_index.specs.IndexInvariants.{entry_of, has_apart, has_inside, has_key}
use Rattle.pfs_store_index.proofs.InsideLaws.{IsEntryOf, apart-entry, entry-is, inside-alike, inside-none, inside-other, inside-same, no-entry, none-held}
use Rattle.pfs_store_index.proofs.indexes.Indexes.entry_inside.Goals as goal

pub returns-then-is_empty : goal.returns-then-is_empty
returns-then-is_empty g c =
    let k = c.args.key.now in
    let rs = c.self.inside.records in
    let e = none-held c.self.inside.insides.entries (c.is_empty.ensures.0 c.if-is_empty.true) in
    c.entry_at.ensures ∙ c.self.invariant.by_key k
    ∙ ap (option_map entry_of) (sym (inside-same k rs (λ j. no-entry (find (has_apart j) rs) (sym (ap (lookup (same_key j)) e) ∙ c.self.invariant.by_inner j))))
    ∙ ap (λ (h : Holding). option_map entry_of (find (has_inside c.args.key.now) h.records)) c.self.view_is

pub returns-in-Some : goal.returns-in-Some
returns-in-Some g c =
    apart-entry c.args.key.now c.in-Some.entry c.self.inside.records c.self.invariant.distinct_inside (c.in-Some.ensures ∙ c.self.invariant.by_inner c.args.key.now)
    ∙ ap (λ (h : Holding). option_map entry_of (find (has_inside c.args.key.now) h.records)) c.self.view_is

pub returns-in-Some-onward_key : goal.returns-in-Some-onward_key
returns-in-Some-onward_key g c =
    let k = c.args.key.now in
    let rs = c.self.inside.records in
    let none : find (has_apart c.args.key.now) c.self.inside.records ≡ None = no-entry (find (has_apart k) rs) (sym c.in_default.is ∙ c.entry_at-2.ensures ∙ c.self.invariant.by_inner k) in
    let i : IsEntryOf c.args.key.now c.in-Some-entry_at.entry c.self.inside.records = entry-is k c.in-Some-entry_at.entry rs c.numbers_rise.ensures (c.in-Some-entry_at.ensures ∙ c.self.invariant.by_key k) in
    let own : i.whole.state.inner ≡ Some c.in-Some-onward_key.field-0 =
    sym i.inner ∙ ap (λ m. option_and_then (onward_key In) (find (λ (s : State). s.number == m) (states_of rs))) (sym c.from.ensures) ∙ sym c.onward_key.ensures ∙ c.in-Some-onward_key.is in
    ap (option_map entry_of) (sym (inside-other k c.in-Some-onward_key.field-0 i.whole rs c.self.invariant.distinct none i.found own))
    ∙ ap (λ (h : Holding). option_map entry_of (find (has_inside c.args.key.now) h.records)) c.self.view_is

pub returns-in-None-onward_key : goal.returns-in-None-onward_key
returns-in-None-onward_key g c =
    let k = c.args.key.now in
    let rs = c.self.inside.records in
    let i : IsEntryOf c.args.key.now c.in-Some-entry_at.entry c.self.inside.records = entry-is k c.in-Some-entry_at.entry rs c.numbers_rise.ensures (c.in-Some-entry_at.ensures ∙ c.self.invariant.by_key k) in
    let own : i.whole.state.inner ≡ None =
    sym i.inner ∙ ap (λ m. option_and_then (onward_key In) (find (λ (s : State). s.number == m) (states_of rs))) (sym c.from.ensures) ∙ sym c.onward_key.ensures ∙ c.in-None-onward_key.is in
    ap Some i.same ∙ ap (option_map entry_of) (sym (inside-alike k i.whole rs c.self.invariant.distinct_inside i.found own))
    ∙ ap (λ (h : Holding). option_map entry_of (find (has_inside c.args.key.now) h.records)) c.self.view_is

pub returns-in-None : goal.returns-in-None
returns-in-None g c =
    let k = c.args.key.now in
    let rs = c.self.inside.records in
    let none : find (has_apart c.args.key.now) c.self.inside.records ≡ None = no-entry (find (has_apart k) rs) (sym c.in_default.is ∙ c.entry_at-2.ensures ∙ c.self.invariant.by_inner k) in
    let key : find (has_key c.args.key.now) c.self.inside.records ≡ None = no-entry (find (has_key k) rs) (c.in-None.ensures ∙ c.self.invariant.by_key k) in
    ap (option_map entry_of) (sym (inside-none k rs none key))
    ∙ ap (λ (h : Holding). option_map entry_of (find (has_inside c.args.key.now) h.records)) c.self.view_is
