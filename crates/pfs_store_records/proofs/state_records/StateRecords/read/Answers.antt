-- Answers of StateRecords::read: the number has a place, and the record there is the one that is returned (`value`).
use Rattle.std.proofs.Common.{◌≡◌, ◌∙◌, ◌==◌, Some, ap, sym, true}
use Rattle.std.specs.List.{list_any}
use Rattle.pfs_store_records.specs.RecordPlaces.{number_in, RecordIsAt, record_in}
use Rattle.pfs_store_records.specs.Records.{Placed}
use Rattle.pfs_store_records.proofs.Ordered.{found, in_none}
use Rattle.pfs_store_records.proofs.RecordLaws.{any-states, has_place, read-value}
use Rattle.pfs_store_records.proofs.state_records.StateRecords.read.Goals as goal

pub look-requires-clause-held : goal.look-requires-clause-held
look-requires-clause-held c =
    let f = found number_in RecordIsAt (record_in c.self.inside.slab) c.args.number c.in-Some.place c.self.inside.places.entries c.self.invariant.kept.placed (sym c.in-Some.ensures.value) in
    has_place c.self.inside.slab c.in-Some.place f.0 f.1

pub unreachable-requires : goal.unreachable-requires
unreachable-requires c =
    let a : list_any (λ (p : Placed). number_in p == c.args.number) c.args.self.now ≡ true = sym (any-states c.args.number c.args.self.now) ∙ c.requires.held in
    in_none number_in RecordIsAt (record_in c.self.inside.slab) c.args.number c.self.inside.places.entries c.self.invariant.kept.placed (sym c.in-None.ensures.value) (rw c.self.view_is a)

pub returns-clause-value : goal.returns-clause-value
returns-clause-value c =
    ap Some c.state.ensures.value ∙ rw (sym c.self.view_is) (read-value c.args.number c.self.inside.slab c.self.inside.places.entries c.in-Some.place c.look.result.now c.self.invariant.kept.placed (sym c.in-Some.ensures.value) c.look.ensures.value)
