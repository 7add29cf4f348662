-- Answers of StateRecords::renew_at: the state of the record at a place is renewed (`records`) and counted anew.
use Rattle.std.proofs.Common.{◌∙◌, ◌+◌, ap, arith, map, sym}
use Rattle.pfs_track.specs.StatePhases.{is_half_open}
use Rattle.pfs_track.specs.declared.state_phases.StatePhase.{StatePhase}
use Rattle.pfs_store_records.specs.RecordPlaces.{one_if, record_in}
use Rattle.pfs_store_records.specs.Records.{renewed, renewed_at}
use Rattle.pfs_store_records.proofs.HalfOpens.{few-half}
use Rattle.pfs_store_records.proofs.RecordLaws.{Stands, counted-put, counted-there, stands, stands-placed, view-renewed}
use Rattle.pfs_store_records.proofs.state_records.StateRecords.renew_at.Goals as goal

pub index_mut-kept-requires : goal.index_mut-kept-requires
index_mut-kept-requires c =
    stands c.args.place c.self.inside.slab c.self.inside.places.entries c.self.invariant.kept.placed (rw c.self.view_is c.requires.held)

pub without-requires : goal.without-requires
without-requires c =
    let k : Stands c.self.inside.slab c.self.inside.places.entries c.args.place c.index_mut-kept.result.now =
    stands-placed c.self.inside.slab c.self.inside.places.entries c.args.place c.index_mut-kept.result.now c.self.invariant.kept.placed c.index_mut-kept.ensures.value (rw c.self.view_is c.requires.held) in
    let there = counted-there c.self.inside.slab c.self.inside.places.entries c.args.place c.index_mut-kept.result.now c.index_mut-kept.result.now c.self.inside.half_open c.self.invariant k c.index_mut-kept.ensures.value in
    omega (arith, there, ap (λ (p : StatePhase). one_if (is_half_open p)) c.phase-before.ensures)

pub with-self-inside-requires : goal.with-self-inside-requires
with-self-inside-requires c =
    let few = few-half (record_in c.self.inside.slab) c.self.inside.places.entries c.self.inside.half_open c.self.invariant.kept.placed c.self.invariant.counted in
    omega (arith, few, c.without.ensures, c.len-count.ensures.len, c.len-count.ensures.small)

pub invariant_of-self : goal.invariant_of-self
invariant_of-self c =
    let before = c.index_mut-kept.result.now in
    let k : Stands c.self.inside.slab c.self.inside.places.entries c.args.place before =
    stands-placed c.self.inside.slab c.self.inside.places.entries c.args.place before c.self.invariant.kept.placed c.index_mut-kept.ensures.value (rw c.self.view_is c.requires.held) in
    let rest = ap (λ (p : StatePhase). c.without.result + one_if (is_half_open p)) (sym c.phase-before.ensures) ∙ c.without.ensures in
    rw c.renew.ensures (counted-put c.self.inside.slab c.self.inside.places.entries c.args.place (renewed c.args.phase c.args.last before) before c.self.inside.half_open c.without.result c.with-self-inside.result c.self.invariant k c.index_mut-kept.ensures.value rest c.with-self-inside.ensures)

pub returns : goal.returns
returns c = record {
  records = rw c.renew.ensures (view-renewed c.self.inside.slab c.self.inside.places.entries c.args.place c.args.phase c.args.last c.index_mut-kept.result.now c.self.invariant.kept.placed c.index_mut-kept.ensures.value)
      ∙ ap (map (renewed_at c.args.place c.args.phase c.args.last)) c.self.view_is;
}
