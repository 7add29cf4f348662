-- Answers of StateRecords::push: a new record goes last (`records`, `states`), or room is refused; numbers rise.
use Rattle.std.proofs.Common.{◌≡◌, ◌∙◌, ◌++◌, ◌∷◌, [], List, Some, ap, arith, refl, sym}
use Rattle.pfs_store_contract.specs.Counts.{half_open}
use Rattle.pfs_store_records.specs.RecordPlaces.{values_at, number_in, RecordIsAt, record_in}
use Rattle.pfs_store_records.specs.Records.{Placed, placed_at, states_of}
use Rattle.pfs_store_records.specs.Sourced.{bare}
use Rattle.pfs_store_records.proofs.HalfOpens.{few-half, half-pushed}
use Rattle.pfs_store_records.proofs.Ordered.{below-keys, held-all, held-pushed, kept-all, kept-pushed}
use Rattle.pfs_store_records.proofs.RecordLaws.{counted-grown, grown, numbers-states, rising-states, states-push, updated, vacant}
use Rattle.pfs_store_records.proofs.state_records.StateRecords.push.Goals as goal

pub invariant_of-self : goal.invariant_of-self
invariant_of-self c =
    counted-grown c.self.inside.slab c.reserve.new.self c.self.inside.places.entries c.self.inside.half_open (grown c.self.inside.slab c.reserve.new.self _ c.reserve.ensures.rest_kept) c.self.invariant

pub push-requires : goal.push-requires
push-requires c = record {
  above = below-keys number_in RecordIsAt c.args.state.now.number (record_in c.self.inside.slab) c.self.inside.places.entries c.self.invariant.kept.placed
      (rw c.self.view_is (rw (numbers-states c.args.self.now) at c.requires.above));
}

pub returns-in_err-reserve-clause-rising : goal.returns-in_err-reserve-clause-rising
returns-in_err-reserve-clause-rising c = rising-states c.reserve.new.self _ (invariant_of-self c).kept

pub invariant_of-self-in_err-push : goal.invariant_of-self-in_err-push
invariant_of-self-in_err-push c =
    let k = counted-grown c.self.inside.slab c.reserve.new.self c.self.inside.places.entries c.self.inside.half_open (grown c.self.inside.slab c.reserve.new.self _ c.reserve.ensures.rest_kept) c.self.invariant in
    rw c.in_err-push.ensures.err k

pub returns-in_err-push-clause-rising : goal.returns-in_err-push-clause-rising
returns-in_err-push-clause-rising c = rising-states c.reserve.new.self _ (invariant_of-self-in_err-push c).kept

pub invariant_of-self-in_err-place : goal.invariant_of-self-in_err-place
invariant_of-self-in_err-place c =
    counted-grown c.self.inside.slab c.reserve.new.self c.self.inside.places.entries c.self.inside.half_open (grown c.self.inside.slab c.reserve.new.self _ c.reserve.ensures.rest_kept) c.self.invariant

pub returns-in_err-place-clause-rising : goal.returns-in_err-place-clause-rising
returns-in_err-place-clause-rising c = rising-states c.reserve.new.self _ (invariant_of-self-in_err-place c).kept

pub with-self-inside-requires : goal.with-self-inside-requires
with-self-inside-requires c =
    let few = few-half (record_in c.self.inside.slab) c.self.inside.places.entries c.self.inside.half_open c.self.invariant.kept.placed c.self.invariant.counted in
    omega (arith, few, c.len-count.ensures.len, c.len-count.ensures.small)

pub returns-clause-records : goal.returns-clause-records
returns-clause-records c =
    let g = grown c.self.inside.slab c.reserve.new.self _ c.reserve.ensures.rest_kept in
    let k = kept-all number_in RecordIsAt (record_in c.self.inside.slab) (record_in c.reserve.new.self) c.self.inside.places.entries g c.self.invariant.kept in
    let w : values_at (record_in c.reserve.new.self) c.self.inside.places.entries ≡ c.args.self.now = held-all number_in RecordIsAt (record_in c.self.inside.slab) (record_in c.reserve.new.self) c.self.inside.places.entries g ∙ c.self.view_is in
    let q = c.in_ok-place.ensures ∙ c.vacant_key.ensures.value ∙ sym c.insert_reserved.ensures.key in
    held-pushed number_in RecordIsAt (record_in c.reserve.new.self) (record_in c.insert_reserved.new.self) c.insert_reserved.result (placed_at c.insert_reserved.result (bare c.args.state.now)) c.self.inside.places.entries _
    (vacant c.reserve.new.self c.insert_reserved.result c.insert_reserved.ensures.was_vacant)
    (updated c.reserve.new.self c.insert_reserved.new.self c.insert_reserved.result (Some (bare c.args.state.now)) (rw c.of.ensures at c.insert_reserved.ensures.updates))
    k (rw w (rw (numbers-states c.args.self.now) at c.requires.above)) (rw q at c.in_ok-push.ensures.entries)
    ∙ ap (λ xs. xs ++ placed_at c.insert_reserved.result (bare c.args.state.now) ∷ []) w
    ∙ ap (λ place. c.args.self.now ++ placed_at place (bare c.args.state.now) ∷ []) (sym q)

pub invariant_of-self-2 : goal.invariant_of-self-2
invariant_of-self-2 c =
    let g = grown c.self.inside.slab c.reserve.new.self _ c.reserve.ensures.rest_kept in
    let k = kept-all number_in RecordIsAt (record_in c.self.inside.slab) (record_in c.reserve.new.self) c.self.inside.places.entries g c.self.invariant.kept in
    let w : values_at (record_in c.reserve.new.self) c.self.inside.places.entries ≡ c.args.self.now = held-all number_in RecordIsAt (record_in c.self.inside.slab) (record_in c.reserve.new.self) c.self.inside.places.entries g ∙ c.self.view_is in
    let q = c.in_ok-place.ensures ∙ c.vacant_key.ensures.value ∙ sym c.insert_reserved.ensures.key in
    let before = ap (λ (ps : List Placed). half_open (states_of ps)) c.self.view_is in
    let after = ap (λ (ps : List Placed). half_open (states_of ps)) (returns-clause-records c) ∙ ap half_open (states-push c.in_ok-place.place (bare c.args.state.now) c.args.self.now) ∙ half-pushed (bare c.args.state.now) (states_of c.args.self.now) in
    record {
      kept = kept-pushed number_in RecordIsAt (record_in c.reserve.new.self) (record_in c.insert_reserved.new.self) c.insert_reserved.result (placed_at c.insert_reserved.result (bare c.args.state.now)) c.self.inside.places.entries _
          (vacant c.reserve.new.self c.insert_reserved.result c.insert_reserved.ensures.was_vacant)
          (updated c.reserve.new.self c.insert_reserved.new.self c.insert_reserved.result (Some (bare c.args.state.now)) (rw c.of.ensures at c.insert_reserved.ensures.updates))
          k (rw w (rw (numbers-states c.args.self.now) at c.requires.above)) refl (rw q at c.in_ok-push.ensures.entries) c.push.ensures.ordered;
      counted = omega (arith, c.with-self-inside.ensures, c.self.invariant.counted, before, after);
    }

pub returns-clause-rising : goal.returns-clause-rising
returns-clause-rising c = rising-states c.insert_reserved.new.self _ (invariant_of-self-2 c).kept
