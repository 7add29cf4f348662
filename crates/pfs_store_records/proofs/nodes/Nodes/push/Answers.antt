-- Answers of Nodes::push: a new node goes last and is counted (`ok`), or room is refused; all are `orderly`.
use Rattle.std.proofs.Common.{◌≡◌, ◌∙◌, ◌++◌, ◌∷◌, [], None, Some, ap, arith, refl, sym}
use Rattle.indexmap.specs.IndexMap.{get}
use Rattle.pfs_store_records.specs.RecordPlaces.{IsNoted, NodeIsAt, number_of_node, same_source, source_of_node, tally_in, values_at}
use Rattle.pfs_store_records.proofs.Ordered.{IsUpdated, below-keys, held-all, held-pushed}
use Rattle.pfs_store_records.proofs.NodeLaws.{few-noted, grown-slab, none-noted, noted-pushed, noted-reserved, numbers-nodes, orderly, updated-slab, updated-table}
use Rattle.pfs_store_records.proofs.nodes.Nodes.push.Goals as goal

pub returns-in_err-make_room-clause-orderly : goal.returns-in_err-make_room-clause-orderly
returns-in_err-make_room-clause-orderly g c =
    orderly (get same_source c.self.inside.table) (tally_in c.self.inside.slab) c.self.inside.order.entries c.self.invariant.kept

pub invariant_of-self-in_err-reserve : goal.invariant_of-self-in_err-reserve
invariant_of-self-in_err-reserve g c =
    noted-reserved c.self.inside.table c.reserve.new.self (tally_in c.self.inside.slab) (tally_in c.self.inside.slab) c.self.inside.order.entries c.self.inside.counts.rules.items c.make_room.new.self.rules.items c.self.inside.counts.global c.make_room.new.self.global
    c.reserve.ensures.entries (λ p. refl) c.make_room.ensures.counts c.self.invariant

pub returns-in_err-reserve-clause-orderly : goal.returns-in_err-reserve-clause-orderly
returns-in_err-reserve-clause-orderly g c =
    orderly (get same_source c.reserve.new.self) (tally_in c.self.inside.slab) c.self.inside.order.entries (invariant_of-self-in_err-reserve g c).kept

pub invariant_of-self-in_err-reserve-2 : goal.invariant_of-self-in_err-reserve-2
invariant_of-self-in_err-reserve-2 g c =
    noted-reserved c.self.inside.table c.reserve.new.self (tally_in c.self.inside.slab) (tally_in c.reserve-2.new.self) c.self.inside.order.entries c.self.inside.counts.rules.items c.make_room.new.self.rules.items c.self.inside.counts.global c.make_room.new.self.global
    c.reserve.ensures.entries (grown-slab c.self.inside.slab c.reserve-2.new.self _ c.reserve-2.ensures.rest_kept) c.make_room.ensures.counts c.self.invariant

pub returns-in_err-reserve-2-clause-orderly : goal.returns-in_err-reserve-2-clause-orderly
returns-in_err-reserve-2-clause-orderly g c =
    orderly (get same_source c.reserve.new.self) (tally_in c.reserve-2.new.self) c.self.inside.order.entries (invariant_of-self-in_err-reserve-2 g c).kept

pub invariant_of-self-in_err-place : goal.invariant_of-self-in_err-place
invariant_of-self-in_err-place g c =
    noted-reserved c.self.inside.table c.reserve.new.self (tally_in c.self.inside.slab) (tally_in c.reserve-2.new.self) c.self.inside.order.entries c.self.inside.counts.rules.items c.make_room.new.self.rules.items c.self.inside.counts.global c.make_room.new.self.global
    c.reserve.ensures.entries (grown-slab c.self.inside.slab c.reserve-2.new.self _ c.reserve-2.ensures.rest_kept) c.make_room.ensures.counts c.self.invariant

pub returns-in_err-place-clause-orderly : goal.returns-in_err-place-clause-orderly
returns-in_err-place-clause-orderly g c =
    orderly (get same_source c.reserve.new.self) (tally_in c.reserve-2.new.self) c.self.inside.order.entries (invariant_of-self-in_err-place g c).kept

pub invariant_of-self-in_err-push : goal.invariant_of-self-in_err-push
invariant_of-self-in_err-push g c =
    let k = noted-reserved c.self.inside.table c.reserve.new.self (tally_in c.self.inside.slab) (tally_in c.reserve-2.new.self) c.self.inside.order.entries c.self.inside.counts.rules.items c.make_room.new.self.rules.items c.self.inside.counts.global c.make_room.new.self.global
    c.reserve.ensures.entries (grown-slab c.self.inside.slab c.reserve-2.new.self _ c.reserve-2.ensures.rest_kept) c.make_room.ensures.counts c.self.invariant in
    rw c.in_err-push.ensures.err k

pub returns-in_err-push-clause-orderly : goal.returns-in_err-push-clause-orderly
returns-in_err-push-clause-orderly g c =
    orderly (get same_source c.reserve.new.self) (tally_in c.reserve-2.new.self) c.push.new.self.entries (invariant_of-self-in_err-push g c).kept

pub push-requires : goal.push-requires
push-requires g c = record {
  above = below-keys number_of_node (NodeIsAt (get same_source c.self.inside.table)) c.args.tally.node.number (tally_in c.self.inside.slab) c.self.inside.order.entries c.self.invariant.kept.placed
      (rw c.self.view_is (rw (numbers-nodes c.args.self.now) at c.requires.above));
}

pub add-requires-clause-few : goal.add-requires-clause-few
add-requires-clause-few g c =
    let f = few-noted (get same_source c.self.inside.table) (tally_in c.self.inside.slab) c.self.inside.order.entries c.self.inside.counts.rules.items c.self.inside.counts.global c.self.invariant c.args.tally.node.scope in
    let s = c.make_room.ensures.counts c.args.tally.node.scope in
    omega (arith, f, s, c.len-count.ensures.len, c.len-count.ensures.small)

-- ---- the node comes: where room was made, all is held as before, and at the place is none, and then the tally

kept : (g : _) (c : goal.After-add g)
    → IsNoted (get same_source c.reserve.new.self) (tally_in c.reserve-2.new.self) c.self.inside.order.entries c.make_room.new.self.rules.items c.make_room.new.self.global
kept g c =
    noted-reserved c.self.inside.table c.reserve.new.self (tally_in c.self.inside.slab) (tally_in c.reserve-2.new.self) c.self.inside.order.entries c.self.inside.counts.rules.items c.make_room.new.self.rules.items c.self.inside.counts.global c.make_room.new.self.global
    c.reserve.ensures.entries (grown-slab c.self.inside.slab c.reserve-2.new.self _ c.reserve-2.ensures.rest_kept) c.make_room.ensures.counts c.self.invariant

held : (g : _) (c : goal.After-add g) → values_at (tally_in c.reserve-2.new.self) c.self.inside.order.entries ≡ c.args.self.now
held g c =
    held-all number_of_node (NodeIsAt (get same_source c.reserve.new.self)) (tally_in c.self.inside.slab) (tally_in c.reserve-2.new.self) c.self.inside.order.entries
    (grown-slab c.self.inside.slab c.reserve-2.new.self _ c.reserve-2.ensures.rest_kept) ∙ c.self.view_is

place : (g : _) (c : goal.After-add g) → c.in_ok-place.place ≡ c.insert_reserved.result
place g c = c.in_ok-place.ensures ∙ c.vacant_key.ensures.value ∙ sym c.insert_reserved.ensures.key

vacant : (g : _) (c : goal.After-add g) → tally_in c.reserve-2.new.self c.in_ok-place.place ≡ None
vacant g c = ap (tally_in c.reserve-2.new.self) (place g c) ∙ c.insert_reserved.ensures.was_vacant

written : (g : _) (c : goal.After-add g) → IsUpdated (tally_in c.reserve-2.new.self) (tally_in c.insert_reserved.new.self) c.in_ok-place.place (Some c.args.tally)
written g c = updated-slab c.reserve-2.new.self c.insert_reserved.new.self c.in_ok-place.place (Some c.args.tally) (rw (sym (place g c)) at c.insert_reserved.ensures.updates)

-- the tallies after it
listed : (g : _) (c : goal.After-add g) → values_at (tally_in c.insert_reserved.new.self) c.push.new.self.entries ≡ c.args.self.now ++ c.args.tally ∷ []
listed g c =
    let t = c.args.tally in
    let es = c.self.inside.order.entries in
    held-pushed number_of_node (NodeIsAt (get same_source c.reserve.new.self)) (tally_in c.reserve-2.new.self) (tally_in c.insert_reserved.new.self) c.in_ok-place.place t es c.push.new.self.entries
    (vacant g c) (written g c) (kept g c).kept (rw (held g c) (rw (numbers-nodes c.args.self.now) at c.requires.above)) c.in_ok-push.ensures.entries
    ∙ ap (λ xs. xs ++ t ∷ []) (held g c)

pub invariant_of-self-in-Ok : goal.invariant_of-self-in-Ok
invariant_of-self-in-Ok g c =
    let t = c.args.tally in
    let es = c.self.inside.order.entries in
    let p = c.in_ok-place.place in
    let n : get same_source c.reserve.new.self (source_of_node t) ≡ None =
    none-noted (get same_source c.reserve.new.self) (tally_in c.reserve-2.new.self) es c.make_room.new.self.rules.items c.make_room.new.self.global (kept g c) t.node.scope t.node.source (rw (held g c) c.requires.absent) in
    let m = updated-table (get same_source c.reserve.new.self) (get same_source c.insert.new.self) (source_of_node t) (Some p) c.in-Ok.ensures.updates.0 in
    noted-pushed (get same_source c.reserve.new.self) (get same_source c.insert.new.self) (tally_in c.reserve-2.new.self) (tally_in c.insert_reserved.new.self) t p es c.push.new.self.entries
    c.make_room.new.self.rules.items c.add.new.self.rules.items c.make_room.new.self.global c.add.new.self.global
    n m (vacant g c) (written g c) (rw (held g c) c.requires.above) c.in_ok-push.ensures.entries c.push.ensures.ordered c.in_ok-push.ensures.updates c.add.ensures (kept g c)

pub returns-clause-ok : goal.returns-clause-ok
returns-clause-ok g c = listed g c

pub returns-clause-orderly : goal.returns-clause-orderly
returns-clause-orderly g c = orderly (get same_source c.insert.new.self) (tally_in c.insert_reserved.new.self) c.push.new.self.entries (invariant_of-self-in-Ok g c).kept
