-- Answers of walk_range: one more that stays, and each end: a leaver, the range's end, the share's (`passing`, `until`, `leaver`).
use Rattle.std.proofs.Common.{◌≡◌, ◌∙◌, Some, false, arith, sym}
use Rattle.pfs_store_records.specs.RecordPlaces.{Anywhere, number_of_node, tally_in, values_at}
use Rattle.pfs_store_records.specs.Retaining.{IsKeptUntil, is_past}
use Rattle.pfs_store_records.specs.declared.nodes.NodeTally.{NodeTally}
use Rattle.pfs_store_records.proofs.Passing.{OfValue, each-value, each-value-more, is-passing, kept-less, next-node-there, one-value, stops-next, stops-none, stops-used}
use Rattle.pfs_store_records.proofs.Walking.{each-empty, walking-init, walking-step}
use Rattle.pfs_store_records.proofs.nodes.walk_range.Goals as goal

pub loop-stayed-init : goal.loop-stayed-init
loop-stayed-init c = record {
  walking = walking-init (OfValue (λ (t : NodeTally). is_past c.args.now t ≡ false) (tally_in c.args.slab.now)) c.args.order.now.entries c.between-rest.result c.args.round.cursor c.args.round.mark c.requires.range c.between-rest.ensures.between;
  until = each-empty (OfValue (IsKeptUntil _) (tally_in c.args.slab.now)) c.args.round.cursor c.args.order.now.entries;
  share = omega arith;
  looks = omega arith;
}

pub look-tally-requires-clause-held : goal.look-tally-requires-clause-held
look-tally-requires-clause-held c =
    next-node-there Anywhere c.args.slab.now c.args.order.now.entries _ c.loop-stayed.last c.args.round.mark c.in-Some.number c.in-Some.place c.requires.kept
    (sym c.in-Some.ensures.steps ∙ c.loop-stayed.invariant.walking.rest)

pub loop-stayed-preserved : goal.loop-stayed-preserved
loop-stayed-preserved c =
    let w = (rw c.in-Some.ensures.steps at c.loop-stayed.invariant.walking) in
    let v : tally_in c.args.slab.now c.in-Some.place ≡ Some c.look-tally.result.now = c.look-tally.ensures.value in
    let stays : is_past c.args.now c.look-tally.result.now ≡ false = sym c.if-is_over.ensures in
    let kept : IsKeptUntil c.min-until.result c.look-tally.result.now =
    kept-less c.kept_until.result c.min-until.result c.look-tally.result.now (omega (arith, c.min-until.ensures)) c.kept_until.ensures in
    record {
      walking = walking-step (OfValue (λ (t : NodeTally). is_past c.args.now t ≡ false) (tally_in c.args.slab.now)) c.args.order.now.entries c.next.new.self c.args.round.cursor c.loop-stayed.last c.args.round.mark c.loop-stayed.stayed c.in-Some.number c.in-Some.place
          c.requires.kept.ordered w
          (one-value (λ (t : NodeTally). is_past c.args.now t ≡ false) (tally_in c.args.slab.now) (c.in-Some.number, c.in-Some.place) c.look-tally.result.now v stays);
      until = each-value-more (IsKeptUntil c.loop-stayed.until) (IsKeptUntil c.min-until.result)
          (λ t h. kept-less c.loop-stayed.until c.min-until.result t (omega (arith, c.min-until.ensures)) h)
          (tally_in c.args.slab.now) c.args.round.cursor c.loop-stayed.last c.args.round.mark c.in-Some.number c.in-Some.place c.look-tally.result.now c.next.new.self c.args.order.now.entries
          c.requires.kept.ordered w.rest v kept c.loop-stayed.invariant.until;
      share = omega arith;
      looks = omega arith;
    }

pub returns-then-stayed-share-clause-passing : goal.returns-then-stayed-share-clause-passing
returns-then-stayed-share-clause-passing c =
    is-passing number_of_node Anywhere (is_past c.args.now) (tally_in c.args.slab.now) c.args.order.now.entries c.loop-stayed.rest c.args.round.cursor c.loop-stayed.last c.args.round.mark c.args.share c.loop-stayed.stayed
    c.requires.kept c.loop-stayed.invariant.walking c.loop-stayed.invariant.share

pub returns-then-stayed-share-clause-until : goal.returns-then-stayed-share-clause-until
returns-then-stayed-share-clause-until c =
    each-value number_of_node Anywhere (IsKeptUntil c.loop-stayed.until) (tally_in c.args.slab.now) c.args.round.cursor c.loop-stayed.last c.args.order.now.entries c.requires.kept.placed c.loop-stayed.invariant.until

pub returns-in_default-clause-passing : goal.returns-in_default-clause-passing
returns-in_default-clause-passing c =
    is-passing number_of_node Anywhere (is_past c.args.now) (tally_in c.args.slab.now) c.args.order.now.entries c.loop-stayed.rest c.args.round.cursor c.loop-stayed.last c.args.round.mark c.args.share c.loop-stayed.stayed
    c.requires.kept c.loop-stayed.invariant.walking c.loop-stayed.invariant.share

pub returns-in_default-clause-until : goal.returns-in_default-clause-until
returns-in_default-clause-until c =
    each-value number_of_node Anywhere (IsKeptUntil c.loop-stayed.until) (tally_in c.args.slab.now) c.args.round.cursor c.loop-stayed.last c.args.order.now.entries c.requires.kept.placed c.loop-stayed.invariant.until

pub returns-then-is_over-clause-passing : goal.returns-then-is_over-clause-passing
returns-then-is_over-clause-passing c =
    is-passing number_of_node Anywhere (is_past c.args.now) (tally_in c.args.slab.now) c.args.order.now.entries c.loop-stayed.rest c.args.round.cursor c.loop-stayed.last c.args.round.mark c.args.share c.loop-stayed.stayed
    c.requires.kept c.loop-stayed.invariant.walking c.loop-stayed.invariant.share

pub returns-then-is_over-clause-until : goal.returns-then-is_over-clause-until
returns-then-is_over-clause-until c =
    each-value number_of_node Anywhere (IsKeptUntil c.loop-stayed.until) (tally_in c.args.slab.now) c.args.round.cursor c.loop-stayed.last c.args.order.now.entries c.requires.kept.placed c.loop-stayed.invariant.until

pub returns-then-stayed-share-clause-leaver : goal.returns-then-stayed-share-clause-leaver
returns-then-stayed-share-clause-leaver c =
    stops-used (is_past c.args.now) (values_at (tally_in c.args.slab.now) c.args.order.now.entries) c.loop-stayed.last c.args.round.mark c.loop-stayed.stayed c.args.share (omega (arith, c.if-stayed-share.true))

pub returns-in_default-clause-leaver : goal.returns-in_default-clause-leaver
returns-in_default-clause-leaver c =
    stops-none Anywhere (is_past c.args.now) c.args.slab.now c.args.order.now.entries c.loop-stayed.last c.args.round.mark c.loop-stayed.stayed c.args.share c.requires.kept
    (sym c.in_default.ensures.steps.0 ∙ c.loop-stayed.invariant.walking.rest)

pub returns-then-is_over-clause-leaver : goal.returns-then-is_over-clause-leaver
returns-then-is_over-clause-leaver c =
    stops-next Anywhere (is_past c.args.now) c.args.slab.now c.args.order.now.entries _ c.loop-stayed.last c.args.round.mark c.loop-stayed.stayed c.args.share c.in-Some.number c.in-Some.place c.look-tally.result.now
    c.requires.kept (sym c.in-Some.ensures.steps ∙ c.loop-stayed.invariant.walking.rest) c.look-tally.ensures.value (sym c.if-is_over.ensures)
    (omega (arith, c.if-stayed-share.false, c.loop-stayed.invariant.share))
