-- Answer of refill: one number more is pending.
use Rattle.std.proofs.Common.{◌∙◌, ◌++◌, ◌∷◌, [], sym, ap}
use Rattle.std.proofs.lemmas.List.{map_more}
use Rattle.pfs_store_plain.proofs.purging.refill.Goals as goal

pub loop-one-preserved : goal.loop-one-preserved
loop-one-preserved g c = record {
  items = c.push_reserved.ensures.items
      ∙ (λ j. c.loop-one.invariant.items j ++ (c.number.ensures ∙ ap g.T.Numbered.number c.one-item.is) j ∷ [])
      ∙ sym (map_more g.T.Numbered.number c.args.held.now c.loop-one.one-index c.one-item.result c.loop-one-test.true);
  room = c.push_reserved.ensures.capacity ∙ c.loop-one.invariant.room;
}
