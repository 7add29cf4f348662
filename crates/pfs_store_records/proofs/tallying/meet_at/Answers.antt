-- Answers of meet_at: the node is there, and it alone changes by the packet (`nodes`, `tally`).
use Rattle.std.proofs.Common.{◌≡◌, ◌∙◌, List, Option, Some, None, ap, map, option_map, refl, sym, true}
use Rattle.std.specs.List.{find}
use Rattle.pfs_addr_values.specs.declared.addresses.Addr.{Addr}
use Rattle.pfs_store_contract.specs.declared.records.NodeScope.{NodeScope}
use Rattle.pfs_store_records.specs.Tallies.{is_tally}
use Rattle.pfs_store_records.specs.declared.nodes.NodeTally.{NodeTally}
use Rattle.pfs_store_records.specs.Changes.{IsFew, IsScored, at_node, met_by}
use Rattle.pfs_store_records.proofs.TallyLaws.{met-faithful, unmet}
use Rattle.pfs_store_records.proofs.OneNode.{IsFaithful, find-at, scored-found}
use Rattle.pfs_store_records.proofs.Searches.{found-all, none-any}
use Rattle.pfs_store_records.proofs.tallying.meet_at.Goals as goal
use Rattle.pfs_store_records.proofs.tallying.meet_at.Goals.{then-completed, else-completed}

-- the changed tally is found
found-changed : (sc : NodeScope) (a : Addr) (f : NodeTally → NodeTally) → IsFaithful f → (r : NodeTally) (ts : List NodeTally) → Some r ≡ option_map f (find (is_tally sc a) ts)
    → find (is_tally sc a) (map (at_node (Some sc) a f) ts) ≡ Some r
found-changed sc a f k r ts h = go (find (is_tally sc a) ts) refl h
  where
    go : (o : Option NodeTally) → find (is_tally sc a) ts ≡ o → Some r ≡ option_map f o → find (is_tally sc a) (map (at_node (Some sc) a f) ts) ≡ Some r
    go None l e = absurd cc
    go (Some t) l e = find-at sc a f k t ts l ∙ sym e

pub change-tally-requires : goal.change-tally-requires
change-tally-requires g c = record {
  can = λ t f. (
    found-all IsFew (is_tally c.args.scope c.args.source) t c.args.nodes.now c.requires.few f,
    found-all IsScored (is_tally c.args.scope c.args.source) t c.args.nodes.now c.requires.scored f,
    scored-found c.args.now c.args.scope c.args.source t c.args.nodes.now c.requires.order f,
    c.requires.rate,
  );
}

pub unreachable-requires : goal.unreachable-requires
unreachable-requires g c = elim c.if-completed.branch [
  | then-completed b ↦
      let n = (b.change-tally.ensures.absent (sym b.tally-is ∙ c.in-None.is)).1 in
      let z = none-any (is_tally c.args.scope c.args.source) c.args.nodes.now n in
      cc (z, c.requires.has)
  | else-completed b ↦
      let z = none-any (is_tally c.args.scope c.args.source) c.args.nodes.now (sym b.get-tally.ensures ∙ sym b.tally-is ∙ c.in-None.is) in
      cc (z, c.requires.has)
]

pub returns-clause-nodes : goal.returns-clause-nodes
returns-clause-nodes g c = elim c.if-completed.branch [
  | then-completed b ↦
      b.nodes-is ∙ b.change-tally.ensures.nodes
      ∙ ap (λ x. map (at_node (Some c.args.scope) c.args.source (met_by c.args.rate c.args.now x)) c.args.nodes.now) (sym b.if-completed.true)
  | else-completed b ↦
      b.nodes-is ∙ unmet (Some c.args.scope) c.args.source c.args.rate c.args.now c.args.completed b.if-completed.false c.args.nodes.now
]

pub returns-clause-tally : goal.returns-clause-tally
returns-clause-tally g c = elim c.if-completed.branch [
  | then-completed b ↦
      ap (find (is_tally c.args.scope c.args.source)) (b.nodes-is ∙ b.change-tally.ensures.nodes)
      ∙ found-changed c.args.scope c.args.source (met_by c.args.rate c.args.now true) (met-faithful c.args.rate c.args.now true) c.in-Some.tally c.args.nodes.now
      (sym c.in-Some.is ∙ b.tally-is ∙ b.change-tally.ensures.tally)
  | else-completed b ↦
      ap (find (is_tally c.args.scope c.args.source)) b.nodes-is ∙ sym b.get-tally.ensures ∙ sym b.tally-is ∙ c.in-Some.is
]
