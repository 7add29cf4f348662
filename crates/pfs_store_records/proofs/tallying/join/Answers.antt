-- Answers of join: a node that is there counts one state more, which fits, and no other node changes (`ok`).
use Rattle.std.proofs.Common.{◌≡◌, ◌∙◌, ap, sym, refl, map, option_map, is_some, if◌then◌else◌, ◌++◌, ◌∷◌, [], OnErr, OnOk, Option, None, Some, Bool, true, subst}
use Rattle.std.specs.List.{find}
use Rattle.pfs_store_records.specs.declared.nodes.NodeTally.{NodeTally}
use Rattle.pfs_store_records.specs.Changes.{IsFew, at_node, tallies_with_state, joined_of, new_tally}
use Rattle.pfs_store_contract.specs.declared.records.NodeScope.{NodeScope}
use Rattle.pfs_store_contract.specs.Purging.{node_numbers}
use Rattle.pfs_track.specs.Scores.{zero_score}
use Rattle.pfs_track.specs.declared.scores.Score.{Score}
use Rattle.pfs_store_records.specs.Records.{IsAbove}
use Rattle.pfs_store_records.specs.Tallies.{is_tally, nodes_of}
use Rattle.pfs_store_records.proofs.Searches.{found-all}
use Rattle.pfs_store_records.proofs.tallying.join.Goals as goal

-- what was found was there
there : (f : NodeTally → NodeTally) (t : NodeTally) (o : Option NodeTally) → Some t ≡ option_map f o → is_some o ≡ true
there f t None h = absurd cc
there f t (Some u) h = refl

pub change-requires : goal.change-requires
change-requires g c = record { can = λ t f. found-all IsFew (is_tally c.in-Some.scope c.args.state.now.source) t c.args.nodes.now c.requires.few f }

pub returns-in-Some-change-clause-ok : goal.returns-in-Some-change-clause-ok
returns-in-Some-change-clause-ok g c =
    let h = there joined_of c.in-Some-change.field-0 (find (is_tally c.in-Some.scope c.args.state.now.source) c.args.nodes.now) (sym c.in-Some-change.is ∙ c.change.ensures.tally) in
    c.change.ensures.nodes
    ∙ ap (λ (b : Bool). if b then map (at_node (Some c.in-Some.scope) c.args.state.now.source joined_of) c.args.nodes.now else c.args.nodes.now ++ new_tally c.in-Some.scope c.args.state.now ∷ []) (sym h)
    ∙ ap (λ (o : Option NodeScope). tallies_with_state o c.args.state.now c.args.nodes.now) (sym c.in-Some.is)

pub push-requires-clause-absent : goal.push-requires-clause-absent
push-requires-clause-absent g c =
    let n = c.change.ensures.absent c.in-None-change.is in
    ap (find (is_tally c.in-Some.scope c.args.state.now.source)) n.0 ∙ n.1

pub push-requires-clause-above : goal.push-requires-clause-above
push-requires-clause-above g c =
    let n = c.change.ensures.absent c.in-None-change.is in
    subst (λ ts. IsAbove c.args.state.now.number (node_numbers (nodes_of ts))) (sym n.0) c.requires.above

pub returns-in-None-change-clause-ok : goal.returns-in-None-change-clause-ok
returns-in-None-change-clause-ok g c =
    let n = c.change.ensures.absent c.in-None-change.is in
    let z : c.default.result ≡ zero_score = (λ i. record { value = c.default.ensures.0 i; last = c.default.ensures.1 i }) in
    let made : Score → NodeTally = λ x. record { node = record { number = c.args.state.now.number; scope = c.in-Some.scope; source = c.args.state.now.source; score = x; expires = c.args.state.now.last }; states = 1; connections = 0 } in
    let w : tallies_with_state c.args.scope c.args.state.now c.args.nodes.now ≡ c.args.nodes.now ++ new_tally c.in-Some.scope c.args.state.now ∷ [] =
    ap (λ (o : Option NodeScope). tallies_with_state o c.args.state.now c.args.nodes.now) c.in-Some.is
    ∙ ap (λ (o : Option NodeTally). if is_some o then map (at_node (Some c.in-Some.scope) c.args.state.now.source joined_of) c.args.nodes.now else c.args.nodes.now ++ new_tally c.in-Some.scope c.args.state.now ∷ []) n.1 in
    subst (λ ts. OnOk c.push.result (c.push.new.self ≡ ts)) ((λ i. n.0 i ++ made (z i) ∷ []) ∙ sym w) c.push.ensures.ok

pub returns-in-None-change-clause-err : goal.returns-in-None-change-clause-err
returns-in-None-change-clause-err g c =
    subst (λ ts. OnErr c.push.result (c.push.new.self ≡ ts)) (c.change.ensures.absent c.in-None-change.is).0 c.push.ensures.err
