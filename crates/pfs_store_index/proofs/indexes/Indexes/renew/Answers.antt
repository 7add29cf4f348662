-- Answers of Indexes::renew: the state that was found is renewed, what is reported of it, and all stays tied.
use Rattle.std.proofs.Common.{◌≡◌, ◌∙◌, ◌≤◌, true, ◌==◌, ◌||◌, if◌then◌else◌, Some, List, [], length, map, option_map, ap, sym, subst, arith}
use Rattle.std.specs.List.{AllByRecursion, find, list_any}
use Rattle.pfs_addr_values.specs.Packets.{run_limit}
use Rattle.pfs_conf_values.specs.Configs.{options_of}
use Rattle.pfs_track.specs.Scores.{zero_score}
use Rattle.pfs_track.specs.declared.scores.Score.{Score}
use Rattle.pfs_store_contract.specs.Calls.{told_at, touch_of}
use Rattle.pfs_store_contract.specs.Counts.{node_scope_of}
use Rattle.pfs_store_contract.specs.Touching.{completes_at, connections_in, is_asking, is_taken, nodes_touched, numbered_state_after, score_in}
use Rattle.pfs_store_contract.specs.Worlds.{IsUpToNow, lists}
use Rattle.pfs_store_contract.specs.declared.records.State.{State}
use Rattle.pfs_store_records.specs.ApartKeys.{rekeyed}
use Rattle.pfs_store_records.specs.Changes.{HasTally, IsFew, at_node, connections_at, met_by, score_at}
use Rattle.pfs_store_records.specs.Records.{Placed, states_of}
use Rattle.pfs_store_records.specs.Tallies.{is_tally, nodes_of}
use Rattle.pfs_store_index.specs.Holdings.{Holding, is_reached}
use Rattle.pfs_store_index.specs.IndexInvariants.{IsCounted}
use Rattle.pfs_store_records.proofs.OneNode.{tally-at}
use Rattle.pfs_store_records.proofs.Searches.{all-weaker}
use Rattle.pfs_store_records.proofs.TallyLaws.{met-faithful}
use Rattle.pfs_store_index.proofs.Comings.{few-counted}
use Rattle.pfs_store_index.proofs.Leavings.{state_number}
use Rattle.pfs_store_index.proofs.Meetings.{nodes-met, renewed_record, states-renewed}
use Rattle.pfs_store_index.proofs.Reached.{reached-renewed, reached-stands}
use Rattle.pfs_store_index.proofs.Removals.{all-found}
use Rattle.pfs_store_index.proofs.Renewing.{IsKeptAs, IsStepped, counts-done, kept-as, stepped-record, steps-alike, told-connections, told-score}
use Rattle.pfs_store_index.proofs.Stands.{rising-records}
use Rattle.pfs_store_index.proofs.Tying.{tied-met}
use Rattle.pfs_store_index.proofs.indexes.Indexes.renew.Goals as goal

pub record_at-kept-requires-clause-held : goal.record_at-kept-requires-clause-held
record_at-kept-requires-clause-held g c =
    reached-stands c.args.found c.self.inside.records (ap (λ (x : Holding). is_reached x.records c.args.found) c.self.view_is ∙ c.requires.reached)

pub renew_at-requires : goal.renew_at-requires
renew_at-requires g c = record {
  held = reached-stands c.args.found c.self.inside.records (ap (λ (x : Holding). is_reached x.records c.args.found) c.self.view_is ∙ c.requires.reached);
}

pub meet-met-requires-clause-has : goal.meet-met-requires-clause-has
meet-met-requires-clause-has g c =
    let rs = c.self.inside.records in
    let reached = ap (λ (x : Holding). is_reached x.records c.args.found) c.self.view_is ∙ c.requires.reached in
    let k : IsKeptAs c.args.found.number.0 c.record_at-kept.result.now rs = kept-as c.args.found c.record_at-kept.result.now rs c.numbers_rise.ensures reached c.record_at-kept.ensures.value in
    let h : HasTally c.self.inside.config c.self.inside.nodes k.state =
    all-found state_number (HasTally c.self.inside.config c.self.inside.nodes) c.args.found.number.0 k.state (states_of rs) c.self.invariant.noded k.found in
    let a = ap (λ (s : State). s.rule) k.same ∙ sym c.rule-rule.ensures in
    let b = ap (λ (s : State). s.source) k.same ∙ sym c.source-source.ensures in
    rw (sym a, sym b) h

pub meet-met-requires-clause-few : goal.meet-met-requires-clause-few
meet-met-requires-clause-few g c =
    let l : length (states_of c.self.inside.records) ≤ run_limit = omega (arith, ap (λ (h : Holding). length h.states) c.self.view_is, c.requires.few) in
    all-weaker (IsCounted c.self.inside.config (states_of c.self.inside.records)) IsFew (λ t h. few-counted c.self.inside.config (states_of c.self.inside.records) t l h) c.self.inside.nodes c.self.invariant.counted

pub meet-met-requires-clause-order : goal.meet-met-requires-clause-order
meet-met-requires-clause-order g c = subst (λ (h : Holding). IsUpToNow c.args.now (lists [] h.nodes [] [] 0)) (sym c.self.view_is) c.requires.order

-- the record that was found is there
reached : (g : _) (c : goal.After-result-1 g) → is_reached c.self.inside.records c.args.found ≡ true
reached g c = ap (λ (x : Holding). is_reached x.records c.args.found) c.self.view_is ∙ c.requires.reached

-- its state
kept : (g : _) (c : goal.After-result-1 g) → IsKeptAs c.args.found.number.0 c.record_at-kept.result.now c.self.inside.records
kept g c = kept-as c.args.found c.record_at-kept.result.now c.self.inside.records c.numbers_rise.ensures (reached g c) c.record_at-kept.ensures.value

-- what was read of it, and whether its handshake completes
rule-is : (g : _) (c : goal.After-result-1 g) → c.rule-rule.result ≡ (kept g c).state.rule
rule-is g c = c.rule-rule.ensures ∙ sym (ap (λ (x : State). x.rule) (kept g c).same)

source-is : (g : _) (c : goal.After-result-1 g) → c.source-source.result ≡ (kept g c).state.source
source-is g c = c.source-source.ensures ∙ sym (ap (λ (x : State). x.source) (kept g c).same)

done-is : (g : _) (c : goal.After-result-1 g) → c.stepped-step.result.completed ≡ completes_at c.args.packet.now (kept g c).state
done-is g c = c.stepped-step.ensures.completes ∙ sym (ap (completes_at c.args.packet.now) (kept g c).same)

-- the record is renewed, and no other
records-are : (g : _) (c : goal.After-result-1 g) → c.renew_at.new.self ≡ map (renewed_record c.args.found.number.0 c.args.packet.now c.args.now) c.self.inside.records
records-are g c =
    let rs = c.self.inside.records in
    let n = c.args.found.number.0 in
    let p = c.args.packet.now in
    let now = c.args.now in
    let kept-state = c.record_at-kept.result.now in
    let k = kept g c in
    let step = c.stepped-step in
    let each : AllByRecursion (IsStepped n c.args.found.place p now step.result.phase step.result.last) rs =
    all-weaker (λ (x : Placed). x.place ≡ c.args.found.place → rekeyed kept-state x.state ≡ kept-state) (IsStepped n c.args.found.place p now step.result.phase step.result.last)
    (λ x h q. (ap (λ (y : State). y.number) (h q ∙ sym k.same) ∙ k.number, steps-alike p now step.result.phase step.result.last kept-state x.state (h q) step.ensures.state))
    rs c.record_at-kept.ensures.value in
    c.renew_at.ensures.records ∙ stepped-record n c.args.found.place p now step.result.phase step.result.last rs (rising-records rs c.numbers_rise.ensures) (reached g c) each

-- the node of its source meets the packet, and no other
nodes-are : (g : _) (c : goal.After-result-1 g) → c.meet-met.new.nodes
    ≡ map (at_node (node_scope_of c.self.inside.config (kept g c).state.rule.0) (kept g c).state.source
    (met_by (options_of c.self.inside.config (kept g c).state.rule.0).max_src_conn_rate c.args.now (completes_at c.args.packet.now (kept g c).state))) c.self.inside.nodes
nodes-are g c =
    let conf = c.self.inside.config in
    c.meet-met.ensures.nodes
    ∙ (λ j. map (at_node (node_scope_of conf (rule-is g c j).0) (source-is g c j) (met_by (options_of conf (rule-is g c j).0).max_src_conn_rate c.args.now (done-is g c j))) c.self.inside.nodes)

pub invariant_of-self : goal.invariant_of-self
invariant_of-self g c =
    let here = c.self.inside in
    let k = kept g c in
    rw (records-are g c, nodes-are g c)
    (tied-met here.config here.records here.keys here.insides here.counts.items here.nodes here.filing c.args.found.number.0 c.args.packet.now c.args.now k.state c.self.invariant c.numbers_rise.ensures k.found (counts-done k.state c.args.packet.now))

pub returns-clause-states : goal.returns-clause-states
returns-clause-states g c =
    let n = c.args.found.number.0 in
    let p = c.args.packet.now in
    let now = c.args.now in
    ap states_of (records-are g c) ∙ states-renewed n p now c.self.inside.records ∙ ap (λ (x : Holding). map (numbered_state_after n p now) x.states) c.self.view_is

pub returns-clause-nodes : goal.returns-clause-nodes
returns-clause-nodes g c =
    let n = c.args.found.number.0 in
    let conf = c.self.inside.config in
    let p = c.args.packet.now in
    let now = c.args.now in
    let k = kept g c in
    let ns = ap nodes_of (nodes-are g c) ∙ nodes-met conf k.state now (completes_at p k.state) c.self.inside.nodes in
    ap Some ns ∙ ap (option_map (λ (x : State). nodes_touched conf (nodes_of c.self.inside.nodes) x now (completes_at p x))) (sym k.found)
    ∙ ap (λ (h : Holding). option_map (λ (x : State). nodes_touched h.config h.nodes x now (completes_at p x)) (find (λ (x : State). x.number == n) h.states)) c.self.view_is

pub returns-clause-told : goal.returns-clause-told
returns-clause-told g c =
    let rs = c.self.inside.records in
    let n = c.args.found.number.0 in
    let conf = c.self.inside.config in
    let p = c.args.packet.now in
    let now = c.args.now in
    let k = kept g c in
    let s = k.state in
    let done = completes_at p s in
    let rate = (options_of conf s.rule.0).max_src_conn_rate in
    let sc = node_scope_of conf s.rule.0 in
    let m = nodes-are g c in
    let tied = invariant_of-self g c in
    let has : HasTally conf c.self.inside.nodes s = all-found state_number (HasTally conf c.self.inside.nodes) n s (states_of rs) c.self.invariant.noded k.found in
    let view = ap (λ (x : Holding). x.states) c.self.view_is in
    let states : states_of c.renew_at.new.self ≡ map (numbered_state_after s.number p now) (states_of rs) =
    returns-clause-states g c ∙ ap (map (numbered_state_after n p now)) (sym view) ∙ ap (λ m. map (numbered_state_after m p now) (states_of rs)) (sym k.number) in
    let ns = ap nodes_of m ∙ nodes-met conf s now done c.self.inside.nodes in
    let here = c.args.asked || done in
    let rule = rule-is g c in
    let source = source-is g c in
    let completed = done-is g c in
    let connections = c.meet-met.ensures.connections
    ∙ (λ j. if c.args.asked || completed j then connections_at (node_scope_of conf (rule j).0) (source j) c.meet-met.new.nodes else 0)
    ∙ ap (λ x. if here then x else 0) (told-connections conf sc s.source (states_of c.renew_at.new.self) c.meet-met.new.nodes tied.counted
    (λ own e. ap (list_any (is_tally own s.source)) m ∙ tally-at own s.source sc s.source (met_by rate now done) (met-faithful rate now done) c.self.inside.nodes ∙ has own e)
    ∙ ap (λ xs. connections_in conf s.source xs sc) states) in
    let score = c.meet-met.ensures.score
    ∙ (λ j. if c.args.asked || completed j then score_at (node_scope_of conf (rule j).0) (source j) c.meet-met.new.nodes else zero_score)
    ∙ ap (λ (x : Score). if here then x else zero_score) (told-score sc s.source c.meet-met.new.nodes ∙ ap (λ xs. score_in s.source xs sc) ns) in
    let dir = c.dir-dir.ensures ∙ sym (ap (λ (x : State). x.dir) k.same) in
    let tag = c.tag-tag.ensures ∙ sym (ap (λ (x : State). x.tag) k.same) in
    let taken = c.stepped-step.ensures.taken ∙ sym (ap (is_taken p) k.same) in
    let asks = c.stepped-step.ensures.asks ∙ sym (ap (is_asking p) k.same) in
    (λ j. Some (record { rule = rule j; source = source j; dir = dir j; completed = completed j; taken = taken j; asks = asks j; tag = tag j; connections = connections j; score = score j }))
    ∙ ap (option_map (λ (x : State). told_at (c.args.asked || completes_at p x) (touch_of conf (lists (states_of rs) (nodes_of c.self.inside.nodes) [] [] 0) p now x))) (sym k.found)
    ∙ ap (λ (h : Holding). option_map (λ (x : State). told_at (c.args.asked || completes_at p x) (touch_of h.config (lists h.states h.nodes [] [] 0) p now x)) (find (λ (x : State). x.number == n) h.states)) c.self.view_is

pub returns-clause-reached : goal.returns-clause-reached
returns-clause-reached g c =
    ap (λ (ps : List Placed). is_reached ps c.args.found) (records-are g c) ∙ reached-renewed c.args.found.number.0 c.args.packet.now c.args.now c.args.found c.self.inside.records (reached g c)
