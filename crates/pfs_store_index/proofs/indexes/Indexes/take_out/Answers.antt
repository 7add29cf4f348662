-- Answers of Indexes::take_out: a state leaves, its node is kept for its retention if it was the last (`nodes`); all stays tied.
use Rattle.std.proofs.Common.{◌≡◌, ◌∙◌, ◌<◌, Option, Some, length, map, ap, subst, sym, rules}
use Rattle.std.specs.List.{find}
use Rattle.std.proofs.lemmas.List.{get_or_read}
use Rattle.pfs_addr_values.specs.Addresses.{IsAddr}
use Rattle.pfs_addr_values.specs.declared.packets.Dir.{Dir}
use Rattle.pfs_store_contract.specs.declared.records.NodeScope.{NodeScope}
use Rattle.pfs_store_records.specs.Records.{states_of}
use Rattle.pfs_store_records.specs.Tallies.{nodes_of}
use Rattle.pfs_store_index.specs.Holdings.{Holding}
use Rattle.pfs_store_records.specs.Changes.{at_node, left_of}
use Rattle.pfs_store_index.specs.Filed.{LosesFiled, filed_under}
use Rattle.pfs_store_index.specs.IndexInvariants.{left_at}
use Rattle.pfs_store_index.proofs.Leavings.{nodes-left, rule-held, state_number}
use Rattle.pfs_store_index.proofs.Removals.{find-in}
use Rattle.pfs_store_index.proofs.Tying.{rule-within, tied-left}
use Rattle.pfs_store_records.proofs.Rising.{has_number}
use Rattle.pfs_store_index.proofs.indexes.Indexes.take_out.Goals as goal

pub index_mut-requires : goal.index_mut-requires
index_mut-requires g c =
    let f : find (has_number state_number c.args.state.now.number) (states_of c.self.inside.records) ≡ Some c.args.state.now = ap (λ (h : Holding). find (has_number state_number c.args.state.now.number) h.states) c.self.view_is ∙ c.requires.held in
    let w : c.args.state.now.rule.0 < length c.self.inside.counts.items = rule-within c.self.inside.config c.self.inside.records c.self.inside.keys c.self.inside.insides c.self.inside.counts.items c.self.inside.nodes c.self.inside.filing c.args.state.now c.self.invariant f in
    search rules

pub overflow_sub-index_mut : goal.overflow_sub-index_mut
overflow_sub-index_mut g c =
    let f : find (has_number state_number c.args.state.now.number) (states_of c.self.inside.records) ≡ Some c.args.state.now = ap (λ (h : Holding). find (has_number state_number c.args.state.now.number) h.states) c.self.view_is ∙ c.requires.held in
    let w : c.args.state.now.rule.0 < length c.self.inside.counts.items = rule-within c.self.inside.config c.self.inside.records c.self.inside.keys c.self.inside.insides c.self.inside.counts.items c.self.inside.nodes c.self.inside.filing c.args.state.now c.self.invariant f in
    rule-held c.args.state.now (states_of c.self.inside.records) c.self.inside.counts.items _ c.numbers_rise.ensures f w (get_or_read c.self.inside.counts.items _ _ w c.index_mut.ensures.value 0) c.self.invariant.by_rule

pub remove-requires-3 : goal.remove-requires-3
remove-requires-3 g c =
    let f : find (has_number state_number c.args.state.now.number) (states_of c.self.inside.records) ≡ Some c.args.state.now = ap (λ (h : Holding). find (has_number state_number c.args.state.now.number) h.states) c.self.view_is ∙ c.requires.held in
    find-in state_number c.args.state.now.number c.args.state.now (states_of c.self.inside.records) f

pub invariant_of-self : goal.invariant_of-self
invariant_of-self g c =
    let s = c.args.state.now in
    let f : find (has_number state_number c.args.state.now.number) (states_of c.self.inside.records) ≡ Some c.args.state.now = ap (λ (h : Holding). find (has_number state_number c.args.state.now.number) h.states) c.self.view_is ∙ c.requires.held in
    let w : c.args.state.now.rule.0 < length c.self.inside.counts.items = rule-within c.self.inside.config c.self.inside.records c.self.inside.keys c.self.inside.insides c.self.inside.counts.items c.self.inside.nodes c.self.inside.filing c.args.state.now c.self.invariant f in
    let at : c.leave.new.nodes ≡ map (left_at c.self.inside.config s c.args.now) c.self.inside.nodes =
    c.leave.ensures ∙ ap (λ (o : Option NodeScope). map (at_node o s.source (left_of c.self.inside.config s c.args.now)) c.self.inside.nodes) c.node_scope-scope.ensures in
    rw (c.remove-3.ensures.records, at)
    (tied-left c.self.inside.config c.self.inside.records c.self.inside.keys c.self.inside.insides c.self.inside.counts.items c.self.inside.nodes c.self.inside.filing c.swap_remove.new.self c.remove.new.insides c.remove-2.new.self s c.args.now _
    (subst (λ q. (d : Dir) → IsAddr (filed_under q d s)) c.profile.ensures c.remove-2.ensures.addr) c.self.invariant c.numbers_rise.ensures f (get_or_read c.self.inside.counts.items _ _ w c.index_mut.ensures.value 0) c.swap_remove.ensures.updates.0 c.remove.ensures
    (subst (λ q. LosesFiled q s c.self.inside.filing c.remove-2.new.self) c.profile.ensures c.remove-2.ensures.filed))

pub returns-clause-nodes : goal.returns-clause-nodes
returns-clause-nodes g c =
    let s = c.args.state.now in
    let f : find (has_number state_number c.args.state.now.number) (states_of c.self.inside.records) ≡ Some c.args.state.now = ap (λ (h : Holding). find (has_number state_number c.args.state.now.number) h.states) c.self.view_is ∙ c.requires.held in
    let at : c.leave.new.nodes ≡ map (left_at c.self.inside.config s c.args.now) c.self.inside.nodes =
    c.leave.ensures ∙ ap (λ (o : Option NodeScope). map (at_node o s.source (left_of c.self.inside.config s c.args.now)) c.self.inside.nodes) c.node_scope-scope.ensures in
    rw (sym c.self.view_is) (ap nodes_of at ∙ nodes-left c.self.inside.config s c.args.now (states_of c.self.inside.records) c.self.inside.nodes c.numbers_rise.ensures f c.self.invariant.scoped c.self.invariant.counted)
