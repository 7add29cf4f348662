-- Answers of Indexes::put: a state and its node have come (`nodes`), or neither has, and all stays tied.
use Rattle.std.proofs.Common.{◌≡◌, ◌∙◌, ◌<◌, ◌≤◌, Option, None, Some, cond, length, ap, refl, subst, sym, arith, rules}
use Rattle.std.specs.BTreeSet.{contains}
use Rattle.std.specs.List.{find}
use Rattle.std.specs.Map.{lookup}
use Rattle.std.proofs.lemmas.List.{get_or_read}
use Rattle.pfs_addr_values.specs.Packets.{run_limit}
use Rattle.pfs_addr_values.specs.Addresses.{IsAddr}
use Rattle.pfs_addr_values.specs.Sameness.{same_key}
use Rattle.pfs_addr_values.specs.declared.addresses.Addr.{Addr}
use Rattle.pfs_addr_values.specs.declared.packets.Dir.{Dir}
use Rattle.pfs_conf_values.specs.declared.profiles.Profile.{Profile}
use Rattle.pfs_store_contract.specs.Admission.{nodes_with}
use Rattle.pfs_store_contract.specs.Counts.{is_of_rule, node_scope_of}
use Rattle.pfs_store_contract.specs.Purging.{node_numbers, state_numbers}
use Rattle.pfs_store_contract.specs.Worlds.{inner_key}
use Rattle.pfs_store_contract.specs.declared.records.NodeScope.{NodeScope}
use Rattle.pfs_store_contract.specs.declared.records.State.{State}
use Rattle.pfs_store_records.specs.Records.{IsAbove, states_of}
use Rattle.pfs_store_records.specs.Tallies.{nodes_of}
use Rattle.pfs_store_index.specs.Holdings.{Holding}
use Rattle.pfs_store_index.specs.Filed.{HasFiled, SameFiled, filed_under, ordered_source, pair_cmp, pairs_on}
use Rattle.pfs_store_index.specs.IndexInvariants.{IsCounted, is_inner}
use Rattle.pfs_store_records.specs.Changes.{IsFew}
use Rattle.pfs_store_index.proofs.Comings.{few-counted, nodes-came, pair-fresh}
use Rattle.pfs_store_records.proofs.Searches.{all-weaker, count-le}
use Rattle.pfs_store_index.proofs.Stands.{none-found, rule-known}
use Rattle.pfs_store_index.proofs.Tying.{tied-came, tied-same}
use Rattle.pfs_store_index.proofs.indexes.Indexes.put.Goals as goal

pub invariant_of-self : goal.invariant_of-self
invariant_of-self g c =
    tied-same c.self.inside.config c.self.inside.records c.self.inside.keys c.self.inside.insides c.self.inside.counts.items c.self.inside.nodes c.self.inside.filing c.reserve.new.self c.self.inside.insides c.self.inside.filing
    c.self.invariant (λ k. ap (lookup (same_key k)) c.reserve.ensures.entries) (λ k. refl) (λ d q. refl)

pub place-requires-clause-few : goal.place-requires-clause-few
place-requires-clause-few g c =
    let l : length (states_of c.self.inside.records) ≤ run_limit = omega (arith, ap (λ (h : Holding). length h.states) c.self.view_is, c.requires.few) in
    all-weaker (IsCounted c.self.inside.config (states_of c.self.inside.records)) IsFew (λ t h. few-counted c.self.inside.config (states_of c.self.inside.records) t l h) c.self.inside.nodes c.self.invariant.counted

pub place-requires-clause-above : goal.place-requires-clause-above
place-requires-clause-above g c = subst (λ (h : Holding). IsAbove c.args.state.now.number (state_numbers h.states)) (sym c.self.view_is) c.requires.above

pub place-requires-clause-nodes_above : goal.place-requires-clause-nodes_above
place-requires-clause-nodes_above g c = subst (λ (h : Holding). IsAbove c.args.state.now.number (node_numbers h.nodes)) (sym c.self.view_is) c.requires.nodes_above

pub place-requires-clause-absent : goal.place-requires-clause-absent
place-requires-clause-absent g c d u =
    let s = c.args.state.now in
    let a : IsAbove c.args.state.now.number (state_numbers (states_of c.self.inside.records)) = subst (λ (h : Holding). IsAbove c.args.state.now.number (state_numbers h.states)) (sym c.self.view_is) c.requires.above in
    let own : Profile → Addr = λ q. filed_under q d s in
    let e = c.profile-profile.ensures in
    (λ i. contains pair_cmp (pairs_on (e i) d c.self.inside.filing) (ordered_source (own (e i)), s.number))
    ∙ c.self.invariant.paired d (filed_under c.self.inside.config.profile d s) s.number (subst (λ q. IsAddr (own q)) e u)
    ∙ pair-fresh (filed_under c.self.inside.config.profile d) (filed_under c.self.inside.config.profile d s) s.number (states_of c.self.inside.records) a

pub invariant_of-self-in_err-spot : goal.invariant_of-self-in_err-spot
invariant_of-self-in_err-spot g c =
    rw (c.in_err-spot.ensures.same_records, c.in_err-spot.ensures.same_nodes)
    (tied-same c.self.inside.config c.self.inside.records c.self.inside.keys c.self.inside.insides c.self.inside.counts.items c.self.inside.nodes c.self.inside.filing c.reserve.new.self c.make_room.new.insides c.place.new.filing
    c.self.invariant (λ k. ap (lookup (same_key k)) c.reserve.ensures.entries) c.make_room.ensures.same (subst (λ q. SameFiled q c.self.inside.filing c.place.new.filing) c.profile-profile.ensures c.in_err-spot.ensures.same_filed))

pub index_mut-requires : goal.index_mut-requires
index_mut-requires g c =
    let w : c.args.state.now.rule.0 < length c.self.inside.counts.items =
    omega (arith, c.self.invariant.size, ap (λ (h : Holding). length h.config.items) c.self.view_is, rule-known c.args.self.now.config c.args.state.now.rule.0 c.requires.rule) in
    search rules

pub overflow_add-index_mut : goal.overflow_add-index_mut
overflow_add-index_mut g c =
    let w : c.args.state.now.rule.0 < length c.self.inside.counts.items =
    omega (arith, c.self.invariant.size, ap (λ (h : Holding). length h.config.items) c.self.view_is, rule-known c.args.self.now.config c.args.state.now.rule.0 c.requires.rule) in
    let v = get_or_read c.self.inside.counts.items _ _ w c.index_mut.ensures.value 0 in
    omega (arith, v, c.self.invariant.by_rule c.args.state.now.rule.0 w, count-le (is_of_rule c.args.state.now.rule.0) (states_of c.self.inside.records), ap (λ (h : Holding). length h.states) c.self.view_is, c.requires.few)

pub invariant_of-self-2 : goal.invariant_of-self-2
invariant_of-self-2 g c =
    let s = c.args.state.now in
    let w : c.args.state.now.rule.0 < length c.self.inside.counts.items =
    omega (arith, c.self.invariant.size, ap (λ (h : Holding). length h.config.items) c.self.view_is, rule-known c.args.self.now.config c.args.state.now.rule.0 c.requires.rule) in
    let f : find (λ (x : State). same_key x.key c.args.state.now.key) (states_of c.self.inside.records) ≡ None = ap (λ (h : Holding). find (λ (x : State). same_key x.key c.args.state.now.key) h.states) c.self.view_is ∙ c.requires.fresh in
    let fi : find (λ (x : State). same_key (inner_key x) (inner_key c.args.state.now)) (states_of c.self.inside.records) ≡ None =
    ap (λ (h : Holding). find (λ (x : State). same_key (inner_key x) (inner_key c.args.state.now)) h.states) c.self.view_is ∙ c.requires.fresh_inside in
    rw (c.in_ok-spot.ensures.records, c.in_ok-spot.ensures.nodes)
    (tied-came c.self.inside.config c.self.inside.records c.self.inside.keys c.self.inside.insides c.self.inside.counts.items c.self.inside.nodes c.self.inside.filing c.insert-2.new.self c.insert.new.insides c.place.new.filing
    s c.in_ok-spot.spot _ c.node_scope-scope.result (subst (λ q. (d : Dir) → IsAddr (filed_under q d s)) c.profile-profile.ensures c.place.ensures.addr) c.self.invariant (none-found (λ (x : State). same_key x.key c.args.state.now.key) c.self.inside.records f)
    (none-found (λ (x : State). same_key (inner_key x) (inner_key c.args.state.now)) c.self.inside.records fi) w
    (get_or_read c.self.inside.counts.items _ _ w c.index_mut.ensures.value 0) c.requires.phase (sym c.node_scope-scope.ensures)
    (λ k. c.in-Ok.ensures.updates.0 k ∙ (λ j. cond (same_key s.key k) (Some (c.entry_of-entry.ensures j)) (ap (lookup (same_key k)) c.reserve.ensures.entries j)))
    (λ k. c.insert.ensures k ∙ (λ j. cond (is_inner k s.inner) (Some (c.entry_of-entry.ensures j)) (c.make_room.ensures.same k j)))
    (subst (λ q. HasFiled q s c.self.inside.filing c.place.new.filing) c.profile-profile.ensures c.in_ok-spot.ensures.filed))

pub returns-clause-nodes : goal.returns-clause-nodes
returns-clause-nodes g c =
    ap nodes_of c.in_ok-spot.ensures.nodes ∙ nodes-came c.node_scope-scope.result c.args.state.now c.self.inside.nodes
    ∙ ap (λ (o : Option NodeScope). nodes_with (nodes_of c.self.inside.nodes) c.args.state.now.number c.args.state.now.source c.args.state.now.last o) c.node_scope-scope.ensures
    ∙ ap (λ (h : Holding). nodes_with h.nodes c.args.state.now.number c.args.state.now.source c.args.state.now.last (node_scope_of h.config c.args.state.now.rule.0)) c.self.view_is
