-- Answers of slice_states: the slice leaves the lists as defined (`world`), and what it reports (`answer`).
use Rattle.std.proofs.Common.{◌≡◌, ◌∙◌, ℕ, List, [], length, filter, map, take, ap, rules}
use Rattle.pfs_store_contract.proofs.SliceLaws.{state_slice-parts, state_slice-told, stays_by}
use Rattle.pfs_store_contract.specs.Leaving.{node_after_leaving}
use Rattle.pfs_store_contract.specs.Worlds.{lists}
use Rattle.pfs_store_contract.specs.declared.records.Node.{Node}
use Rattle.pfs_store_contract.specs.declared.records.State.{State}
use Rattle.pfs_store_plain.proofs.purging.slice_states.Goals as goal

pub returns-clause-world : goal.returns-clause-world
returns-clause-world c = λ node_numbers made.
    let conf = c.args.config.now in
    let before = c.args.states.now.items in
    let e = c.share_of-examined.result in
    let left : ℕ → List ℕ → List State =
    λ held round. filter (stays_by conf c.count_rules.new.counts held c.args.now (take e round)) before in
    let settled : List State → List State → List Node = λ all after. map (node_after_leaving conf all after c.args.now) c.args.nodes.now in
    let held : c.len-held.result ≡ length before = search rules in
    let examined : c.deref-3.result.now ≡ c.begin_round.new.pending.items = c.deref-3.ensures.value in
    let same : left c.len-held.result c.deref-3.result.now ≡ left (length before) c.begin_round.new.pending.items =
    ap (λ n. left n c.deref-3.result.now) held ∙ ap (left (length before)) examined in
    let kept : c.keep.new.states.items ≡ left c.len-held.result c.deref-3.result.now = c.keep.ensures.items in
    let all : c.deref-4.result.now ≡ before = c.deref-4.ensures.value in
    let released : c.release.new.nodes ≡ settled c.deref-4.result.now (filter (stays_by conf c.count_rules.new.counts c.len-held.result c.args.now (take e c.deref-3.result.now)) c.deref-4.result.now) =
    c.release.ensures.nodes in
    state_slice-parts conf c.count_rules.new.counts (lists before c.args.nodes.now c.args.pending.now.items node_numbers made) c.args.now
    c.keep.new.states.items c.release.new.nodes c.take_off.new.pending.items c.begin_round.new.pending.items e
    (search rules) (search rules) (search rules) (search rules)
    (kept ∙ same)
    (released ∙ ap (λ xs. settled xs (filter (stays_by conf c.count_rules.new.counts c.len-held.result c.args.now (take e c.deref-3.result.now)) xs)) all ∙ ap (settled before) same)
    (search rules)

pub returns-clause-answer : goal.returns-clause-answer
returns-clause-answer c =
    state_slice-told c.args.config.now (lists c.args.states.now.items c.args.nodes.now c.args.pending.now.items [] 0) c.args.now c.len-held.result c.len-2.result c.share_of-examined.result
    c.keep.new.states.items c.release.new.nodes c.take_off.new.pending.items c.begin_round.new.pending.items
    (returns-clause-world c [] 0)
    (search rules) (search rules) (search rules) (search rules)
