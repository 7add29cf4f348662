-- Answers of strike: the state of this number is there, and leaves if it is flushed; all others stay.
use Rattle.std.proofs.Common.{◌≡◌, ◌∙◌, Some, sym, ap, filter, subst}
use Rattle.std.specs.List.{find}
use Rattle.pfs_store_contract.specs.Leaving.{is_flushed}
use Rattle.pfs_store_contract.specs.Calls.{other_than}
use Rattle.pfs_store_contract.proofs.LeavingLaws.{retained-same}
use Rattle.pfs_store_index.proofs.Leavings.{state_number}
use Rattle.pfs_store_records.proofs.Rising.{found-number, has_number}
use Rattle.pfs_store_index.proofs.RisingWalks.{survive-kept, survive-removed}
use Rattle.pfs_store_index.proofs.flushing.strike.Goals as goal

pub take_out-requires-clause-held : goal.take_out-requires-clause-held
take_out-requires-clause-held g c =
    let f = c.read-state.ensures.value in
    subst (λ k. find (has_number state_number k) c.args.indexes.now.states ≡ Some c.read-state.result) (sym (found-number state_number c.args.number c.read-state.result c.args.indexes.now.states f)) f

pub returns-then-is_flushed-clause-states : goal.returns-then-is_flushed-clause-states
returns-then-is_flushed-clause-states g c =
    let f = c.read-state.ensures.value in
    c.take_out.ensures.states ∙ ap (λ n. filter (other_than n) c.args.indexes.now.states) (found-number state_number c.args.number c.read-state.result c.args.indexes.now.states f)
    ∙ survive-removed state_number (is_flushed c.args.indexes.now.config.profile c.args.what.dir c.args.what.source c.args.what.rule) c.args.number c.read-state.result c.args.indexes.now.states c.state_numbers_rise.ensures f (sym (c.if-is_flushed.ensures ∙ ap (λ q. is_flushed q c.args.what.dir c.args.what.source c.args.what.rule c.read-state.result) c.profile-profile.ensures))

pub returns-else-is_flushed-clause-states : goal.returns-else-is_flushed-clause-states
returns-else-is_flushed-clause-states g c =
    survive-kept state_number (is_flushed c.args.indexes.now.config.profile c.args.what.dir c.args.what.source c.args.what.rule) c.args.number c.read-state.result c.args.indexes.now.states c.state_numbers_rise.ensures c.read-state.ensures.value (sym (c.if-is_flushed.ensures ∙ ap (λ q. is_flushed q c.args.what.dir c.args.what.source c.args.what.rule c.read-state.result) c.profile-profile.ensures))

pub returns-else-is_flushed-clause-nodes : goal.returns-else-is_flushed-clause-nodes
returns-else-is_flushed-clause-nodes g c = retained-same c.args.indexes.now.config c.args.indexes.now.states c.args.now c.args.indexes.now.nodes
