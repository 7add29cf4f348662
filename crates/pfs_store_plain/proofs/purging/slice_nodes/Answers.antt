-- Answers of slice_nodes: the slice leaves the lists as defined (`world`), and what it reports (`answer`).
use Rattle.std.proofs.Common.{[], rules}
use Rattle.pfs_store_contract.proofs.SliceLaws.{node_slice-parts, node_slice-told}
use Rattle.pfs_store_contract.specs.Worlds.{lists}
use Rattle.pfs_store_plain.proofs.purging.slice_nodes.Goals as goal

pub returns-clause-world : goal.returns-clause-world
returns-clause-world c = λ state_numbers made.
    node_slice-parts c.args.config.now (lists c.args.states.now c.args.nodes.now.items state_numbers c.args.pending.now.items made) c.args.now
    c.keep_nodes.new.nodes.items c.take_off.new.pending.items c.begin_round.new.pending.items c.share_of-examined.result
    (search rules) (search rules) (search rules) (search rules)

pub returns-clause-answer : goal.returns-clause-answer
returns-clause-answer c =
    node_slice-told c.args.config.now (lists c.args.states.now c.args.nodes.now.items [] c.args.pending.now.items 0) c.args.now c.len-held.result c.len-2.result c.share_of-examined.result
    c.keep_nodes.new.nodes.items c.take_off.new.pending.items c.begin_round.new.pending.items
    (returns-clause-world c [] 0)
    (search rules) (search rules) (search rules) (search rules)
