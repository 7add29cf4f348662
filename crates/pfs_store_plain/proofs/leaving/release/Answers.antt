-- Answer of release: where every state stays, every node is as before (`nodes`).
use Rattle.std.proofs.Common.{◌≡◌, ◌≤◌, ℕ, Bool, List, length, filter, map, arith}
use Rattle.pfs_conf_values.specs.Configs.{Conf}
use Rattle.pfs_store_contract.proofs.FilterLaws.{filter-all}
use Rattle.pfs_store_contract.proofs.LeavingLaws.{retained-same}
use Rattle.pfs_store_contract.specs.Leaving.{node_after_leaving}
use Rattle.pfs_store_contract.specs.declared.records.Node.{Node}
use Rattle.pfs_store_contract.specs.declared.records.State.{State}
use Rattle.pfs_store_plain.proofs.leaving.release.Goals as goal

none-released : (conf : Conf) (p : State → Bool) (states : List State) (now : ℕ) (nodes : List Node) → length states ≤ length (filter p states)
    → nodes ≡ map (node_after_leaving conf states (filter p states) now) nodes
none-released conf p states now nodes h =
    let all = filter-all p states h in rw all (retained-same conf states now nodes)

pub returns-else-count-before-clause-nodes : goal.returns-else-count-before-clause-nodes
returns-else-count-before-clause-nodes g c =
    none-released c.args.config.now (g.T.Test.passes c.args.test.now) c.args.before.now c.args.now c.args.nodes.now (omega (arith, c.count.ensures, c.if-count-before.false))
