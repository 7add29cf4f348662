-- Answers of IndexStore::pass_over: what is known after it (`states`, `nodes`).
use Rattle.std.proofs.Common.{subst}
use Rattle.pfs_conf_values.specs.Configs.{Conf}
use Rattle.pfs_store_index.specs.QuietPurges.{AreNodesKnown, AreStatesKnown}
use Rattle.pfs_store_index.proofs.store.IndexStore.pass_over.Goals as goal

pub returns-clause-states : goal.returns-clause-states
returns-clause-states g c = λ most.
    subst (λ (k : Conf). AreStatesKnown k c.turn.new.self.world most c.states_known.result) c.turn.ensures.config (c.states_known.ensures most)

pub returns-clause-nodes : goal.returns-clause-nodes
returns-clause-nodes g c = λ most.
    subst (λ (k : Conf). AreNodesKnown k c.turn.new.self.world most c.nodes_known.result) c.turn.ensures.config (c.nodes_known.ensures most)
