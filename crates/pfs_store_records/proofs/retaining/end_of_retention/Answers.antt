-- Answer of end_of_retention: a retention is short beside what a moment can be.
use Rattle.std.proofs.Common.{arith}
use Rattle.pfs_store_contract.proofs.Retentions.{retention-most}
use Rattle.pfs_store_records.proofs.retaining.end_of_retention.Goals as goal

pub overflow_add-result : goal.overflow_add-result
overflow_add-result c = omega (arith, c.requires, c.node_retention.ensures, retention-most c.args.config.now c.keeps_load_rules.ensures c.args.scope)
