-- Answer of count_rules: no rule has more states than there are, so one more is no overflow.
use Rattle.std.proofs.Common.{take, arith}
use Rattle.std.proofs.lemmas.List.{length-take-le}
use Rattle.std.proofs.lemmas.List.Sums.{count_by-le-length, length-filter}
use Rattle.pfs_store_contract.specs.Counts.{is_of_rule}
use Rattle.pfs_store_plain.proofs.purging.count_rules.Goals as goal

pub overflow_add-counts : goal.overflow_add-counts
overflow_add-counts c =
    let rule = c.state-item.result.rule.0 in
    let so_far = take c.loop-state.state-index c.args.states.now in
    let value = c.loop-state.invariant rule (omega arith) in
    omega (arith, value, length-filter (is_of_rule rule) so_far, count_by-le-length (is_of_rule rule) so_far, length-take-le c.loop-state.state-index c.args.states.now (omega arith))
