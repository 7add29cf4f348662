-- Answer of ask_same: two tests of flags are the same.
use Rattle.std.proofs.Common.{ap, ◌∙◌}
use Rattle.pfs_conf_values.specs.declared.filters.Filter.{Filter}
use Rattle.pfs_eval.specs.Matching.{filter_of}
use Rattle.pfs_eval.specs.Parameters.{same_test}
use Rattle.pfs_eval.proofs.SameFlags.{same_tests}
use Rattle.pfs_eval.proofs.comparing.ask_same.Goals as goal

pub returns-in-Flags : goal.returns-in-Flags
returns-in-Flags c =
    let one = filter_of c.args.one.now in
    let two = filter_of c.args.two.now in
    rw c.in-Flags.is (same_tests one.flags two.flags c.same_test.result
    (c.same_test.ensures ∙ ap (λ (f : Filter). same_test f.flags c.filter_of-two.result.now.flags) c.filter_of-one.ensures
    ∙ ap (λ (f : Filter). same_test one.flags f.flags) c.filter_of-two.ensures))
