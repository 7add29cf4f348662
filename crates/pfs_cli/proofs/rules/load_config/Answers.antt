-- Answer of load_config: a text whose rules are refused has the fault that is reported (`err`).
use Rattle.std.proofs.Common.{subst, sym, List, ℕ}
use Rattle.pfs_conf.specs.Reads.{Reads}
use Rattle.pfs_conf.specs.Faults.{IsFault}
use Rattle.pfs_cli.specs.Refusing.{RefusesRules}
use Rattle.pfs_cli.proofs.Ruling.{refuses}
use Rattle.pfs_cli.proofs.rules.load_config.Goals as goal

pub returns-clause-err : goal.returns-clause-err
returns-clause-err c =
    subst (RefusesRules c.args.text.items) (sym c.of_rules.ensures)
    (refuses c.args.text.items c.in-Err.fault
    (subst (λ (t : List ℕ). IsFault t c.in-Err.fault) c.as_slice.ensures.value c.in-Err.ensures.fault)
    (λ conf reads. c.in-Err.ensures.only conf (subst (λ (t : List ℕ). Reads t conf) (sym c.as_slice.ensures.value) reads)))
