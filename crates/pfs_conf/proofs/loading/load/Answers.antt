-- Answers of load: its clauses `found`, `only`, `broken` and `fault`, each from what read gives.
use Rattle.pfs_conf.proofs.LoadLaws.{found, only, told_broken, is_fault}
use Rattle.pfs_conf.proofs.loading.load.Goals as goal

pub returns-clause-found : goal.returns-clause-found
returns-clause-found c = found c.args.text.now c.read.result c.read.ensures

pub returns-clause-only : goal.returns-clause-only
returns-clause-only c = λ conf r. only c.args.text.now c.read.result conf c.read.ensures r

pub returns-clause-broken : goal.returns-clause-broken
returns-clause-broken c = λ b n s k. told_broken c.args.text.now c.read.result b n c.read.ensures s k

pub returns-clause-fault : goal.returns-clause-fault
returns-clause-fault c = is_fault c.args.text.now c.read.result c.read.ensures
