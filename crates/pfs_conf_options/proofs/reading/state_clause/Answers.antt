-- Answer of state_clause: each option of a clause that is read is within its bounds (`within`).
use Rattle.pfs_conf_options.proofs.ReadLaws.{gives_within}
use Rattle.pfs_conf_options.proofs.reading.state_clause.Goals as goal

pub returns-clause-within : goal.returns-clause-within
returns-clause-within c = gives_within c.clause.result c.clause.new.cursor c.args.cursor.now c.clause.ensures
