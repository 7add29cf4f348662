-- Answers of reads_again: a canonical text reads as its configuration (`same`) and as no other (`only`).
use Rattle.pfs_conf_round_trip.proofs.WholeText.{text_again, text_alone}
use Rattle.pfs_conf_round_trip.proofs.reading_again.reads_again.Goals as goal

pub returns-clause-same : goal.returns-clause-same
returns-clause-same c = text_again c.args.config.now c.keeps_load_rules.ensures

pub returns-clause-only : goal.returns-clause-only
returns-clause-only c = λ other said reads. text_alone c.args.config.now c.keeps_load_rules.ensures other said reads
