-- Answers of read_config: the text reads as what is returned (`ok`), or has the fault that is reported (`err`).
use Rattle.pfs_cli.proofs.Replaying.{ended-sound, kept-reads, kept-refuses}
use Rattle.pfs_cli.proofs.rules.read_config.Goals as goal

pub returns-in-Ok-load_config-clause-ok : goal.returns-in-Ok-load_config-clause-ok
returns-in-Ok-load_config-clause-ok g c rs er =
    kept-reads c.in-Ok.text.items rs c.in-Ok-load_config.config (c.in-Ok.ensures.text rs er) c.in-Ok-load_config.ensures.ok

pub returns-in-Err-load_config-clause-err : goal.returns-in-Err-load_config-clause-err
returns-in-Err-load_config-clause-err g c rs er =
    let fault = c.in-Err-load_config.fault in
    c.rules_fault.ensures.told rs (kept-refuses c.in-Ok.text.items rs fault (c.in-Ok.ensures.text rs er) c.in-Err-load_config.ensures.err)

pub returns-in-Ok-load_config-clause-sound : goal.returns-in-Ok-load_config-clause-sound
returns-in-Ok-load_config-clause-sound g c = ended-sound c.read_text.new.rules (c.in-Ok.ensures.ended c.in-Ok-load_config.ensures.ok.short) c.in-Ok.ensures.sound
