-- Answers of replied: it is the step as defined.
use Rattle.std.proofs.Common.{◌∙◌, false, ap}
use Rattle.pfs_track.proofs.state_phases.replied.Goals as goal
use Rattle.pfs_track.specs.TcpPhases.{tcp_step}

pub returns : goal.returns
returns c = c.step.ensures.phase ∙ ap (λ p. tcp_step c.args.full p false c.args.flags) c.joined.ensures
