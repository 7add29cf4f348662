-- Answers of StatePhase::of_cookie: the handshake counts after no packets (`never`).
use Rattle.pfs_track.proofs.DoneLaws.{cookie-never}
use Rattle.pfs_track.proofs.state_phases.StatePhase.of_cookie.Goals as goal

pub returns-clause-never : goal.returns-clause-never
returns-clause-never c = rw c.of_cookie.ensures (cookie-never c.args.full)
