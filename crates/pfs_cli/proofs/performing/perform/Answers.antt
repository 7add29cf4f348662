-- Answers of perform: a job `Replay` writes what replay reports (`performs`) and has its tally (`work`); each job reports its own rules refused
-- (`refused`), and what `check` and `print` leave is one record.
use Rattle.std.proofs.Common.{inl, refl}
use Rattle.pfs_cli.proofs.performing.perform.Goals as goal

pub returns-in-Replay-clause-performs : goal.returns-in-Replay-clause-performs
returns-in-Replay-clause-performs g c rs ts er et =
    rw c.in-Replay.is (c.replay.ensures.reports rs ts er (rw c.in-Replay.is at et))

pub returns-in-Joined-clause-performs : goal.returns-in-Joined-clause-performs
returns-in-Joined-clause-performs g c rs ts er et = rw c.in-Joined.is (c.replay_joined.ensures.reports rs er)

pub returns-in-Joined-clause-refused : goal.returns-in-Joined-clause-refused
returns-in-Joined-clause-refused g c rs f er is = rw c.in-Joined.is (c.replay_joined.ensures.refused rs f er is)

pub returns-in-Replay-clause-refused : goal.returns-in-Replay-clause-refused
returns-in-Replay-clause-refused g c rs f er is = rw c.in-Replay.is (c.replay.ensures.refused rs f er is)

pub returns-in-Check-clause-performs : goal.returns-in-Check-clause-performs
returns-in-Check-clause-performs g c rs ts er et = rw c.in-Check.is (c.check.ensures.tells.answers rs er)

pub returns-in-Check-clause-refused : goal.returns-in-Check-clause-refused
returns-in-Check-clause-refused g c rs f er is = rw c.in-Check.is (c.check.ensures.tells.refused rs f er is)

pub returns-in-Check-clause-few : goal.returns-in-Check-clause-few
returns-in-Check-clause-few g c = rw c.in-Check.is c.check.ensures.tells.few

pub returns-in-Check-clause-read : goal.returns-in-Check-clause-read
returns-in-Check-clause-read g c is = inl (c.check.ensures.tells.read is)

pub returns-in-Check-clause-endless : goal.returns-in-Check-clause-endless
returns-in-Check-clause-endless g c is = inl (c.check.ensures.tells.endless is)

pub returns-in-Check-clause-write : goal.returns-in-Check-clause-write
returns-in-Check-clause-write g c is = c.check.ensures.tells.write is

pub returns-in-Check-clause-memory : goal.returns-in-Check-clause-memory
returns-in-Check-clause-memory g c is = (c.check.ensures.tells.memory is, inl refl)

pub returns-in-Check-clause-unwritten : goal.returns-in-Check-clause-unwritten
returns-in-Check-clause-unwritten g c f is = c.check.ensures.tells.unwritten f is

pub returns-in-Check-clause-bounds : goal.returns-in-Check-clause-bounds
returns-in-Check-clause-bounds g c = (c.check.ensures.tells.bound, refl)

pub returns-in-Check-clause-shows : goal.returns-in-Check-clause-shows
returns-in-Check-clause-shows g c = c.check.ensures.tells.shows c.requires.passed_on

pub returns-in-Show-clause-performs : goal.returns-in-Show-clause-performs
returns-in-Show-clause-performs g c rs ts er et = rw c.in-Show.is (c.print.ensures.tells.answers rs er)

pub returns-in-Show-clause-refused : goal.returns-in-Show-clause-refused
returns-in-Show-clause-refused g c rs f er is = rw c.in-Show.is (c.print.ensures.tells.refused rs f er is)

pub returns-in-Show-clause-few : goal.returns-in-Show-clause-few
returns-in-Show-clause-few g c = rw c.in-Show.is c.print.ensures.tells.few

pub returns-in-Show-clause-read : goal.returns-in-Show-clause-read
returns-in-Show-clause-read g c is = inl (c.print.ensures.tells.read is)

pub returns-in-Show-clause-endless : goal.returns-in-Show-clause-endless
returns-in-Show-clause-endless g c is = inl (c.print.ensures.tells.endless is)

pub returns-in-Show-clause-write : goal.returns-in-Show-clause-write
returns-in-Show-clause-write g c is = c.print.ensures.tells.write is

pub returns-in-Show-clause-memory : goal.returns-in-Show-clause-memory
returns-in-Show-clause-memory g c is = (c.print.ensures.tells.memory is, inl refl)

pub returns-in-Show-clause-unwritten : goal.returns-in-Show-clause-unwritten
returns-in-Show-clause-unwritten g c f is = c.print.ensures.tells.unwritten f is

pub returns-in-Show-clause-bounds : goal.returns-in-Show-clause-bounds
returns-in-Show-clause-bounds g c = (c.print.ensures.tells.bound, refl)

pub returns-in-Show-clause-shows : goal.returns-in-Show-clause-shows
returns-in-Show-clause-shows g c = c.print.ensures.tells.shows c.requires.passed_on

pub returns-in-Joined-clause-memory : goal.returns-in-Joined-clause-memory
returns-in-Joined-clause-memory g c is = (c.replay_joined.ensures.memory is, inl refl)

pub returns-in-Replay-clause-rules_alone : goal.returns-in-Replay-clause-rules_alone
returns-in-Replay-clause-rules_alone g c = rw c.in-Replay.is c.replay.ensures.rules_alone

pub returns-in-Replay-clause-trace_waits : goal.returns-in-Replay-clause-trace_waits
returns-in-Replay-clause-trace_waits g c = rw c.in-Replay.is c.replay.ensures.waits

pub returns-in-Joined-clause-input_waits : goal.returns-in-Joined-clause-input_waits
returns-in-Joined-clause-input_waits g c = rw c.in-Joined.is c.replay_joined.ensures.waits

pub returns-in-Check-clause-flushes : goal.returns-in-Check-clause-flushes
returns-in-Check-clause-flushes g c = c.check.ensures.tells.flushes

pub returns-in-Show-clause-flushes : goal.returns-in-Show-clause-flushes
returns-in-Show-clause-flushes g c = c.print.ensures.tells.flushes

pub returns-in-Joined-clause-work : goal.returns-in-Joined-clause-work
returns-in-Joined-clause-work g c rs ts er et = rw c.in-Joined.is (c.replay_joined.ensures.work rs er)

pub returns-in-Replay-clause-work : goal.returns-in-Replay-clause-work
returns-in-Replay-clause-work g c rs ts er et = rw c.in-Replay.is (c.replay.ensures.work rs ts er (rw c.in-Replay.is at et))

pub returns-in-Check-clause-work : goal.returns-in-Check-clause-work
returns-in-Check-clause-work g c rs ts er et = let (t, grown, answers) = c.check.ensures.tells.answers rs er in rw c.in-Check.is (t, grown, c.none.ensures)

pub returns-in-Show-clause-work : goal.returns-in-Show-clause-work
returns-in-Show-clause-work g c rs ts er et = let (t, grown, answers) = c.print.ensures.tells.answers rs er in rw c.in-Show.is (t, grown, c.none.ensures)
