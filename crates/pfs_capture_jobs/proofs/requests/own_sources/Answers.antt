-- Answer of own_sources: one capture more of one group more.
use Rattle.std.proofs.Common.{rules}
use Rattle.pfs_capture_jobs.proofs.AskingLaws.{own-next}
use Rattle.pfs_capture_jobs.proofs.requests.own_sources.Goals as goal

pub loop-group-preserved : goal.loop-group-preserved
loop-group-preserved c =
    own-next c.loop-group.yielded c.loop-group.sources.items c.push.new.self.items c.in-Some.group c.in_ok-own_source.field-0 (search rules) c.loop-group.invariant c.in_ok-own_source.ensures
