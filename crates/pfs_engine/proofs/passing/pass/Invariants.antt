-- Invariant of pass: the seconds to come leave what all leave, of what is held and of the guard.
use Rattle.std.proofs.Common.{◌≡◌, ◌≤◌, ◌-◌}
use Rattle.pfs_engine_machine.specs.Guards.{guard_after_seconds}
use Rattle.pfs_store_contract.specs.Passages.{purged_both}
use Rattle.pfs_store_contract.specs.Seconds.{purged_of, seconds, world_after_purges}
use Rattle.pfs_engine.proofs.passing.pass.Given as goal

-- the seconds to come are the rest of all
abbrev pub invariant-loop-turn : goal.invariant-loop-turn
invariant-loop-turn g l =
    let conf = l.fn.held.config in
    let w = l.held.held.world in
    let first = l.fn.held.held.world in
    record {
      order : l.at ≤ l.to;
      config : l.held.config ≡ conf;
      tables : l.held.held.tables ≡ l.fn.held.held.tables;
      all : world_after_purges conf w (seconds l.at l.to) ≡ world_after_purges conf first (seconds l.from l.to);
      guard : guard_after_seconds conf w l.guard (seconds l.at l.to) ≡ guard_after_seconds conf first l.fn.guard (seconds l.from l.to);
      purged : purged_both l.purged (purged_of g.S.Store.counts conf w (seconds l.at l.to)) ≡ purged_of g.S.Store.counts conf first (seconds l.from l.to);
    }

abbrev pub decreases-loop-turn : goal.decreases-loop-turn
decreases-loop-turn g l = l.to - l.at
