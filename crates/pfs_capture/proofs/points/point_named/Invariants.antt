-- Invariant of point_named: the interfaces so far have other names.
use Rattle.std.proofs.Common.{◌≡◌, drop}
use Rattle.pfs_capture.specs.Points.{point_named}
use Rattle.pfs_capture.proofs.points.point_named.Given as goal

abbrev pub invariant-loop-point : goal.invariant-loop-point
invariant-loop-point l = point_named l.name (drop l.point-index l.points) ≡ point_named l.name l.points
