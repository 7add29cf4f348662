-- Answer of read_frame: what was read is the record's bytes.
use Rattle.std.proofs.Common.{arith, drop}
use Rattle.pfs_capture_files.proofs.FormLaws.{frame_whole}
use Rattle.pfs_capture_files.proofs.forms.read_frame.Goals as goal

pub returns-clause-is : goal.returns-clause-is
returns-clause-is g c xs e = (
  drop c.args.frame.count xs,
  c.in_ok-fill.ensures.rest xs e,
  frame_whole c.args.header c.args.frame xs c.fill.new.buffer.items (c.in_ok-fill.ensures.bytes xs e) (omega arith),
)
