-- Answer of read_rest: what was read is the block's body.
use Rattle.std.proofs.Common.{arith}
use Rattle.pfs_capture_files.proofs.FormLaws.{reads_rest}
use Rattle.pfs_capture_files.proofs.forms.read_rest.Goals as goal

pub returns-clause-is : goal.returns-clause-is
returns-clause-is g c xs e =
    reads_rest c.args.section.now c.take.new.self c.args.head xs c.fill.new.buffer.items _ _ (c.in_ok-fill.ensures.bytes xs e) (c.in_ok-fill.ensures.rest xs e) (omega arith) (rw c.deref.ensures.value at c.take.ensures.is)
