-- Answer of number_within: a number that is read is at most its bound, so it fits into 32 bits.
use Rattle.std.proofs.Common.{arith}
use Rattle.pfs_conf_tokens.proofs.ReaderLaws.{number_is}
use Rattle.pfs_conf_options.proofs.reading.number_within.Goals as goal

pub overflow_cast-result : goal.overflow_cast-result
overflow_cast-result c =
    let n = number_is c.from.result c.from-2.result c.args.cursor.now c.in_ok-value.value c.number.new.cursor c.in_ok-value.ensures in
    omega (arith, n, c.from.ensures, c.from-2.ensures)
