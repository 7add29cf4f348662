-- Answers of number_up_to: a number that is read is within its bounds, so it fits into 32 bits.
use Rattle.std.proofs.Common.{arith}
use Rattle.pfs_conf_tokens.proofs.ReaderLaws.{number_is}
use Rattle.pfs_conf_settings.proofs.settings.number_up_to.Goals as goal

pub overflow_cast-result : goal.overflow_cast-result
overflow_cast-result c = let q = number_is _ _ _ _ _ c.in_ok-value.ensures in omega (arith, q.5, c.from.ensures, c.from-2.ensures)

pub returns-clause-least : goal.returns-clause-least
returns-clause-least c = let q = number_is _ _ _ _ _ c.in_ok-value.ensures in omega (arith, q.4, c.from.ensures, c.from-2.ensures)

pub returns-clause-greatest : goal.returns-clause-greatest
returns-clause-greatest c = let q = number_is _ _ _ _ _ c.in_ok-value.ensures in omega (arith, q.5, c.from.ensures, c.from-2.ensures)
