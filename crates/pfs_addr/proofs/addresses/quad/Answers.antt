-- Answers of quad: what is read is the address of the definition, and nothing else is.
use Rattle.std.proofs.Common.{arith}
use Rattle.std.proofs.lemmas.Bool.Decides.{nat_tests}
use Rattle.pfs_addr.proofs.QuadLaws.{quad_none, quad_some, quad_more}
use Rattle.pfs_addr.proofs.addresses.quad.Goals as goal

pub returns-in_default : goal.returns-in_default
returns-in_default c = quad_none c.args.text.now c.in_default.ensures.value

pub returns-then-is_empty : goal.returns-then-is_empty
returns-then-is_empty c =
    quad_some c.args.text.now c.in-Some.rest.now c.in-Some.addr c.in-Some.ensures.family c.in-Some.ensures.value (grind (arith, nat_tests, c.if-is_empty.true))

pub returns-else-is_empty : goal.returns-else-is_empty
returns-else-is_empty c =
    quad_more c.args.text.now c.in-Some.rest.now c.in-Some.addr c.in-Some.ensures.value (grind (arith, nat_tests, c.if-is_empty.false))
