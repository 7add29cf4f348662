-- Answer of parse_addr: the address that is read is the one that the definition finds (`value`).
use Rattle.std.proofs.Common.{◌∙◌}
use Rattle.pfs_addr.proofs.PieceLaws.{addr_of_text, addr_reads, quad_first, groups_then}
use Rattle.pfs_addr.proofs.addresses.parse_addr.Goals as goal

pub returns-in-Some-clause-value : goal.returns-in-Some-clause-value
returns-in-Some-clause-value c = quad_first c.args.text.now c.in-Some.addr c.in-Some.ensures

pub returns-in-Some-clause-reads : goal.returns-in-Some-clause-reads
returns-in-Some-clause-reads c = addr_reads c.args.text.now _ (quad_first c.args.text.now c.in-Some.addr c.in-Some.ensures)

pub returns-in-Some-clause-only : goal.returns-in-Some-clause-only
returns-in-Some-clause-only c a h k = quad_first c.args.text.now c.in-Some.addr c.in-Some.ensures ∙ addr_of_text c.args.text.now a h k

pub returns-clause-value : goal.returns-clause-value
returns-clause-value c = groups_then c.args.text.now c.groups.result c.in_default.ensures c.groups.ensures

pub returns-clause-reads : goal.returns-clause-reads
returns-clause-reads c = addr_reads c.args.text.now c.groups.result (groups_then c.args.text.now c.groups.result c.in_default.ensures c.groups.ensures)

pub returns-clause-only : goal.returns-clause-only
returns-clause-only c a h k = groups_then c.args.text.now c.groups.result c.in_default.ensures c.groups.ensures ∙ addr_of_text c.args.text.now a h k
