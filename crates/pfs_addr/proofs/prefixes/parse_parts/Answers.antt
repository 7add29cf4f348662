-- Answers of parse_parts: the parts write what is read (`reads`), and what they write is read (`only`).
use Rattle.std.proofs.Common.{Some, ap, sym, arith, ◌≤◌, ◌∙◌}
use Rattle.pfs_addr_values.specs.Addresses.{width_of}
use Rattle.pfs_addr_values.specs.Prefixes.{Network}
use Rattle.pfs_addr.proofs.TextLaws.{parts_length, parts_same, parts_read}
use Rattle.pfs_addr.proofs.prefixes.parse_parts.Goals as goal

pub returns-in_err-bits-clause-only : goal.returns-in_err-bits-clause-only
returns-in_err-bits-clause-only c p h = absurd (cc (parts_length _ _ p h, c.parse_length.ensures, c.in_err-bits.was))

pub returns-then-bits-width-clause-only : goal.returns-then-bits-width-clause-only
returns-then-bits-width-clause-only c p h =
    let same = parts_same _ _ c.in_ok-addr.addr c.in_ok-bits.bits p _ c.parse_addr.ensures.only c.in_ok-addr.was (sym c.parse_length.ensures ∙ c.in_ok-bits.was) h in
    let short : c.in_ok-bits.bits ≤ width_of c.in_ok-addr.addr = same.0 in
    absurd (omega arith)

pub returns-clause-reads : goal.returns-clause-reads
returns-clause-reads c =
    parts_read _ _ c.in_ok-addr.addr c.in_ok-bits.bits _ c.in_ok-addr.ensures.reads.0 c.in_ok-addr.ensures.reads.1 (sym c.parse_length.ensures ∙ c.in_ok-bits.was) (omega arith) c.prefix.ensures.value

pub returns-clause-only : goal.returns-clause-only
returns-clause-only c p h =
    let same = parts_same _ _ c.in_ok-addr.addr c.in_ok-bits.bits p _ c.parse_addr.ensures.only c.in_ok-addr.was (sym c.parse_length.ensures ∙ c.in_ok-bits.was) h in
    ap (λ (q : Network). Some q) (c.prefix.ensures.value ∙ sym same.1)
