-- Answers of push_row: a replay reads the row as its columns, and these as its packet.
use Rattle.pfs_addr_values.specs.Addresses.{IsAddr, addr_text}
use Rattle.pfs_addr.proofs.PieceLaws.{addr_of_parts}
use Rattle.pfs_trace.proofs.Again.{row_again}
use Rattle.pfs_trace.proofs.Fields.{row_read}
use Rattle.pfs_trace.proofs.rows.push_row.Goals as goal

pub returns-clause-read : goal.returns-clause-read
returns-clause-read c =
    let row = c.args.row.now in
    let source = rw c.source.ensures at c.push_end.ensures.again in
    let destination = rw c.destination.ensures at c.push_end-2.ensures.again in
    let from : IsAddr row.packet.source.addr = (addr_of_parts (addr_text row.packet.source.addr) row.packet.source.addr source).0 in
    let to : IsAddr row.packet.destination.addr = (addr_of_parts (addr_text row.packet.destination.addr) row.packet.destination.addr destination).0 in
    row_read row c.requires.second c.requires.name c.requires.said from to

pub returns-clause-again : goal.returns-clause-again
returns-clause-again c =
    let source = rw c.source.ensures at c.push_end.ensures.again in
    let destination = rw c.destination.ensures at c.push_end-2.ensures.again in
    row_again c.args.row.now c.requires.family c.requires.second c.requires.name c.requires.said source destination
