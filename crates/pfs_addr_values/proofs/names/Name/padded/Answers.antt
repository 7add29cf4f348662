-- Answers of Name::padded: the bytes of the text followed by zeros are a name, and the one of that text.
use Rattle.std.proofs.Common.{◌∙◌, ◌++◌, ap, length, take, drop, replicate}
use Rattle.std.proofs.Math.Seq.{take-append_seam}
use Rattle.pfs_addr_values.proofs.Laying.{padded_of}
use Rattle.pfs_addr_values.proofs.names.Name.padded.Goals as goal

pub invariant_of-result : goal.invariant_of-result
invariant_of-result g c = padded_of g.row.N c.args.text.now _ c.copy_from_slice.ensures.after c.requires

pub returns : goal.returns
returns g c =
    ap (λ xs. take (length c.args.text.now) (xs ++ drop (length c.args.text.now) (replicate g.row.N 0))) c.copy_from_slice.ensures.after
    ∙ take-append_seam c.args.text.now _
