-- Answers of has_columns: each field is compared with its column's name.
use Rattle.std.proofs.Common.{arith, ◌≡◌, ◌∙◌}
use Rattle.std.proofs.lemmas.Grind.{common_steps}
use Rattle.csv.specs.Records.{fields_of}
use Rattle.pfs_trace.proofs.Heading.{has_names, header-names}
use Rattle.pfs_trace.proofs.columns.has_columns.Goals as goal

pub returns-then-eq-8 : goal.returns-then-eq-8
returns-then-eq-8 c =
    let named : c.eq-then-eq-8.result ≡ has_names (fields_of c.args.fields.now) = grind (arith, common_steps) in
    named ∙ header-names (fields_of c.args.fields.now)

pub returns-else-eq-8 : goal.returns-else-eq-8
returns-else-eq-8 c =
    let named : c.if-eq-7.value ≡ has_names (fields_of c.args.fields.now) = grind (arith, common_steps) in
    named ∙ header-names (fields_of c.args.fields.now)
