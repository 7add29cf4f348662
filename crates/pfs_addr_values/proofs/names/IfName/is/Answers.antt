-- Answers of is: names of one length are compared as they are kept.
use Rattle.std.proofs.Common.{◌∙◌, take, ap}
use Rattle.pfs_addr_values.proofs.PaddedNames.{same_padded}
use Rattle.std.specs.Str.{bytes_eq}
use Rattle.pfs_addr_values.proofs.names.IfName.is.Goals as goal

pub returns-then-self-other : goal.returns-then-self-other
returns-then-self-other c =
    c.same_bytes.ensures
    ∙ (same_padded 15 c.self.inside.bytes c.other.inside.bytes c.self.inside.len c.other.inside.len c.self.invariant c.other.invariant c.if-self-other.true
    ∙ (ap (λ x. bytes_eq x (take c.other.inside.len c.other.inside.bytes)) c.self.view_is ∙ ap (λ y. bytes_eq c.args.self.now y) c.other.view_is))
