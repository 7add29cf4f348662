-- Answer of Signs::told: a true word tells the sign of the entry.
use Rattle.std.proofs.Common.{ℕ, ◌≤◌, List, sym, subst, ◌∙◌}
use Rattle.pfs_addr_values.specs.Addresses.{width_of}
use Rattle.pfs_eval.specs.Signs.{AreTrueWords}
use Rattle.pfs_eval.proofs.Telling.{told-sign}
use Rattle.pfs_eval.proofs.signs.Signs.told.Goals as goal

pub returns-in-V4 : goal.returns-in-V4
returns-in-V4 c = λ es h.
    let bits = subst (λ b. c.args.bits ≤ width_of b) c.in-V4.is c.requires in
    let words = subst (λ (ws : List ℕ). AreTrueWords ws es) (sym c.self.view_is ∙ sym c.deref.ensures.value) h in
    told-sign es c.args.addr c.in-V4.bytes c.args.bits c.first_bits.result c.told_by.result c.in-V4.is bits c.first_bits.ensures.value (c.told_by.ensures es words)
