-- Answer of Signs::tell: the word of the entry tells the truth.
use Rattle.std.proofs.Common.{◌≡◌, ℕ, ◌≤◌, List, ◌++◌, length, take, drop, ap, sym, subst, ◌∙◌}
use Rattle.std.proofs.Math.Seq.{take-append_seam}
use Rattle.pfs_addr_values.specs.Addresses.{width_of}
use Rattle.pfs_eval.specs.Signs.{AreTrueWords}
use Rattle.pfs_eval.proofs.Telling.{entry-word}
use Rattle.pfs_eval.proofs.signs.Signs.tell.Goals as goal

-- what was lent comes back whole
whole : (new old : List ℕ) (n : ℕ) → length new ≡ n → take n (new ++ drop (length new) old) ≡ new
whole new old n e = ap (λ k. take k (new ++ drop (length new) old)) (sym e) ∙ take-append_seam new (drop (length new) old)

pub returns-in-V4 : goal.returns-in-V4
returns-in-V4 c = λ es e h.
    let bits = subst (λ b. c.args.bits ≤ width_of b) c.in-V4.is c.requires in
    let words = subst (λ (ws : List ℕ). AreTrueWords ws es) (sym c.self.view_is ∙ sym c.deref_mut.ensures.value) h in
    let told = c.tell_by.ensures es (entry-word es c.args.addr c.in-V4.bytes c.args.bits c.first_bits.result c.args.negated c.in-V4.is bits c.first_bits.ensures.value e) words in
    subst (λ (ws : List ℕ). AreTrueWords ws es)
    (sym (whole c.tell_by.new.words c.self.inside.words.items c.self.inside.words.len (c.tell_by.auto.words ∙ c.deref_mut.ensures.len))) told
