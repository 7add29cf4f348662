-- The line of a record is its parts, one appended after the other: for push_way and push_outcome.
use Rattle.std.proofs.Common.{ℕ, List, [], ◌≡◌, ◌++◌, ◌∙◌, Option, Some, None, codes, append_assoc, ap, decimal, refl, sym}
use Rattle.std.proofs.lemmas.List.{append-nil}
use Rattle.pfs_conf_values.specs.declared.items.RuleNo.{RuleNo}
use Rattle.pfs_engine_machine.specs.declared.events.Outcome.{Outcome}
use Rattle.pfs_engine_machine.specs.declared.events.Outcome.TheVariants as outcome
use Rattle.pfs_engine_machine.specs.declared.events.Way.{Way}
use Rattle.pfs_cli_formats.specs.Lines.{mark_text, outcome_text, row_text, second_text}
use Rattle.pfs_cli_formats.specs.Words.{lead_of, note_text, number_text, rule_by, rule_sign, word_of}

said : (o : Outcome) (rest : List ℕ) → word_of o ++ (codes " " ++ (mark_text (rule_by o) ++ (note_text o ++ rest))) ≡ outcome_text o ++ rest
said (outcome.State r) rest = refl
said (outcome.New r) rest = refl
said (outcome.Answered r) rest = refl
said (outcome.Taken r) rest = refl
said (outcome.Asking r) rest = refl
said (outcome.Pass None) rest = refl
said (outcome.Pass (Some r)) rest = refl
said outcome.Cookie rest = refl
said (outcome.Stateless None) rest = refl
said (outcome.Stateless (Some r)) rest = refl
said (outcome.Block r) rest = refl
said (outcome.Lost r) rest = refl
said (outcome.Drop r l) rest = simp append_assoc
said (outcome.Conflict r) rest = refl
said (outcome.Kill r limits overload killed) rest = simp append_assoc
said outcome.Skip rest = refl
said (outcome.Expire removed) rest = refl
said (outcome.Add became) rest = simp append_assoc
said (outcome.Delete removed) rest = refl
said (outcome.Killed killed) rest = refl
said (outcome.HeldAnswer h) rest = simp append_assoc

mark-parts : (rule : Option RuleNo) → mark_text rule ≡ rule_sign rule ++ number_text rule
mark-parts (Some r) = refl
mark-parts None = refl

regroup : (space word sign number rest : List ℕ)
    → (space ++ (word ++ (space ++ sign))) ++ (number ++ rest) ≡ space ++ (word ++ (space ++ ((sign ++ number) ++ rest)))
regroup space word sign number rest = simp append_assoc

-- what follows a row, or a `>`
behind : (o : Outcome) → lead_of o ++ (number_text (rule_by o) ++ note_text o) ≡ codes " " ++ outcome_text o
behind o =
    regroup (codes " ") (word_of o) (rule_sign (rule_by o)) (number_text (rule_by o)) (note_text o)
    ∙ (ap (λ (t : List ℕ). codes " " ++ (word_of o ++ (codes " " ++ (t ++ note_text o)))) (sym (mark-parts (rule_by o)))
    ∙ ap (λ (t : List ℕ). codes " " ++ t) whole)
  where
    whole : word_of o ++ (codes " " ++ (mark_text (rule_by o) ++ note_text o)) ≡ outcome_text o
    whole =
        ap (λ (t : List ℕ). word_of o ++ (codes " " ++ (mark_text (rule_by o) ++ t))) (sym (append-nil (note_text o)))
        ∙ (said o [] ∙ append-nil (outcome_text o))

-- the parts of an outcome, one appended after the other
pub parted : (o : Outcome) (a b c d : List ℕ) → b ≡ a ++ lead_of o → c ≡ b ++ number_text (rule_by o) → d ≡ c ++ note_text o
    → d ≡ a ++ (codes " " ++ outcome_text o)
parted o a b c d hb hc hd =
    hd ∙ (ap (λ (t : List ℕ). t ++ note_text o) (hc ∙ ap (λ (t : List ℕ). t ++ number_text (rule_by o)) hb)
    ∙ (joined a (lead_of o) (number_text (rule_by o)) (note_text o) ∙ ap (λ (t : List ℕ). a ++ t) (behind o)))
  where
    joined : (a l n t : List ℕ) → ((a ++ l) ++ n) ++ t ≡ a ++ (l ++ (n ++ t))
    joined a l n t = simp append_assoc

-- the parts of a line are the line
pub row_parted : (row : ℕ) (w : Way) (a b c d e : List ℕ) → b ≡ a ++ decimal row → c ≡ b ++ (codes " " ++ outcome_text w.first) → d ≡ c ++ second_text w.second
    → e ≡ d ++ codes "\n" → e ≡ a ++ row_text row w
row_parted row w a b c d e hb hc hd he =
    he ∙ (ap (λ (t : List ℕ). t ++ codes "\n") (hd ∙ ap (λ (t : List ℕ). t ++ second_text w.second) (hc ∙ ap (λ (t : List ℕ). t ++ (codes " " ++ outcome_text w.first)) hb))
    ∙ joined a (decimal row) (codes " ") (outcome_text w.first) (second_text w.second) (codes "\n"))
  where
    joined : (a r s o t e : List ℕ) → (((a ++ r) ++ (s ++ o)) ++ t) ++ e ≡ a ++ (r ++ (s ++ (o ++ (t ++ e))))
    joined a r s o t e = simp append_assoc
