-- Answers of Places::push: the number is the first by falling number, so the last by rising number (`entries`).
use Rattle.std.proofs.Common.{◌∙◌, ◌++◌, ◌∷◌, [], Some, ap, subst, sym}
use Rattle.std.specs.Prelude.{reverse}
use Rattle.std.specs.Map.{keys_of}
use Rattle.pfs_store_records.specs.Numbered.{HasPlace, NumberedPlaces}
use Rattle.pfs_store_records.specs.Records.{IsAbove}
use Rattle.pfs_store_records.proofs.Reversed.{place-reversed, push-reversed, rising-reversed}
use Rattle.pfs_store_records.proofs.places.Places.push.Goals as goal
use Rattle.pfs_store_records.proofs.places.Places.push.Goals.{in-Ok, in-Err}

pub returns-clause-entries : goal.returns-clause-entries
returns-clause-entries c =
    let above : IsAbove c.args.number (keys_of (reverse c.self.inside.falling.entries)) = subst (λ (n : NumberedPlaces). IsAbove c.args.number (keys_of n.entries)) (sym c.self.view_is) c.requires.above in
    elim c.match-insert.branch [
      | in-Ok b ↦
          rw b.result-is
          (push-reversed c.args.number c.args.place c.self.inside.falling.entries c.insert.new.self.entries above b.in-Ok.ensures.entries
          ∙ ap (λ (n : NumberedPlaces). n.entries ++ (c.args.number, c.args.place) ∷ []) c.self.view_is)
      | in-Err b ↦ rw b.result-is tt
    ]

pub returns-clause-updates : goal.returns-clause-updates
returns-clause-updates c = elim c.match-insert.branch [
  | in-Ok b ↦
      rw b.result-is
      (subst (λ (n : NumberedPlaces). HasPlace c.args.number (Some c.args.place) n.entries (reverse c.insert.new.self.entries)) c.self.view_is
      (place-reversed c.args.number (Some c.args.place) c.self.inside.falling.entries c.insert.new.self.entries c.self.invariant c.insert.ensures.ordered b.in-Ok.ensures.updates.0))
  | in-Err b ↦ rw b.result-is tt
]

pub returns-clause-ordered : goal.returns-clause-ordered
returns-clause-ordered c = rising-reversed c.insert.new.self.entries c.insert.ensures.ordered
