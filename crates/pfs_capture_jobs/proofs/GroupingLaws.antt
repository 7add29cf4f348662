-- Words that are cut into groups one after the other.
use Rattle.std.proofs.Common.{◌≡◌, ◌∙◌, Bool, true, false, List, [], ◌∷◌, ◌++◌, map, ap, sym, refl}
use Rattle.std.specs.Prelude.{if◌then◌else◌}
use Rattle.std.specs.List.{onto_first}
use Rattle.clap.specs.Words.{Text}
use Rattle.pfs_capture_jobs.specs.Groups.{begins_group, cut_words, mark_after, word_groups}
use Rattle.pfs_capture_jobs.specs.declared.grouping.BeforeWord.{BeforeWord}
use Rattle.pfs_capture_jobs.specs.declared.grouping.BeforeWord.TheVariants as mark

-- groups, the first of which goes on with these words, and the others begin with a name
abbrev pub glued : List Text → Text → List (List Text) → List (List Text)
glued own name [] = own ∷ []
glued own name (group ∷ groups) = (own ++ group) ∷ map (λ g. name ∷ g) groups

pub glue-start : (name : Text) (m : BeforeWord) (words : List Text) → glued (name ∷ []) name (cut_words m words) ≡ map (λ g. name ∷ g) (cut_words m words)
glue-start name m [] = refl
glue-start name m (w ∷ ws) = go (begins_group m w) (cut_words (mark_after m w) ws)
  where
    go : (b : Bool) (gs : List (List Text)) → glued (name ∷ []) name (if b then [] ∷ onto_first w gs else onto_first w gs) ≡ map (λ g. name ∷ g) (if b then [] ∷ onto_first w gs else onto_first w gs)
    go true gs = refl
    go false [] = refl
    go false (g ∷ gs) = refl

abbrev pub so-cut : List (List Text) → List Text → Text → BeforeWord → List Text → List (List Text)
so-cut done own name m words = done ++ glued own name (cut_words m words)

-- at first the group that goes on has the name alone
pub cut-first : (name : Text) (words own : List Text) (done : List (List Text)) → own ≡ name ∷ [] → done ≡ [] → word_groups (name ∷ words) ≡ so-cut done own name mark.Start words
cut-first name words own done e f =
    sym (glue-start name mark.Start words)
    ∙ (ap (λ (o : List Text). glued o name (cut_words mark.Start words)) (sym e) ∙ ap (λ (d : List (List Text)). d ++ glued own name (cut_words mark.Start words)) (sym f))
