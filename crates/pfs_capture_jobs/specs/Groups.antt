-- The words of each interface: a group of them begins at each `--interface` but the first. Behind `--` none begins. (pfstrace(1))
use Rattle.std.specs.Prelude.{◌==◌, ◌||◌, Bool, false, List, [], ◌∷◌, map, codes, if◌then◌else◌}
use Rattle.std.specs.List.{onto_first, starts_with}
use Rattle.std.specs.Str.{bytes_eq}
use Rattle.clap.specs.Words.{Text}
use Rattle.pfs_capture_jobs.specs.declared.grouping.BeforeWord.{BeforeWord}
use Rattle.pfs_capture_jobs.specs.declared.grouping.BeforeWord.TheVariants as mark

-- a word that names an interface, in either form
abbrev pub names_interface : Text → Bool
names_interface word = bytes_eq word (codes "--interface") || starts_with (λ a b. a == b) word (codes "--interface=")

-- whether words behind a word are no options any more
abbrev pub ends_options : Text → Bool
ends_options word = bytes_eq word (codes "--")

-- what stands before the next word
abbrev pub mark_after : BeforeWord → Text → BeforeWord
mark_after mark.Over word = mark.Over
mark_after mark.Named word = if ends_options word then mark.Over else mark.Named
mark_after mark.Start word = if ends_options word then mark.Over else (if names_interface word then mark.Named else mark.Start)

-- whether a word begins a group, behind one that has an interface
abbrev pub begins_group : BeforeWord → Text → Bool
begins_group mark.Named word = names_interface word
begins_group other word = false

-- the words of the group that goes on, and those of each behind it
abbrev pub cut_words : BeforeWord → List Text → List (List Text)
cut_words m [] = [] ∷ []
cut_words m (word ∷ words) =
    if begins_group m word then [] ∷ onto_first word (cut_words (mark_after m word) words)
    else onto_first word (cut_words (mark_after m word) words)

-- the groups, each behind the program's name
abbrev pub word_groups : List Text → List (List Text)
word_groups [] = []
word_groups (name ∷ words) = map (λ group. name ∷ group) (cut_words mark.Start words)
