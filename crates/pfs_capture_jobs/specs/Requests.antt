-- What the words of all interfaces ask for together. (pfstrace(1))
use Rattle.std.specs.Prelude.{◌≡◌, ◌⊎◌, Bool, true, false, List, [], ◌∷◌, length, map, count_by, nat_le, nat_lt, is_some, Option, None, Some, Result, Ok, Err, option_and_then, if◌then◌else◌, ⊤}
use Rattle.std.specs.Borrow.{Bor}
use Rattle.std.specs.List.{list_any}
use Rattle.std.specs.Option.{option_map_or}
use Rattle.clap.specs.Words.{Text}
use Rattle.pfs_words.specs.Words.{file_of, is_standard}
use Rattle.pfs_capture_jobs.specs.Asked.{AskedBy, given_text}
use Rattle.pfs_capture_jobs.specs.declared.asking.InterfaceWords.{InterfaceWords}
use Rattle.pfs_capture_jobs.specs.declared.refusals.Mistake.{Mistake}
use Rattle.pfs_capture_jobs.specs.declared.refusals.Mistake.TheVariants as mistake
use Rattle.pfs_capture_jobs.specs.declared.refusals.WordsRefusal.{WordsRefusal}
use Rattle.pfs_capture_jobs.specs.declared.refusals.WordsRefusal.TheVariants as refusal
use Rattle.pfs_capture_jobs.specs.declared.wanted.Output.{Output}
use Rattle.pfs_capture_jobs.specs.declared.wanted.TraceRequest.{TraceRequest}
use Rattle.pfs_capture_jobs.specs.declared.wanted.CaptureSource.{CaptureSource}

-- a name, where one is given, or else another
abbrev pub or_name : Option (Bor Text) → Option (Bor Text) → Option (Bor Text)
or_name (Some name) more = Some name
or_name None more = more

-- the first capture that is named, and the first file for what pf answered
abbrev pub first_capture : List InterfaceWords → Option (Bor Text)
first_capture [] = None
first_capture (a ∷ more) = or_name a.capture (first_capture more)

abbrev pub first_answers : List InterfaceWords → Option (Bor Text)
first_answers [] = None
first_answers (a ∷ more) = or_name a.answers (first_answers more)

-- whether a name that is given stands for a standard stream
abbrev pub is_dash : Option (Bor Text) → Bool
is_dash name = option_map_or (λ s. is_standard s.now) name false

-- the file of a name that is given; none stands for standard input
abbrev pub named_file : Option (Bor Text) → Option Text
named_file name = option_and_then (λ s. file_of s.now) name

-- One of them names the file for what pf answered, which is not standard output: that has the trace. Rows are wanted at once where one
-- of them wants it.
abbrev pub wanted_output : List InterfaceWords → Result Output Mistake
wanted_output asked =
    if nat_lt 1 (count_by (λ a. is_some a.answers) asked) then Err mistake.AnswersTwice
    else (if is_dash (first_answers asked) then Err mistake.AnswersOut
    else Ok (record { answers = first_answers asked; by_lines = list_any (λ a. a.by_lines) asked }))

-- whether one capture is that of all interfaces; else each has one of its own, of which one may be standard input
abbrev pub captures_shared : List InterfaceWords → Result Bool Mistake
captures_shared asked =
    if nat_le (count_by (λ a. is_some a.capture) asked) 1 then Ok true
    else (if nat_lt (count_by (λ a. is_some a.capture) asked) (length asked) then Err mistake.Captures
    else (if nat_lt 1 (count_by (λ a. is_dash a.capture) asked) then Err mistake.StandardTwice else Ok false))

-- the one capture of all interfaces
abbrev pub IsShared : List InterfaceWords → CaptureSource → Type 0
IsShared asked s = (s.points.items ≡ map (λ a. a.point) asked) × (given_text s.name ≡ named_file (first_capture asked))

-- a capture of each interface
abbrev pub AreOwn : List InterfaceWords → List CaptureSource → Type 0
AreOwn [] [] = ⊤
AreOwn (a ∷ more) (s ∷ ss) = (s.points.items ≡ a.point ∷ []) × (given_text s.name ≡ named_file a.capture) × AreOwn more ss
AreOwn asked sources = ⊥

-- the captures of all
abbrev pub AreSources : List InterfaceWords → Bool → List CaptureSource → Type 0
AreSources asked true (s ∷ []) = IsShared asked s
AreSources asked true sources = ⊥
AreSources asked false sources = AreOwn asked sources

-- what was asked is what each group of words asks for
abbrev pub AllAsk : List (List Text) → List InterfaceWords → Type 0
AllAsk [] [] = ⊤
AllAsk (words ∷ groups) (a ∷ more) = AskedBy words (Ok a) × AllAsk groups more
AllAsk groups asked = ⊥

-- the first group that asks for nothing is refused for this
abbrev pub FirstRefused : List (List Text) → WordsRefusal → Type 0
FirstRefused [] f = ⊥
FirstRefused (words ∷ groups) f = AskedBy words (Err f) ⊎ ((a : InterfaceWords) × AskedBy words (Ok a) × FirstRefused groups f)

abbrev pub OneRefused : List (List Text) → WordsRefusal → Type 0
OneRefused groups refusal.Memory = ⊤
OneRefused groups f = FirstRefused groups f

-- the captures of what is asked, or the mistake in their names
abbrev pub SourcesAre : List InterfaceWords → List CaptureSource → Type 0
SourcesAre asked sources = (shared : Bool) × (captures_shared asked ≡ Ok shared) × AreSources asked shared sources

abbrev pub SourcesRefused : List InterfaceWords → WordsRefusal → Type 0
SourcesRefused asked (refusal.Clap e) = ⊥
SourcesRefused asked (refusal.Mistake m) = captures_shared asked ≡ Err m
SourcesRefused asked refusal.Memory = ⊤

-- what is asked, as one request, or the mistake in it
abbrev pub RequestIn : List InterfaceWords → Result TraceRequest WordsRefusal → Type 0
RequestIn asked (Ok q) = (wanted_output asked ≡ Ok q.output) × SourcesAre asked q.sources.items
RequestIn asked (Err (refusal.Clap e)) = ⊥
RequestIn asked (Err (refusal.Mistake m)) = (wanted_output asked ≡ Err m) ⊎ ((o : Output) × (wanted_output asked ≡ Ok o) × (captures_shared asked ≡ Err m))
RequestIn asked (Err refusal.Memory) = ⊤

-- what groups of words ask for, or why one of them or all together are refused
abbrev pub RequestedBy : List (List Text) → Result TraceRequest WordsRefusal → Type 0
RequestedBy groups (Ok q) = (asked : List InterfaceWords) × AllAsk groups asked × RequestIn asked (Ok q)
RequestedBy groups (Err (refusal.Clap e)) = FirstRefused groups (refusal.Clap e)
RequestedBy groups (Err (refusal.Mistake m)) =
    FirstRefused groups (refusal.Mistake m) ⊎ ((asked : List InterfaceWords) × AllAsk groups asked × RequestIn asked (Err (refusal.Mistake m)))
RequestedBy groups (Err refusal.Memory) = ⊤
