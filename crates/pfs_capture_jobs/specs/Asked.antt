-- What the words of one interface ask for, by what clap finds in them. (pfstrace(1))
use Rattle.std.specs.Prelude.{ℕ, true, ◌≡◌, ◌==◌, List, [], ◌∷◌, codes, Option, Some, None, Result, Ok, Err, option_map, option_and_then, unwrap_or, ⊤}
use Rattle.std.specs.Borrow.{Bor}
use Rattle.std.specs.List.{flat_map, slice_split}
use Rattle.clap.specs.Words.{App, HasKind, Row, Rule, Shape, Text, all_of, fault_of, first_of, matches_of, new_app, new_rule, with_rule}
use Rattle.clap.specs.Simple.{on_top}
use Rattle.clap.specs.declared.builder.action.ArgAction.{ArgAction}
use Rattle.clap.specs.declared.builder.action.ArgAction.TheVariants.{Append, Set}
use Rattle.pfs_addr.specs.Texts.{prefix_of}
use Rattle.pfs_addr_values.specs.Names.{name_of}
use Rattle.pfs_addr_values.specs.Prefixes.{Network}
use Rattle.pfs_capture_packets.specs.Ways.{mac_of}
use Rattle.pfs_capture_packets.specs.declared.ways.Mac.{Mac}
use Rattle.pfs_capture.specs.Points.{Point}
use Rattle.pfs_capture.specs.declared.points.InterfaceSide.TheVariants.{Behind, InFront}
use Rattle.pfs_words.specs.Words.{ByLinesIn, flag_rule, lines_flag}
use Rattle.pfs_capture_jobs.specs.declared.asking.InterfaceWords.{InterfaceWords}
use Rattle.pfs_capture_jobs.specs.declared.refusals.Mistake.{Mistake}
use Rattle.pfs_capture_jobs.specs.declared.refusals.Mistake.TheVariants as mistake
use Rattle.pfs_capture_jobs.specs.declared.refusals.WordsRefusal.{WordsRefusal}
use Rattle.pfs_capture_jobs.specs.declared.refusals.WordsRefusal.TheVariants as refusal

-- ---- the command line

-- an option by its long name, which is also its id, and one whose value help calls by a name
abbrev pub option_rule : ArgAction → Text → Rule
option_rule action id = record (new_rule id) { long = Some id; action = Some action }

abbrev pub named_rule : ArgAction → Text → Rule
named_rule action id = record (option_rule action id) { value_names = 1 }

-- the file for what pf answered, whose option was called "told" before
abbrev pub answers_rule : Rule
answers_rule = record (named_rule Set (codes "answers")) { aliases = codes "told" ∷ [] }

-- the program, which has a version, with its options and the name of a capture
abbrev pub sides_app : App
sides_app =
    with_rule (with_rule (with_rule (on_top (λ (s : Shape). record s { has_version = true }) (new_app (codes "pfstrace"))) (named_rule Append (codes "mac"))) (named_rule Append (codes "inside"))) (named_rule Append (codes "outside"))

abbrev pub answers_app : App
answers_app = with_rule (with_rule sides_app (option_rule Set (codes "interface"))) answers_rule

abbrev pub pfstrace_app : App
pfstrace_app = with_rule (with_rule answers_app (flag_rule lines_flag)) (new_rule (codes "CAPTURE"))

-- ---- the interface

-- the texts in the values of an option, each of which may have several with commas between them
abbrev pub pieces_of : List Text → List Text
pieces_of values = flat_map (slice_split (λ b. b == 44)) values

abbrev pub listed : Text → List Row → List Text
listed id rows = pieces_of (unwrap_or (all_of id rows) [])

-- each of them read, where each can be
abbrev pub all_read : {A B : Type 0} → (A → Option B) → List A → Option (List B)
all_read read [] = Some []
all_read read (x ∷ xs) = option_and_then (λ y. option_map (λ ys. y ∷ ys) (all_read read xs)) (read x)

-- what follows from what is read, or else a mistake
abbrev pub or_mistake : {A B : Type 0} → Mistake → Option A → (A → Result B Mistake) → Result B Mistake
or_mistake m None more = Err m
or_mistake m (Some x) more = more x

-- the networks of one side alone: those behind it, or else those in front of it, which may be none
abbrev pub sided : List ℕ → List Mac → List Network → List Network → Result Point Mistake
sided ifname macs [] outside = Ok (record { ifname = ifname; macs = macs; networks = outside; side = InFront })
sided ifname macs (n ∷ ns) [] = Ok (record { ifname = ifname; macs = macs; networks = n ∷ ns; side = Behind })
sided ifname macs (n ∷ ns) (m ∷ ms) = Err mistake.BothSides

-- the interface of this name, of these addresses
abbrev pub point_with : List Row → List ℕ → List Mac → Result Point Mistake
point_with rows ifname macs =
    or_mistake mistake.Inside (all_read prefix_of (listed (codes "inside") rows)) (λ inside.
    or_mistake mistake.Outside (all_read prefix_of (listed (codes "outside") rows)) (λ outside. sided ifname macs inside outside))

abbrev pub point_called : List Row → List ℕ → Result Point Mistake
point_called rows ifname = or_mistake mistake.Mac (all_read mac_of (listed (codes "mac") rows)) (λ macs. point_with rows ifname macs)

-- the interface that the words name, em0 where they name none; of several mistakes that of the first option in this order
abbrev pub named_point : List Row → Result Point Mistake
named_point rows = or_mistake mistake.Interface (name_of 15 (unwrap_or (first_of (codes "interface") rows) (codes "em0"))) (λ ifname. point_called rows ifname)

-- ---- what is asked

abbrev pub given_text : Option (Bor Text) → Option Text
given_text = option_map (λ s. s.now)

-- the interface, its capture, the file for what pf answered, and whether rows are wanted at once
abbrev pub IsAsked : List Row → InterfaceWords → Type 0
IsAsked rows a =
    (named_point rows ≡ Ok a.point) × (given_text a.capture ≡ first_of (codes "CAPTURE") rows) × (given_text a.answers ≡ first_of (codes "answers") rows) × ByLinesIn rows a.by_lines

-- words are refused for this mistake where they have it, and for nothing else but memory
abbrev pub IsRefused : {A : Type 0} → Mistake → Option A → WordsRefusal → Type 0
IsRefused m wanted (refusal.Clap e) = ⊥
IsRefused m wanted (refusal.Mistake k) = (k ≡ m) × (wanted ≡ None)
IsRefused m wanted refusal.Memory = ⊤

-- an interface is what the words name, or refused for their mistake
abbrev pub IsPointNamed : Result Point Mistake → Result Point WordsRefusal → Type 0
IsPointNamed wanted (Ok point) = wanted ≡ Ok point
IsPointNamed wanted (Err (refusal.Clap e)) = ⊥
IsPointNamed wanted (Err (refusal.Mistake m)) = wanted ≡ Err m
IsPointNamed wanted (Err refusal.Memory) = ⊤

-- the same of all that is asked
abbrev pub AskedIn : List Row → Result InterfaceWords WordsRefusal → Type 0
AskedIn rows (Ok a) = IsAsked rows a
AskedIn rows (Err (refusal.Clap e)) = ⊥
AskedIn rows (Err (refusal.Mistake m)) = named_point rows ≡ Err m
AskedIn rows (Err refusal.Memory) = ⊤

-- the words ask for it, or clap refuses them, or they have a mistake that clap does not know, or memory was refused
abbrev pub AskedBy : List Text → Result InterfaceWords WordsRefusal → Type 0
AskedBy words (Ok a) = (fault_of pfstrace_app words ≡ []) × IsAsked (matches_of pfstrace_app words) a
AskedBy words (Err (refusal.Clap e)) = HasKind (fault_of pfstrace_app words) e
AskedBy words (Err (refusal.Mistake m)) = (fault_of pfstrace_app words ≡ []) × (named_point (matches_of pfstrace_app words) ≡ Err m)
AskedBy words (Err refusal.Memory) = ⊤
