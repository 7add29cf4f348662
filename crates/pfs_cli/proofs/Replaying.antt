-- From the records of a trace to a replay, and what is kept of a rules text.
use borrow.Author.Tests.{clash}
use Rattle.std.proofs.Common.{◌≡◌, ◌≢◌, ◌≤◌, ◌<◌, ◌∙◌, ℕ, List, [], length, Option, Some, None, Bool, true, false, refl, sym, ap, subst, arith, inl, inr}
use Rattle.std.specs.Prelude.{Result, Ok, Err, nat_lt}
use Rattle.std.specs.Fmt.{option_append}
use Rattle.std.specs.Io.KnownBytes.{Consumes}
use Rattle.std.proofs.lemmas.Bool.Decides.{nat_tests}
use Rattle.std.proofs.lemmas.List.{append-nil}
use Rattle.pfs_trace.specs.Traces.{trace_of}
use Rattle.pfs_cli.proofs.Telling.{first-lines-begin, whole-report}
use Rattle.pfs_trace.specs.declared.faults.TraceFault.{TraceFault}
use Rattle.pfs_trace.specs.declared.faults.TraceFault.TheVariants as trace
use Rattle.pfs_cli.specs.declared.faults.ReplayFault.{ReplayFault}
use Rattle.pfs_cli.specs.declared.faults.ReplayFault.TheVariants as fault
use Rattle.pfs_conf.specs.declared.faults.LoadFault.{LoadFault}
use Rattle.pfs_conf_values.specs.Configs.{Conf}
use Rattle.pfs_conf.specs.Kinds.{no_memory}
use Rattle.pfs_conf.specs.Reads.{Reads}
use Rattle.pfs_conf.specs.Faults.{IsFault, memory, long, breaks, stops}
use Rattle.pfs_cli.specs.declared.records.RecordsStop.TheVariants as stop
use Rattle.pfs_cli.specs.Faults.{replay_fault}
use Rattle.pfs_streams.specs.Feeds.{FeedView, IsSound}
use Rattle.pfs_streams.specs.RulesKept.{KeepsEnough, rules_limit}
use Rattle.pfs_cli.specs.Rules.{AreRefused}
use Rattle.pfs_cli_formats.specs.Reports.{AreFirstLines, BeginsReport}
use Rattle.pfs_cli.specs.RecordTurns.{Tells}
use Rattle.pfs_cli.specs.JoinedEnds.{IsHalt}
use Rattle.pfs_cli.specs.declared.joined.Halt.TheVariants as halt
use Rattle.pfs_cli.specs.Refusing.{RefusesRules, RefusesText, IsFeedFault}
use Rattle.pfs_cli.specs.Replays.{Replays}
use Rattle.pfs_cli.specs.Refusing.{AnswersRun}
use Rattle.pfs_cli.specs.Tallies.{IsTallyOf, IsTallyOfReplay, LeavesOfReplay, LeavesOfRun, MayHaveNone, tally_of}
use Rattle.pfs_cli.specs.declared.records.RecordsStop.{RecordsStop}
use Rattle.pfs_cli.specs.declared.tallies.Tally.{Tally}
use Rattle.pfs_engine_machine.specs.declared.events.Event.{Event}

-- a faulty trace leaves its report
pub run-fault : (conf : Conf) (rs ts t : List ℕ) (f : TraceFault) → Reads rs conf → Tells conf (trace_of conf ts) t (Err (stop.Fault f)) → Replays rs ts t (Err (replay_fault f))
run-fault conf rs ts t (trace.Columns row) reads told = (conf, reads, whole-report conf ts t _ told.0 told.1)
run-fault conf rs ts t (trace.Field row column) reads told = (conf, reads, whole-report conf ts t _ told.0 told.1)
run-fault conf rs ts t (trace.TimeFell row) reads told = (conf, reads, whole-report conf ts t _ told.0 told.1)
run-fault conf rs ts t (trace.Table row) reads told = (conf, reads, whole-report conf ts t _ told.0 told.1)
run-fault conf rs ts t trace.TooManyRows reads told = (conf, reads, whole-report conf ts t _ told.0 told.1)

-- a trace that is not read to its end leaves the lines of its first records
pub run-cut : (conf : Conf) (rs ts t : List ℕ) (f : ReplayFault) → IsFeedFault f → Reads rs conf → AreFirstLines conf (trace_of conf ts) t → Replays rs ts t (Err f)
run-cut conf rs ts t f kind reads lines = elim kind [
  | inl e ↦ rw e (inr (conf, reads, lines, first-lines-begin conf (trace_of conf ts) t lines))
  | inr m ↦ elim m [
    | inl e ↦ rw e (inr (conf, reads, lines, first-lines-begin conf (trace_of conf ts) t lines))
    | inr e ↦ rw e (inr (conf, reads, lines, first-lines-begin conf (trace_of conf ts) t lines))
  ]
]

pub run-write : (conf : Conf) (rs ts t : List ℕ) → Reads rs conf → BeginsReport conf (trace_of conf ts) t → Replays rs ts t (Err fault.Write)
run-write conf rs ts t reads front = (conf, reads, front)

pub run-done : (conf : Conf) (rs ts t : List ℕ) → Reads rs conf → Tells conf (trace_of conf ts) t (Ok tt) → Replays rs ts t (Ok tt)
run-done conf rs ts t reads told = (conf, reads, whole-report conf ts t None told.0 told.1)

pub run-unflushed : (conf : Conf) (rs ts t : List ℕ) → Reads rs conf → Tells conf (trace_of conf ts) t (Ok tt) → Replays rs ts t (Err fault.Write)
run-unflushed conf rs ts t reads told = (conf, reads, ([], sym (append-nil t ∙ told.1)))

-- a feed of rules that gives no more leaves nothing
pub rules-cut : (rs ts : List ℕ) (f : ReplayFault) → IsFeedFault f → Replays rs ts [] (Err f)
rules-cut rs ts f kind = elim kind [
  | inl e ↦ rw e (inl refl)
  | inr m ↦ elim m [ inl e ↦ rw e (inl refl) | inr e ↦ rw e (inl refl) ]
]

-- a feed that ended, and did not fail, is sound
pub ended-sound : {R : Type 0} (f : FeedView R) → f.ended ≡ true → f.failures ≡ 0 → IsSound f
ended-sound f ended none = (none, λ spent. absurd (clash (sym spent.1 ∙ ended)))

-- a text that is no longer than it may be is kept whole
pub kept-short : (kept text : List ℕ) → KeepsEnough kept text → length kept ≤ rules_limit → kept ≡ text
kept-short kept text k short = let few : length text ≤ rules_limit = grind (arith, k.1) in k.0 few

kept-long : (kept text : List ℕ) → KeepsEnough kept text → rules_limit < length kept → (b : Bool) → nat_lt rules_limit (length text) ≡ b → rules_limit < length text
kept-long kept text k many true test = grind (arith, nat_tests, test)
kept-long kept text k many false test =
    let few : length text ≤ rules_limit = grind (arith, nat_tests, test) in
    let same : length kept ≡ length text = ap length (k.0 few) in
    absurd (omega arith)

-- a fault of what is kept of a text may be reported of the text
pub kept-fault : (kept text : List ℕ) (f : LoadFault) → f ≢ no_memory → KeepsEnough kept text → IsFault kept f → IsFault text f
kept-fault kept text f other k (memory e) = absurd (other e)
kept-fault kept text f other k (long many e) = long (kept-long kept text k many (nat_lt rules_limit (length text)) refl) e
kept-fault kept text f other k (breaks short broken e) =
    let P : List ℕ → Type 0 = λ t. IsFault t f in
    subst P (kept-short kept text k short) (breaks short broken e)
kept-fault kept text f other k (stops t behind short at line kind) =
    let P : List ℕ → Type 0 = λ t. IsFault t f in
    subst P (kept-short kept text k short) (stops t behind short at line kind)

-- the configuration of what is kept of a text is that of the text
pub kept-reads : (kept text : List ℕ) (conf : Conf) → KeepsEnough kept text → Reads kept conf → Reads text conf
kept-reads kept text conf k reads =
    let P : List ℕ → Type 0 = λ t. Reads t conf in
    subst P (kept-short kept text k reads.short) reads

-- a text is refused as what is kept of it is
pub kept-refused : (kept text : List ℕ) (f : LoadFault) → KeepsEnough kept text → AreRefused kept f → AreRefused text f
kept-refused kept text f k (other, none, is) = (
  other,
  λ conf reads. none conf (let P : List ℕ → Type 0 = λ t. Reads t conf in subst P (sym (k.0 reads.short)) reads),
  kept-fault kept text f other k is,
)

-- what holds of each fault that loading may report of a text
by-refusal : (text : List ℕ) (P : ReplayFault → Type 0) → ((f : LoadFault) → AreRefused text f → P (fault.Rules f)) → P fault.Memory → (f : ReplayFault) → RefusesRules text f → P f
by-refusal text P rules none_left (fault.Rules f) told = rules f told
by-refusal text P rules none_left (fault.Columns row) told = absurd told
by-refusal text P rules none_left (fault.Field row column) told = absurd told
by-refusal text P rules none_left (fault.TimeFell row) told = absurd told
by-refusal text P rules none_left (fault.Table row) told = absurd told
by-refusal text P rules none_left fault.TooManyRows told = absurd told
by-refusal text P rules none_left fault.Read told = absurd told
by-refusal text P rules none_left fault.Write told = absurd told
by-refusal text P rules none_left fault.Memory told = none_left
by-refusal text P rules none_left fault.Endless told = absurd told

-- it is reported of a text as of what is kept of it
pub kept-refuses : (kept text : List ℕ) (f : ReplayFault) → KeepsEnough kept text → RefusesRules kept f → RefusesRules text f
kept-refuses kept text f k = by-refusal kept (RefusesRules text) (λ g told. kept-refused kept text g k told) tt f

-- it may be reported of the text
pub rules-text : (text : List ℕ) (f : ReplayFault) → RefusesRules text f → RefusesText text f
rules-text text = by-refusal text (RefusesText text) (λ g told. told) tt

-- and ends a joined text before its trace
pub refuses-halt : (text : List ℕ) (f : ReplayFault) → RefusesRules text f → IsHalt (halt.Fault f)
refuses-halt text = by-refusal text (λ g. IsHalt (halt.Fault g)) (λ g told. tt) tt

-- rules that give no configuration leave nothing
pub text-refused : (rs ts : List ℕ) (f : ReplayFault) → RefusesText rs f → Replays rs ts [] (Err f)
text-refused rs ts (fault.Rules f) told = (told.1, refl)
text-refused rs ts (fault.Columns row) told = absurd told
text-refused rs ts (fault.Field row column) told = absurd told
text-refused rs ts (fault.TimeFell row) told = absurd told
text-refused rs ts (fault.Table row) told = absurd told
text-refused rs ts fault.TooManyRows told = absurd told
text-refused rs ts fault.Read told = inl refl
text-refused rs ts fault.Write told = absurd told
text-refused rs ts fault.Memory told = inl refl
text-refused rs ts fault.Endless told = inl refl

-- a fault of the rules that is passed on is one of the text
pub told-refused : (text : List ℕ) (e : ReplayFault) (f : LoadFault) → RefusesText text e → e ≡ fault.Rules f → AreRefused text f
told-refused text e f h is = rw is at h

-- a lent feed gives the bytes of its first read, and then the rest
pub lent-gives : (xs bs : List ℕ) (before after behind given : Option (List ℕ)) → before ≡ Some xs → Consumes before after bs → behind ≡ after → given ≡ option_append (Some bs) behind → given ≡ Some xs
lent-gives xs bs before None behind given is read same g = absurd (rw is at read)
lent-gives xs bs before (Some ys) behind given is read same g = rw same at g ∙ ap Some (sym (rw is at read))

-- ---- its tally

-- a replay of a run that leaves such events, by the fault that is reported
fault-leaves : (f : TraceFault) (others : List Event) → others ≡ [] → LeavesOfReplay (Err (replay_fault f)) others
fault-leaves (trace.Columns row) others none = none
fault-leaves (trace.Field row column) others none = none
fault-leaves (trace.TimeFell row) others none = none
fault-leaves (trace.Table row) others none = none
fault-leaves trace.TooManyRows others none = none

feed-leaves : (f : ReplayFault) (others : List Event) → IsFeedFault f → LeavesOfReplay (Err f) others
feed-leaves f others kind = elim kind [
  | inl e ↦ rw e tt
  | inr m ↦ elim m [ inl e ↦ rw e tt | inr e ↦ rw e tt ]
]

run-leaves : (outcome : Result Unit RecordsStop) (result : Result Unit ReplayFault) (others : List Event) → AnswersRun outcome result → LeavesOfRun outcome others → LeavesOfReplay result others
run-leaves (Ok u) (Ok v) others answers left = left
run-leaves (Ok u) (Err f) others answers left = rw answers tt
run-leaves (Err s) (Ok v) others answers left = absurd answers
run-leaves (Err (stop.Fault f)) (Err g) others answers left = rw answers (fault-leaves f others left)
run-leaves (Err stop.Source) (Err g) others answers left = feed-leaves g others answers
run-leaves (Err stop.Memory) (Err g) others answers left = feed-leaves g others answers
run-leaves (Err stop.Write) (Err g) others answers left = rw answers tt

-- the tally of a run is that of its replay
pub run-tally : (conf : Conf) (rs ts t : List ℕ) (outcome : Result Unit RecordsStop) (result : Result Unit ReplayFault) (tally : Tally) → Reads rs conf → AnswersRun outcome result
    → IsTallyOf true conf (trace_of conf ts) t (LeavesOfRun outcome) tally → IsTallyOfReplay rs ts t result tally
run-tally conf rs ts t outcome result tally reads answers is = inr (
  conf,
  reads,
  record {
    taken = is.taken;
    others = is.others;
    works = is.works;
    all = is.all;
    left = run-leaves outcome result is.others answers is.left;
    written = is.written;
    each = is.each;
    told = is.told;
  },
)

-- a feed that gives no more is not tallied
pub cut-tally : (rs ts : List ℕ) (f : ReplayFault) (tally : Tally) → IsFeedFault f → tally ≡ tally_of [] → IsTallyOfReplay rs ts [] (Err f) tally
cut-tally rs ts f tally kind none = inl (may, refl, none)
  where
    may : MayHaveNone (Err f)
    may = elim kind [
      | inl e ↦ rw e tt
      | inr m ↦ elim m [ inl e ↦ rw e tt | inr e ↦ rw e tt ]
    ]

refused-none : (rs : List ℕ) (f : ReplayFault) → RefusesText rs f → MayHaveNone (Err f)
refused-none rs (fault.Rules f) told = tt
refused-none rs (fault.Columns row) told = absurd told
refused-none rs (fault.Field row column) told = absurd told
refused-none rs (fault.TimeFell row) told = absurd told
refused-none rs (fault.Table row) told = absurd told
refused-none rs fault.TooManyRows told = absurd told
refused-none rs fault.Read told = tt
refused-none rs fault.Write told = absurd told
refused-none rs fault.Memory told = tt
refused-none rs fault.Endless told = tt

-- nor are rules that give no configuration
pub refused-tally : (rs ts : List ℕ) (f : ReplayFault) (tally : Tally) → RefusesText rs f → tally ≡ tally_of [] → IsTallyOfReplay rs ts [] (Err f) tally
refused-tally rs ts f tally told none = inl (refused-none rs f told, refl, none)
