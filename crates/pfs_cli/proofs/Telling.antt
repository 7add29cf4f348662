-- What holds between two records of a run, and how a run ends.
use borrow.Author.Tests.{clash}
use Rattle.std.proofs.Common.{◌≡◌, ◌≤◌, ◌<◌, ◌+◌, ◌*◌, ◌++◌, ◌∙◌, ℕ, List, [], ◌∷◌, length, take, drop, Option, Some, None, Bool, true, false, refl, sym, ap, arith, subst, append_assoc, length-append, inl, inr}
use Rattle.std.specs.Prelude.{◌⊎◌, Result, Ok, Err, nat_lt, option_map}
use Rattle.std.proofs.lemmas.List.{append-nil, take-append-drop}
use Rattle.std.proofs.Math.Seq.{take-append_seam}
use Rattle.std.proofs.lemmas.Bool.Decides.{nat_tests}
use Rattle.std.specs.Io.KnownBytes.{Appends, Keeps}
use Rattle.csv.specs.Reading.{ChangesHeaders, Reached, ReadRecord, Ready, ExplainsRead, source_of, stops_reader, default_config, reader_state, strip_bom}
use Rattle.csv.specs.declared.error.ErrorKind.{ErrorKind}
use Rattle.csv.specs.declared.error.ErrorKind.TheVariants as kind
use Rattle.csv.specs.Machine.{Read, next_record}
use Rattle.csv.specs.declared.parser.State.{State}
use Rattle.csv.specs.declared.parser.State.TheVariants as state
use Rattle.csv.specs.declared.reader.Reader.{Reader}
use Rattle.csv.specs.declared.reader.Trim.TheVariants as trim
use Rattle.csv.proofs.ReadFacts.{rows-more, rows-end}
use Rattle.pfs_addr_values.specs.Packets.{row_limit}
use Rattle.pfs_conf_values.specs.Configs.{Conf}
use Rattle.pfs_engine_machine.specs.declared.events.Event.{Event}
use Rattle.pfs_engine_machine.specs.Machine.{Machine, start}
use Rattle.pfs_engine_machine.specs.Ways.{machine_after_ways, way, ways_of}
use Rattle.pfs_engine.specs.Views.{View}
use Rattle.pfs_streams.specs.Sinks.{SinkView, NotFlushed, OwesNoFlush}
use Rattle.pfs_trace.specs.declared.faults.TraceFault.{TraceFault}
use Rattle.pfs_trace.specs.declared.faults.TraceFault.TheVariants as fault
use Rattle.pfs_cli.specs.declared.records.RecordsStop.{RecordsStop}
use Rattle.pfs_cli.specs.declared.records.RecordsStop.TheVariants as stop
use Rattle.pfs_trace.specs.Columns.{is_header}
use Rattle.pfs_trace.specs.Events.{event_at}
use Rattle.pfs_cli_formats.specs.Lines.{row_text}
use Rattle.pfs_trace.specs.Traces.{Fields, Trace, events_from, events_of, trace_of}
use Rattle.pfs_trace.specs.Reading.{records_left, records_of}
use Rattle.pfs_cli_formats.specs.Reports.{lines_from, lines_of, end_line_of, report, report_of, AreFirstLines, BeginsReport}
use Rattle.pfs_cli.specs.Headers.{ReadsHeader}
use Rattle.pfs_cli.specs.Tallies.{LeavesOfRun, tally_of}
use Rattle.pfs_cli.specs.Tallying.{TalliesEvent}
use Rattle.pfs_cli.specs.declared.tallies.Tally.{Tally}
use Rattle.pfs_cli.proofs.Tallied.{TalliedSoFar, tallied-more, tallied-none}
use Rattle.pfs_cli.specs.RecordTurns.{Tells, TellsRows, WantsMemory, WritesLine, TakesEvent, TakesRecord}
use Rattle.pfs_trace.proofs.Rest.{records_left-more, records_left-end}
use Rattle.pfs_cli_formats.proofs.Runs.{machine_after_ways-more, lines_of-more, lines_of-none, outcomes-front, lines_from-front}
use Rattle.pfs_trace.proofs.Stepping.{last-way}

-- known bytes that did not grow
pub Appends-nothing : (a : Option (List ℕ)) → Appends a a []
Appends-nothing None = tt
Appends-nothing (Some xs) = sym (append-nil xs)

-- known bytes that grew twice
pub Appends-more : (a b c : Option (List ℕ)) (bs cs : List ℕ) → Appends a b bs → Appends b c cs → Appends a c (bs ++ cs)
Appends-more None b c bs cs p q = tt
Appends-more (Some xs) None c bs cs p q = absurd p
Appends-more (Some xs) (Some ys) None bs cs p q = absurd q
Appends-more (Some xs) (Some ys) (Some zs) bs cs p q = rw (q, p) (append_assoc xs bs cs)

-- known bytes that grew, and then did not
pub Appends-kept : (a b c : Option (List ℕ)) (bs : List ℕ) → Appends a b bs → Keeps b c → Appends a c bs
Appends-kept None b c bs p q = tt
Appends-kept (Some xs) None c bs p q = absurd p
Appends-kept (Some xs) (Some ys) None bs p q = absurd q
Appends-kept (Some xs) (Some ys) (Some zs) bs p q = q ∙ p

-- events, and then a trace
abbrev pub behind : List Event → Trace → Trace
behind es trace = (es ++ trace.0, trace.1)

below-limit : (rows : ℕ) → rows < row_limit → nat_lt rows row_limit ≡ true
below-limit rows h = grind (arith, nat_tests)

at-limit : (rows : ℕ) → row_limit ≤ rows → nat_lt rows row_limit ≡ false
at-limit rows h = grind (arith, nat_tests)

events_from-more : (conf : Conf) (rows : ℕ) (last : Option ℕ) (f : Fields) (fs : List Fields) (e : Event) → rows < row_limit → event_at conf (rows + 1) last f ≡ Ok e
    → events_from conf rows last (f ∷ fs) ≡ behind (e ∷ []) (events_from conf (rows + 1) (Some e.time) fs)
unfolding events_from
events_from-more conf rows last f fs e h q = rw (below-limit rows h, q) refl

events_from-fault : (conf : Conf) (rows : ℕ) (last : Option ℕ) (f : Fields) (fs : List Fields) (m : TraceFault) → rows < row_limit → event_at conf (rows + 1) last f ≡ Err m
    → events_from conf rows last (f ∷ fs) ≡ ([], Some m)
unfolding events_from
events_from-fault conf rows last f fs m h q = rw (below-limit rows h, q) refl

events_from-limit : (conf : Conf) (rows : ℕ) (last : Option ℕ) (f : Fields) (fs : List Fields) → row_limit ≤ rows → events_from conf rows last (f ∷ fs) ≡ ([], Some fault.TooManyRows)
unfolding events_from
events_from-limit conf rows last f fs h = rw (at-limit rows h) refl

events_from-end : (conf : Conf) (rows : ℕ) (last : Option ℕ) → events_from conf rows last [] ≡ ([], None)
unfolding events_from
events_from-end conf rows last = refl

next-is : (s s2 : State) (left z : List ℕ) (p : Read) (f : Fields) → next_record default_config s [] [] left ≡ Some p → f ≡ p.0 → p.1 ≡ s2 → p.2 ≡ z
    → records_left default_config s left ≡ f ∷ records_left default_config s2 z
next-is s s2 left z p f next first state rest = rw (first, ← state, ← rest) (records_left-more default_config s left p next)

-- the next record, where there is one
pub read-more : {S : Type 0} (rem : S → Option (List ℕ)) (a b : Reader S) (f : Fields) (left : List ℕ) → a.config ≡ default_config → source_of rem a ≡ Some left → ReadRecord rem a b true f
    → (z : List ℕ) × (source_of rem b ≡ Some z) × (records_left default_config a.state left ≡ f ∷ records_left default_config b.state z)
unfolding Reached
read-more rem a b f left config source r =
    let (z, at_z, (p, next, first, (state, rest))) = rows-more rem a b f default_config a.state left left [] config source (refl, refl) r in
    (z, at_z, next-is a.state b.state left z p f next first state rest)

-- and where there is none
pub read-end : {S : Type 0} (rem : S → Option (List ℕ)) (a b : Reader S) (f : Fields) (left : List ℕ) → a.config ≡ default_config → source_of rem a ≡ Some left → ReadRecord rem a b false f
    → records_left default_config a.state left ≡ []
read-end rem a b f left config source r = records_left-end default_config a.state left (rows-end rem a b f default_config left config source r)

-- a read of a reader that takes records of every length fails only for the reader below or for memory
pub failed-read : {S : Type 0} (rem : S → Option (List ℕ)) (a b : Reader S) (k : ErrorKind) → a.flexible ≡ true → ExplainsRead rem a b false k → stops_reader k ≡ true
failed-read rem a b (kind.Io e) flexible why = refl
failed-read rem a b kind.OutOfMemory flexible why = refl
failed-read rem a b (kind.UnequalLengths pos expected len) flexible why = absurd (clash (sym why.0 ∙ flexible))
failed-read rem a b (kind.Utf8 pos err) flexible why = absurd (clash why.0)
failed-read rem a b (kind.Serialize text) flexible why = absurd why
failed-read rem a b (kind.Deserialize pos err) flexible why = absurd why

-- what was read and written so far of a trace that begins with these records
pub record ToldSoFar {S : Type 0} (rem : S → Option (List ℕ)) (conf : Conf) (trace : Trace) (before now : Option (List ℕ)) (rows : ℕ) (m : Machine) (rdr : Reader S) : Type 0 where
  pub seen : List Event
  pub left : List ℕ
  pub source : source_of rem rdr ≡ Some left
  pub appended : Appends before now (lines_of conf seen)
  pub count : length seen ≡ rows
  pub holds : m ≡ machine_after_ways conf (start conf) seen
  pub split : trace ≡ behind seen (events_from conf rows m.last (records_left default_config rdr.state left))

-- and its tally
abbrev pub SoFar : {S : Type 0} → Bool → (S → Option (List ℕ)) → Conf → Trace → Option (List ℕ) → Option (List ℕ) → ℕ → Machine → Reader S → Tally → Type 0
SoFar counts rem conf trace before now rows m rdr tally = (h : ToldSoFar rem conf trace before now rows m rdr) × TalliedSoFar counts conf h.seen tally

pub so_far-start : {S : Type 0} (counts : Bool) (rem : S → Option (List ℕ)) (conf : Conf) (before : Option (List ℕ)) (rdr : Reader S) (xs : List ℕ) (tally : Tally) → source_of rem rdr ≡ Some xs → tally ≡ tally_of []
    → SoFar counts rem conf (events_from conf 0 None (records_left default_config rdr.state xs)) before before 0 (start conf) rdr tally
unfolding machine_after_ways
so_far-start counts rem conf before rdr xs tally source none = (
  record {
    seen = [];
    left = xs;
    source = source;
    appended = rw (lines_of-none conf) (Appends-nothing before);
    count = refl;
    holds = refl;
    split = refl;
  },
  tallied-none counts conf tally none,
)

-- the text of events and a line more
pub lines-more : (conf : Conf) (seen : List Event) (rows : ℕ) (m : Machine) (e : Event) → length seen ≡ rows → m ≡ machine_after_ways conf (start conf) seen
    → lines_of conf (seen ++ e ∷ []) ≡ lines_of conf seen ++ row_text (rows + 1) (way conf m e).0
lines-more conf seen rows m e n h = lines_of-more conf seen e ∙ rw (n, ← h) refl

pub so_far-more : {S : Type 0} (counts : Bool) (rem : S → Option (List ℕ)) (conf : Conf) (trace : Trace) (before now after : Option (List ℕ)) (rows : ℕ) (m v : Machine) (a b : Reader S) (f : Fields) (e : Event) (t : List ℕ)
    (was tally : Tally) → SoFar counts rem conf trace before now rows m a was → a.config ≡ default_config → rows < row_limit → ReadRecord rem a b true f
    → event_at conf (rows + 1) m.last f ≡ Ok e → Appends now after t → TakesEvent conf (rows + 1) m e t (Ok tt) v → TalliesEvent counts conf m e (Ok tt) was tally
    → SoFar counts rem conf trace before after (rows + 1) v b tally
so_far-more counts rem conf trace before now after rows m v a b f e t was tally (h, s) config few r judged grown (text, held) (w, is, added) =
    let (z, at_z, next) = read-more rem a b f h.left config h.source r in
    let new : v ≡ (way conf m e).1 = held refl in (
      record {
        seen = h.seen ++ e ∷ [];
        left = z;
        source = at_z;
        appended = rw (lines-more conf h.seen rows m e h.count h.holds, ← text) (Appends-more before now after (lines_of conf h.seen) t h.appended grown);
        count = simp length-append (omega (arith, h.count));
        holds = new ∙ (ap (λ (u : Machine). (way conf u e).1) h.holds ∙ sym (machine_after_ways-more conf (start conf) h.seen e));
        split = h.split ∙ rw (next, events_from-more conf rows m.last f (records_left default_config b.state z) e few judged, new, last-way conf m e)
            (ap (λ (es : List Event). (es, (events_from conf (rows + 1) (Some e.time) (records_left default_config b.state z)).1))
            (sym (append_assoc h.seen (e ∷ []) (events_from conf (rows + 1) (Some e.time) (records_left default_config b.state z)).0)));
      },
      tallied-more counts conf h.seen m e w was tally s h.holds is added,
    )

-- how a run may end
abbrev pub Ends : Conf → Trace → Option (List ℕ) → Option (List ℕ) → Result Unit RecordsStop → Type 0
Ends conf trace before after result = (t : List ℕ) × Appends before after t × Tells conf trace t result

-- and its rows
abbrev pub EndsRows : Conf → Trace → Option (List ℕ) → Option (List ℕ) → Result Unit RecordsStop → Type 0
EndsRows conf trace before after result = (t : List ℕ) × Appends before after t × TellsRows conf trace t result

-- what is told of the rows is told of the trace
pub rows-told : (conf : Conf) (trace : Trace) (t : List ℕ) (r : Result Unit RecordsStop) → TellsRows conf trace t r → Tells conf trace t r
rows-told conf trace t (Ok u) told = told
rows-told conf trace t (Err (stop.Fault f)) told = told
rows-told conf trace t (Err stop.Source) told = told
rows-told conf trace t (Err stop.Memory) told = inl told
rows-told conf trace t (Err stop.Write) told = told

first-text : {S : Type 0} (rem : S → Option (List ℕ)) (conf : Conf) (trace : Trace) (before now : Option (List ℕ)) (rows : ℕ) (m : Machine) (a : Reader S) (h : ToldSoFar rem conf trace before now rows m a)
    → lines_of conf h.seen ≡ lines_of conf (take (length h.seen) trace.0)
first-text rem conf trace before now rows m a h =
    let front : take (length h.seen) trace.0 ≡ h.seen = ap (λ (q : Trace). take (length h.seen) q.0) h.split ∙ take-append_seam h.seen (events_from conf rows m.last (records_left default_config a.state h.left)).0 in
    sym (ap (lines_of conf) front)

first-lines : {S : Type 0} (rem : S → Option (List ℕ)) (conf : Conf) (trace : Trace) (before now : Option (List ℕ)) (rows : ℕ) (m : Machine) (a : Reader S) (h : ToldSoFar rem conf trace before now rows m a)
    → AreFirstLines conf trace (lines_of conf h.seen)
first-lines rem conf trace before now rows m a h = (length h.seen, first-text rem conf trace before now rows m a h)

pub ends-source : {S : Type 0} (rem : S → Option (List ℕ)) (conf : Conf) (trace : Trace) (before now : Option (List ℕ)) (rows : ℕ) (m : Machine) (a : Reader S) → ToldSoFar rem conf trace before now rows m a
    → EndsRows conf trace before now (Err stop.Source)
ends-source rem conf trace before now rows m a h = (lines_of conf h.seen, h.appended, first-lines rem conf trace before now rows m a h)

-- the report, where no record is left
pub told-all : {S : Type 0} (rem : S → Option (List ℕ)) (conf : Conf) (trace : Trace) (before now : Option (List ℕ)) (rows : ℕ) (m : Machine) (a b : Reader S) (f : Fields) (h : ToldSoFar rem conf trace before now rows m a)
    → a.config ≡ default_config → ReadRecord rem a b false f → trace ≡ (h.seen, None)
told-all rem conf trace before now rows m a b f h config r =
    h.split ∙ rw (read-end rem a b f h.left config h.source r, events_from-end conf rows m.last) (ap (λ (es : List Event). (es, None)) (append-nil h.seen))

-- the last line of a report whose records are these events
abbrev end_line : Conf → List Event → List ℕ
end_line conf es = end_line_of (length es) (machine_after_ways conf (start conf) es)

-- the last line, where these are all events
last-line : (conf : Conf) (seen : List Event) (rows : ℕ) (m : Machine) → length seen ≡ rows → m ≡ machine_after_ways conf (start conf) seen → end_line_of rows m ≡ end_line conf seen
last-line conf seen rows m n h = rw (n, ← h) refl

cut-end : (text t line : List ℕ) (k : ℕ) → t ≡ take k line → text ++ line ≡ (text ++ t) ++ drop k line
cut-end text t line k e =
    let m : take k line ++ drop k line ≡ line = take-append-drop k line in
    ap (λ (l : List ℕ). text ++ l) (sym m) ∙ rw (← e) (simp append_assoc)

pub ends-end : {S : Type 0} (rem : S → Option (List ℕ)) (conf : Conf) (trace : Trace) (before now after : Option (List ℕ)) (rows : ℕ) (m : Machine) (a b : Reader S) (f : Fields) (result : Result Unit RecordsStop) (t : List ℕ)
    → ToldSoFar rem conf trace before now rows m a → a.config ≡ default_config → ReadRecord rem a b false f
    → Appends now after t → WritesLine (end_line_of rows m) t result → EndsRows conf trace before after result
ends-end rem conf trace before now after rows m a b f (Ok u) t h config r grown how =
    let all = told-all rem conf trace before now rows m a b f h config r in (
      lines_of conf h.seen ++ t,
      Appends-more before now after (lines_of conf h.seen) t h.appended grown,
      (ap (λ (q : Trace). q.1) all, rw (all, how, last-line conf h.seen rows m h.count h.holds) refl),
    )
ends-end rem conf trace before now after rows m a b f (Err (stop.Fault v)) t h config r grown how = absurd how
ends-end rem conf trace before now after rows m a b f (Err stop.Source) t h config r grown how = absurd how
ends-end rem conf trace before now after rows m a b f (Err stop.Memory) t h config r grown how =
    let (k, lines) = first-lines rem conf trace before now rows m a h in
    let all = told-all rem conf trace before now rows m a b f h config r in
    (lines_of conf h.seen, rw (how, append-nil) at (Appends-more before now after (lines_of conf h.seen) t h.appended grown), (k, lines, inr (ap (λ (q : Trace). q.1) all)))
ends-end rem conf trace before now after rows m a b f (Err stop.Write) t h config r grown how =
    let (k, cut) = how in
    let all = told-all rem conf trace before now rows m a b f h config r in
    let line = end_line conf h.seen in
    let cut_line : t ≡ take k line = cut ∙ ap (take k) (last-line conf h.seen rows m h.count h.holds) in (
      lines_of conf h.seen ++ t,
      Appends-more before now after (lines_of conf h.seen) t h.appended grown,
      (drop k line, rw all (cut-end (lines_of conf h.seen) t line k cut_line)),
    )

-- the events, where there is one record more than there may be
pub limit-all : {S : Type 0} (rem : S → Option (List ℕ)) (conf : Conf) (trace : Trace) (before now : Option (List ℕ)) (rows : ℕ) (m : Machine) (a b : Reader S) (f : Fields) (h : ToldSoFar rem conf trace before now rows m a)
    → a.config ≡ default_config → ReadRecord rem a b true f → row_limit ≤ rows → trace ≡ (h.seen, Some fault.TooManyRows)
limit-all rem conf trace before now rows m a b f h config r many =
    let (z, at_z, next) = read-more rem a b f h.left config h.source r in
    h.split ∙ rw (next, events_from-limit conf rows m.last f (records_left default_config b.state z) many) (ap (λ (es : List Event). (es, Some fault.TooManyRows)) (append-nil h.seen))

pub ends-limit : {S : Type 0} (rem : S → Option (List ℕ)) (conf : Conf) (trace : Trace) (before now : Option (List ℕ)) (rows : ℕ) (m : Machine) (a b : Reader S) (f : Fields) → ToldSoFar rem conf trace before now rows m a
    → a.config ≡ default_config → ReadRecord rem a b true f → row_limit ≤ rows → EndsRows conf trace before now (Err (stop.Fault fault.TooManyRows))
ends-limit rem conf trace before now rows m a b f h config r many =
    let all = limit-all rem conf trace before now rows m a b f h config r many in
    (lines_of conf h.seen, h.appended, (ap (λ (q : Trace). q.1) all, rw all refl))

-- the lines of the first events begin those of all
lines-front : (conf : Conf) (es fs : List Event) → (rest : List ℕ) × (lines_of conf (es ++ fs) ≡ lines_of conf es ++ rest)
lines-front conf es fs =
    let (rest, e) = outcomes-front conf (start conf) es fs in
    let (more, begins) = lines_from-front 1 (ways_of conf (start conf) es) rest in
    (more, ap (lines_from 1) e ∙ begins)

-- and the report
pub report-front : (conf : Conf) (es fs : List Event) (o : Option TraceFault) → (rest : List ℕ) × (report conf (es ++ fs, o) ≡ lines_of conf es ++ rest)
report-front conf es fs None =
    let (rest, e) = lines-front conf es fs in
    (rest ++ end_line conf (es ++ fs), ap (λ (t : List ℕ). t ++ end_line conf (es ++ fs)) e ∙ append_assoc (lines_of conf es) rest (end_line conf (es ++ fs)))
report-front conf es fs (Some f) = lines-front conf es fs

-- the lines of the first records begin the report
pub first-lines-begin : (conf : Conf) (trace : Trace) (text : List ℕ) → AreFirstLines conf trace text → BeginsReport conf trace text
first-lines-begin conf trace text (k, e) =
    let whole : take k trace.0 ++ drop k trace.0 ≡ trace.0 = take-append-drop k trace.0 in
    let (rest, begins) = report-front conf (take k trace.0) (drop k trace.0) trace.1 in
    (rest, ap (λ (es : List Event). report conf (es, trace.1)) (sym whole) ∙ (begins ∙ ap (λ (t : List ℕ). t ++ rest) (sym e)))

-- a text that is written whole, with the fault of its trace
pub whole-report : (conf : Conf) (ts t : List ℕ) (o : Option TraceFault) → (trace_of conf ts).1 ≡ o → t ≡ report conf (trace_of conf ts) → report_of conf ts ≡ (t, o)
whole-report conf ts t o fault_is text_is =
    ap (λ (w : List ℕ). (w, (trace_of conf ts).1)) (sym text_is) ∙ ap (λ (f : Option TraceFault). (t, f)) fault_is

report-begins : (conf : Conf) (seen : List Event) (e : Event) (more : Trace) → (rest : List ℕ) × (report conf (seen ++ (e ∷ more.0), more.1) ≡ lines_of conf (seen ++ e ∷ []) ++ rest)
report-begins conf seen e more =
    let q : (seen ++ e ∷ []) ++ more.0 ≡ seen ++ (e ∷ more.0) = append_assoc seen (e ∷ []) more.0 in
    let P : List Event → Type 0 = λ es. (rest : List ℕ) × (report conf (es, more.1) ≡ lines_of conf (seen ++ e ∷ []) ++ rest) in
    subst P q (report-front conf (seen ++ e ∷ []) more.0 more.1)

pub cut-line : (text t line more : List ℕ) (k : ℕ) → t ≡ take k line → (text ++ line) ++ more ≡ (text ++ t) ++ (drop k line ++ more)
cut-line text t line more k e =
    let m : take k line ++ drop k line ≡ line = take-append-drop k line in
    ap (λ (l : List ℕ). (text ++ l) ++ more) (sym m) ∙ rw (← e) (simp append_assoc)

-- a trace that has an event after these
pub one-more : {S : Type 0} (rem : S → Option (List ℕ)) (conf : Conf) (trace : Trace) (before now : Option (List ℕ)) (rows : ℕ) (m : Machine) (a b : Reader S) (f : Fields) (e : Event) (h : ToldSoFar rem conf trace before now rows m a)
    → a.config ≡ default_config → ReadRecord rem a b true f → rows < row_limit → event_at conf (rows + 1) m.last f ≡ Ok e
    → (more : Trace) × (trace ≡ (h.seen ++ (e ∷ more.0), more.1))
one-more rem conf trace before now rows m a b f e h config r few judged =
    let (z, at_z, next) = read-more rem a b f h.left config h.source r in (
      events_from conf (rows + 1) (Some e.time) (records_left default_config b.state z),
      h.split ∙ rw (next, events_from-more conf rows m.last f (records_left default_config b.state z) e few judged) refl,
    )

more-events : (seen : List Event) (e : Event) (trace more : Trace) → trace ≡ (seen ++ (e ∷ more.0), more.1) → length seen < length trace.0
more-events seen e trace more all = let same : length trace.0 ≡ length (seen ++ (e ∷ more.0)) = ap (λ (q : Trace). length q.0) all in rw same (simp length-append (omega arith))

-- the events, where the next record is faulty
pub fault-all : {S : Type 0} (rem : S → Option (List ℕ)) (conf : Conf) (trace : Trace) (before now : Option (List ℕ)) (rows : ℕ) (m : Machine) (a b : Reader S) (f : Fields) (u : TraceFault) (h : ToldSoFar rem conf trace before now rows m a)
    → a.config ≡ default_config → ReadRecord rem a b true f → rows < row_limit → event_at conf (rows + 1) m.last f ≡ Err u → trace ≡ (h.seen, Some u)
fault-all rem conf trace before now rows m a b f u h config r few judged =
    let (z, at_z, next) = read-more rem a b f h.left config h.source r in
    h.split ∙ rw (next, events_from-fault conf rows m.last f (records_left default_config b.state z) u few judged) (ap (λ (es : List Event). (es, Some u)) (append-nil h.seen))

-- the turn of a record that does not come to its end
pub ends-record : {S : Type 0} (rem : S → Option (List ℕ)) (conf : Conf) (trace : Trace) (before now after : Option (List ℕ)) (rows : ℕ) (m v : Machine) (a b : Reader S) (f : Fields) (stopped : RecordsStop) (t : List ℕ)
    → ToldSoFar rem conf trace before now rows m a → a.config ≡ default_config → ReadRecord rem a b true f → rows < row_limit
    → Appends now after t → TakesRecord conf (rows + 1) m f t (Err stopped) v → EndsRows conf trace before after (Err stopped)
ends-record rem conf trace before now after rows m v a b f (stop.Fault u) t h config r few grown how =
    let all = fault-all rem conf trace before now rows m a b f u h config r few how.0 in
    (lines_of conf h.seen, rw (how.1, append-nil) at (Appends-more before now after (lines_of conf h.seen) t h.appended grown), (ap (λ (q : Trace). q.1) all, rw all refl))
ends-record rem conf trace before now after rows m v a b f stop.Source t h config r few grown (e, judged, (how, held)) = absurd how
ends-record rem conf trace before now after rows m v a b f stop.Memory t h config r few grown (e, judged, (how, held)) =
    let (more, all) = one-more rem conf trace before now rows m a b f e h config r few judged in (
      lines_of conf h.seen,
      rw (how, append-nil) at (Appends-more before now after (lines_of conf h.seen) t h.appended grown),
      (length h.seen, first-text rem conf trace before now rows m a h, inl (more-events h.seen e trace more all)),
    )
ends-record rem conf trace before now after rows m v a b f stop.Write t h config r few grown (e, judged, ((k, cut), held)) =
    let (z, at_z, next) = read-more rem a b f h.left config h.source r in
    let line = row_text (rows + 1) (way conf m e).0 in
    let more : Trace = events_from conf (rows + 1) (Some e.time) (records_left default_config b.state z) in
    let all : trace ≡ (h.seen ++ (e ∷ more.0), more.1) =
    h.split ∙ rw (next, events_from-more conf rows m.last f (records_left default_config b.state z) e few judged) refl in
    let (rest, begins) = report-begins conf h.seen e more in (
      lines_of conf h.seen ++ t,
      Appends-more before now after (lines_of conf h.seen) t h.appended grown,
      (drop k line ++ rest, rw all (begins ∙ rw (lines-more conf h.seen rows m e h.count h.holds) (cut-line (lines_of conf h.seen) t line rest k cut))),
    )

-- the loop's invariant
pub record Running {S W : Type 0} (counts : Bool) (rem : S → Option (List ℕ)) (begun : Reader S) (first : View) (before now : Option (List ℕ)) (held out : SinkView W) (rows : ℕ) (v : View) (rdr : Reader S) (tally : Tally) : Type 0 where
  pub plain : rdr.trim ≡ trim.None
  pub ready : Ready rdr
  pub config : rdr.config ≡ default_config
  pub flexible : rdr.flexible ≡ true
  pub passed_on : OwesNoFlush out
  pub at_once : NotFlushed held out
  pub rules : v.config ≡ first.config
  pub within : rows ≤ row_limit
  pub taken : v.taken ≤ 2 * rows
  pub so_far : (xs : List ℕ) → source_of rem begun ≡ Some xs
      → SoFar counts rem first.config (events_from first.config 0 None (records_left default_config begun.state xs)) before now rows v.machine rdr tally

-- a turn under rules that are these
pub TakesRecord-rules : (conf d : Conf) (row : ℕ) (m : Machine) (f : Fields) (t : List ℕ) (r : Result Unit RecordsStop) (v : Machine) → d ≡ conf → TakesRecord d row m f t r v → TakesRecord conf row m f t r v
TakesRecord-rules conf d row m f t r v same takes =
    let P : Conf → Type 0 = λ x. TakesRecord x row m f t r v in
    subst P same takes

events_of-header : (conf : Conf) (f : Fields) (fs : List Fields) → is_header f ≡ true → events_of conf (f ∷ fs) ≡ events_from conf 0 None fs
unfolding events_of
events_of-header conf f fs h = rw h refl

events_of-other : (conf : Conf) (f : Fields) (fs : List Fields) → is_header f ≡ false → events_of conf (f ∷ fs) ≡ ([], Some (fault.Columns 0))
unfolding events_of
events_of-other conf f fs h = rw h refl

events_of-none : (conf : Conf) → events_of conf [] ≡ ([], Some (fault.Columns 0))
unfolding events_of
events_of-none conf = refl

-- the records of a source, where the first is the header
pub trace-rest : {S : Type 0} (rem : S → Option (List ℕ)) (a b : Reader S) (f : Fields) (xs : List ℕ) → a.config ≡ default_config → source_of rem a ≡ Some xs → ReadRecord rem a b true f
    → is_header f ≡ true → ReadsHeader rem (records_left default_config a.state xs) b (Ok tt)
trace-rest rem a b f xs config source r header =
    let (z, at_z, next) = read-more rem a b f xs config source r in
    (z, at_z, λ conf. rw next (events_of-header conf f (records_left default_config b.state z) header))

-- of a trace whose header is not as it must be nothing is written or taken
abbrev pub HasNoRows : Conf → Trace → Result Unit RecordsStop → Type 0
HasNoRows conf trace result = Tells conf trace [] result × LeavesOfRun result trace.0

no-header : (conf : Conf) (trace : Trace) → trace ≡ ([], Some (fault.Columns 0)) → HasNoRows conf trace (Err (stop.Fault (fault.Columns 0)))
no-header conf trace all = ((ap (λ (q : Trace). q.1) all, rw (all, lines_of-none conf) refl), ap (λ (q : Trace). q.0) all)

pub told-other : {S : Type 0} (rem : S → Option (List ℕ)) (conf : Conf) (a b : Reader S) (f : Fields) (xs : List ℕ) → a.config ≡ default_config → source_of rem a ≡ Some xs → ReadRecord rem a b true f
    → is_header f ≡ false → HasNoRows conf (events_of conf (records_left default_config a.state xs)) (Err (stop.Fault (fault.Columns 0)))
told-other rem conf a b f xs config source r header =
    let (z, at_z, next) = read-more rem a b f xs config source r in
    no-header conf _ (rw next (events_of-other conf f (records_left default_config b.state z) header))

pub told-empty : {S : Type 0} (rem : S → Option (List ℕ)) (conf : Conf) (a b : Reader S) (f : Fields) (xs : List ℕ) → a.config ≡ default_config → source_of rem a ≡ Some xs → ReadRecord rem a b false f
    → HasNoRows conf (events_of conf (records_left default_config a.state xs)) (Err (stop.Fault (fault.Columns 0)))
told-empty rem conf a b f xs config source r = no-header conf _ (rw (read-end rem a b f xs config source r) (events_of-none conf))

-- a run under a configuration that is this one
pub ends-under : (conf d : Conf) (fs : List Fields) (before after : Option (List ℕ)) (r : Result Unit RecordsStop) → d ≡ conf → Ends d (events_of d fs) before after r → Ends conf (events_of conf fs) before after r
ends-under conf d fs before after r same ends =
    let P : Conf → Type 0 = λ x. Ends x (events_of x fs) before after r in
    subst P same ends

-- a reader at the start of a source, of which only the header row that is given was changed
pub at-start : {S : Type 0} (rem : S → Option (List ℕ)) (src : S) (a b : Reader S) (xs : List ℕ) → rem src ≡ Some xs → source_of rem a ≡ option_map strip_bom (rem src) → reader_state a ≡ state.StartRecord
    → ChangesHeaders a b → (source_of rem b ≡ Some (strip_bom xs)) × (records_left default_config (reader_state b) (strip_bom xs) ≡ records_of xs)
at-start rem src a b xs e source start same = (
  ap (source_of rem) same ∙ source ∙ ap (option_map strip_bom) e,
  ap (λ (s : State). records_left default_config s (strip_bom xs)) (ap reader_state same ∙ start),
)

-- a run that stopped before the first record
pub no-lines : (conf : Conf) (trace : Trace) → AreFirstLines conf trace []
no-lines conf trace = (0, sym (lines_of-none conf))

-- what is written where memory is refused
pub memory-lines : (conf : Conf) (trace : Trace) (t : List ℕ) → WantsMemory conf trace t ⊎ (t ≡ []) → AreFirstLines conf trace t
memory-lines conf trace t (inl (k, lines, more)) = (k, lines)
memory-lines conf trace t (inr none) = subst (AreFirstLines conf trace) (sym none) (no-lines conf trace)

-- a record whose event was taken
pub takes-event : (conf : Conf) (row : ℕ) (m : Machine) (f : Fields) (e : Event) (t : List ℕ) (r : Result Unit RecordsStop) (v : Machine) → event_at conf row m.last f ≡ Ok e
    → TakesEvent conf row m e t r v → TakesRecord conf row m f t r v
takes-event conf row m f e t (Ok u) v judged takes = (e, judged, takes)
takes-event conf row m f e t (Err (stop.Fault x)) v judged takes = absurd takes.0
takes-event conf row m f e t (Err stop.Source) v judged takes = (e, judged, takes)
takes-event conf row m f e t (Err stop.Memory) v judged takes = (e, judged, takes)
takes-event conf row m f e t (Err stop.Write) v judged takes = (e, judged, takes)
