-- The tally of a run that ends.
use Rattle.std.proofs.Common.{◌≡◌, ◌≤◌, ◌<◌, ◌+◌, ◌++◌, ◌∙◌, ℕ, List, [], ◌∷◌, drop, Option, Some, None, Bool, true, false, refl, sym, ap, subst, append_assoc, inl, inr}
use Rattle.std.specs.Prelude.{Result, Ok, Err}
use Rattle.std.proofs.lemmas.List.{append-nil}
use Rattle.std.specs.Io.KnownBytes.{Appends}
use Rattle.csv.specs.Reading.{ReadRecord, default_config}
use Rattle.csv.specs.declared.reader.Reader.{Reader}
use Rattle.pfs_addr_values.specs.Packets.{row_limit}
use Rattle.pfs_conf_values.specs.Configs.{Conf}
use Rattle.pfs_engine_machine.specs.declared.events.Event.{Event}
use Rattle.pfs_engine_machine.specs.Machine.{Machine, start}
use Rattle.pfs_engine_machine.specs.Ways.{machine_after_ways, way}
use Rattle.pfs_engine.specs.declared.works.Work.{Work}
use Rattle.pfs_trace.specs.declared.faults.TraceFault.{TraceFault}
use Rattle.pfs_trace.specs.declared.faults.TraceFault.TheVariants as fault
use Rattle.pfs_trace.specs.Traces.{Fields, Trace, events_of}
use Rattle.pfs_cli_formats.specs.Lines.{row_text}
use Rattle.pfs_cli_formats.specs.Reports.{end_line_of, lines_of, report, BeginsReport}
use Rattle.pfs_cli.specs.declared.records.RecordsStop.{RecordsStop}
use Rattle.pfs_cli.specs.declared.records.RecordsStop.TheVariants as stop
use Rattle.pfs_cli.specs.declared.tallies.Tally.{Tally}
use Rattle.pfs_cli.specs.RecordTurns.{TakesRecord, TellsRows, WritesLine}
use Rattle.pfs_cli.specs.Tallies.{IsTallyOf, IsWorkOfRefused, LeavesOfRun, tally_of}
use Rattle.pfs_cli.specs.Tallying.{TalliesRecord, tally_with}
use Rattle.pfs_cli.proofs.Tallied.{TalliedSoFar, tallied-more, tallied-now, tally-more}
use Rattle.pfs_cli.proofs.Telling.{Appends-more, EndsRows, SoFar, cut-line, ends-end, ends-limit, ends-record, fault-all, first-lines-begin, limit-all, lines-more, one-more, report-front, told-all}

-- how a run may end, with its tally
abbrev pub EndsTallied : Bool → Conf → Trace → Option (List ℕ) → Option (List ℕ) → Result Unit RecordsStop → Tally → Type 0
EndsTallied counts conf trace before after result tally = (t : List ℕ) × Appends before after t × IsTallyOf counts conf trace t (LeavesOfRun result) tally

-- each run may leave no event
none-left : (r : Result Unit RecordsStop) → LeavesOfRun r []
none-left (Ok u) = refl
none-left (Err (stop.Fault f)) = refl
none-left (Err stop.Source) = tt
none-left (Err stop.Memory) = tt
none-left (Err stop.Write) = tt

-- what is written of the rows begins the report
told-begins : (conf : Conf) (trace : Trace) (t : List ℕ) (r : Result Unit RecordsStop) → TellsRows conf trace t r → BeginsReport conf trace t
told-begins conf trace t (Ok u) told = ([], sym (append-nil t ∙ told.1))
told-begins conf trace t (Err (stop.Fault f)) told = ([], sym (append-nil t ∙ told.1))
told-begins conf trace t (Err stop.Source) told = first-lines-begin conf trace t told
told-begins conf trace t (Err stop.Memory) (k, lines, more) = first-lines-begin conf trace t (k, lines)
told-begins conf trace t (Err stop.Write) told = told

-- the lines of events begin their report
report-own : (conf : Conf) (es : List Event) (o : Option TraceFault) → (rest : List ℕ) × (report conf (es, o) ≡ lines_of conf es ++ rest)
report-own conf es None = (_, refl)
report-own conf es (Some f) = ([], sym (append-nil (lines_of conf es)))

-- a run that has taken all events
tallied-all : (counts : Bool) (conf : Conf) (trace : Trace) (before after : Option (List ℕ)) (r : Result Unit RecordsStop) (seen : List Event) (o : Option TraceFault) (tally : Tally)
    → TalliedSoFar counts conf seen tally → trace ≡ (seen, o) → EndsRows conf trace before after r → EndsTallied counts conf trace before after r tally
tallied-all counts conf trace before after r seen o tally s all (t, grown, told) =
    let same : trace.0 ≡ seen = ap (λ (q : Trace). q.0) all in (
      t,
      grown,
      record {
        taken = seen;
        others = [];
        works = s.works;
        all = same ∙ sym (append-nil seen);
        left = none-left r;
        written = subst (λ (es : List Event). BeginsReport conf (es, trace.1) t) same (told-begins conf trace t r told);
        each = s.each;
        told = s.told;
      },
    )

-- a run that stops before an event, of which it has written nothing
tallied-first : {S : Type 0} (counts : Bool) (rem : S → Option (List ℕ)) (conf : Conf) (trace : Trace) (before now : Option (List ℕ)) (rows : ℕ) (m : Machine) (a : Reader S) (tally : Tally)
    → SoFar counts rem conf trace before now rows m a tally → (r : Result Unit RecordsStop) → ((others : List Event) → LeavesOfRun r others) → EndsTallied counts conf trace before now r tally
tallied-first counts rem conf trace before now rows m a tally (h, s) r left = (
  lines_of conf h.seen,
  h.appended,
  record {
    taken = h.seen;
    others = _;
    works = s.works;
    all = ap (λ (q : Trace). q.0) h.split;
    left = left _;
    written = report-own conf h.seen trace.1;
    each = s.each;
    told = tallied-now counts conf (machine_after_ways conf (start conf) h.seen) _ s.works tally s.told;
  },
)

pub tallied-source : {S : Type 0} (counts : Bool) (rem : S → Option (List ℕ)) (conf : Conf) (trace : Trace) (before now : Option (List ℕ)) (rows : ℕ) (m : Machine) (a : Reader S) (tally : Tally)
    → SoFar counts rem conf trace before now rows m a tally → EndsTallied counts conf trace before now (Err stop.Source) tally
tallied-source counts rem conf trace before now rows m a tally so = tallied-first counts rem conf trace before now rows m a tally so (Err stop.Source) (λ others. tt)

pub tallied-end : {S : Type 0} (counts : Bool) (rem : S → Option (List ℕ)) (conf : Conf) (trace : Trace) (before now after : Option (List ℕ)) (rows : ℕ) (m : Machine) (a b : Reader S) (f : Fields) (result : Result Unit RecordsStop) (t : List ℕ) (tally : Tally)
    → SoFar counts rem conf trace before now rows m a tally → a.config ≡ default_config → ReadRecord rem a b false f
    → Appends now after t → WritesLine (end_line_of rows m) t result → EndsTallied counts conf trace before after result tally
tallied-end counts rem conf trace before now after rows m a b f result t tally (h, s) config r grown how =
    tallied-all counts conf trace before after result h.seen None tally s (told-all rem conf trace before now rows m a b f h config r)
    (ends-end rem conf trace before now after rows m a b f result t h config r grown how)

pub tallied-limit : {S : Type 0} (counts : Bool) (rem : S → Option (List ℕ)) (conf : Conf) (trace : Trace) (before now : Option (List ℕ)) (rows : ℕ) (m : Machine) (a b : Reader S) (f : Fields) (tally : Tally)
    → SoFar counts rem conf trace before now rows m a tally → a.config ≡ default_config → ReadRecord rem a b true f → row_limit ≤ rows
    → EndsTallied counts conf trace before now (Err (stop.Fault fault.TooManyRows)) tally
tallied-limit counts rem conf trace before now rows m a b f tally (h, s) config r many =
    tallied-all counts conf trace before now (Err (stop.Fault fault.TooManyRows)) h.seen (Some fault.TooManyRows) tally s (limit-all rem conf trace before now rows m a b f h config r many)
    (ends-limit rem conf trace before now rows m a b f h config r many)

-- the turn of a record whose event was answered: a part of its line is written, at which memory or the sink failed
answered : (counts : Bool) (conf : Conf) (trace more : Trace) (before after : Option (List ℕ)) (seen : List Event) (e : Event) (t : List ℕ) (tally : Tally) (r : Result Unit RecordsStop)
    → TalliedSoFar counts conf (seen ++ e ∷ []) tally → trace ≡ (seen ++ (e ∷ more.0), more.1) → ((others : List Event) → LeavesOfRun r others)
    → Appends before after t → BeginsReport conf (seen ++ e ∷ [], trace.1) t → EndsTallied counts conf trace before after r tally
answered counts conf trace more before after seen e t tally r s all left grown begins = (
  t,
  grown,
  record {
    taken = seen ++ e ∷ [];
    others = more.0;
    works = s.works;
    all = ap (λ (q : Trace). q.0) all ∙ sym (append_assoc seen (e ∷ []) more.0);
    left = left more.0;
    written = begins;
    each = s.each;
    told = tallied-now counts conf (machine_after_ways conf (start conf) (seen ++ e ∷ [])) more.0 s.works tally s.told;
  },
)

-- and one whose event was refused memory
refused : (counts : Bool) (conf : Conf) (trace more : Trace) (before after : Option (List ℕ)) (seen : List Event) (m : Machine) (e : Event) (w : Work) (was tally : Tally)
    → TalliedSoFar counts conf seen was → m ≡ machine_after_ways conf (start conf) seen → IsWorkOfRefused counts conf m e w → tally ≡ tally_with was w
    → trace ≡ (seen ++ (e ∷ more.0), more.1) → Appends before after (lines_of conf seen) → EndsTallied counts conf trace before after (Err stop.Memory) tally
refused counts conf trace more before after seen m e w was tally s holds is added all grown = (
  lines_of conf seen,
  grown,
  record {
    taken = seen;
    others = e ∷ more.0;
    works = s.works;
    all = ap (λ (q : Trace). q.0) all;
    left = tt;
    written = report-own conf seen trace.1;
    each = s.each;
    told = inr (w, subst (λ (x : Machine). IsWorkOfRefused counts conf x e w) holds is, added ∙ (ap (λ (t : Tally). tally_with t w) s.told ∙ tally-more s.works w));
  },
)

pub tallied-record : {S : Type 0} (counts : Bool) (rem : S → Option (List ℕ)) (conf : Conf) (trace : Trace) (before now after : Option (List ℕ)) (rows : ℕ) (m v : Machine) (a b : Reader S) (f : Fields) (stopped : RecordsStop) (t : List ℕ) (was tally : Tally)
    → SoFar counts rem conf trace before now rows m a was → a.config ≡ default_config → ReadRecord rem a b true f → rows < row_limit
    → Appends now after t → TakesRecord conf (rows + 1) m f t (Err stopped) v → TalliesRecord counts conf (rows + 1) m f (Err stopped) was tally
    → EndsTallied counts conf trace before after (Err stopped) tally
tallied-record counts rem conf trace before now after rows m v a b f (stop.Fault u) t was tally (h, s) config r few grown how same =
    tallied-all counts conf trace before after (Err (stop.Fault u)) h.seen (Some u) tally (subst (TalliedSoFar counts conf h.seen) (sym same) s)
    (fault-all rem conf trace before now rows m a b f u h config r few how.0)
    (ends-record rem conf trace before now after rows m v a b f (stop.Fault u) t h config r few grown how)
tallied-record counts rem conf trace before now after rows m v a b f stop.Source t was tally so config r few grown (e, judged, (how, held)) tallies = absurd how
tallied-record counts rem conf trace before now after rows m v a b f stop.Memory t was tally (h, s) config r few grown (e, judged, (how, held)) tallies =
    let (more, all) = one-more rem conf trace before now rows m a b f e h config r few judged in
    let (w, is, added) = tallies e judged in
    let lines = rw (how, append-nil) at (Appends-more before now after (lines_of conf h.seen) t h.appended grown) in
    elim is [
      | inl ok ↦ answered counts conf trace more before after h.seen e (lines_of conf h.seen) tally (Err stop.Memory) (tallied-more counts conf h.seen m e w was tally s h.holds ok added) all (λ others. tt)
          lines (report-front conf h.seen (e ∷ []) trace.1)
      | inr denied ↦ refused counts conf trace more before after h.seen m e w was tally s h.holds denied added all lines
    ]
tallied-record counts rem conf trace before now after rows m v a b f stop.Write t was tally (h, s) config r few grown (e, judged, ((k, cut), held)) tallies =
    let (more, all) = one-more rem conf trace before now rows m a b f e h config r few judged in
    let (w, is, added) = tallies e judged in
    let line = row_text (rows + 1) (way conf m e).0 in
    let (rest, begins) = report-own conf (h.seen ++ e ∷ []) trace.1 in
    answered counts conf trace more before after h.seen e (lines_of conf h.seen ++ t) tally (Err stop.Write) (tallied-more counts conf h.seen m e w was tally s h.holds is added) all (λ others. tt)
    (Appends-more before now after (lines_of conf h.seen) t h.appended grown)
    (drop k line ++ rest, begins ∙ rw (lines-more conf h.seen rows m e h.count h.holds) (cut-line (lines_of conf h.seen) t line rest k cut))

-- a run that took nothing
pub tallied-nothing : (counts : Bool) (conf : Conf) (trace : Trace) (tally : Tally) (r : Result Unit RecordsStop) → tally ≡ tally_of [] → LeavesOfRun r trace.0 → IsTallyOf counts conf trace [] (LeavesOfRun r) tally
tallied-nothing counts conf trace tally r none left = record {
  taken = [];
  others = trace.0;
  works = [];
  all = refl;
  left = left;
  written = (report conf ([], trace.1), refl);
  each = tt;
  told = tallied-now counts conf (machine_after_ways conf (start conf) []) trace.0 [] tally none;
}

-- the tally of a run under a configuration that is this one
pub tallied-under : (counts : Bool) (conf d : Conf) (fs : List Fields) (before after : Option (List ℕ)) (r : Result Unit RecordsStop) (tally : Tally) → d ≡ conf
    → EndsTallied counts d (events_of d fs) before after r tally → EndsTallied counts conf (events_of conf fs) before after r tally
tallied-under counts conf d fs before after r tally same ends =
    let P : Conf → Type 0 = λ x. EndsTallied counts x (events_of x fs) before after r tally in
    subst P same ends
