-- What holds between two frames of captures, and how a run ends.
use Rattle.std.proofs.Common.{◌≡◌, ◌≤◌, ◌<◌, ◌+◌, ◌-◌, ◌++◌, ◌∙◌, ℕ, suc, Bool, true, false, List, [], ◌∷◌, length, map, take, drop, Option, Some, None, Ok, Err, inl, inr, refl, sym, ap, arith, subst, append-nil, append_assoc, length-append}
use Rattle.std.specs.Prelude.{Result, Vec, ◌⊎◌, codes}
use Rattle.std.specs.Bool.{MatchBool}
use Rattle.std.specs.Vec.{vec_capacity}
use Rattle.std.specs.Io.KnownBytes.{Appends}
use Rattle.std.proofs.KnownBytes.{Appends-nil, Appends-trans}
use Rattle.std.proofs.lemmas.List.{take-append-drop}
use Rattle.std.proofs.Math.Seq.{drop-append_seam, take-append_seam}
use Rattle.pfs_streams.specs.Feeds.{FeedView}
use Rattle.pfs_capture_files.specs.Faults.{is_outside}
use Rattle.pfs_capture_files.specs.declared.faults.FileFault.{FileFault}
use Rattle.pfs_capture.specs.Accounts.{frame_counted, no_frames}
use Rattle.pfs_capture.specs.Aheads.{Aheads, AllBegin, is_around, is_of_reading}
use Rattle.pfs_capture.specs.Captures.{most_items}
use Rattle.pfs_capture.specs.Merging.{Coming, Comes, Stops, Ends, Given, at_coming, capture_run, captures_run, first_fault, merged, coming_of}
use Rattle.pfs_capture.specs.Readers.{lefts_of}
use Rattle.pfs_capture.specs.Runs.{Judged, Run}
use Rattle.pfs_capture.specs.Traces.{AreWithin, BeginsText, Outgrows, TellsAll, TellsCaptures, TellsFirst, TellsFront, TellsRun, account_of, answer_text, answers_text, trace_text}
use Rattle.pfs_capture.specs.FrameTurns.{IsFront, Overflows, Sends, Taken, TakesFrame, frame_taken}
use Rattle.pfs_capture.specs.declared.accounts.Account.{Account}
use Rattle.pfs_capture.specs.declared.captures.Capture.{Capture}
use Rattle.pfs_capture.specs.declared.faults.TraceStop.{TraceStop}
use Rattle.pfs_capture.specs.declared.faults.TraceStop.TheVariants as stop
use Rattle.pfs_capture.proofs.Counting.{account-more}
use Rattle.pfs_capture.proofs.Texts.{answers-more, answers-none, records_so_far, trace-more, within-more}

-- what is kept unless a call fails so is kept where it does not fail
pub kept-ok : {A E P : Type 0} (x : A) (e : E) → ◌≡◌ {A = Result A E} (Ok x) (Err e) ⊎ P → P
kept-ok x e (inl clash) = absurd (cc clash)
kept-ok x e (inr kept) = kept

-- what a vector holds is within its room
pub in-room : {X Z : Type 0} (v : Vec X Z) → length v.items ≤ vec_capacity v
in-room v = omega (arith, v.ok.0, v.ok.1)

-- ---- one turn of the definitions

merged-turn : (n : ℕ) (runs : List Run) (coming : Coming) → coming_of runs ≡ coming → merged (suc n) runs ≡ at_coming coming (merged n)
unfolding merged
merged-turn n runs coming e = ap (λ (c : Coming). at_coming c (merged n)) e

merged-none : (runs : List Run) → merged 0 runs ≡ ([], Some stop.TooMany)
unfolding merged
merged-none runs = refl

-- of `m` frames there are `i` and one more before those that are left
left-turn : (m i : ℕ) (runs : List Run) (coming : Coming) → i < m → coming_of runs ≡ coming → merged (m - i) runs ≡ at_coming coming (merged (m - (i + 1)))
left-turn m i runs coming h e =
    let turns : m - i ≡ suc (m - (i + 1)) = omega arith in
    ap (λ k. merged k runs) turns ∙ merged-turn (m - (i + 1)) runs coming e

left-none : (m i : ℕ) (runs : List Run) → m ≤ i → merged (m - i) runs ≡ ([], Some stop.TooMany)
left-none m i runs h =
    let turns : m - i ≡ 0 = omega arith in
    ap (λ k. merged k runs) turns ∙ merged-none runs

-- frames, and then a run
abbrev pub behind : List Judged → Run → Run
behind seen run = (seen ++ run.0, run.1)

behind-none : (seen : List Judged) (end : Option TraceStop) → behind seen ([], end) ≡ (seen, end)
behind-none seen end = ap (λ (js : List Judged). (js, end)) (append-nil seen)

-- ---- what is written

-- the frames that begin a run are its first ones
first-frames : (run more : Run) (seen : List Judged) → run ≡ behind seen more → take (length seen) run.0 ≡ seen
first-frames run more seen e = ap (λ (r : Run). take (length seen) r.0) e ∙ take-append_seam seen more.0

tells-all : (run : Run) (seen : List Judged) (end : Option TraceStop) (account : Account) → run ≡ (seen, end) → account ≡ account_of seen
    → TellsAll run end (trace_text seen) (answers_text seen) account
tells-all run seen end account e counts = (
  ap (λ (r : Run). r.1) e,
  sym (ap (λ (r : Run). trace_text r.0) e),
  sym (ap (λ (r : Run). answers_text r.0) e),
  counts ∙ sym (ap (λ (r : Run). account_of r.0) e),
)

tells-first : (run more : Run) (seen : List Judged) (account : Account) → run ≡ behind seen more → account ≡ account_of seen
    → TellsFirst run (trace_text seen) (answers_text seen) account
tells-first run more seen account e counts =
    let first = sym (first-frames run more seen e) in
    (length seen, ap trace_text first, ap answers_text first, counts ∙ ap account_of first)

tells-front : (run more : Run) (seen : List Judged) (account : Account) (t u : List ℕ) → run ≡ behind seen more → account ≡ account_of seen
    → BeginsText t (trace_text seen) → BeginsText u (answers_text seen) → TellsFront run t u account
tells-front run more seen account t u e counts trace answers =
    let first = sym (first-frames run more seen e) in (
      length seen,
      (trace.0, sym (ap trace_text first) ∙ trace.1),
      (answers.0, sym (ap answers_text first) ∙ answers.1),
      counts ∙ ap account_of first,
    )

-- a fault of the file, with which all frames are written, or one of what is around it, with the first of them
tells-file : (run : Run) (trace answers : List ℕ) (account : Account) (f : FileFault) (b : Bool) → is_outside f ≡ b
    → TellsFirst run trace answers account → (b ≡ false → TellsAll run (Some (stop.File f)) trace answers account)
    → MatchBool b (TellsFirst run trace answers account) (TellsAll run (Some (stop.File f)) trace answers account)
tells-file run trace answers account f true e first all = first
tells-file run trace answers account f false e first all = all refl

-- ---- between two frames

-- what was read, written and counted so far of a run, before the frame of this turn; a line of each text has room for each so far
pub record SoFar {R : Type 0} (remaining : FeedView R → Option (List ℕ)) (run : Run) (before now before2 now2 : Option (List ℕ)) (turn : ℕ) (account : Account) (cs : List (Capture R)) (room room2 : ℕ) : Type 0 where
  pub seen : List Judged
  pub runs : List Run
  pub aheads : Aheads remaining cs runs
  pub trace : Appends before now (trace_text seen)
  pub answers : Appends before2 now2 (answers_text seen)
  pub counts : account ≡ account_of seen
  pub fits : AreWithin room room2 0 seen
  pub split : run ≡ behind seen (merged (most_items - turn) runs)

-- how a run ends
abbrev pub IsEnded : Run → Option (List ℕ) → Option (List ℕ) → Option (List ℕ) → Option (List ℕ) → Account → Result Unit TraceStop → Type 0
IsEnded run before now before2 now2 account result = (t : List ℕ) × (u : List ℕ) × Appends before now t × Appends before2 now2 u × TellsRun run t u account result

pub so_far-start : {R : Type 0} {room room2 : ℕ} (remaining : FeedView R → Option (List ℕ)) (gs : List Given) (before now before2 now2 : Option (List ℕ)) (cs : List (Capture R))
    → Aheads remaining cs (map capture_run gs) → Appends before now (trace_text []) → Appends before2 now2 (answers_text [])
    → SoFar remaining (captures_run gs) before now before2 now2 0 no_frames cs room room2
so_far-start remaining gs before now before2 now2 cs aheads trace answers = record {
  seen = [];
  runs = map capture_run gs;
  aheads = aheads;
  trace = trace;
  answers = answers;
  counts = refl;
  fits = tt;
  split = refl;
}

-- what lies ahead is that of other captures too
pub so_far-asked : {R : Type 0} {room room2 : ℕ} (remaining : FeedView R → Option (List ℕ)) (run : Run) (before now before2 now2 : Option (List ℕ)) (turn : ℕ) (account : Account) (cs ds : List (Capture R))
    → SoFar remaining run before now before2 now2 turn account cs room room2 → ((runs : List Run) → Aheads remaining cs runs → Aheads remaining ds runs)
    → SoFar remaining run before now before2 now2 turn account ds room room2
so_far-asked remaining run before now before2 now2 turn account cs ds h asked = record {
  seen = h.seen;
  runs = h.runs;
  aheads = asked h.runs h.aheads;
  trace = h.trace;
  answers = h.answers;
  counts = h.counts;
  fits = h.fits;
  split = h.split;
}

-- a run that ends here
ended-here : {R : Type 0} {room room2 : ℕ} (remaining : FeedView R → Option (List ℕ)) (run : Run) (before now before2 now2 : Option (List ℕ)) (turn : ℕ) (account : Account) (cs : List (Capture R)) (end : Option TraceStop)
    → (h : SoFar remaining run before now before2 now2 turn account cs room room2) → merged (most_items - turn) h.runs ≡ ([], end)
    → TellsAll run end (trace_text h.seen) (answers_text h.seen) account
ended-here remaining run before now before2 now2 turn account cs end h e =
    tells-all run h.seen end account (h.split ∙ (ap (λ (r : Run). behind h.seen r) e ∙ behind-none h.seen end)) h.counts

pub ends-end : {R : Type 0} {room room2 : ℕ} (remaining : FeedView R → Option (List ℕ)) (run : Run) (before now before2 now2 : Option (List ℕ)) (turn : ℕ) (account : Account) (cs : List (Capture R))
    → (h : SoFar remaining run before now before2 now2 turn account cs room room2) → turn < most_items → coming_of h.runs ≡ Ends
    → IsEnded run before now before2 now2 account (Ok tt)
ends-end remaining run before now before2 now2 turn account cs h few none =
    (trace_text h.seen, answers_text h.seen, h.trace, h.answers, ended-here remaining run before now before2 now2 turn account cs None h (left-turn most_items turn h.runs Ends few none))

pub ends-many : {R : Type 0} {room room2 : ℕ} (remaining : FeedView R → Option (List ℕ)) (run : Run) (before now before2 now2 : Option (List ℕ)) (turn : ℕ) (account : Account) (cs : List (Capture R))
    → (h : SoFar remaining run before now before2 now2 turn account cs room room2) → most_items ≤ turn
    → IsEnded run before now before2 now2 account (Err stop.TooMany)
ends-many remaining run before now before2 now2 turn account cs h many =
    (trace_text h.seen, answers_text h.seen, h.trace, h.answers, ended-here remaining run before now before2 now2 turn account cs (Some stop.TooMany) h (left-none most_items turn h.runs many))

-- a capture stops
pub ends-asked : {R : Type 0} {room room2 : ℕ} (remaining : FeedView R → Option (List ℕ)) (run : Run) (before now before2 now2 : Option (List ℕ)) (turn : ℕ) (account : Account) (cs : List (Capture R)) (f : TraceStop)
    → SoFar remaining run before now before2 now2 turn account cs room room2 → turn < most_items → is_of_reading f ≡ true
    → ((runs : List Run) → Aheads remaining cs runs → is_around f ≡ false → coming_of runs ≡ Stops f)
    → IsEnded run before now before2 now2 account (Err f)
ends-asked remaining run before now before2 now2 turn account cs stop.Write h few reading stops = absurd (cc reading)
ends-asked remaining run before now before2 now2 turn account cs stop.Answers h few reading stops = absurd (cc reading)
ends-asked remaining run before now before2 now2 turn account cs stop.Memory h few reading stops = absurd (cc reading)
ends-asked remaining run before now before2 now2 turn account cs stop.Moment h few reading stops =
    let next = stops h.runs h.aheads refl in
    (trace_text h.seen, answers_text h.seen, h.trace, h.answers, ended-here remaining run before now before2 now2 turn account cs (Some stop.Moment) h (left-turn most_items turn h.runs (Stops stop.Moment) few next))
ends-asked remaining run before now before2 now2 turn account cs stop.TooMany h few reading stops =
    let next = stops h.runs h.aheads refl in
    (trace_text h.seen, answers_text h.seen, h.trace, h.answers, ended-here remaining run before now before2 now2 turn account cs (Some stop.TooMany) h (left-turn most_items turn h.runs (Stops stop.TooMany) few next))
ends-asked remaining run before now before2 now2 turn account cs (stop.File x) h few reading stops = (
  trace_text h.seen,
  answers_text h.seen,
  h.trace,
  h.answers,
  tells-file run (trace_text h.seen) (answers_text h.seen) account x (is_outside x) refl
      (tells-first run (merged (most_items - turn) h.runs) h.seen account h.split h.counts)
      (λ e. ended-here remaining run before now before2 now2 turn account cs (Some (stop.File x)) h (left-turn most_items turn h.runs (Stops (stop.File x)) few (stops h.runs h.aheads e))),
)

-- ---- a frame

-- what is known when a frame is counted and its texts are to be written
pub record Counted {R : Type 0} (remaining : FeedView R → Option (List ℕ)) (run : Run) (before now before2 now2 : Option (List ℕ)) (turn : ℕ) (account : Account) (cs : List (Capture R)) (room room2 : ℕ) (row answer : List ℕ) : Type 0 where
  pub seen : List Judged
  pub more : List Judged
  pub runs : List Run
  pub aheads : Aheads remaining cs runs
  pub trace : Appends before now (trace_text seen)
  pub answers : Appends before2 now2 (answers_text seen)
  pub row_more : trace_text more ≡ trace_text seen ++ row
  pub answer_more : answers_text more ≡ answers_text seen ++ answer
  pub counts : account ≡ account_of more
  pub fits : AreWithin room room2 0 more
  pub split : run ≡ behind more (merged (most_items - turn) runs)

-- the run goes on after a frame
split-frame : (run : Run) (seen : List Judged) (turn : ℕ) (runs rest : List Run) (j : Judged)
    → turn < most_items → run ≡ behind seen (merged (most_items - turn) runs) → coming_of runs ≡ Comes j rest
    → run ≡ behind (seen ++ j ∷ []) (merged (most_items - (turn + 1)) rest)
split-frame run seen turn runs rest j few split comes =
    let more = merged (most_items - (turn + 1)) rest in
    split
    ∙ (ap (λ (r : Run). behind seen r) (left-turn most_items turn runs (Comes j rest) few comes)
    ∙ ap (λ (js : List Judged). (js, more.1)) (sym (append_assoc seen (j ∷ []) more.0)))

pub counted : {R : Type 0} {room room2 room3 room4 : ℕ} (remaining : FeedView R → Option (List ℕ)) (run : Run) (before now before2 now2 : Option (List ℕ)) (turn : ℕ) (account account2 : Account) (cs ds : List (Capture R)) (j : Judged) (rest : List Run) (row answer : List ℕ)
    → (h : SoFar remaining run before now before2 now2 turn account cs room room2) → turn < most_items
    → coming_of h.runs ≡ Comes j rest → Aheads remaining ds rest
    → TakesFrame (frame_taken account j) (Ok tt) account2 row answer
    → room ≤ room3 → room2 ≤ room4 → length row ≤ room3 → length answer ≤ room4
    → Counted remaining run before now before2 now2 (turn + 1) account2 ds room3 room4 row answer
counted {room} {room2} {room3} {room4} remaining run before now before2 now2 turn account account2 cs ds j rest row answer h few comes left taken more more2 fits fits2 = record {
  seen = h.seen;
  more = h.seen ++ j ∷ [];
  runs = rest;
  aheads = left;
  trace = h.trace;
  answers = h.answers;
  row_more = trace-more h.seen j ∙ ap (λ (t : List ℕ). trace_text h.seen ++ t) (ap (λ (t : Taken). t.row) taken);
  answer_more = answers-more h.seen j
      ∙ ap (λ (t : List ℕ). answers_text h.seen ++ t) (ap (λ (a : Account). answer_text (a.records + 1) j.outcome) (sym h.counts) ∙ ap (λ (t : Taken). t.answer) taken);
  counts = sym (ap (λ (t : Taken). t.account) taken) ∙ (ap (λ (a : Account). frame_counted a j.is_late j.outcome) h.counts ∙ account-more h.seen j.instant j.is_late j.outcome);
  fits =
      within-more room room2 room3 room4 0 h.seen j more more2 h.fits (subst (λ (t : List ℕ). length t ≤ room3) (sym (ap (λ (t : Taken). t.row) taken)) fits)
      (subst (λ (n : ℕ). length (answer_text (n + 1) j.outcome) ≤ room4) (ap (λ (a : Account). a.records) h.counts ∙ sym (records_so_far h.seen))
      (subst (λ (t : List ℕ). length t ≤ room4) (sym (ap (λ (t : Taken). t.answer) taken)) fits2));
  split = split-frame run h.seen turn h.runs rest j few h.split comes;
}

-- frames whose texts lines have room for, and one that does not fit
outgrows : (room room2 : ℕ) (account : Account) (seen js : List Judged) (j : Judged) → account ≡ account_of seen → AreWithin room room2 0 seen → Overflows (frame_taken account j) room room2
    → Outgrows seen (j ∷ js)
outgrows room room2 account seen js j counts fits over = (room, room2, fits, subst (λ (a : Account). Overflows (frame_taken a j) room room2) counts over)

-- memory is refused for them
pub ends-before : {R : Type 0} {room room2 : ℕ} (remaining : FeedView R → Option (List ℕ)) (run : Run) (before now before2 now2 : Option (List ℕ)) (turn : ℕ) (account account2 : Account) (cs : List (Capture R)) (j : Judged) (rest : List Run) (f : TraceStop)
    → (h : SoFar remaining run before now before2 now2 turn account cs room room2) → turn < most_items → coming_of h.runs ≡ Comes j rest → account2 ≡ account → f ≡ stop.Memory
    → Overflows (frame_taken account j) room room2
    → IsEnded run before now before2 now2 account2 (Err f)
ends-before {room} {room2} remaining run before now before2 now2 turn account account2 cs j rest f h few comes kept memory over =
    let split = split-frame run h.seen turn h.runs rest j few h.split comes in
    let more = merged (most_items - (turn + 1)) rest in
    let same : length run.0 ≡ length ((h.seen ++ j ∷ []) ++ more.0) = ap (λ (r : Run). length r.0) split in
    let less : length h.seen < length run.0 = rw same (simp length-append (omega arith)) in
    let first = sym (first-frames run (merged (most_items - turn) h.runs) h.seen h.split) in
    let next : drop (length h.seen) run.0 ≡ j ∷ more.0 =
    ap (λ (r : Run). drop (length h.seen) r.0) split ∙ (ap (λ (js : List Judged). drop (length h.seen) js) (append_assoc h.seen (j ∷ []) more.0) ∙ drop-append_seam h.seen (j ∷ more.0)) in
    let grows =
    subst (λ (js : List Judged). Outgrows js (drop (length h.seen) run.0)) first
    (subst (λ (js : List Judged). Outgrows h.seen js) (sym next) (outgrows room room2 account h.seen more.0 j h.counts h.fits over)) in
    subst (λ (g : TraceStop). IsEnded run before now before2 now2 account2 (Err g)) (sym memory)
    (trace_text h.seen, answers_text h.seen, h.trace, h.answers, (length h.seen, less, ap trace_text first, ap answers_text first, (kept ∙ h.counts) ∙ ap account_of first, grows))

-- both texts of a frame are written
pub so_far-frame : {R : Type 0} {room room2 : ℕ} (remaining : FeedView R → Option (List ℕ)) (run : Run) (before now after before2 now2 after2 : Option (List ℕ)) (turn : ℕ) (account : Account) (cs : List (Capture R)) (row answer t u : List ℕ)
    → Counted remaining run before now before2 now2 turn account cs room room2 row answer
    → Appends now after t → Appends now2 after2 u → Sends row answer t u (Ok tt)
    → SoFar remaining run before after before2 after2 turn account cs room room2
so_far-frame remaining run before now after before2 now2 after2 turn account cs row answer t u h trace answers sends = record {
  seen = h.more;
  runs = h.runs;
  aheads = h.aheads;
  trace = subst (λ (x : List ℕ). Appends before after x) (ap (λ (x : List ℕ). trace_text h.seen ++ x) sends.0 ∙ sym h.row_more) (Appends-trans before now after (trace_text h.seen) t h.trace trace);
  answers = subst (λ (x : List ℕ). Appends before2 after2 x) (ap (λ (x : List ℕ). answers_text h.seen ++ x) sends.1 ∙ sym h.answer_more) (Appends-trans before2 now2 after2 (answers_text h.seen) u h.answers answers);
  counts = h.counts;
  fits = h.fits;
  split = h.split;
}

-- a front after a text begins it
front-begins : (text t line whole : List ℕ) → IsFront t line → whole ≡ text ++ line → BeginsText (text ++ t) whole
front-begins text t line whole (k, cut) e =
    let line_is : line ≡ t ++ drop k line = sym (take-append-drop k line) ∙ ap (λ (x : List ℕ). x ++ drop k line) (sym cut) in
    (drop k line, e ∙ (ap (λ (x : List ℕ). text ++ x) line_is ∙ sym (append_assoc text t (drop k line))))

whole-begins : (text t line whole : List ℕ) → t ≡ line → whole ≡ text ++ line → BeginsText (text ++ t) whole
whole-begins text t line whole same e = ([], e ∙ (ap (λ (x : List ℕ). text ++ x) (sym same) ∙ sym (append-nil (text ++ t))))

none-begins : (text t line whole : List ℕ) → t ≡ [] → whole ≡ text ++ line → BeginsText (text ++ t) whole
none-begins text t line whole none e = (line, e ∙ ap (λ (x : List ℕ). x ++ line) (sym (append-nil text)) ∙ ap (λ (x : List ℕ). (text ++ x) ++ line) (sym none))

-- only fronts of them are
ends-front : {R : Type 0} {room room2 : ℕ} (remaining : FeedView R → Option (List ℕ)) (run : Run) (before now after before2 now2 after2 : Option (List ℕ)) (turn : ℕ) (account : Account) (cs : List (Capture R)) (row answer t u : List ℕ)
    → (h : Counted remaining run before now before2 now2 turn account cs room room2 row answer)
    → Appends now after t → Appends now2 after2 u → BeginsText (trace_text h.seen ++ t) (trace_text h.more) → BeginsText (answers_text h.seen ++ u) (answers_text h.more)
    → (v : List ℕ) × (w : List ℕ) × Appends before after v × Appends before2 after2 w × TellsFront run v w account
ends-front remaining run before now after before2 now2 after2 turn account cs row answer t u h trace answers begins begins2 = (
  trace_text h.seen ++ t,
  answers_text h.seen ++ u,
  Appends-trans before now after (trace_text h.seen) t h.trace trace,
  Appends-trans before2 now2 after2 (answers_text h.seen) u h.answers answers,
  tells-front run (merged (most_items - turn) h.runs) h.more account (trace_text h.seen ++ t) (answers_text h.seen ++ u) h.split h.counts begins begins2,
)

-- they are not
pub ends-send : {R : Type 0} {room room2 : ℕ} (remaining : FeedView R → Option (List ℕ)) (run : Run) (before now after before2 now2 after2 : Option (List ℕ)) (turn : ℕ) (account : Account) (cs : List (Capture R)) (row answer t u : List ℕ) (f : TraceStop)
    → Counted remaining run before now before2 now2 turn account cs room room2 row answer
    → Appends now after t → Appends now2 after2 u → Sends row answer t u (Err f)
    → IsEnded run before after before2 after2 account (Err f)
ends-send remaining run before now after before2 now2 after2 turn account cs row answer t u stop.Write h trace answers (front, none) =
    ends-front remaining run before now after before2 now2 after2 turn account cs row answer t u h trace answers
    (front-begins (trace_text h.seen) t row (trace_text h.more) front h.row_more)
    (none-begins (answers_text h.seen) u answer (answers_text h.more) none h.answer_more)
ends-send remaining run before now after before2 now2 after2 turn account cs row answer t u stop.Answers h trace answers (same, front) =
    ends-front remaining run before now after before2 now2 after2 turn account cs row answer t u h trace answers
    (whole-begins (trace_text h.seen) t row (trace_text h.more) same h.row_more)
    (front-begins (answers_text h.seen) u answer (answers_text h.more) front h.answer_more)
ends-send remaining run before now after before2 now2 after2 turn account cs row answer t u (stop.File g) h trace answers sends = absurd sends
ends-send remaining run before now after before2 now2 after2 turn account cs row answer t u stop.Moment h trace answers sends = absurd sends
ends-send remaining run before now after before2 now2 after2 turn account cs row answer t u stop.TooMany h trace answers sends = absurd sends
ends-send remaining run before now after before2 now2 after2 turn account cs row answer t u stop.Memory h trace answers sends = absurd sends

-- what is sent are these texts
pub sends-these : (a b row answer t u : List ℕ) (result : Result Unit TraceStop) → a ≡ row → b ≡ answer → Sends a b t u result → Sends row answer t u result
sends-these a b row answer t u result p q sends = subst (λ (x : List ℕ). Sends row x t u result) q (subst (λ (x : List ℕ). Sends x b t u result) p sends)

-- ---- the beginning

-- what is written of these captures
abbrev pub Captured : List Given → List (Option (List ℕ)) → Option (List ℕ) → Option (List ℕ) → Option (List ℕ) → Option (List ℕ) → Account → Result Unit TraceStop → Type 0
Captured gs lefts before now before2 now2 account result =
    (t : List ℕ) × (u : List ℕ) × Appends before now t × Appends before2 now2 u × TellsCaptures gs lefts t u account result

pub captured-run : (gs : List Given) (lefts : List (Option (List ℕ))) (before now before2 now2 : Option (List ℕ)) (account : Account) (result : Result Unit TraceStop)
    → first_fault gs ≡ None → IsEnded (captures_run gs) before now before2 now2 account result → Captured gs lefts before now before2 now2 account result
captured-run gs lefts before now before2 now2 account result e (t, u, trace, answers, tells) = (t, u, trace, answers, inl (e, tells))

-- one does not begin
pub captured-none : {R : Type 0} (remaining : FeedView R → Option (List ℕ)) (gs : List Given) (cs : List (Capture R)) (before before2 : Option (List ℕ)) (account : Account) (f : TraceStop)
    → account ≡ no_frames → AllBegin remaining (Err f) cs gs → Captured gs (lefts_of remaining cs) before before before2 before2 account (Err f)
captured-none remaining gs cs before before2 account f none (ends, within) = ([], [], Appends-nil before, Appends-nil before2, inr ((refl, refl, none), ends, within))

-- the headers are not written
ends-headers : (run : Run) (before now before2 now2 : Option (List ℕ)) (t u : List ℕ) (f : TraceStop) → Appends before now t → Appends before2 now2 u
    → Sends (trace_text []) (answers_text []) t u (Err f) → IsEnded run before now before2 now2 no_frames (Err f)
ends-headers run before now before2 now2 t u stop.Write trace answers (front, none) =
    (t, u, trace, answers, tells-front run run [] no_frames t u refl refl (front-begins [] t (trace_text []) (trace_text []) front refl) (none-begins [] u (answers_text []) (answers_text []) none refl))
ends-headers run before now before2 now2 t u stop.Answers trace answers (same, front) =
    (t, u, trace, answers, tells-front run run [] no_frames t u refl refl (whole-begins [] t (trace_text []) (trace_text []) same refl) (front-begins [] u (answers_text []) (answers_text []) front refl))
ends-headers run before now before2 now2 t u (stop.File g) trace answers sends = absurd sends
ends-headers run before now before2 now2 t u stop.Moment trace answers sends = absurd sends
ends-headers run before now before2 now2 t u stop.TooMany trace answers sends = absurd sends
ends-headers run before now before2 now2 t u stop.Memory trace answers sends = absurd sends

pub captured-headers : (gs : List Given) (lefts : List (Option (List ℕ))) (before now before2 now2 : Option (List ℕ)) (t u : List ℕ) (account : Account) (f : TraceStop)
    → first_fault gs ≡ None → account ≡ no_frames → Appends before now t → Appends before2 now2 u → Sends (trace_text []) (answers_text []) t u (Err f)
    → Captured gs lefts before now before2 now2 account (Err f)
captured-headers gs lefts before now before2 now2 t u account f e none trace answers sends =
    captured-run gs lefts before now before2 now2 account (Err f) e
    (subst (λ (a : Account). IsEnded (captures_run gs) before now before2 now2 a (Err f)) (sym none) (ends-headers (captures_run gs) before now before2 now2 t u f trace answers sends))

-- the header of the answers is all that is written of none
no-answers : answers_text [] ≡ codes "row,action,rule,anchor,subrule,reason,rewritten\n"
no-answers = ap (λ (x : List ℕ). codes "row,action,rule,anchor,subrule,reason,rewritten\n" ++ x) (answers-none 0)

pub headers : (t u : List ℕ) (result : Result Unit TraceStop) → Sends (trace_text []) (codes "row,action,rule,anchor,subrule,reason,rewritten\n") t u result → Sends (trace_text []) (answers_text []) t u result
headers t u result sends = subst (λ (a : List ℕ). Sends (trace_text []) a t u result) (sym no-answers) sends
