-- What lies ahead of captures that are read: it stays as it is while they are read on. (not promised)
use Rattle.std.specs.Prelude.{ℕ, zero, suc, ◌≡◌, ◌+◌, Bool, true, false, List, [], ◌∷◌, map, Option, Some, None, Result, Ok, Err, if◌then◌else◌, ⊤}
use Rattle.pfs_streams.specs.Feeds.{FeedView}
use Rattle.pfs_capture_files.specs.Faults.{is_outside}
use Rattle.pfs_capture_files.specs.Forms.{IsWithinStart, start_of}
use Rattle.pfs_capture_files.specs.declared.faults.FileFault.{FileFault}
use Rattle.pfs_capture_files.specs.declared.forms.Form.{Form}
use Rattle.pfs_capture.specs.Captures.{frames_from, most_items, seen_of}
use Rattle.pfs_capture.specs.Instants.{is_earlier, start_instant}
use Rattle.pfs_capture.specs.Merging.{Given, Stops, capture_run, first_fault, coming_of}
use Rattle.pfs_capture.specs.Points.{Point}
use Rattle.pfs_capture.specs.Readers.{AreGiven, lefts_of}
use Rattle.pfs_capture.specs.Runs.{Run, frame_then, judged_at, judged_frames}
use Rattle.pfs_capture.specs.Traces.{AreWithinStarts, EndsAtStart}
use Rattle.pfs_capture.specs.declared.captures.Capture.{Capture}
use Rattle.pfs_capture.specs.declared.captures.NextKnown.{NextKnown}
use Rattle.pfs_capture.specs.declared.captures.NextKnown.TheVariants as next
use Rattle.pfs_capture.specs.declared.faults.TraceStop.{TraceStop}
use Rattle.pfs_capture.specs.declared.faults.TraceStop.TheVariants as stop
use Rattle.pfs_capture.specs.declared.instants.Instant.{Instant}
use Rattle.pfs_capture.specs.declared.merging.NextFrame.{NextFrame}

-- the frames of a capture that were not asked for: so many items at most, from where it begins or goes on
abbrev pub rest_from : List Point → Instant → ℕ → Result (Form × List ℕ) FileFault → Run
rest_from points last items (Ok begun) = judged_frames points last (frames_from items begun.0 begun.1)
rest_from points last items (Err f) = ([], Some (stop.File f))

abbrev pub rest_ahead : List Point → Instant → ℕ → Option Form → List ℕ → Run
rest_ahead points last items None left = rest_from points last items (start_of left)
rest_ahead points last items (Some form) left = rest_from points last items (Ok (form, left))

-- with the one that was, in this moment
abbrev pub with_next : List Point → List ℕ → Instant → NextKnown → Run → Run
with_next points held last next.Unasked run = run
with_next points held last next.Ended run = ([], None)
with_next points held last (next.Waits frame) run = frame_then (judged_at points (seen_of frame held) last) run

abbrev pub run_ahead : {R : Type 0} → Capture R → List ℕ → Run
run_ahead c left = with_next c.points.items c.held.items c.last c.next (rest_ahead c.points.items c.last c.items c.form left)

abbrev pub Ahead : {R : Type 0} → (FeedView R → Option (List ℕ)) → Capture R → Run → Type 0
Ahead remaining c run = (left : List ℕ) × (remaining c.reader ≡ Some left) × (run ≡ run_ahead c left)

-- the same of each
abbrev pub Aheads : {R : Type 0} → (FeedView R → Option (List ℕ)) → List (Capture R) → List Run → Type 0
Aheads remaining [] [] = ⊤
Aheads remaining (c ∷ cs) (r ∷ rs) = Ahead remaining c r × Aheads remaining cs rs
Aheads remaining cs rs = ⊥

-- whether the next frame of a capture was asked for
abbrev pub is_asked : NextKnown → Bool
is_asked next.Unasked = false
is_asked next.Ended = true
is_asked (next.Waits frame) = true

-- those of the first so many were
abbrev pub AreAsked : {R : Type 0} → ℕ → List (Capture R) → Type 0
AreAsked zero cs = ⊤
AreAsked (suc n) [] = ⊤
AreAsked (suc n) (c ∷ cs) = (is_asked c.next ≡ true) × AreAsked n cs

-- a fault of what is around the captures
abbrev pub is_around : TraceStop → Bool
is_around (stop.File f) = is_outside f
is_around stop.Moment = false
is_around stop.TooMany = false
is_around stop.Write = true
is_around stop.Answers = true
is_around stop.Memory = true

-- a fault of reading
abbrev pub is_of_reading : TraceStop → Bool
is_of_reading stop.Write = false
is_of_reading stop.Answers = false
is_of_reading stop.Memory = false
is_of_reading f = true

-- what lay ahead still does after a call, or stops with its fault
abbrev pub StaysAhead : {R : Type 0} → (FeedView R → Option (List ℕ)) → Result Unit TraceStop → Capture R → Run → Type 0
StaysAhead remaining (Ok u) c run = Ahead remaining c run
StaysAhead remaining (Err f) c run = is_around f ≡ false → run ≡ ([], Some f)

abbrev pub StayAhead : {R : Type 0} → (FeedView R → Option (List ℕ)) → Result Unit TraceStop → List (Capture R) → List Run → Type 0
StayAhead remaining (Ok u) cs runs = Aheads remaining cs runs
StayAhead remaining (Err f) cs runs = is_around f ≡ false → coming_of runs ≡ Stops f

-- how often a capture is read on at most
abbrev pub turns_left : ℕ → Option Form → ℕ
turns_left items None = items + 1
turns_left items (Some form) = items

-- ---- the beginnings

-- a capture that begins is ready for its first item
abbrev pub HasBegun : {R : Type 0} → (FeedView R → Option (List ℕ)) → Capture R → Given → Type 0
HasBegun remaining c g =
    (form : Form) × (left : List ℕ) × (start_of g.octets ≡ Ok (form, left)) × (remaining c.reader ≡ Some left) × (c.form ≡ Some form) × (c.points.items ≡ g.points)
    × (c.next ≡ next.Unasked) × (c.last ≡ start_instant) × (c.items ≡ most_items)

-- so many captures have begun, of the others nothing was read
abbrev pub HaveBegun : {R : Type 0} → (FeedView R → Option (List ℕ)) → ℕ → List (Capture R) → List Given → Type 0
HaveBegun remaining zero cs gs = AreGiven remaining cs gs
HaveBegun remaining (suc n) (c ∷ cs) (g ∷ gs) = HasBegun remaining c g × HaveBegun remaining n cs gs
HaveBegun remaining (suc n) [] [] = ⊤
HaveBegun remaining (suc n) cs gs = ⊥

-- where a capture does not begin, the fault is its own, or one of what is around it, and no byte behind its beginning was read
abbrev pub BreaksOff : {R : Type 0} → (FeedView R → Option (List ℕ)) → TraceStop → Capture R → Given → Type 0
BreaksOff remaining f c g =
    (x : FileFault) × (f ≡ stop.File x) × (is_outside x ≡ false → start_of g.octets ≡ Err x) × IsWithinStart (start_of g.octets) (remaining c.reader)

-- what a call makes of a capture that was given
abbrev pub BeginsAs : {R : Type 0} → (FeedView R → Option (List ℕ)) → Result Unit TraceStop → Capture R → Given → Type 0
BeginsAs remaining (Ok u) c g = HasBegun remaining c g
BeginsAs remaining (Err f) c g = BreaksOff remaining f c g

abbrev pub AllBegin : {R : Type 0} → (FeedView R → Option (List ℕ)) → Result Unit TraceStop → List (Capture R) → List Given → Type 0
AllBegin remaining (Ok u) cs gs = Aheads remaining cs (map capture_run gs) × (first_fault gs ≡ None)
AllBegin remaining (Err f) cs gs = EndsAtStart (first_fault gs) (Err f) × AreWithinStarts gs (lefts_of remaining cs)

-- ---- the earliest

-- the place of the next frame of a capture among captures
abbrev pub waiting_at : ℕ → Instant → NextKnown → Option NextFrame
waiting_at index instant (next.Waits frame) = Some (record { index = index; instant = instant; frame = frame })
waiting_at index instant next.Ended = None
waiting_at index instant next.Unasked = None

-- the earlier of two places, the first of those of one moment
abbrev pub nearer : Option NextFrame → Option NextFrame → Option NextFrame
nearer None behind = behind
nearer (Some p) None = Some p
nearer (Some p) (Some q) = if is_earlier q.instant p.instant then Some q else Some p

-- the place of the earliest of the next frames, from this index on
abbrev pub earliest : {R : Type 0} → ℕ → List (Capture R) → Option NextFrame
earliest index [] = None
earliest index (c ∷ cs) = nearer (waiting_at index c.last c.next) (earliest (index + 1) cs)
