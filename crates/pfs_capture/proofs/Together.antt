-- What lies ahead of captures stays as it is while each is asked for its next frame, and the earliest of these is what comes next.
use Rattle.std.proofs.Common.{◌≡◌, ◌≤◌, ◌<◌, ◌+◌, ◌∙◌, ℕ, zero, suc, Bool, true, false, List, [], ◌∷◌, length, map, get_or, set, Option, Some, None, Ok, Err, inl, inr, refl, sym, ap, arith, subst}
use Rattle.std.specs.Prelude.{IfSome, Result, ◌⊎◌, if◌then◌else◌, slice_get}
use Rattle.pfs_streams.specs.Feeds.{FeedView, HasFailed, read_failures}
use Rattle.pfs_capture_files.specs.Forms.{IsWithinStart, start_of}
use Rattle.pfs_capture_files.specs.declared.faults.FileFault.{FileFault}
use Rattle.pfs_capture_files.specs.declared.forms.Form.{Form}
use Rattle.pfs_capture_files.specs.declared.frames.Frame.{Frame}
use Rattle.pfs_capture_files.proofs.StartLaws.{start_within}
use Rattle.pfs_capture.specs.Aheads.{Ahead, Aheads, AllBegin, AreAsked, BreaksOff, HaveBegun, HasBegun, earliest, is_asked, nearer, waiting_at, rest_ahead, with_next}
use Rattle.pfs_capture.specs.Captures.{frames_from, most_items, seen_of}
use Rattle.pfs_capture.specs.Instants.{is_earlier, start_instant}
use Rattle.pfs_capture.specs.Merging.{Coming, Comes, Stops, Ends, Given, behind_frame, behind_run, begun_run, capture_run, fault_or, first_fault, coming_of}
use Rattle.pfs_capture.specs.Points.{Point}
use Rattle.pfs_capture.specs.Readers.{AreGiven, IsGiven, SomeFailed, failures_of, lefts_of}
use Rattle.pfs_capture.specs.Runs.{Judged, Run, frame_then, judged_at, judged_frames}
use Rattle.pfs_capture.specs.Traces.{AreWithinStarts}
use Rattle.pfs_capture.specs.declared.captures.Capture.{Capture}
use Rattle.pfs_capture.specs.declared.captures.NextKnown.{NextKnown}
use Rattle.pfs_capture.specs.declared.captures.NextKnown.TheVariants as next
use Rattle.pfs_capture.specs.declared.faults.TraceStop.{TraceStop}
use Rattle.pfs_capture.specs.declared.instants.Instant.{Instant}
use Rattle.pfs_capture.specs.declared.merging.NextFrame.{NextFrame}

-- ---- one capture is asked

pub aheads-step : {R : Type 0} (remaining : FeedView R → Option (List ℕ)) (cs : List (Capture R)) (rs : List Run) (i : ℕ) (c d o : Capture R)
    → c ≡ get_or cs i o → i < length cs → ((run : Run) → Ahead remaining c run → Ahead remaining d run)
    → Aheads remaining cs rs → Aheads remaining (set cs i d) rs
aheads-step remaining [] rs i c d o e lt step h = absurd (omega (arith, lt))
aheads-step remaining (x ∷ xs) [] i c d o e lt step h = absurd h
aheads-step remaining (x ∷ xs) (r ∷ rs) zero c d o e lt step h = (step r (subst (λ (z : Capture _). Ahead remaining z r) (sym e) h.0), h.1)
aheads-step remaining (x ∷ xs) (r ∷ rs) (suc i) c d o e lt step h = (h.0, aheads-step remaining xs rs i c d o e (omega (arith, lt)) step h.1)

pub asked-step : {R : Type 0} (cs : List (Capture R)) (i : ℕ) (d : Capture R) → is_asked d.next ≡ true → AreAsked i cs → AreAsked (suc i) (set cs i d)
asked-step [] i d e h = tt
asked-step (x ∷ xs) zero d e h = (e, tt)
asked-step (x ∷ xs) (suc i) d e h = (h.0, asked-step xs i d e h.1)

pub failures-step : {R : Type 0} (cs : List (Capture R)) (i : ℕ) (c d o : Capture R) → c ≡ get_or cs i o → read_failures d.reader ≡ read_failures c.reader → failures_of (set cs i d) ≡ failures_of cs
failures-step [] i c d o e same = refl
failures-step (x ∷ xs) zero c d o e same = ap (λ (n : ℕ). n ∷ failures_of xs) (same ∙ ap (λ (z : Capture _). read_failures z.reader) e)
failures-step (x ∷ xs) (suc i) c d o e same = ap (λ (ns : List ℕ). read_failures x.reader ∷ ns) (failures-step xs i c d o e same)

pub some-failed : {R : Type 0} (cs : List (Capture R)) (i : ℕ) (d : Capture R) → i < length cs → HasFailed d.reader → SomeFailed (set cs i d)
some-failed [] i d lt h = absurd (omega (arith, lt))
some-failed (x ∷ xs) zero d lt h = inl h
some-failed (x ∷ xs) (suc i) d lt h = inr (some-failed xs i d (omega (arith, lt)) h)

-- a read failed, or none has failed still
pub sound-step : {R P : Type 0} (cs : List (Capture R)) (i : ℕ) (c d o : Capture R) (before : List ℕ) → c ≡ get_or cs i o → failures_of cs ≡ before
    → P ⊎ (read_failures d.reader ≡ read_failures c.reader) → P ⊎ (failures_of (set cs i d) ≡ before)
sound-step cs i c d o before e kept (inl failed) = inl failed
sound-step cs i c d o before e kept (inr same) = inr (failures-step cs i c d o e same ∙ kept)

pub then-kept : {P : Type 0} (a b c : List ℕ) → b ≡ c → P ⊎ (a ≡ b) → P ⊎ (a ≡ c)
then-kept a b c e (inl failed) = inl failed
then-kept a b c e (inr same) = inr (same ∙ e)

pub then-few : {P : Type 0} (a b c : ℕ) → b ≡ c → P ⊎ (a ≡ b) → P ⊎ (a ≡ c)
then-few a b c e (inl failed) = inl failed
then-few a b c e (inr same) = inr (same ∙ e)

-- a fault behind a capture whose next frame is known is what comes next
stops-behind : (points : List Point) (held : List ℕ) (last : Instant) (known : NextKnown) (rest r : Run) (rs : List Run) (f : TraceStop) → is_asked known ≡ true
    → r ≡ with_next points held last known rest → behind_run r (Stops f) rs ≡ Stops f
stops-behind points held last next.Unasked rest r rs f was e = absurd (cc was)
stops-behind points held last next.Ended rest r rs f was e = ap (λ (x : Run). behind_run x (Stops f) rs) e
stops-behind points held last (next.Waits frame) rest r rs f was e = ap (λ (x : Run). behind_run x (Stops f) rs) e

pub stops-at : {R : Type 0} (remaining : FeedView R → Option (List ℕ)) (cs : List (Capture R)) (rs : List Run) (i : ℕ) (c o : Capture R) (f : TraceStop)
    → c ≡ get_or cs i o → i < length cs → AreAsked i cs → ((run : Run) → Ahead remaining c run → run ≡ ([], Some f))
    → Aheads remaining cs rs → coming_of rs ≡ Stops f
stops-at remaining [] rs i c o f e lt known stops h = absurd (omega (arith, lt))
stops-at remaining (x ∷ xs) [] i c o f e lt known stops h = absurd h
stops-at remaining (x ∷ xs) (r ∷ rs) zero c o f e lt known stops h =
    ap (λ (z : Run). behind_run z (coming_of rs) rs) (stops r (subst (λ (z : Capture _). Ahead remaining z r) (sym e) h.0))
stops-at remaining (x ∷ xs) (r ∷ rs) (suc i) c o f e lt known stops h =
    let (left, source, is) = h.0 in
    ap (λ (z : Coming). behind_run r z rs) (stops-at remaining xs rs i c o f e (omega (arith, lt)) known.1 stops h.1)
    ∙ stops-behind x.points.items x.held.items x.last x.next (rest_ahead x.points.items x.last x.items x.form left) r rs f known.0 is

-- ---- the earliest comes next

-- nothing waits: nothing comes
ended-behind : (points : List Point) (held : List ℕ) (last : Instant) (known : NextKnown) (rest r : Run) (rs : List Run) (k : ℕ) (behind : Option NextFrame) → is_asked known ≡ true
    → nearer (waiting_at k last known) behind ≡ None → r ≡ with_next points held last known rest → (behind ≡ None) × (behind_run r Ends rs ≡ Ends)
ended-behind points held last next.Unasked rest r rs k behind was none e = absurd (cc was)
ended-behind points held last next.Ended rest r rs k behind was none e = (none, ap (λ (x : Run). behind_run x Ends rs) e)
ended-behind points held last (next.Waits frame) rest r rs k None was none e = absurd (cc none)
ended-behind points held last (next.Waits frame) rest r rs k (Some q) was none e = go (is_earlier q.instant last) none
  where
    go : (b : Bool) → (if b then Some q else Some (record { index = k; instant = last; frame = frame })) ≡ None → (Some q ≡ None) × (behind_run r Ends rs ≡ Ends)
    go true f = absurd (cc f)
    go false f = absurd (cc f)

pub none-comes : {R : Type 0} (remaining : FeedView R → Option (List ℕ)) (cs : List (Capture R)) (rs : List Run) (k : ℕ) → AreAsked (length cs) cs
    → earliest k cs ≡ None → Aheads remaining cs rs → coming_of rs ≡ Ends
none-comes remaining [] [] k known none h = refl
none-comes remaining [] (r ∷ rs) k known none h = absurd h
none-comes remaining (x ∷ xs) [] k known none h = absurd h
none-comes remaining (x ∷ xs) (r ∷ rs) k known none h =
    let (left, source, is) = h.0 in
    let ended = ended-behind x.points.items x.held.items x.last x.next (rest_ahead x.points.items x.last x.items x.form left) r rs k (earliest (k + 1) xs) known.0 none is in
    ap (λ (z : Coming). behind_run r z rs) (none-comes remaining xs rs (k + 1) known.1 ended.0 h.1) ∙ ended.1

-- the frame in this place comes next, and is then not asked for any more
pub record IsChosen {R : Type 0} (remaining : FeedView R → Option (List ℕ)) (cs : List (Capture R)) (rs : List Run) (k : ℕ) (p : NextFrame) : Type 0 where
  pub nth : ℕ
  pub capture : Capture R
  pub rest : List Run
  pub place : p.index ≡ k + nth
  pub within : nth < length cs
  pub which : slice_get cs nth ≡ Some capture
  pub instant : p.instant ≡ capture.last
  pub comes : coming_of rs ≡ Comes (judged_at capture.points.items (seen_of p.frame capture.held.items) capture.last) rest
  pub left : Aheads remaining (set cs nth (record capture { next = next.Unasked })) rest

-- it is behind the capture in front
chosen-behind : {R : Type 0} (remaining : FeedView R → Option (List ℕ)) (x : Capture R) (xs : List (Capture R)) (r : Run) (rs : List Run) (k : ℕ) (p : NextFrame)
    → Ahead remaining x r → (h : IsChosen remaining xs rs (k + 1) p)
    → behind_run r (Comes (judged_at h.capture.points.items (seen_of p.frame h.capture.held.items) h.capture.last) h.rest) rs
    ≡ Comes (judged_at h.capture.points.items (seen_of p.frame h.capture.held.items) h.capture.last) (r ∷ h.rest)
    → IsChosen remaining (x ∷ xs) (r ∷ rs) k p
chosen-behind remaining x xs r rs k p front h comes = record {
  nth = suc h.nth;
  capture = h.capture;
  rest = r ∷ h.rest;
  place = omega (arith, h.place);
  within = omega (arith, h.within);
  which = h.which;
  instant = h.instant;
  comes = ap (λ (z : Coming). behind_run r z rs) h.comes ∙ comes;
  left = (front, h.left);
}

-- it is that of the capture in front
chosen-front : {R : Type 0} (remaining : FeedView R → Option (List ℕ)) (x : Capture R) (xs : List (Capture R)) (rs : List Run) (r : Run) (k : ℕ) (frame : Frame) (left : List ℕ) (p : NextFrame)
    → record { index = k; instant = x.last; frame = frame } ≡ p → remaining x.reader ≡ Some left → Aheads remaining xs rs
    → behind_run r (coming_of rs) rs ≡ Comes (judged_at x.points.items (seen_of frame x.held.items) x.last) (rest_ahead x.points.items x.last x.items x.form left ∷ rs)
    → IsChosen remaining (x ∷ xs) (r ∷ rs) k p
chosen-front remaining x xs rs r k frame left p e source behind comes = subst (λ (q : NextFrame). IsChosen remaining (x ∷ xs) (r ∷ rs) k q) e (record {
  nth = 0;
  capture = x;
  rest = rest_ahead x.points.items x.last x.items x.form left ∷ rs;
  place = omega arith;
  within = omega arith;
  which = refl;
  instant = refl;
  comes = comes;
  left = ((left, source, refl), behind);
})

pub chosen : {R : Type 0} (remaining : FeedView R → Option (List ℕ)) (cs : List (Capture R)) (rs : List Run) (k : ℕ) (p : NextFrame) → AreAsked (length cs) cs
    → earliest k cs ≡ Some p → Aheads remaining cs rs → IsChosen remaining cs rs k p
chosen remaining [] rs k p known e h = absurd (cc e)
chosen remaining (x ∷ xs) [] k p known e h = absurd h
chosen {R} remaining (x ∷ xs) (r ∷ rs) k p known e h =
    let (left, source, is) = h.0 in
    by x.next left known.0 source is e (λ q. chosen remaining xs rs (k + 1) q known.1) (none-comes remaining xs rs (k + 1) known.1)
  where
    rest : List ℕ → Run
    rest left = rest_ahead x.points.items x.last x.items x.form left

    first : Frame → Judged
    first frame = judged_at x.points.items (seen_of frame x.held.items) x.last

    waits : (frame : Frame) (left : List ℕ) → remaining x.reader ≡ Some left → r ≡ frame_then (first frame) (rest left) → (behind : Option NextFrame) → earliest (k + 1) xs ≡ behind
        → nearer (Some (record { index = k; instant = x.last; frame = frame })) behind ≡ Some p
        → ((q : NextFrame) → earliest (k + 1) xs ≡ Some q → Aheads remaining xs rs → IsChosen remaining xs rs (k + 1) q)
        → (earliest (k + 1) xs ≡ None → Aheads remaining xs rs → coming_of rs ≡ Ends)
        → IsChosen remaining (x ∷ xs) (r ∷ rs) k p
    waits frame left source is None t f more none =
        chosen-front remaining x xs rs r k frame left p (cc f) source h.1
        (ap (λ (z : Run). behind_run z (coming_of rs) rs) is ∙ ap (λ (z : Coming). behind_frame (first frame) (rest left) z rs) (none t h.1))
    waits frame left source is (Some q) t f more none = test (is_earlier q.instant x.last) refl f
      where
        behind : IsChosen remaining xs rs (k + 1) q
        behind = more q t h.1

        test : (b : Bool) → is_earlier q.instant x.last ≡ b → (if b then Some q else Some (record { index = k; instant = x.last; frame = frame })) ≡ Some p → IsChosen remaining (x ∷ xs) (r ∷ rs) k p
        test true earlier g =
            let own : is_earlier behind.capture.last x.last ≡ true = ap (λ (z : Instant). is_earlier z x.last) (sym behind.instant) ∙ earlier in
            let j : Judged = judged_at behind.capture.points.items (seen_of q.frame behind.capture.held.items) behind.capture.last in
            let same : q ≡ p = cc g in
            subst (λ (z : NextFrame). IsChosen remaining (x ∷ xs) (r ∷ rs) k z) same
            (chosen-behind remaining x xs r rs k q h.0 behind
            (ap (λ (z : Run). behind_run z (Comes j behind.rest) rs) is
            ∙ (ap (λ (b : Bool). if b then Comes j (frame_then (first frame) (rest left) ∷ behind.rest) else Comes (first frame) (rest left ∷ rs)) own
            ∙ ap (λ (z : Run). Comes j (z ∷ behind.rest)) (sym is))))
        test false earlier g =
            let own : is_earlier behind.capture.last x.last ≡ false = ap (λ (z : Instant). is_earlier z x.last) (sym behind.instant) ∙ earlier in
            let j : Judged = judged_at behind.capture.points.items (seen_of q.frame behind.capture.held.items) behind.capture.last in
            chosen-front remaining x xs rs r k frame left p (cc g) source h.1
            (ap (λ (z : Run). behind_run z (coming_of rs) rs) is
            ∙ (ap (λ (z : Coming). behind_frame (first frame) (rest left) z rs) behind.comes
            ∙ ap (λ (b : Bool). if b then Comes j (frame_then (first frame) (rest left) ∷ behind.rest) else Comes (first frame) (rest left ∷ rs)) own))

    by : (known : NextKnown) (left : List ℕ) → is_asked known ≡ true → remaining x.reader ≡ Some left → r ≡ with_next x.points.items x.held.items x.last known (rest left)
        → nearer (waiting_at k x.last known) (earliest (k + 1) xs) ≡ Some p
        → ((q : NextFrame) → earliest (k + 1) xs ≡ Some q → Aheads remaining xs rs → IsChosen remaining xs rs (k + 1) q)
        → (earliest (k + 1) xs ≡ None → Aheads remaining xs rs → coming_of rs ≡ Ends)
        → IsChosen remaining (x ∷ xs) (r ∷ rs) k p
    by next.Unasked left was source is f more none = absurd (cc was)
    by next.Ended left was source is f more none =
        let behind = more p f h.1 in
        let j : Judged = judged_at behind.capture.points.items (seen_of p.frame behind.capture.held.items) behind.capture.last in
        chosen-behind remaining x xs r rs k p h.0 behind (ap (λ (z : Run). behind_run z (Comes j behind.rest) rs) is ∙ ap (λ (z : Run). Comes j (z ∷ behind.rest)) (sym is))
    by (next.Waits frame) left was source is f more none = waits frame left source is (earliest (k + 1) xs) refl f more none

-- its index among all captures is that of its place
pub chosen-here : {R : Type 0} (remaining : FeedView R → Option (List ℕ)) (cs : List (Capture R)) (rs : List Run) (p : NextFrame) → (h : IsChosen remaining cs rs 0 p)
    → (slice_get cs p.index ≡ Some h.capture) × Aheads remaining (set cs p.index (record (h.capture) { next = next.Unasked })) h.rest
chosen-here remaining cs rs p h =
    let same : h.nth ≡ p.index = omega (arith, h.place) in
    (subst (λ (n : ℕ). slice_get cs n ≡ Some h.capture) same h.which, subst (λ (n : ℕ). Aheads remaining (set cs n (record (h.capture) { next = next.Unasked })) h.rest) same h.left)

-- ---- the beginnings

pub begun-step : {R : Type 0} (remaining : FeedView R → Option (List ℕ)) (cs : List (Capture R)) (gs : List Given) (i : ℕ) (c d o : Capture R)
    → c ≡ get_or cs i o → i < length cs → ((g : Given) → IsGiven remaining c g → HasBegun remaining d g)
    → HaveBegun remaining i cs gs → HaveBegun remaining (suc i) (set cs i d) gs
begun-step remaining [] gs i c d o e lt begins h = absurd (omega (arith, lt))
begun-step remaining (x ∷ xs) [] zero c d o e lt begins h = absurd h
begun-step remaining (x ∷ xs) [] (suc i) c d o e lt begins h = absurd h
begun-step remaining (x ∷ xs) (g ∷ gs) zero c d o e lt begins h = (begins g (subst (λ (z : Capture _). IsGiven remaining z g) (sym e) h.0), h.1)
begun-step remaining (x ∷ xs) (g ∷ gs) (suc i) c d o e lt begins h = (h.0, begun-step remaining xs gs i c d o e (omega (arith, lt)) begins h.1)

-- all frames lie ahead of a capture that has begun
begun-run : (points points2 : List Point) (held : List ℕ) (last : Instant) (items : ℕ) (known : NextKnown) (after : Option Form) (form : Form) (left octets : List ℕ)
    → start_of octets ≡ Ok (form, left) → after ≡ Some form → points ≡ points2 → known ≡ next.Unasked → last ≡ start_instant → items ≡ most_items
    → begun_run points2 (start_of octets) ≡ with_next points held last known (rest_ahead points last items after left)
begun-run points points2 held last items known after form left octets starts is same unasked first all =
    ap (λ (r : Result (Form × List ℕ) FileFault). begun_run points2 r) starts
    ∙ (ap (λ (n : ℕ). judged_frames points2 start_instant (frames_from n form left)) (sym all)
    ∙ (ap (λ (i : Instant). judged_frames points2 i (frames_from items form left)) (sym first)
    ∙ (ap (λ (ps : List Point). judged_frames ps last (frames_from items form left)) (sym same)
    ∙ (ap (λ (o : Option Form). rest_ahead points last items o left) (sym is)
    ∙ ap (λ (n : NextKnown). with_next points held last n (rest_ahead points last items after left)) (sym unasked)))))

pub all-begun : {R : Type 0} (remaining : FeedView R → Option (List ℕ)) (cs : List (Capture R)) (gs : List Given) (n : ℕ) → n ≡ length cs → HaveBegun remaining n cs gs
    → Aheads remaining cs (map capture_run gs) × (first_fault gs ≡ None)
all-begun remaining [] [] zero e h = (tt, refl)
all-begun remaining [] (g ∷ gs) zero e h = absurd h
all-begun remaining (x ∷ xs) gs zero e h = absurd (omega (arith, e))
all-begun remaining [] gs (suc n) e h = absurd (omega (arith, e))
all-begun remaining (x ∷ xs) [] (suc n) e h = absurd h
all-begun remaining (x ∷ xs) (g ∷ gs) (suc n) e h =
    let (form, left, starts, source, is, same, unasked, first, all) = h.0 in
    let more = all-begun remaining xs gs n (omega (arith, e)) h.1 in (
      ((left, source, begun-run x.points.items g.points x.held.items x.last x.items x.next x.form form left g.octets starts is same unasked first all), more.0),
      ap (λ (r : Result (Form × List ℕ) FileFault). fault_or r (first_fault gs)) starts ∙ more.1,
    )

-- of captures of which nothing was read no byte behind their beginnings was
unread-within : {R : Type 0} (remaining : FeedView R → Option (List ℕ)) (cs : List (Capture R)) (gs : List Given) → AreGiven remaining cs gs → AreWithinStarts gs (lefts_of remaining cs)
unread-within remaining [] [] h = tt
unread-within remaining [] (g ∷ gs) h = absurd h
unread-within remaining (x ∷ xs) [] h = tt
unread-within remaining (x ∷ xs) (g ∷ gs) h = (start_within g.octets (remaining x.reader) 0 (omega arith) h.0.2, unread-within remaining xs gs h.1)

pub broken-off : {R : Type 0} (remaining : FeedView R → Option (List ℕ)) (cs : List (Capture R)) (gs : List Given) (i : ℕ) (c d o : Capture R) (f : TraceStop)
    → c ≡ get_or cs i o → i < length cs → ((g : Given) → IsGiven remaining c g → BreaksOff remaining f d g)
    → HaveBegun remaining i cs gs → AllBegin remaining (Err f) (set cs i d) gs
broken-off remaining [] gs i c d o f e lt breaks h = absurd (omega (arith, lt))
broken-off remaining (x ∷ xs) [] zero c d o f e lt breaks h = absurd h
broken-off remaining (x ∷ xs) [] (suc i) c d o f e lt breaks h = absurd h
broken-off remaining (x ∷ xs) (g ∷ gs) zero c d o f e lt breaks h =
    let (y, is, starts, within) = breaks g (subst (λ (z : Capture _). IsGiven remaining z g) (sym e) h.0) in (
      (y, ap (λ (s : TraceStop). let r : Result Unit TraceStop = Err s in r) is, λ inside. ap (λ (r : Result (Form × List ℕ) FileFault). fault_or r (first_fault gs)) (starts inside)),
      (within, unread-within remaining xs gs h.1),
    )
broken-off remaining (x ∷ xs) (g ∷ gs) (suc i) c d o f e lt breaks h =
    let (form, left, starts, source, is_form, same, unasked, first_moment, all) = h.0 in
    let (ends, within) = broken-off remaining xs gs i c d o f e (omega (arith, lt)) breaks h.1 in
    let (y, is, first) = ends in
    let begun : IsWithinStart (Ok (form, left)) (remaining x.reader) = (left, source, omega arith) in (
      (y, is, λ inside. ap (λ (r : Result (Form × List ℕ) FileFault). fault_or r (first_fault gs)) starts ∙ first inside),
      (subst (λ (r : Result (Form × List ℕ) FileFault). IsWithinStart r (remaining x.reader)) (sym starts) begun, within),
    )

-- ---- where the earliest is

near-within : (n : ℕ) (first behind : Option NextFrame) → IfSome first (λ p. p.index < n) → IfSome behind (λ p. p.index < n) → IfSome (nearer first behind) (λ p. p.index < n)
near-within n None behind h k = k
near-within n (Some p) None h k = h
near-within n (Some p) (Some q) h k = by (is_earlier q.instant p.instant)
  where
    by : (b : Bool) → IfSome (if b then Some q else Some p) (λ p. p.index < n)
    by true = k
    by false = h

place-within : (n index : ℕ) (instant : Instant) (known : NextKnown) → index < n → IfSome (waiting_at index instant known) (λ p. p.index < n)
place-within n index instant next.Unasked h = tt
place-within n index instant next.Ended h = tt
place-within n index instant (next.Waits frame) h = h

earliest-below : {R : Type 0} (n k : ℕ) (cs : List (Capture R)) → k + length cs ≤ n → IfSome (earliest k cs) (λ p. p.index < n)
earliest-below n k [] h = tt
earliest-below n k (x ∷ xs) h =
    near-within n (waiting_at k x.last x.next) (earliest (k + 1) xs) (place-within n k x.last x.next (omega (arith, h))) (earliest-below n (k + 1) xs (omega (arith, h)))

pub earliest-within : {R : Type 0} (cs : List (Capture R)) (found : Option NextFrame) → found ≡ earliest 0 cs → IfSome found (λ p. p.index < length cs)
earliest-within cs found e = subst (λ (o : Option NextFrame). IfSome o (λ p. p.index < length cs)) (sym e) (earliest-below (length cs) 0 cs (omega arith))
