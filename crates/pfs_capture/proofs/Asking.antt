-- What lies ahead of a capture stays as it is while its items are read.
use Rattle.std.proofs.Common.{◌≡◌, ◌<◌, ◌-◌, ◌∙◌, ℕ, suc, true, false, List, [], ◌∷◌, Option, Some, None, Ok, Err, refl, sym, ap, arith}
use Rattle.std.specs.Prelude.{Result}
use Rattle.pfs_capture_files.specs.Faults.{is_outside}
use Rattle.pfs_capture_files.specs.Forms.{Begins, ReadsItem, ReadTurn, start_of, turn_of}
use Rattle.pfs_capture_files.specs.declared.faults.FileFault.{FileFault}
use Rattle.pfs_capture_files.specs.declared.forms.Form.{Form}
use Rattle.pfs_capture_files.specs.declared.frames.Frame.{Frame}
use Rattle.pfs_capture_files.specs.declared.frames.FileItem.TheVariants as item
use Rattle.pfs_capture.specs.Aheads.{is_asked, rest_ahead, rest_from, with_next}
use Rattle.pfs_capture.specs.Captures.{Frames, SeenFrame, at_turn, frames_from, seen_of}
use Rattle.pfs_capture.specs.Instants.{instant_after}
use Rattle.pfs_capture.specs.Points.{Point}
use Rattle.pfs_capture.specs.Runs.{Run, frame_then, at_instant, judged_at, judged_frames, judged_from}
use Rattle.pfs_capture.specs.declared.captures.NextKnown.{NextKnown}
use Rattle.pfs_capture.specs.declared.captures.NextKnown.TheVariants as next
use Rattle.pfs_capture.specs.declared.faults.TraceStop.{TraceStop}
use Rattle.pfs_capture.specs.declared.faults.TraceStop.TheVariants as stop
use Rattle.pfs_capture.specs.declared.instants.Instant.{Instant}

-- ---- one turn of the definitions

frames_from-turn : (n : ℕ) (form : Form) (xs : List ℕ) (turn : Result ReadTurn FileFault) → turn_of form xs ≡ turn → frames_from (suc n) form xs ≡ at_turn turn (frames_from n)
unfolding frames_from
frames_from-turn n form xs turn e = ap (λ (t : Result ReadTurn FileFault). at_turn t (frames_from n)) e

frames_from-none : (form : Form) (xs : List ℕ) → frames_from 0 form xs ≡ ([], Some stop.TooMany)
unfolding frames_from
frames_from-none form xs = refl

judged-none : (points : List Point) (last : Instant) (end : Option TraceStop) → judged_from points last [] end ≡ ([], end)
unfolding judged_from
judged-none points last end = refl

judged-more : (points : List Point) (last : Instant) (f : SeenFrame) (fs : List SeenFrame) (end : Option TraceStop) (r : Result Instant TraceStop) → instant_after last f.moment ≡ r
    → judged_from points last (f ∷ fs) end ≡ at_instant r (λ i. judged_at points f i) (λ i. judged_from points i fs end)
unfolding judged_from
judged-more points last f fs end r e = ap (λ (x : Result Instant TraceStop). at_instant x (λ i. judged_at points f i) (λ i. judged_from points i fs end)) e

-- ---- what lies ahead

-- what a reader in this state will give, and what lies ahead then
abbrev pub Lies : {S : Type 0} → (S → Option (List ℕ)) → S → Run → (List ℕ → Run) → Type 0
Lies remaining reader run more = (left : List ℕ) × (remaining reader ≡ Some left) × (run ≡ more left)

-- it is that of the rest, where the next frame was not asked for
unasked : (points : List Point) (held : List ℕ) (last : Instant) (items : ℕ) (known : NextKnown) (form : Option Form) (left : List ℕ) → known ≡ next.Unasked
    → with_next points held last known (rest_ahead points last items form left) ≡ rest_ahead points last items form left
unasked points held last items known form left e = ap (λ (n : NextKnown). with_next points held last n (rest_ahead points last items form left)) e

-- the beginning is read
pub ahead-begun : {S : Type 0} (remaining : S → Option (List ℕ)) (points : List Point) (last : Instant) (items : ℕ) (held held2 : List ℕ) (known : NextKnown) (before : Option Form) (form : Form) (a b : S) (run : Run)
    → known ≡ next.Unasked → before ≡ None
    → ((xs : List ℕ) → remaining a ≡ Some xs → Begins (start_of xs) (Ok form) (remaining b))
    → Lies remaining a run (λ left. with_next points held last known (rest_ahead points last items before left))
    → Lies remaining b run (λ left. with_next points held2 last known (rest_ahead points last items (Some form) left))
ahead-begun remaining points last items held held2 known before form a b run e none starts (left, source, is) =
    let (ys, behind, begins) = starts left source in (
      ys,
      behind,
      is ∙ (unasked points held last items known before left e ∙ (ap (λ (o : Option Form). rest_ahead points last items o left) none
          ∙ (ap (λ (r : Result (Form × List ℕ) FileFault). rest_from points last items r) begins ∙ sym (unasked points held2 last items known (Some form) ys e)))),
    )

-- or it is not
pub stops-start : {S : Type 0} (remaining : S → Option (List ℕ)) (points : List Point) (last : Instant) (items : ℕ) (held : List ℕ) (known : NextKnown) (before : Option Form) (f : FileFault) (a b : S) (run : Run)
    → known ≡ next.Unasked → before ≡ None
    → ((xs : List ℕ) → remaining a ≡ Some xs → Begins (start_of xs) (Err f) (remaining b))
    → Lies remaining a run (λ left. with_next points held last known (rest_ahead points last items before left))
    → is_outside f ≡ false → run ≡ ([], Some (stop.File f))
stops-start remaining points last items held known before f a b run e none starts (left, source, is) inside =
    is ∙ (unasked points held last items known before left e ∙ (ap (λ (o : Option Form). rest_ahead points last items o left) none
    ∙ ap (λ (r : Result (Form × List ℕ) FileFault). rest_from points last items r) (starts left source inside)))

-- what lies ahead before an item is read
before-item : (points : List Point) (held : List ℕ) (last : Instant) (items : ℕ) (known : NextKnown) (before : Option Form) (form : Form) (left : List ℕ) (run : Run) (turn : Result ReadTurn FileFault)
    → known ≡ next.Unasked → before ≡ Some form → 0 < items → turn_of form left ≡ turn
    → run ≡ with_next points held last known (rest_ahead points last items before left)
    → run ≡ judged_frames points last (at_turn turn (frames_from (items - 1)))
before-item points held last items known before form left run turn e some few found is =
    let more : items ≡ suc (items - 1) = omega arith in
    is ∙ (unasked points held last items known before left e ∙ (ap (λ (o : Option Form). rest_ahead points last items o left) some
    ∙ ap (λ (fs : Frames). judged_frames points last fs) (ap (λ n. frames_from n form left) more ∙ frames_from-turn (items - 1) form left turn found)))

-- no more items are read
pub stops-many : {S : Type 0} (remaining : S → Option (List ℕ)) (points : List Point) (last : Instant) (items : ℕ) (held : List ℕ) (known : NextKnown) (before : Option Form) (form : Form) (a : S) (run : Run)
    → known ≡ next.Unasked → before ≡ Some form → items ≡ 0
    → Lies remaining a run (λ left. with_next points held last known (rest_ahead points last items before left))
    → run ≡ ([], Some stop.TooMany)
stops-many remaining points last items held known before form a run e some none (left, source, is) =
    is ∙ (unasked points held last items known before left e ∙ (ap (λ (o : Option Form). rest_ahead points last items o left) some
    ∙ (ap (λ (fs : Frames). judged_frames points last fs) (ap (λ n. frames_from n form left) none ∙ frames_from-none form left) ∙ judged-none points last (Some stop.TooMany))))

-- the end is read
pub ahead-end : {S : Type 0} (remaining : S → Option (List ℕ)) (points : List Point) (last : Instant) (items : ℕ) (held held2 : List ℕ) (known : NextKnown) (before : Option Form) (form form2 : Form) (a b : S) (run : Run)
    → known ≡ next.Unasked → before ≡ Some form → 0 < items
    → ((xs : List ℕ) → remaining a ≡ Some xs → ReadsItem (turn_of form xs) (Ok item.End) form2 held2 (remaining b))
    → Lies remaining a run (λ left. with_next points held last known (rest_ahead points last items before left))
    → Lies remaining b run (λ left. ([], None))
ahead-end remaining points last items held held2 known before form form2 a b run e some few reads (left, source, is) =
    let (ys, behind, found) = reads left source in
    (ys, behind, before-item points held last items known before form left run _ e some few found is ∙ judged-none points last None)

-- a block without a frame
pub ahead-other : {S : Type 0} (remaining : S → Option (List ℕ)) (points : List Point) (last : Instant) (items : ℕ) (held held2 : List ℕ) (known : NextKnown) (before : Option Form) (form form2 : Form) (a b : S) (run : Run)
    → known ≡ next.Unasked → before ≡ Some form → 0 < items
    → ((xs : List ℕ) → remaining a ≡ Some xs → ReadsItem (turn_of form xs) (Ok item.Other) form2 held2 (remaining b))
    → Lies remaining a run (λ left. with_next points held last known (rest_ahead points last items before left))
    → Lies remaining b run (λ left. with_next points held2 last known (rest_ahead points last (items - 1) (Some form2) left))
ahead-other remaining points last items held held2 known before form form2 a b run e some few reads (left, source, is) =
    let (ys, behind, found) = reads left source in
    (ys, behind, before-item points held last items known before form left run _ e some few found is ∙ sym (unasked points held2 last (items - 1) known (Some form2) ys e))

-- a frame
pub ahead-waits : {S : Type 0} (remaining : S → Option (List ℕ)) (points : List Point) (last instant : Instant) (items : ℕ) (held held2 : List ℕ) (known : NextKnown) (before : Option Form) (form form2 : Form) (frame : Frame) (a b : S) (run : Run)
    → known ≡ next.Unasked → before ≡ Some form → 0 < items
    → ((xs : List ℕ) → remaining a ≡ Some xs → ReadsItem (turn_of form xs) (Ok (item.Frame frame)) form2 held2 (remaining b))
    → instant_after last frame.moment ≡ Ok instant
    → Lies remaining a run (λ left. with_next points held last known (rest_ahead points last items before left))
    → Lies remaining b run (λ left. frame_then (judged_at points (seen_of frame held2) instant) (rest_ahead points instant (items - 1) (Some form2) left))
ahead-waits remaining points last instant items held held2 known before form form2 frame a b run e some few reads told (left, source, is) =
    let (ys, behind, found) = reads left source in
    let more = frames_from (items - 1) form2 ys in
    (ys, behind, before-item points held last items known before form left run _ e some few found is ∙ judged-more points last (seen_of frame held2) more.0 more.1 (Ok instant) told)

-- a frame whose moment is none of a trace
pub stops-moment : {S : Type 0} (remaining : S → Option (List ℕ)) (points : List Point) (last : Instant) (items : ℕ) (held held2 : List ℕ) (known : NextKnown) (before : Option Form) (form form2 : Form) (frame : Frame) (a b : S) (run : Run) (f : TraceStop)
    → known ≡ next.Unasked → before ≡ Some form → 0 < items
    → ((xs : List ℕ) → remaining a ≡ Some xs → ReadsItem (turn_of form xs) (Ok (item.Frame frame)) form2 held2 (remaining b))
    → instant_after last frame.moment ≡ Err f
    → Lies remaining a run (λ left. with_next points held last known (rest_ahead points last items before left))
    → run ≡ ([], Some f)
stops-moment remaining points last items held held2 known before form form2 frame a b run f e some few reads told (left, source, is) =
    let (ys, behind, found) = reads left source in
    let more = frames_from (items - 1) form2 ys in
    before-item points held last items known before form left run _ e some few found is ∙ judged-more points last (seen_of frame held2) more.0 more.1 (Err f) told

-- an item that is not read
pub stops-item : {S : Type 0} (remaining : S → Option (List ℕ)) (points : List Point) (last : Instant) (items : ℕ) (held held2 : List ℕ) (known : NextKnown) (before : Option Form) (form form2 : Form) (a b : S) (run : Run) (f : FileFault)
    → known ≡ next.Unasked → before ≡ Some form → 0 < items
    → ((xs : List ℕ) → remaining a ≡ Some xs → ReadsItem (turn_of form xs) (Err f) form2 held2 (remaining b))
    → Lies remaining a run (λ left. with_next points held last known (rest_ahead points last items before left))
    → is_outside f ≡ false → run ≡ ([], Some (stop.File f))
stops-item remaining points last items held held2 known before form form2 a b run f e some few reads (left, source, is) inside =
    before-item points held last items known before form left run _ e some few (reads left source inside) is ∙ judged-none points last (Some (stop.File f))

-- what is known of a next frame was asked for
pub asked : (known : NextKnown) → (known ≡ next.Unasked → ⊥) → is_asked known ≡ true
asked next.Unasked unlike = absurd (unlike refl)
asked next.Ended unlike = refl
asked (next.Waits frame) unlike = refl
