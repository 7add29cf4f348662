-- The frames of captures have rows that can be read, in moments that do not fall; so their trace is read as their packets.
use Rattle.std.proofs.Common.{◌≡◌, ◌≤◌, ◌<◌, ◌≢◌, ◌++◌, ◌∙◌, ◌||◌, ◌&&◌, ℕ, zero, suc, Bool, true, false, List, [], ◌∷◌, flat_map, map, Option, Some, None, refl, ap, arith, if◌then◌else◌, nat_eq, nat_lt, subst}
use Rattle.std.specs.Prelude.{Err, Ok, Result, ⊤}
use Rattle.std.specs.List.{AllByRecursion}
use Rattle.std.proofs.lemmas.Bool.Decides.{nat_tests}
use Rattle.pfs_conf_values.specs.Configs.{Conf}
use Rattle.pfs_trace.specs.Events.{falls}
use Rattle.pfs_cli_formats.specs.Reports.{report}
use Rattle.pfs_trace.specs.Traces.{Trace, trace_of}
use Rattle.pfs_capture_files.specs.Forms.{start_of}
use Rattle.pfs_capture_files.specs.declared.faults.FileFault.{FileFault}
use Rattle.pfs_capture_files.specs.declared.forms.Form.{Form}
use Rattle.pfs_capture_files.specs.declared.frames.Moment.{Moment}
use Rattle.pfs_capture_files.specs.declared.frames.Moment.TheVariants.{At, Outside, Untold}
use Rattle.pfs_capture_packets.specs.declared.packets.Reason.{Reason}
use Rattle.pfs_trace.specs.Columns.{header_text}
use Rattle.pfs_trace.specs.Rows.{packet_row}
use Rattle.pfs_trace.specs.declared.rows.Row.{Row}
use Rattle.pfs_capture.specs.Captures.{SeenFrame, frames_from, most_items}
use Rattle.pfs_capture.specs.Instants.{instant_after, is_earlier, later, start_instant}
use Rattle.pfs_capture.specs.Merging.{Coming, Comes, Stops, Ends, Given, at_coming, begun_run, behind_run, capture_run, merged, coming_of}
use Rattle.pfs_capture.specs.Points.{Point}
use Rattle.pfs_capture.specs.Runs.{Judged, Run, at_instant, judged_at, judged_from}
use Rattle.pfs_capture.specs.Traces.{frame_text, row_from}
use Rattle.pfs_capture.specs.declared.faults.TraceStop.{TraceStop}
use Rattle.pfs_capture.specs.declared.faults.TraceStop.TheVariants as stop
use Rattle.pfs_capture.specs.declared.instants.Instant.{Instant}
use Rattle.pfs_capture.specs.declared.sorting.DirectedPacket.{DirectedPacket}
use Rattle.pfs_capture_report.specs.Reported.{CaptureIsReported, IsCapture, TraceIsRead, frames_in, rows_at, rows_of}
use Rattle.pfs_capture_report.proofs.Founds.{AreNamed, found-readable}
use Rattle.pfs_capture_files.proofs.Octets.{AreBytes, begun-bytes}
use Rattle.pfs_capture_report.proofs.Octets.{AreFramesOfBytes, frames-bytes}
use Rattle.pfs_capture_report.proofs.Reading.{AreRising, IsReadable, rows-again}

-- ---- the text is that of the rows

text-more : (second : ℕ) (o : Result DirectedPacket Reason) (text : List ℕ) (rows : List Row) → text ≡ flat_map packet_row rows
    → frame_text second o ++ text ≡ flat_map packet_row (rows_at second o ++ rows)
text-more second (Ok found) text rows more = ap (λ (t : List ℕ). packet_row (row_from second found) ++ t) more
text-more second (Err r) text rows more = more

text-of-rows : (frames : List Judged) → flat_map (λ j. frame_text j.instant.second j.outcome) frames ≡ flat_map packet_row (rows_of frames)
text-of-rows [] = refl
text-of-rows (j ∷ js) = text-more j.instant.second j.outcome _ (rows_of js) (text-of-rows js)

-- ---- the order of moments

-- one moment is not before another: it is in a later second, or not earlier in the same one
record IsBehind (a b : Instant) : Type 0 where
  second : b.second ≤ a.second
  nanosecond : a.second ≤ b.second → b.nanosecond ≤ a.nanosecond

behind-is : (a b : Instant) → is_earlier a b ≡ false → IsBehind a b
behind-is a b e = by (nat_lt a.second b.second) (nat_eq a.second b.second) (nat_lt a.nanosecond b.nanosecond) refl refl refl e
  where
    by : (x y z : Bool) → nat_lt a.second b.second ≡ x → nat_eq a.second b.second ≡ y → nat_lt a.nanosecond b.nanosecond ≡ z → (x || (y && z)) ≡ false → IsBehind a b
    by true y z p q r f = absurd (cc f)
    by false true true p q r f = absurd (cc f)
    by false true false p q r f =
        let s : b.second ≤ a.second = grind (arith, nat_tests) in
        let n : b.nanosecond ≤ a.nanosecond = grind (arith, nat_tests) in
        record { second = s; nanosecond = λ h. n }
    by false false z p q r f =
        let s : b.second ≤ a.second = grind (arith, nat_tests) in
        let n : a.second ≢ b.second = grind (arith, nat_tests) in
        record { second = s; nanosecond = λ h. absurd (n (omega (arith, s, h))) }

is-behind : (a b : Instant) → IsBehind a b → is_earlier a b ≡ false
is-behind a b h = by (nat_lt a.second b.second) (nat_eq a.second b.second) (nat_lt a.nanosecond b.nanosecond) refl refl refl
  where
    by : (x y z : Bool) → nat_lt a.second b.second ≡ x → nat_eq a.second b.second ≡ y → nat_lt a.nanosecond b.nanosecond ≡ z → (x || (y && z)) ≡ false
    by true y z p q r = let s = h.second in let t : a.second < b.second = grind (arith, nat_tests) in absurd (omega (arith, s, t))
    by false true true p q r =
        let t : a.nanosecond < b.nanosecond = grind (arith, nat_tests) in
        let u : a.second ≡ b.second = grind (arith, nat_tests) in
        let n = h.nanosecond (omega (arith, u)) in
        absurd (omega (arith, n, t))
    by false true false p q r = refl
    by false false z p q r = refl

not-fallen : (a b : Instant) → is_earlier a b ≡ false → b.second ≤ a.second
not-fallen a b e = (behind-is a b e).second

never-earlier : (a : Instant) → is_earlier a a ≡ false
never-earlier a = is-behind a a (record { second = omega arith; nanosecond = λ h. omega arith })

earlier-behind : (a b c : Instant) → is_earlier a b ≡ false → is_earlier b c ≡ false → is_earlier a c ≡ false
earlier-behind a b c e f =
    let p = behind-is a b e in
    let q = behind-is b c f in
    let s = p.second in
    let t = q.second in
    is-behind a c (record { second = omega (arith, s, t); nanosecond = λ h. let m = p.nanosecond (omega (arith, t, h)) in let n = q.nanosecond (omega (arith, s, h)) in omega (arith, m, n) })

not-both : (a b : Instant) → is_earlier a b ≡ true → is_earlier b a ≡ false
not-both a b e = by (nat_lt a.second b.second) (nat_eq a.second b.second) (nat_lt a.nanosecond b.nanosecond) refl refl refl e
  where
    by : (x y z : Bool) → nat_lt a.second b.second ≡ x → nat_eq a.second b.second ≡ y → nat_lt a.nanosecond b.nanosecond ≡ z → (x || (y && z)) ≡ true → is_earlier b a ≡ false
    by true y z p q r f =
        let s : a.second < b.second = grind (arith, nat_tests) in
        is-behind b a (record { second = omega (arith, s); nanosecond = λ h. absurd (omega (arith, s, h)) })
    by false true true p q r f =
        let u : a.second ≡ b.second = grind (arith, nat_tests) in
        let t : a.nanosecond < b.nanosecond = grind (arith, nat_tests) in
        is-behind b a (record { second = omega (arith, u); nanosecond = λ h. omega (arith, t) })
    by false true false p q r f = absurd (cc f)
    by false false z p q r f = absurd (cc f)

record IsAfter (last instant : Instant) : Type 0 where
  after : is_earlier instant last ≡ false
  within : instant.second ≤ 4294967295

after-later : (last own : Instant) → last.second ≤ 4294967295 → own.second ≤ 4294967295 → IsAfter last (later last own)
after-later last own h k = by (is_earlier last own) refl
  where
    by : (b : Bool) → is_earlier last own ≡ b → IsAfter last (if b then own else last)
    by true t = record { after = not-both last own t; within = k }
    by false t = record { after = never-earlier last; within = h }

after-last : (last : Instant) (m : Moment) (instant : Instant) → last.second ≤ 4294967295 → instant_after last m ≡ Ok instant → IsAfter last instant
after-last last (At own nanosecond) instant h e = by (nat_lt 4294967295 own) refl e
  where
    by : (b : Bool) → nat_lt 4294967295 own ≡ b → (if b then Err stop.Moment else Ok (later last (record { second = own; nanosecond = nanosecond }))) ≡ Ok instant → IsAfter last instant
    by true t f = cc
    by false t f =
        let small : own ≤ 4294967295 = grind (arith, nat_tests) in
        let same : later last (record { second = own; nanosecond = nanosecond }) ≡ instant = cc f in
        subst (λ (i : Instant). IsAfter last i) same (after-later last (record { second = own; nanosecond = nanosecond }) h small)
after-last last Untold instant h e = let same : last ≡ instant = cc e in subst (λ (i : Instant). IsAfter last i) same (record { after = never-earlier last; within = h })
after-last last Outside instant h e = absurd (cc e)

-- rows that can be read, in order
record AreInOrder (before : Option ℕ) (rows : List Row) : Type 0 where
  readable : AllByRecursion IsReadable rows
  rising : AreRising before rows

-- a moment from which on no second falls
abbrev IsBefore : Option ℕ → ℕ → Type 0
IsBefore before last = (s : ℕ) → last ≤ s → falls before s ≡ false

row-first : (before : Option ℕ) (second : ℕ) (o : Result DirectedPacket Reason) (rows : List Row) → IsBefore before second
    → ((f : DirectedPacket) → o ≡ Ok f → IsReadable (row_from second f)) → ((b : Option ℕ) → IsBefore b second → AreInOrder b rows) → AreInOrder before (rows_at second o ++ rows)
row-first before second (Err r) rows early read more = more before early
row-first before second (Ok f) rows early read more =
    let rest = more (Some second) (λ s h. grind (arith, nat_tests)) in record {
      readable = (read f refl, rest.readable);
      rising = (early second (omega arith), rest.rising);
    }

-- ---- frames in order

-- a frame whose row can be read, if it has one
record IsWholeFrame (j : Judged) : Type 0 where
  within : j.instant.second ≤ 4294967295
  row : (f : DirectedPacket) → j.outcome ≡ Ok f → IsReadable (row_from j.instant.second f)

-- frames whose moments do not fall, from this one on
abbrev AreSorted : Instant → List Judged → Type 0
AreSorted last [] = ⊤
AreSorted last (j ∷ js) = (is_earlier j.instant last ≡ false) × IsWholeFrame j × AreSorted j.instant js

-- of each run
abbrev AllSorted : Instant → List Run → Type 0
AllSorted last runs = AllByRecursion (λ (r : Run). AreSorted last r.0) runs

in-order : (js : List Judged) (before : Option ℕ) (last : Instant) → IsBefore before last.second → AreSorted last js → AreInOrder before (rows_of js)
in-order [] before last early h = record { readable = tt; rising = tt }
in-order (j ∷ js) before last early h =
    let after = not-fallen j.instant last h.0 in
    row-first before j.instant.second j.outcome (rows_of js) (λ u k. early u (omega (arith, after, k))) h.1.row (λ b k. in-order js b j.instant k h.2)

-- ---- the frames of a capture

framed : (points : List Point) (last : Instant) (fs : List SeenFrame) (end : Option TraceStop) → AreNamed points → AreFramesOfBytes fs → last.second ≤ 4294967295
    → AreSorted last (judged_from points last fs end).0
unfolding judged_from
framed points last [] end names octets late = tt
framed points last (f ∷ fs) end names octets late = by (instant_after last f.moment) refl (λ i l. framed points i fs end names octets.1 l)
  where
    by : (r : Result Instant TraceStop) → instant_after last f.moment ≡ r → ((i : Instant) → i.second ≤ 4294967295 → AreSorted i (judged_from points i fs end).0)
        → AreSorted last (at_instant r (λ i. judged_at points f i) (λ i. judged_from points i fs end)).0
    by (Err e) t more = tt
    by (Ok i) t more =
        let l = after-last last f.moment i late t in
        (l.after, record { within = l.within; row = λ found is. found-readable points f.name f.link f.octets i.second found names octets.0 l.within is }, more i l.within)

-- of one that begins like this
begun-sorted : (points : List Point) (bytes : List ℕ) (r : Result (Form × List ℕ) FileFault) → start_of bytes ≡ r → AreNamed points → AreBytes bytes
    → AreSorted start_instant (begun_run points r).0
begun-sorted points bytes (Err f) e names octets = tt
begun-sorted points bytes (Ok begun) e names octets =
    let frames = frames_from most_items begun.0 begun.1 in
    framed points start_instant frames.0 frames.1 names (frames-bytes most_items begun.0 begun.1 (begun-bytes bytes begun octets e)) (omega arith)

each-sorted : (captures : List Given) → AllByRecursion IsCapture captures → AllSorted start_instant (map capture_run captures)
each-sorted [] h = tt
each-sorted (g ∷ gs) h = (begun-sorted g.points g.octets (start_of g.octets) refl h.0.names h.0.octets, each-sorted gs h.1)

-- ---- the frames of captures

-- the moments of frames do not fall from an earlier one on either
sorted-earlier : (last first : Instant) (js : List Judged) → is_earlier last first ≡ false → AreSorted last js → AreSorted first js
sorted-earlier last first [] e h = tt
sorted-earlier last first (j ∷ js) e h = (earlier-behind j.instant last first h.0 e, h.1, h.2)

all-earlier : (last first : Instant) (runs : List Run) → is_earlier last first ≡ false → AllSorted last runs → AllSorted first runs
all-earlier last first [] e h = tt
all-earlier last first (r ∷ rs) e h = (sorted-earlier last first r.0 e h.0, all-earlier last first rs e h.1)

-- what comes next of runs is not before any frame of them
abbrev IsNextSorted : Instant → List Run → Coming → Type 0
IsNextSorted last runs (Comes j rest) = (is_earlier j.instant last ≡ false) × IsWholeFrame j × AllSorted j.instant rest × AllSorted j.instant runs
IsNextSorted last runs (Stops f) = ⊤
IsNextSorted last runs Ends = (i : Instant) → AllSorted i runs

behind-sorted : (last : Instant) (r : Run) (runs : List Run) (coming : Coming) → AreSorted last r.0 → IsNextSorted last runs coming → IsNextSorted last (r ∷ runs) (behind_run r coming runs)
behind-sorted last ([], Some f) runs coming h next = tt
behind-sorted last ([], None) runs (Comes k rest) h next = (next.0, next.1, (tt, next.2), (tt, next.3))
behind-sorted last ([], None) runs (Stops f) h next = tt
behind-sorted last ([], None) runs Ends h next = λ i. (tt, next i)
behind-sorted last (j ∷ js, end) runs (Stops f) h next = tt
behind-sorted last (j ∷ js, end) runs Ends h next = (h.0, h.1, (h.2, next j.instant), ((never-earlier j.instant, h.1, h.2), next j.instant))
behind-sorted last (j ∷ js, end) runs (Comes k rest) h next = by (is_earlier k.instant j.instant) refl
  where
    by : (b : Bool) → is_earlier k.instant j.instant ≡ b → IsNextSorted last ((j ∷ js, end) ∷ runs) (if b then Comes k ((j ∷ js, end) ∷ rest) else Comes j ((js, end) ∷ runs))
    by true t =
        let behind : AreSorted k.instant (j ∷ js) = (not-both k.instant j.instant t, h.1, h.2) in
        (next.0, next.1, (behind, next.2), (behind, next.3))
    by false t =
        let others = all-earlier k.instant j.instant runs t next.3 in
        (h.0, h.1, (h.2, others), ((never-earlier j.instant, h.1, h.2), others))

next-sorted : (last : Instant) (runs : List Run) → AllSorted last runs → IsNextSorted last runs (coming_of runs)
next-sorted last [] h = λ i. tt
next-sorted last (r ∷ rs) h = behind-sorted last r rs (coming_of rs) h.0 (next-sorted last rs h.1)

merged-sorted : (n : ℕ) (last : Instant) (runs : List Run) → AllSorted last runs → AreSorted last (merged n runs).0
unfolding merged
merged-sorted zero last runs h = tt
merged-sorted (suc n) last runs h = by (coming_of runs) (next-sorted last runs h) (λ i rest k. merged-sorted n i rest k)
  where
    by : (coming : Coming) → IsNextSorted last runs coming → ((i : Instant) (rest : List Run) → AllSorted i rest → AreSorted i (merged n rest).0)
        → AreSorted last (at_coming coming (merged n)).0
    by (Comes j rest) next more = (next.0, next.1, more j.instant rest next.2)
    by (Stops f) next more = tt
    by Ends next more = tt

-- ---- the law and the theorem

pub trace-read : (conf : Conf) → TraceIsRead conf
trace-read conf captures h =
    let frames = frames_in captures in
    let sorted = merged-sorted most_items start_instant (map capture_run captures) (each-sorted captures h.each) in
    let order = in-order frames None start_instant (λ s l. refl) sorted in
    ap (λ (t : List ℕ). trace_of conf (header_text ++ t)) (text-of-rows frames)
    ∙ rows-again conf (rows_of frames) order.readable order.rising h.few

pub capture-reported : (conf : Conf) → CaptureIsReported conf
capture-reported conf captures h = ap (λ (t : Trace). (report conf t, t.1)) (trace-read conf captures h)
