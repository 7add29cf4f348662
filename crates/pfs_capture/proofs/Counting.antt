-- The account of frames, and the number of the records among them, with one frame more.
use Rattle.std.proofs.Common.{◌≡◌, ◌+◌, ◌++◌, ◌∙◌, ℕ, Bool, true, false, List, [], ◌∷◌, length, Ok, Err, refl, sym, ap, arith, length-append}
use Rattle.std.specs.List.{count_by}
use Rattle.std.proofs.lemmas.List.Sums.{sum_by_push, sum_by-cons}
use Rattle.std.specs.Prelude.{Result, cond, ◌&&◌}
use Rattle.pfs_capture_packets.specs.declared.packets.Reason.{Reason}
use Rattle.pfs_capture_packets.specs.declared.packets.Reason.TheVariants as reason
use Rattle.pfs_capture.specs.Accounts.{directions_with, evidence_counted, frame_counted}
use Rattle.pfs_capture.specs.Runs.{Judged}
use Rattle.pfs_capture.specs.Traces.{account_of, directions_of, found_by, is_contradicted, is_found_by, is_late_record, is_none_for, is_record, left_out, records_with, same_evidence}
use Rattle.pfs_capture.specs.declared.accounts.Account.{Account}
use Rattle.pfs_capture.specs.declared.directions.Directions.{Directions}
use Rattle.pfs_capture.specs.declared.instants.Instant.{Instant}
use Rattle.pfs_capture.specs.declared.sorting.Evidence.{Evidence}
use Rattle.pfs_capture.specs.declared.sorting.Evidence.TheVariants as evidence
use Rattle.pfs_capture.specs.declared.sorting.DirectedPacket.{DirectedPacket}

-- one frame more counts as one or as none
count-more : (p : Judged → Bool) (js : List Judged) (j : Judged) (n : ℕ) → ◌≡◌ {A = ℕ} (cond (p j) 1 0) n → count_by p js + n ≡ count_by p (js ++ j ∷ [])
count-more p js j n e = ap (λ (k : ℕ). count_by p js + k) (sym e) ∙ sym (sum_by_push (λ x. cond (p x) 1 0) js j)

count-same : (p : Judged → Bool) (js : List Judged) (j : Judged) → ◌≡◌ {A = ℕ} (cond (p j) 1 0) 0 → count_by p js ≡ count_by p (js ++ j ∷ [])
count-same p js j e =
    let more : count_by p js + 0 ≡ count_by p (js ++ j ∷ []) = count-more p js j 0 e in
    omega (arith, more)

length-more : (js : List Judged) (j : Judged) → length js + 1 ≡ length (js ++ j ∷ [])
length-more js j = sym (length-append js (j ∷ []))

same_account : (a b c d e f g h i : ℕ) (k : Directions) (x : Account) → a ≡ x.frames → b ≡ x.records → c ≡ x.link_types → d ≡ x.not_ip → e ≡ x.later_fragments → f ≡ x.cut → g ≡ x.too_short → h ≡ x.neither_way → i ≡ x.late → k ≡ x.directions
    → ◌≡◌ {A = Account} (record { frames = a; records = b; link_types = c; not_ip = d; later_fragments = e; cut = f; too_short = g; neither_way = h; late = i; directions = k }) x
same_account a b c d e f g h i k x p q r s t u v w y z = rw (p, q, r, s, t, u, v, w, y, z) refl

same_directions : (a b c d e : ℕ) (x : Directions) → a ≡ x.log → b ≡ x.cooked → c ≡ x.mac → d ≡ x.networks → e ≡ x.contradicted
    → ◌≡◌ {A = Directions} (record { log = a; cooked = b; mac = c; networks = d; contradicted = e }) x
same_directions a b c d e x p q r s t = rw (p, q, r, s, t) refl

left : (r : Reason) (js : List Judged) (j : Judged) → ◌≡◌ {A = ℕ} (cond (is_none_for r j.outcome) 1 0) 0 → left_out r js ≡ left_out r (js ++ j ∷ [])
left r js j e = count-same (λ x. is_none_for r x.outcome) js j e

one-left : (r : Reason) (js : List Judged) (j : Judged) → ◌≡◌ {A = ℕ} (cond (is_none_for r j.outcome) 1 0) 1 → left_out r js + 1 ≡ left_out r (js ++ j ∷ [])
one-left r js j e = count-more (λ x. is_none_for r x.outcome) js j 1 e

-- a record more counts as late where it is
late-more : (js : List Judged) (j : Judged) → is_record j.outcome ≡ true → count_by is_late_record js + cond j.is_late 1 0 ≡ count_by is_late_record (js ++ j ∷ [])
late-more js j e = count-more is_late_record js j (cond j.is_late 1 0) (ap (λ (b : Bool). cond (b && j.is_late) 1 0) e)

-- what is no record does not
late-same : (js : List Judged) (j : Judged) → is_record j.outcome ≡ false → count_by is_late_record js ≡ count_by is_late_record (js ++ j ∷ [])
late-same js j e = count-same is_late_record js j (ap (λ (b : Bool). cond (b && j.is_late) 1 0) e)

none-more : (n : ℕ) → n ≡ n + 0
none-more n = omega arith

-- one direction more counts by its evidence, and by no other
by_more : (d : Directions) (by : Evidence) (n : ℕ) → ◌≡◌ {A = Directions} (record (evidence_counted d by) { contradicted = n }) (record {
  log = d.log + cond (same_evidence evidence.Log by) 1 0;
  cooked = d.cooked + cond (same_evidence evidence.Cooked by) 1 0;
  mac = d.mac + cond (same_evidence evidence.Mac by) 1 0;
  networks = d.networks + cond (same_evidence evidence.Networks by) 1 0;
  contradicted = n;
})
by_more d evidence.Log n = same_directions _ _ _ _ _ _ refl (none-more d.cooked) (none-more d.mac) (none-more d.networks) refl
by_more d evidence.Cooked n = same_directions _ _ _ _ _ _ (none-more d.log) refl (none-more d.mac) (none-more d.networks) refl
by_more d evidence.Mac n = same_directions _ _ _ _ _ _ (none-more d.log) (none-more d.cooked) refl (none-more d.networks) refl
by_more d evidence.Networks n = same_directions _ _ _ _ _ _ (none-more d.log) (none-more d.cooked) (none-more d.mac) refl refl

found-more : (e : Evidence) (js : List Judged) (j : Judged) (found : DirectedPacket) → j.outcome ≡ Ok found → found_by e js + cond (same_evidence e found.way.heading.by) 1 0 ≡ found_by e (js ++ j ∷ [])
found-more e js j found is = count-more (λ x. is_found_by e x.outcome) js j (cond (same_evidence e found.way.heading.by) 1 0) (ap (λ (o : Result DirectedPacket Reason). cond (is_found_by e o) 1 0) is)

found-same : (e : Evidence) (js : List Judged) (j : Judged) (r : Reason) → j.outcome ≡ Err r → found_by e js ≡ found_by e (js ++ j ∷ [])
found-same e js j r is = count-same (λ x. is_found_by e x.outcome) js j (ap (λ (o : Result DirectedPacket Reason). cond (is_found_by e o) 1 0) is)

-- the directions of one record more
directions-more : (js : List Judged) (j : Judged) (found : DirectedPacket) → j.outcome ≡ Ok found → directions_with (directions_of js) found.way.heading ≡ directions_of (js ++ j ∷ [])
directions-more js j found is =
    let h = found.way.heading in
    by_more (directions_of js) h.by (count_by (λ x. is_contradicted x.outcome) js + cond h.is_contradicted 1 0)
    ∙ same_directions _ _ _ _ _ (directions_of (js ++ j ∷ [])) (found-more evidence.Log js j found is) (found-more evidence.Cooked js j found is) (found-more evidence.Mac js j found is)
    (found-more evidence.Networks js j found is)
    (count-more (λ x. is_contradicted x.outcome) js j (cond h.is_contradicted 1 0) (ap (λ (o : Result DirectedPacket Reason). cond (is_contradicted o) 1 0) is))

-- what is no record has none
directions-same : (js : List Judged) (j : Judged) (r : Reason) → j.outcome ≡ Err r → directions_of js ≡ directions_of (js ++ j ∷ [])
directions-same js j r is =
    same_directions _ _ _ _ _ (directions_of (js ++ j ∷ [])) (found-same evidence.Log js j r is) (found-same evidence.Cooked js j r is) (found-same evidence.Mac js j r is)
    (found-same evidence.Networks js j r is)
    (count-same (λ x. is_contradicted x.outcome) js j (ap (λ (o : Result DirectedPacket Reason). cond (is_contradicted o) 1 0) is))

-- the account of one frame more is its frame counted
pub account-more : (js : List Judged) (instant : Instant) (is_late : Bool) (outcome : Result DirectedPacket Reason)
    → frame_counted (account_of js) is_late outcome ≡ account_of (js ++ record { instant = instant; is_late = is_late; outcome = outcome } ∷ [])
account-more js instant is_late (Ok found) =
    let j : Judged = record { instant = instant; is_late = is_late; outcome = Ok found } in
    same_account _ _ _ _ _ _ _ _ _ _ (account_of (js ++ j ∷ [])) (length-more js j) (count-more (λ x. is_record x.outcome) js j 1 refl)
    (left reason.LinkType js j refl) (left reason.NotIp js j refl) (left reason.LaterFragment js j refl) (left reason.Cut js j refl) (left reason.TooShort js j refl) (left reason.NeitherWay js j refl)
    (late-more js j refl) (directions-more js j found refl)
account-more js instant is_late (Err reason.LinkType) =
    let j : Judged = record { instant = instant; is_late = is_late; outcome = Err reason.LinkType } in
    same_account _ _ _ _ _ _ _ _ _ _ (account_of (js ++ j ∷ [])) (length-more js j) (count-same (λ x. is_record x.outcome) js j refl)
    (one-left reason.LinkType js j refl) (left reason.NotIp js j refl) (left reason.LaterFragment js j refl) (left reason.Cut js j refl) (left reason.TooShort js j refl) (left reason.NeitherWay js j refl)
    (late-same js j refl) (directions-same js j reason.LinkType refl)
account-more js instant is_late (Err reason.NotIp) =
    let j : Judged = record { instant = instant; is_late = is_late; outcome = Err reason.NotIp } in
    same_account _ _ _ _ _ _ _ _ _ _ (account_of (js ++ j ∷ [])) (length-more js j) (count-same (λ x. is_record x.outcome) js j refl)
    (left reason.LinkType js j refl) (one-left reason.NotIp js j refl) (left reason.LaterFragment js j refl) (left reason.Cut js j refl) (left reason.TooShort js j refl) (left reason.NeitherWay js j refl)
    (late-same js j refl) (directions-same js j reason.NotIp refl)
account-more js instant is_late (Err reason.LaterFragment) =
    let j : Judged = record { instant = instant; is_late = is_late; outcome = Err reason.LaterFragment } in
    same_account _ _ _ _ _ _ _ _ _ _ (account_of (js ++ j ∷ [])) (length-more js j) (count-same (λ x. is_record x.outcome) js j refl)
    (left reason.LinkType js j refl) (left reason.NotIp js j refl) (one-left reason.LaterFragment js j refl) (left reason.Cut js j refl) (left reason.TooShort js j refl) (left reason.NeitherWay js j refl)
    (late-same js j refl) (directions-same js j reason.LaterFragment refl)
account-more js instant is_late (Err reason.Cut) =
    let j : Judged = record { instant = instant; is_late = is_late; outcome = Err reason.Cut } in
    same_account _ _ _ _ _ _ _ _ _ _ (account_of (js ++ j ∷ [])) (length-more js j) (count-same (λ x. is_record x.outcome) js j refl)
    (left reason.LinkType js j refl) (left reason.NotIp js j refl) (left reason.LaterFragment js j refl) (one-left reason.Cut js j refl) (left reason.TooShort js j refl) (left reason.NeitherWay js j refl)
    (late-same js j refl) (directions-same js j reason.Cut refl)
account-more js instant is_late (Err reason.TooShort) =
    let j : Judged = record { instant = instant; is_late = is_late; outcome = Err reason.TooShort } in
    same_account _ _ _ _ _ _ _ _ _ _ (account_of (js ++ j ∷ [])) (length-more js j) (count-same (λ x. is_record x.outcome) js j refl)
    (left reason.LinkType js j refl) (left reason.NotIp js j refl) (left reason.LaterFragment js j refl) (left reason.Cut js j refl) (one-left reason.TooShort js j refl) (left reason.NeitherWay js j refl)
    (late-same js j refl) (directions-same js j reason.TooShort refl)
account-more js instant is_late (Err reason.NeitherWay) =
    let j : Judged = record { instant = instant; is_late = is_late; outcome = Err reason.NeitherWay } in
    same_account _ _ _ _ _ _ _ _ _ _ (account_of (js ++ j ∷ [])) (length-more js j) (count-same (λ x. is_record x.outcome) js j refl)
    (left reason.LinkType js j refl) (left reason.NotIp js j refl) (left reason.LaterFragment js j refl) (left reason.Cut js j refl) (left reason.TooShort js j refl) (one-left reason.NeitherWay js j refl)
    (late-same js j refl) (directions-same js j reason.NeitherWay refl)

-- how many records there are after so many, with these frames
unfoldable pub records_after : ℕ → List Judged → ℕ
records_after n [] = n
records_after n (j ∷ js) = records_after (records_with n j.outcome) js

with_one : (n : ℕ) (outcome : Result DirectedPacket Reason) → records_with n outcome ≡ n + cond (is_record outcome) 1 0
with_one n (Ok found) = refl
with_one n (Err r) = omega arith

pub records_counted : (n : ℕ) (js : List Judged) → records_after n js ≡ n + count_by (λ j. is_record j.outcome) js
unfolding records_after
records_counted n [] = omega arith
records_counted n (j ∷ js) =
    let rest = records_counted (records_with n j.outcome) js in
    let one = with_one n j.outcome in
    let cons : count_by (λ x. is_record x.outcome) (j ∷ js) ≡ cond (is_record j.outcome) 1 0 + count_by (λ x. is_record x.outcome) js = sum_by-cons (λ x. cond (is_record x.outcome) 1 0) j js in
    omega (arith, rest, one, cons)
