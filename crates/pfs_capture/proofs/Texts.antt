-- The texts of frames with one frame more.
use Rattle.std.proofs.Common.{◌≡◌, ◌≤◌, ◌+◌, ◌++◌, ◌∙◌, ℕ, List, [], ◌∷◌, length, refl, sym, ap, append-nil, append_assoc, arith}
use Rattle.std.specs.Prelude.{codes}
use Rattle.std.specs.List.{count_by}
use Rattle.std.proofs.lemmas.List.{flat_map_more}
use Rattle.pfs_trace.specs.Columns.{header_text}
use Rattle.pfs_capture.specs.Runs.{Judged}
use Rattle.pfs_capture.specs.Traces.{AreWithin, answer_text, answers_from, answers_text, frame_text, is_record, records_with, trace_text}
use Rattle.pfs_capture.proofs.Counting.{records_after, records_counted}

-- a row more
pub trace-more : (js : List Judged) (j : Judged) → trace_text (js ++ j ∷ []) ≡ trace_text js ++ frame_text j.instant.second j.outcome
trace-more js j = sym (flat_map_more (λ (x : Judged). frame_text x.instant.second x.outcome) header_text js j)

pub answers-none : (n : ℕ) → answers_from n [] ≡ []
unfolding answers_from
answers-none n = refl

answers_from-cons : (n : ℕ) (j : Judged) (js : List Judged) → answers_from n (j ∷ js) ≡ answer_text (n + 1) j.outcome ++ answers_from (records_with n j.outcome) js
unfolding answers_from
answers_from-cons n j js = refl

answers_from-more : (n : ℕ) (js : List Judged) (j : Judged) → answers_from n (js ++ j ∷ []) ≡ answers_from n js ++ answer_text (records_after n js + 1) j.outcome
unfolding records_after
answers_from-more n [] j =
    answers_from-cons n j [] ∙ (ap (λ (t : List ℕ). answer_text (n + 1) j.outcome ++ t) (answers-none (records_with n j.outcome)) ∙ append-nil (answer_text (n + 1) j.outcome))
    ∙ ap (λ (t : List ℕ). t ++ answer_text (n + 1) j.outcome) (sym (answers-none n))
answers_from-more n (x ∷ js) j =
    let one = answer_text (n + 1) x.outcome in
    let last = answer_text (records_after (records_with n x.outcome) js + 1) j.outcome in
    answers_from-cons n x (js ++ j ∷ [])
    ∙ (ap (λ (t : List ℕ). one ++ t) (answers_from-more (records_with n x.outcome) js j)
    ∙ (sym (append_assoc one (answers_from (records_with n x.outcome) js) last)
    ∙ ap (λ (t : List ℕ). t ++ last) (sym (answers_from-cons n x js))))

-- how many records there are
pub records_so_far : (js : List Judged) → records_after 0 js ≡ count_by (λ x. is_record x.outcome) js
records_so_far js = omega (arith, records_counted 0 js)

-- an answer more
pub answers-more : (js : List Judged) (j : Judged) → answers_text (js ++ j ∷ []) ≡ answers_text js ++ answer_text (count_by (λ x. is_record x.outcome) js + 1) j.outcome
answers-more js j =
    let n = records_so_far js in
    let header = codes "row,action,rule,anchor,subrule,reason,rewritten\n" in
    ap (λ (t : List ℕ). header ++ t) (answers_from-more 0 js j ∙ ap (λ (k : ℕ). answers_from 0 js ++ answer_text (k + 1) j.outcome) n)
    ∙ sym (append_assoc header (answers_from 0 js) (answer_text (count_by (λ x. is_record x.outcome) js + 1) j.outcome))

-- no row and no answer is longer than so many bytes, nor are those of one frame more
pub within-more : (row answer row2 answer2 n : ℕ) (js : List Judged) (j : Judged) → row ≤ row2 → answer ≤ answer2 → AreWithin row answer n js
    → length (frame_text j.instant.second j.outcome) ≤ row2 → length (answer_text (records_after n js + 1) j.outcome) ≤ answer2
    → AreWithin row2 answer2 n (js ++ j ∷ [])
unfolding records_after
within-more row answer row2 answer2 n [] j p q h fits fits2 = (fits, fits2, tt)
within-more row answer row2 answer2 n (x ∷ js) j p q h fits fits2 =
    (omega (arith, h.0, p), omega (arith, h.1, q), within-more row answer row2 answer2 (records_with n x.outcome) js j p q h.2 fits fits2)
