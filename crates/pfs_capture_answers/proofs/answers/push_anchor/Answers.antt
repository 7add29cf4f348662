-- Answer of push_anchor: where a byte found no room, the whole name would not.
use Rattle.std.proofs.Common.{◌≡◌, ◌≤◌, ◌<◌, ◌+◌, ◌∙◌, ℕ, List, ap, arith, length, length-append, take}
use Rattle.std.specs.Prelude.{flat_map}
use Rattle.std.proofs.lemmas.List.Folds.{length-flat_map-take}
use Rattle.std.proofs.lemmas.Result.{err_from_is_err_and}
use Rattle.pfs_capture_answers.specs.Answers.{anchor_byte}
use Rattle.pfs_capture_answers.proofs.answers.push_anchor.Goals as goal

no-room : (old now begun items so_far text one all : ℕ) → old ≤ now → now < so_far + one → begun ≡ items → so_far ≡ items + text → text + one ≤ all → old < begun + all
no-room old now begun items so_far text one all p q r s t = omega (arith, p, q, r, s, t)

pub returns-in_err-push_anchor_byte-clause-refused : goal.returns-in_err-push_anchor_byte-clause-refused
returns-in_err-push_anchor_byte-clause-refused c =
    let p = err_from_is_err_and c.from_residual.result c.from_residual.ensures.1 in
    let name = c.args.name.now in
    let i = c.loop-byte.byte-index in
    let pieces = length-flat_map-take anchor_byte name i 0 c.loop-byte-test.true in
    let len = c.loop-byte.out.ok.0 ∙ ap (λ (t : List ℕ). length t) c.loop-byte.invariant.text ∙ length-append c.args.out.now.items (flat_map anchor_byte (take i name)) in
    let begun = c.args.out.now.ok.0 in
    rw (p.1) (no-room _ _ _ _ _ _ _ _ c.loop-byte.invariant.capacity c.in_err-push_anchor_byte.ensures.refused begun len pieces)
