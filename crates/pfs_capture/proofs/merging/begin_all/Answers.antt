-- Answers of begin_all: the captures have begun, one after another, or one of them does not.
use Rattle.std.proofs.Common.{◌≡◌, ◌<◌, ◌∙◌, length, get_or, refl, arith, add-one}
use Rattle.std.proofs.lemmas.Result.{err_from_is_err_and}
use Rattle.pfs_streams.specs.Feeds.{unread}
use Rattle.pfs_capture.proofs.Running.{kept-ok}
use Rattle.pfs_capture.proofs.Together.{all-begun, begun-step, broken-off, failures-step, some-failed, sound-step}
use Rattle.pfs_capture.proofs.merging.begin_all.Goals as goal

pub returns-in_err-begin-clause-begin : goal.returns-in_err-begin-clause-begin
returns-in_err-begin-clause-begin g c gs h =
    let within : c.loop-index.index < length c.loop-index.captures = omega arith in
    let p = err_from_is_err_and c.from_residual.result c.from_residual.ensures.1 in
    rw (p.1, p.2) (broken-off (unread g.R.Read.remaining) c.loop-index.captures gs c.loop-index.index (get_or c.loop-index.captures c.loop-index.index c.index-captures-index.result) c.begin.new.self c.index-captures-index.result c.in_err-begin.field-0.0
    refl within (λ x k. c.in_err-begin.ensures.begins x k) (c.loop-index.invariant.begun gs h))

pub returns-in_err-begin-clause-read : goal.returns-in_err-begin-clause-read
returns-in_err-begin-clause-read g c =
    let within : c.loop-index.index < length c.loop-index.captures = omega arith in
    let p = err_from_is_err_and c.from_residual.result c.from_residual.ensures.1 in
    rw (p.1, p.2) (λ e. some-failed c.loop-index.captures c.loop-index.index c.begin.new.self within (c.in_err-begin.ensures.read e))

pub returns-in_err-begin-clause-sound : goal.returns-in_err-begin-clause-sound
returns-in_err-begin-clause-sound g c =
    let p = err_from_is_err_and c.from_residual.result c.from_residual.ensures.1 in
    rw (p.1, p.2) (sound-step c.loop-index.captures c.loop-index.index (get_or c.loop-index.captures c.loop-index.index c.index-captures-index.result) c.begin.new.self c.index-captures-index.result _ refl c.loop-index.invariant.reads
    c.in_err-begin.ensures.sound)

pub loop-index-preserved : goal.loop-index-preserved
loop-index-preserved g c =
    let within : c.loop-index.index < length c.loop-index.captures = omega arith in
    record {
      begun = λ gs h. rw add-one (begun-step (unread g.R.Read.remaining) c.loop-index.captures gs c.loop-index.index (get_or c.loop-index.captures c.loop-index.index c.index-captures-index.result) c.begin.new.self c.index-captures-index.result
          refl within (λ x k. c.in_ok-begin.ensures.begins x k) (c.loop-index.invariant.begun gs h));
      reads = failures-step c.loop-index.captures c.loop-index.index (get_or c.loop-index.captures c.loop-index.index c.index-captures-index.result) c.begin.new.self c.index-captures-index.result refl (kept-ok _ _ c.in_ok-begin.ensures.sound)
          ∙ c.loop-index.invariant.reads;
    }

pub returns-clause-begin : goal.returns-clause-begin
returns-clause-begin g c gs h =
    let all : c.loop-index.index ≡ length c.loop-index.captures = omega arith in
    all-begun (unread g.R.Read.remaining) c.loop-index.captures gs c.loop-index.index all (c.loop-index.invariant.begun gs h)
