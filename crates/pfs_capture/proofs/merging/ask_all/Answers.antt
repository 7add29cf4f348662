-- Answers of ask_all: what lies ahead of the captures stays as it is, or one of them stops.
use Rattle.std.proofs.Common.{◌≡◌, ◌<◌, ◌∙◌, ℕ, length, get_or, refl, arith, add-one, subst}
use Rattle.std.proofs.lemmas.Result.{err_from_is_err_and}
use Rattle.pfs_streams.specs.Feeds.{unread}
use Rattle.pfs_capture.specs.Aheads.{AreAsked}
use Rattle.pfs_capture.proofs.Running.{kept-ok}
use Rattle.pfs_capture.proofs.Together.{aheads-step, asked-step, failures-step, some-failed, sound-step, stops-at}
use Rattle.pfs_capture.proofs.merging.ask_all.Goals as goal

pub returns-in_err-ask-clause-ahead : goal.returns-in_err-ask-clause-ahead
returns-in_err-ask-clause-ahead g c runs h =
    let within : c.loop-index.index < length c.loop-index.captures = omega arith in
    let p = err_from_is_err_and c.from_residual.result c.from_residual.ensures.1 in
    rw (p.1, p.2) (λ around. stops-at (unread g.R.Read.remaining) c.loop-index.captures runs c.loop-index.index (get_or c.loop-index.captures c.loop-index.index c.index-captures-index.result) c.index-captures-index.result c.in_err-ask.field-0.0
    refl within c.loop-index.invariant.asked (λ run a. c.in_err-ask.ensures.ahead run a around) (c.loop-index.invariant.aheads runs h))

pub returns-in_err-ask-clause-read : goal.returns-in_err-ask-clause-read
returns-in_err-ask-clause-read g c =
    let within : c.loop-index.index < length c.loop-index.captures = omega arith in
    let p = err_from_is_err_and c.from_residual.result c.from_residual.ensures.1 in
    rw (p.1, p.2) (λ e. some-failed c.loop-index.captures c.loop-index.index c.ask.new.self within (c.in_err-ask.ensures.read e))

pub returns-in_err-ask-clause-sound : goal.returns-in_err-ask-clause-sound
returns-in_err-ask-clause-sound g c =
    let p = err_from_is_err_and c.from_residual.result c.from_residual.ensures.1 in
    rw (p.1, p.2) (sound-step c.loop-index.captures c.loop-index.index (get_or c.loop-index.captures c.loop-index.index c.index-captures-index.result) c.ask.new.self c.index-captures-index.result _ refl c.loop-index.invariant.reads
    c.in_err-ask.ensures.sound)

pub loop-index-preserved : goal.loop-index-preserved
loop-index-preserved g c =
    let within : c.loop-index.index < length c.loop-index.captures = omega arith in
    record {
      asked = rw add-one (asked-step c.loop-index.captures c.loop-index.index c.ask.new.self c.in_ok-ask.ensures.asked c.loop-index.invariant.asked);
      aheads = λ runs h. aheads-step (unread g.R.Read.remaining) c.loop-index.captures runs c.loop-index.index (get_or c.loop-index.captures c.loop-index.index c.index-captures-index.result) c.ask.new.self c.index-captures-index.result
          refl within (λ run a. c.in_ok-ask.ensures.ahead run a) (c.loop-index.invariant.aheads runs h);
      reads = failures-step c.loop-index.captures c.loop-index.index (get_or c.loop-index.captures c.loop-index.index c.index-captures-index.result) c.ask.new.self c.index-captures-index.result refl (kept-ok _ _ c.in_ok-ask.ensures.sound)
          ∙ c.loop-index.invariant.reads;
    }

pub returns-clause-asked : goal.returns-clause-asked
returns-clause-asked g c =
    let all : c.loop-index.index ≡ length c.loop-index.captures = omega arith in
    subst (λ (n : ℕ). AreAsked n c.loop-index.captures) all c.loop-index.invariant.asked
