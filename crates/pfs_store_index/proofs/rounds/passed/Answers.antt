-- Answers of passed: its loop passes by one number after another, up to a share of them or the end.
use Rattle.std.proofs.Common.{◌≡◌, ◌∙◌, ap, arith, drop}
use Rattle.pfs_store_index.proofs.Turning.{among, passed-all, passed-drop}
use Rattle.pfs_store_records.proofs.Walking.{walking-init, walking-step}
use Rattle.pfs_store_index.proofs.rounds.passed.Goals as goal

pub loop-passed-init : goal.loop-passed-init
loop-passed-init c = record {
  passing = walking-init _ c.args.places.now.entries c.between-rest.result c.args.above c.args.most c.requires.range c.between-rest.ensures.between;
  share = omega arith;
}

pub loop-passed-preserved : goal.loop-passed-preserved
loop-passed-preserved c =
    let w = (rw c.in-Some.ensures.steps at c.loop-passed.invariant.passing) in
    record {
      passing = walking-step _ c.args.places.now.entries c.next.new.self c.args.above c.loop-passed.last c.args.most c.loop-passed.passed c.in-Some.number _ c.requires.rising w tt;
      share = omega arith;
    }

pub returns-in_default-clause-rest : goal.returns-in_default-clause-rest
returns-in_default-clause-rest c =
    let w = (rw c.in_default.ensures.steps.0 at c.loop-passed.invariant.passing) in
    passed-all c.args.places.now.entries c.args.above c.loop-passed.last c.args.most c.loop-passed.passed c.args.share c.requires.rising w c.loop-passed.invariant.share

pub returns-clause-rest : goal.returns-clause-rest
returns-clause-rest c =
    let i = c.loop-passed.invariant in
    let all : c.loop-passed.passed ≡ c.args.share = omega (arith, i.share) in
    passed-drop c.args.places.now.entries c.loop-passed.rest c.args.above c.loop-passed.last c.args.most c.loop-passed.passed c.requires.rising i.passing
    ∙ ap (λ n. drop n (among c.args.above c.args.most c.args.places.now.entries)) all
