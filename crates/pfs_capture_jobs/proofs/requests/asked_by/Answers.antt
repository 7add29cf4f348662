-- Answers of asked_by: each group asks for something, or the first that does not is refused.
use Rattle.std.proofs.Common.{rules, List, Ok, map, subst}
use Rattle.pfs_capture_jobs.specs.Asked.{AskedBy}
use Rattle.pfs_capture_jobs.proofs.AskingLaws.{asked-end, asked-next, asked-refused}
use Rattle.pfs_capture_jobs.proofs.requests.asked_by.Goals as goal

pub returns-in-Err-clause-err : goal.returns-in-Err-clause-err
returns-in-Err-clause-err c =
    asked-refused (λ g. map (λ w. w.now) g.items) c.args.groups.now c.loop-words.words-index c.words-item.result _ c.loop-words.all.items c.in-Err.refusal c.words-item.is (search rules) c.loop-words.invariant (search rules)

pub loop-words-preserved : goal.loop-words-preserved
loop-words-preserved c =
    asked-next (λ g. map (λ w. w.now) g.items) c.args.groups.now c.loop-words.words-index c.words-item.result _ c.loop-words.all.items c.push.new.self.items c.in-Ok.asked c.words-item.is (search rules) (search rules) c.loop-words.invariant
    (subst (λ (ws : List _). AskedBy (map (λ w. w.now) ws) (Ok c.in-Ok.asked)) c.as_slice.ensures.value c.in-Ok.ensures)

pub returns-clause-ok : goal.returns-clause-ok
returns-clause-ok c = asked-end (λ g. map (λ w. w.now) g.items) c.args.groups.now c.loop-words.words-index c.loop-words.all.items (search rules) c.loop-words.invariant
