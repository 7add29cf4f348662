-- Answers of Records::walk: whether a state has expired does not depend on its keys; the one at which the walk stops gets them.
use Rattle.std.proofs.Common.{List, None, Some, subst}
use Rattle.pfs_store_records.specs.ApartKeys.{lying, with_keys}
use Rattle.pfs_store_records.specs.Records.{Placed, states_of}
use Rattle.pfs_store_records.specs.Walks.{IsWalk, StayUntil, end_of, state_has_expired}
use Rattle.pfs_store_records.proofs.Joining.{end-keyless, expired-keyless, until-joined, walk-joined}
use Rattle.pfs_store_records.proofs.records.Records.walk.Goals as goal

pub returns-in-Some-clause-walk : goal.returns-in-Some-clause-walk
returns-in-Some-clause-walk g c =
    let w = subst (IsWalk (state_has_expired (g.T.Lifetimes.lifetime c.args.lifetimes.now) c.args.now) (states_of c.self.inside.packed) c.args.round.cursor c.args.round.mark c.args.share c.walk-walk.result.stayed c.walk-walk.result.last) c.in-Some.is c.walk-walk.ensures.walk in
    rw c.join.ensures
    (subst (λ (ps : List Placed). IsWalk (state_has_expired (g.T.Lifetimes.lifetime c.args.lifetimes.now) c.args.now) (states_of ps) c.args.round.cursor c.args.round.mark c.args.share c.walk-walk.result.stayed c.walk-walk.result.last (Some (with_keys (lying c.self.inside.aside c.in-Some.leaver.number) c.in-Some.leaver))) c.self.view_is
    (walk-joined (state_has_expired (g.T.Lifetimes.lifetime c.args.lifetimes.now) c.args.now) (expired-keyless (g.T.Lifetimes.lifetime c.args.lifetimes.now) c.args.now) c.self.inside.aside c.self.inside.packed
    c.args.round.cursor c.args.round.mark c.args.share c.walk-walk.result.stayed c.walk-walk.result.last (Some c.in-Some.leaver) w))

pub returns-in-Some-clause-until : goal.returns-in-Some-clause-until
returns-in-Some-clause-until g c =
    subst (λ (ps : List Placed). StayUntil (end_of (g.T.Lifetimes.lifetime c.args.lifetimes.now)) (states_of ps) c.args.round.cursor c.walk-walk.result.last c.walk-walk.result.until) c.self.view_is
    (until-joined (end_of (g.T.Lifetimes.lifetime c.args.lifetimes.now)) (end-keyless (g.T.Lifetimes.lifetime c.args.lifetimes.now)) c.self.inside.aside c.self.inside.packed
    c.args.round.cursor c.walk-walk.result.last c.walk-walk.result.until c.walk-walk.ensures.until)

pub returns-in_default-clause-walk : goal.returns-in_default-clause-walk
returns-in_default-clause-walk g c =
    let w = subst (IsWalk (state_has_expired (g.T.Lifetimes.lifetime c.args.lifetimes.now) c.args.now) (states_of c.self.inside.packed) c.args.round.cursor c.args.round.mark c.args.share c.walk-walk.result.stayed c.walk-walk.result.last) c.in_default.is c.walk-walk.ensures.walk in
    rw c.in_default.is
    (subst (λ (ps : List Placed). IsWalk (state_has_expired (g.T.Lifetimes.lifetime c.args.lifetimes.now) c.args.now) (states_of ps) c.args.round.cursor c.args.round.mark c.args.share c.walk-walk.result.stayed c.walk-walk.result.last None) c.self.view_is
    (walk-joined (state_has_expired (g.T.Lifetimes.lifetime c.args.lifetimes.now) c.args.now) (expired-keyless (g.T.Lifetimes.lifetime c.args.lifetimes.now) c.args.now) c.self.inside.aside c.self.inside.packed
    c.args.round.cursor c.args.round.mark c.args.share c.walk-walk.result.stayed c.walk-walk.result.last None w))

pub returns-in_default-clause-until : goal.returns-in_default-clause-until
returns-in_default-clause-until g c =
    subst (λ (ps : List Placed). StayUntil (end_of (g.T.Lifetimes.lifetime c.args.lifetimes.now)) (states_of ps) c.args.round.cursor c.walk-walk.result.last c.walk-walk.result.until) c.self.view_is
    (until-joined (end_of (g.T.Lifetimes.lifetime c.args.lifetimes.now)) (end-keyless (g.T.Lifetimes.lifetime c.args.lifetimes.now)) c.self.inside.aside c.self.inside.packed
    c.args.round.cursor c.walk-walk.result.last c.walk-walk.result.until c.walk-walk.ensures.until)
