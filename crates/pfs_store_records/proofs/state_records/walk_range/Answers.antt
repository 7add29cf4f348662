-- Answers of walk_range: one more that stays, and each end: a leaver, the range's end, the share's (`walk`).
use Rattle.std.proofs.Common.{◌≡◌, ◌∙◌, ℕ, true, Option, None, Some, ap, arith, subst, sym}
use Rattle.pfs_conf_values.specs.declared.items.RuleNo.{RuleNo}
use Rattle.pfs_conf_values.specs.declared.timeouts.TimeoutName.{TimeoutName}
use Rattle.pfs_track.specs.Lifetimes.{is_expired}
use Rattle.pfs_track.specs.StatePhases.{slot}
use Rattle.pfs_store_contract.specs.declared.records.State.{State}
use Rattle.pfs_store_records.specs.RecordPlaces.{values_at, record_in}
use Rattle.pfs_store_records.specs.Records.{states_of}
use Rattle.pfs_store_records.specs.StayTimes.{IsStay}
use Rattle.pfs_store_records.specs.declared.stays.Stay.{Stay}
use Rattle.pfs_store_records.specs.Walks.{IsLeaver, IsWalk, end_of, state_has_expired}
use Rattle.pfs_store_records.proofs.Walking.{Each, Stays, Until, each-empty, is-walk, next-leaves, next-there, none-leaves, one-stays, share-used, until-more, until-states, walking-init, walking-step}
use Rattle.pfs_store_records.proofs.state_records.walk_range.Goals as goal
use Rattle.pfs_store_records.proofs.state_records.walk_range.Goals.{then-stayed-share, else-stayed-share+in_default, else-stayed-share+in-Some+in-None, then-not-is_of, else-not-is_of}

-- what is known of a rule and a timeout
seconds-of : (lifetime : RuleNo → TimeoutName → ℕ) (known : Stay) (rule : RuleNo) (timeout : TimeoutName) → IsStay lifetime known → (known.is_known ≡ true) × (known.rule ≡ rule) × (known.timeout ≡ timeout)
    → known.seconds ≡ lifetime rule timeout
seconds-of lifetime known rule timeout h k = h k.0 ∙ (λ i. lifetime (k.1 i) (k.2 i))

pub loop-stayed-init : goal.loop-stayed-init
loop-stayed-init g c = record {
  walking = walking-init (Stays (state_has_expired (g.T.Lifetimes.lifetime c.args.lifetimes.now) c.args.now) c.args.slab.now) c.args.places.now.entries c.between-rest.result c.args.round.cursor c.args.round.mark c.requires.range c.between-rest.ensures.between;
  known = λ k. absurd (cc (k, c.unknown-known.ensures));
  until = each-empty (Until (end_of (g.T.Lifetimes.lifetime c.args.lifetimes.now)) c.args.slab.now _) c.args.round.cursor c.args.places.now.entries;
  share = omega arith;
  looks = omega arith;
}

pub look-kept-requires-clause-held : goal.look-kept-requires-clause-held
look-kept-requires-clause-held g c =
    next-there c.args.slab.now c.args.places.now.entries _ c.loop-stayed.last c.args.round.mark c.in-Some.number c.in-Some.place c.requires.kept
    (sym c.in-Some.ensures.steps ∙ c.loop-stayed.invariant.walking.rest)

pub loop-stayed-preserved : goal.loop-stayed-preserved
loop-stayed-preserved g c =
    let w = (rw c.in-Some.ensures.steps at c.loop-stayed.invariant.walking) in
    let value : c.if-not-is_of.known.seconds ≡ g.T.Lifetimes.lifetime c.args.lifetimes.now c.look-kept.result.now.rule (slot c.look-kept.result.now.phase) = elim c.if-not-is_of.branch [
      | then-not-is_of b ↦ ap (λ (s : Stay). s.seconds) b.known-is ∙ b.of-known.ensures.value
      | else-not-is_of b ↦
          ap (λ (s : Stay). s.seconds) b.known-is
          ∙ seconds-of (g.T.Lifetimes.lifetime c.args.lifetimes.now) c.loop-stayed.known c.look-kept.result.now.rule (slot c.look-kept.result.now.phase) c.loop-stayed.invariant.known (c.is_of.ensures b.if-not-is_of.false)
    ] in
    let known : IsStay (g.T.Lifetimes.lifetime c.args.lifetimes.now) c.if-not-is_of.known = elim c.if-not-is_of.branch [
      | then-not-is_of b ↦ subst (IsStay (g.T.Lifetimes.lifetime c.args.lifetimes.now)) (sym b.known-is) b.of-known.ensures.known
      | else-not-is_of b ↦ subst (IsStay (g.T.Lifetimes.lifetime c.args.lifetimes.now)) (sym b.known-is) c.loop-stayed.invariant.known
    ] in
    record {
      walking = walking-step (Stays (state_has_expired (g.T.Lifetimes.lifetime c.args.lifetimes.now) c.args.now) c.args.slab.now) c.args.places.now.entries c.next.new.self c.args.round.cursor c.loop-stayed.last c.args.round.mark c.loop-stayed.stayed c.in-Some.number c.in-Some.place
          c.requires.kept.ordered w
          (one-stays (state_has_expired (g.T.Lifetimes.lifetime c.args.lifetimes.now) c.args.now) c.args.slab.now c.in-Some.number c.in-Some.place c.look-kept.result.now c.look-kept.ensures.value ((λ i. is_expired (sym value i) c.look-kept.result.now.last c.args.now) ∙ c.in-Some-stays_until.ensures.some));
      until = subst (λ n. Each (Until (end_of (g.T.Lifetimes.lifetime c.args.lifetimes.now)) c.args.slab.now n) c.args.round.cursor c.in-Some.number c.args.places.now.entries) (sym c.min-until.ensures)
          (until-more (end_of (g.T.Lifetimes.lifetime c.args.lifetimes.now)) c.args.slab.now c.args.places.now.entries c.next.new.self c.args.round.cursor c.loop-stayed.last c.args.round.mark c.loop-stayed.stayed c.loop-stayed.until c.in-Some-stays_until.moment c.in-Some.number c.in-Some.place c.look-kept.result.now
          (state_has_expired (g.T.Lifetimes.lifetime c.args.lifetimes.now) c.args.now) c.requires.kept w c.look-kept.ensures.value (rw value at c.in-Some-stays_until.ensures.until) c.loop-stayed.invariant.until);
      known = known;
      share = omega arith;
      looks = omega arith;
    }

pub returns-clause-walk : goal.returns-clause-walk
returns-clause-walk g c =
    let test = state_has_expired (g.T.Lifetimes.lifetime c.args.lifetimes.now) c.args.now in
    let slab = c.args.slab.now in
    let entries = c.args.places.now.entries in
    let w = c.loop-stayed.invariant.walking in
    let walked : (leaver : Option State) → IsLeaver test (states_of (values_at (record_in slab) entries)) c.loop-stayed.last c.args.round.mark c.loop-stayed.stayed c.args.share leaver
    → IsWalk test (states_of (values_at (record_in slab) entries)) c.args.round.cursor c.args.round.mark c.args.share c.loop-stayed.stayed c.loop-stayed.last leaver =
    λ leaver. is-walk test slab entries c.loop-stayed.rest c.args.round.cursor c.loop-stayed.last c.args.round.mark c.args.share c.loop-stayed.stayed leaver c.requires.kept w c.loop-stayed.invariant.share in
    elim c.if-stayed-share.branch [
      | then-stayed-share b ↦
          rw b.leaver-is (walked None (share-used test (states_of (values_at (record_in slab) entries)) c.loop-stayed.last c.args.round.mark c.args.share c.loop-stayed.stayed (omega (arith, b.if-stayed-share.true))))
      | else-stayed-share+in_default b ↦
          rw b.leaver-is (walked None (none-leaves test slab entries c.loop-stayed.last c.args.round.mark c.args.share c.loop-stayed.stayed c.requires.kept (sym b.in_default.ensures.steps.0 ∙ w.rest)))
      | else-stayed-share+in-Some+in-None b ↦
          let value : b.if-not-is_of.known.seconds ≡ g.T.Lifetimes.lifetime c.args.lifetimes.now b.look-kept.result.now.rule (slot b.look-kept.result.now.phase) = elim b.if-not-is_of.branch [
            | then-not-is_of d ↦ ap (λ (s : Stay). s.seconds) d.known-is ∙ d.of-known.ensures.value
            | else-not-is_of d ↦
                ap (λ (s : Stay). s.seconds) d.known-is
                ∙ seconds-of (g.T.Lifetimes.lifetime c.args.lifetimes.now) c.loop-stayed.known b.look-kept.result.now.rule (slot b.look-kept.result.now.phase) c.loop-stayed.invariant.known (b.is_of.ensures d.if-not-is_of.false)
          ] in
          rw (b.leaver-is, b.state.ensures.value) (walked (Some b.look-kept.result.now)
          (next-leaves test slab entries _ c.loop-stayed.last c.args.round.mark c.args.share c.loop-stayed.stayed b.in-Some.number b.in-Some.place b.look-kept.result.now
          c.requires.kept (sym b.in-Some.ensures.steps ∙ w.rest) b.look-kept.ensures.value ((λ i. is_expired (sym value i) b.look-kept.result.now.last c.args.now) ∙ b.stays_until.ensures.none b.in-None.is)
          (omega (arith, b.if-stayed-share.false, c.loop-stayed.invariant.share))))
    ]

pub returns-clause-until : goal.returns-clause-until
returns-clause-until g c =
    until-states (end_of (g.T.Lifetimes.lifetime c.args.lifetimes.now)) c.args.slab.now c.args.round.cursor c.loop-stayed.last c.loop-stayed.until c.args.places.now.entries c.requires.kept c.loop-stayed.invariant.until
