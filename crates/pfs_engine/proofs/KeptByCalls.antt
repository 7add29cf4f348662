-- What a call of an engine keeps, by what the call of what is held says.
use Rattle.std.proofs.Common.{◌≡◌, ◌∙◌, ◌≤◌, ◌<◌, ◌^◌, ℕ, Bool, false, if◌then◌else◌, Option, Some, None, Result, Ok, Err, IfOk, IsOk, OnErr, OnOk, ap, arith, refl, rules, subst, sym}
use Rattle.std.specs.Option.{ForSome}
use Rattle.pfs_addr_values.specs.Packets.{PacketView, run_limit}
use Rattle.pfs_conf_values.specs.Configs.{Conf}
use Rattle.pfs_conf_values.specs.Invariants.{IsConfig}
use Rattle.pfs_conf_values.specs.declared.items.RuleNo.{RuleNo}
use Rattle.pfs_store_contract.specs.Admission.{leaves_node}
use Rattle.pfs_store_contract.specs.declared.kills.FromTo.{FromTo}
use Rattle.pfs_store_contract.specs.declared.records.Limit.{Limit}
use Rattle.pfs_engine_machine.specs.MachineInvariants.{IsKept, moment_of}
use Rattle.pfs_engine_machine.specs.Guards.{Guard, brings_cookie, guard_after_packet, guard_for}
use Rattle.pfs_engine_machine.specs.Machine.{MachineContents, Machine, answer_behind_guard, answer_of_key, answer_to_command, answer_to_kill, answer_to_packet, arrive, first_moment, held_behind_guard, held_for, machine_at_moment, start, step}
use Rattle.pfs_engine_machine.specs.Refusals.{IsDropped, IsDroppedBehindGuard}
use Rattle.pfs_engine_machine.specs.Runs.{without_memory}
use Rattle.pfs_engine_machine.specs.declared.events.Arrival.{Arrival}
use Rattle.pfs_engine_machine.specs.declared.events.Arrival.TheVariants as arrival
use Rattle.pfs_engine_machine.specs.declared.events.Command.{Command}
use Rattle.pfs_engine_machine.specs.declared.events.Event.{Event}
use Rattle.pfs_engine_machine.specs.declared.events.Outcome.{Outcome}
use Rattle.pfs_engine_machine.specs.declared.events.Outcome.TheVariants as outcome
use Rattle.pfs_engine_machine.proofs.Answering.{refused_result, shared_result}
use Rattle.pfs_engine_machine.proofs.KeptPackets.{kept_behind_guard, kept_met_behind_guard, made_behind_guard, made_met_behind_guard}
use Rattle.pfs_engine_machine.proofs.KeptTime.{first_advanced, kept_advanced, kept_command, kept_elsewhere, kept_start, made_advanced}
use Rattle.pfs_engine.specs.Calls.{CountsPacket, IsAnsweredBy, IsLimited, StaysAtMoment, answer_at_last, guard_at_last}
use Rattle.pfs_engine.specs.Contents.{ContentsView, IsHeldAfter, IsAnsweredAs, IsAnsweredBehindGuard, IsDone}
use Rattle.pfs_engine.specs.Packets.{NeedsNoneBehindGuard, NeedsNoneOf, NeedsNoneUnless}
use Rattle.pfs_engine.specs.Views.{IsWhole, View, machine_at}
use Rattle.pfs_engine.specs.declared.works.Work.{Work}

-- an engine, by what it holds
abbrev pub seen : {X : Type 0} → ContentsView X → Guard → Option ℕ → Option ℕ → ℕ → Option PacketView → Work → View
seen v g first last taken going work =
    record { config = v.config; machine = machine_at v.held g first last; taken = taken; going = going; work = work }

-- an engine is whole, by the configuration before the call
whole_under : {X : Type 0} (conf : Conf) (after : ContentsView X) (g : Guard) (first last : Option ℕ) (taken : ℕ) → after.config ≡ conf
    → IsWhole conf (machine_at after.held g first last) taken → IsWhole after.config (machine_at after.held g first last) taken
whole_under conf after g first last taken same i = subst (λ (k : Conf). IsWhole k (machine_at after.held g first last) taken) (sym same) i

-- it stays so where what is held is kept as before, at the same moments
whole_after : {X : Type 0} (conf : Conf) (held changed : MachineContents) (after : ContentsView X) (g new : Guard) (first last : Option ℕ) (taken taken' : ℕ)
    → IsWhole conf (machine_at held g first last) taken → after.config ≡ conf → after.held ≡ changed → IsKept conf changed (moment_of last) → changed.world.made ≤ taken' → taken' ≤ run_limit
    → IsWhole after.config (machine_at after.held new first last) taken'
whole_after conf held changed after g new first last taken taken' i same is kept made few =
    whole_under conf after new first last taken' same (record {
      kept = subst (λ (x : MachineContents). IsKept conf x (moment_of last)) (sym is) kept;
      made = omega (arith, ap (λ (x : MachineContents). x.world.made) is, made);
      few = few;
      moments = i.moments;
      early = i.early;
      config = i.config;
    })

-- before the first event
pub whole_start : {X : Type 0} (conf : Conf) (v : ContentsView X) (g : Guard) → v.config ≡ conf → v.held ≡ (start conf).held → IsConfig conf
    → IsWhole v.config (machine_at v.held g None None) 0
whole_start conf v g config held sound =
    whole_under conf v g None None 0 config (record {
      kept = subst (λ (x : MachineContents). IsKept conf x 0) (sym held) (kept_start conf sound);
      made = omega (arith, ap (λ (x : MachineContents). x.world.made) held);
      few = omega arith;
      moments = omega arith;
      early = omega arith;
      config = sound;
    })

-- ---- time passes

pub whole_advanced : {X : Type 0} (before after : ContentsView X) (g new : Guard) (first last : Option ℕ) (taken now : ℕ) → ForSome last (λ m. m ≤ now) → now < 2 ^ 32
    → IsWhole before.config (machine_at before.held g first last) taken → IsHeldAfter before after (machine_at_moment before.config (machine_at before.held g first last) now).held
    → IsWhole after.config (machine_at after.held new (machine_at_moment before.config (machine_at before.held g first last) now).first (Some now)) taken
whole_advanced before after g new first last taken now later early i h =
    let m = machine_at before.held g first last in
    let at = machine_at_moment before.config m now in
    whole_under before.config after new at.first (Some now) taken h.config (record {
      kept = subst (λ (x : MachineContents). IsKept before.config x now) (sym h.held) (kept_advanced before.config m now later i.kept);
      made = omega (arith, ap (λ (x : MachineContents). x.world.made) h.held, made_advanced before.config m now, i.made);
      few = i.few;
      moments = first_advanced before.config m now later i.moments;
      early = early;
      config = i.config;
    })

-- ---- what an administrator does

pub whole_told : {X : Type 0} (before after : ContentsView X) (g : Guard) (first last : Option ℕ) (taken begun at table : ℕ) (done : Command) (o : Outcome)
    → IsWhole before.config (machine_at before.held g first last) taken → IsDone o (answer_to_command before.config before.held begun at table done) before after
    → IsWhole after.config (machine_at after.held g first last) taken
whole_told before after g first last taken begun at table done o i h =
    whole_after before.config before.held (answer_to_command before.config before.held begun at table done).1 after g g first last taken taken i h.config (ap (λ (a : Outcome × MachineContents). a.1) h.told)
    (kept_command before.config before.held begun at table done (moment_of last) i.kept) (omega (arith, i.made)) i.few

pub whole_killed : {X : Type 0} (before after : ContentsView X) (g : Guard) (first last : Option ℕ) (taken at : ℕ) (hosts : FromTo) (o : Outcome)
    → IsWhole before.config (machine_at before.held g first last) taken → IsDone o (answer_to_kill before.config before.held at hosts) before after
    → IsWhole after.config (machine_at after.held g first last) taken
whole_killed before after g first last taken at hosts o i h =
    whole_after before.config before.held (answer_to_kill before.config before.held at hosts).1 after g g first last taken taken i h.config (ap (λ (a : Outcome × MachineContents). a.1) h.told)
    (kept_elsewhere before.config before.held hosts at (moment_of last) i.kept) (omega (arith, i.made)) i.few

-- nothing has changed
whole_same : {X : Type 0} (before after : ContentsView X) (g : Guard) (first last : Option ℕ) (taken : ℕ)
    → IsWhole before.config (machine_at before.held g first last) taken → after.held ≡ before.held → after.config ≡ before.config
    → IsWhole after.config (machine_at after.held g first last) taken
whole_same before after g first last taken i held config =
    whole_under before.config after g first last taken config
    (subst (λ (x : MachineContents). IsWhole before.config (machine_at x g first last) taken) (sym held) i)

pub whole_answered : {X A E : Type 0} (before after : ContentsView X) (g : Guard) (first last : Option ℕ) (taken begun at table : ℕ) (done : Command) (r : Result A E) (out : A → Outcome)
    → IsWhole before.config (machine_at before.held g first last) taken → IsAnsweredAs r out (answer_to_command before.config before.held begun at table done) before after
    → IsWhole after.config (machine_at after.held g first last) taken
whole_answered before after g first last taken begun at table done (Ok a) out i h =
    whole_told before after g first last taken begun at table done (out a) i (record { told = h.ok; config = h.config })
whole_answered before after g first last taken begun at table done (Err x) out i h = whole_same before after g first last taken i h.err h.config

-- an engine is seen as this before, and keeps its configuration and its moments
pub keeps : {X : Type 0} (before after : ContentsView X) (was : View) (g new : Guard) (first last : Option ℕ) (taken taken' : ℕ) (going going' : Option PacketView) (work work' : Work)
    → seen before g first last taken going work ≡ was → after.config ≡ before.config
    → IsWhole after.config (machine_at after.held new first last) taken' → StaysAtMoment was (seen after new first last taken' going' work')
keeps before after was g new first last taken taken' going going' work work' is config i = subst (λ (v : View). StaysAtMoment v (seen after new first last taken' going' work')) is (record {
  config = config;
  first = refl;
  last = refl;
  limits = i.kept.limits;
})

-- ---- a packet

-- what it makes of what is held, and of the guard before it, at a moment; and that one which needs no memory is answered
pub record IsTaken {X E : Type 0} (before after : ContentsView X) (g new : Guard) (p : PacketView) (now : ℕ) (r : Result Outcome E) : Type 0 where
  pub answered : IsAnsweredBehindGuard r g p now before after
  pub guard : OnOk r (new ≡ guard_after_packet before.config g before.held.world p now)
  pub refused : OnErr r (new ≡ guard_for before.config g before.held.world p now)
  pub free : NeedsNoneBehindGuard before.config g before.held p now → IsOk r

pub taken_at_last : {X E : Type 0} (before after : ContentsView X) (g new : Guard) (last : Option ℕ) (now : ℕ) (p : PacketView) (r : Result Outcome E) → now ≡ moment_of last
    → IsTaken before after g new p now r → IsTaken before after g new p (moment_of last) r
taken_at_last before after g new last now p r moment h = subst (λ (t : ℕ). IsTaken before after g new p t r) moment h

pub whole_packet : {X E : Type 0} (before after : ContentsView X) (g new : Guard) (first last : Option ℕ) (taken taken' : ℕ) (p : PacketView) (r : Result Outcome E) → taken < run_limit
    → IsWhole before.config (machine_at before.held g first last) taken → IsTaken before after g new p (moment_of last) r → CountsPacket r taken taken'
    → IsWhole after.config (machine_at after.held new first last) taken'
whole_packet before after g new first last taken taken' p (Ok o) room i h n =
    let conf = before.config in
    let now = moment_of last in
    whole_after conf before.held (answer_behind_guard conf g before.held p now).1 after g new first last taken taken' i h.answered.config (ap (λ (a : Outcome × MachineContents). a.1) h.answered.ok)
    (kept_behind_guard conf g before.held p now i.config i.kept) (omega (arith, made_behind_guard conf g before.held p now, i.made, n.ok)) (omega (arith, n.ok, room))
whole_packet before after g new first last taken taken' p (Err x) room i h n =
    let conf = before.config in
    let now = moment_of last in
    whole_after conf before.held (held_behind_guard conf g before.held p now) after g new first last taken taken' i h.answered.config h.answered.err
    (kept_met_behind_guard conf g before.held p now i.kept) (omega (arith, made_met_behind_guard conf g before.held p now, i.made, n.err)) (omega (arith, n.err, i.few))

pub answered_by : {X E : Type 0} (before after : ContentsView X) (was : View) (g new : Guard) (first last : Option ℕ) (taken taken' : ℕ) (going going' : Option PacketView) (work work' : Work) (p : PacketView) (r : Result Outcome E)
    → seen before g first last taken going work ≡ was
    → IsWhole after.config (machine_at after.held new first last) taken' → IsTaken before after g new p (moment_of last) r → CountsPacket r taken taken'
    → IsAnsweredBy r p was (seen after new first last taken' going' work')
answered_by before after was g new first last taken taken' going going' work work' p r is i h n =
    subst (λ (v : View). IsAnsweredBy r p v (seen after new first last taken' going' work')) is (record {
      ok = h.answered.ok;
      guard = h.guard;
      err = same r h.answered.err h.refused;
      keeps = keeps before after (seen before g first last taken going work) g new first last taken taken' going going' work work' refl h.answered.config i;
      taken = n;
    })
  where
    was_machine : Machine
    was_machine = machine_at before.held g first last

    same : {E : Type 0} (r : Result Outcome E) → OnErr r (after.held ≡ held_behind_guard before.config g before.held p (moment_of last))
        → OnErr r (new ≡ guard_for before.config g before.held.world p (moment_of last))
        → OnErr r (machine_at after.held new first last ≡ without_memory before.config was_machine (moment_of last) (arrival.Packet p))
    same (Ok o) e k = tt
    same (Err x) e k = λ i. machine_at (e i) (k i) first last

-- a packet whose state meets a limit is dropped for it, if it is answered
met : {E : Type 0} (conf : Conf) (h after : MachineContents) (p : PacketView) (cookie : Bool) (now : ℕ) (r : Result Outcome E) → IfOk r (λ o. (o, after) ≡ answer_of_key conf h p cookie now)
    → (rule : RuleNo) (limit : Limit) → IsDropped conf h p cookie rule.0 limit → IfOk r (λ o. o ≡ outcome.Drop rule limit)
met conf h after p cookie now r ok rule limit d = search rules

-- and it is, where no node is left
dropped-free : (conf : Conf) (h : MachineContents) (p : PacketView) (cookie : Bool) (rule : RuleNo) (limit : Limit) → IsDropped conf h p cookie rule.0 limit
    → leaves_node conf h.world p.source.addr rule.0 limit ≡ false → NeedsNoneOf conf h p cookie
dropped-free conf h p cookie rule limit d none = search rules

-- so it is behind the guard
module _ (conf : Conf) (g : Guard) (h : MachineContents) (p : PacketView) (now : ℕ) (rule : RuleNo) (limit : Limit) (d : IsDroppedBehindGuard conf g h p now rule.0 limit) where
  let_on : held_behind_guard conf g h p now ≡ held_for conf h p now
  let_on = ap (λ (b : Bool). if b then h else held_for conf h p now) d.let_on

  answer_let_on : answer_behind_guard conf g h p now ≡ answer_to_packet conf h p (brings_cookie g h.world p) now
  answer_let_on = ap (λ (b : Bool). if b then (outcome.Cookie, h) else answer_to_packet conf h p (brings_cookie g h.world p) now) d.let_on

  met_behind_guard : {E : Type 0} (after : MachineContents) (r : Result Outcome E) → IfOk r (λ o. (o, after) ≡ answer_behind_guard conf g h p now) → IfOk r (λ o. o ≡ outcome.Drop rule limit)
  met_behind_guard after r ok =
      met conf (held_for conf h p now) after p (brings_cookie g h.world p) now r
      (subst (λ (a : Outcome × MachineContents). IfOk r (λ o. (o, after) ≡ a)) answer_let_on ok) rule limit d.dropped

  free_behind_guard : leaves_node conf (held_behind_guard conf g h p now).world p.source.addr rule.0 limit ≡ false → NeedsNoneBehindGuard conf g h p now
  free_behind_guard none =
      subst (λ (b : Bool). NeedsNoneUnless b conf (held_for conf h p now) p (brings_cookie g h.world p)) (sym d.let_on)
      (dropped-free conf (held_for conf h p now) p (brings_cookie g h.world p) rule limit d.dropped
      (subst (λ (m : MachineContents). leaves_node conf m.world p.source.addr rule.0 limit ≡ false) let_on none))

pub limited : {X E : Type 0} (before after : ContentsView X) (was : View) (g new : Guard) (first last : Option ℕ) (taken taken' : ℕ) (going going' : Option PacketView) (work work' : Work) (p : PacketView) (r : Result Outcome E)
    → seen before g first last taken going work ≡ was
    → IsWhole before.config (machine_at before.held g first last) taken → IsTaken before after g new p (moment_of last) r
    → IsLimited r p was (seen after new first last taken' going' work')
limited {E = E} before after was g new first last taken taken' going going' work work' p r is i h =
    subst (λ (v : View). IsLimited r p v (seen after new first last taken' going' work')) is (record {
      refused = record {
        met = λ rule limit d. met_behind_guard before.config g before.held p now rule limit d after.held r h.answered.ok;
        free = λ rule limit d none. h.free (free_behind_guard before.config g before.held p now rule limit d none);
        only = λ rule limit e.
            let dropped = refused_result before.config g before.held after.held p now r h.answered.ok rule limit e in
            let guard_is : new ≡ guard_after_packet before.config g before.held.world p now = guard_at r (outcome.Drop rule limit) e h.guard in
            (dropped.0, λ i. machine_at (dropped.1 i) (guard_is i) first last);
      };
      shared = shared_result before.config g before.held after.held p now r i.config i.kept h.answered.ok;
    })
  where
    now : ℕ
    now = moment_of last

    guard_at : (r : Result Outcome E) (o : Outcome) → r ≡ Ok o → OnOk r (new ≡ guard_after_packet before.config g before.held.world p now)
        → new ≡ guard_after_packet before.config g before.held.world p now
    guard_at (Ok x) o e k = k
    guard_at (Err x) o e k = cc

-- ---- an event that is a packet

-- a machine after this answer, behind this guard
abbrev leaving : Machine → Outcome × MachineContents → Guard → Outcome × Machine
leaving m a g = (a.0, record m { held = a.1; guard = g })

pub stepped : {E : Type 0} (conf : Conf) (m at new : Machine) (e : Event) (p : PacketView) (r : Result Outcome E) → e.what ≡ arrival.Packet p
    → at ≡ machine_at_moment conf m e.time → new.first ≡ at.first → new.last ≡ at.last
    → IfOk r (λ o. (o, new.held) ≡ answer_at_last conf at p) → OnOk r (new.guard ≡ guard_at_last conf at p) → IfOk r (λ o. (o, new) ≡ step conf m e)
unfolding step
stepped conf m at new e p (Err x) comes is first last ok guard = tt
stepped conf m at new e p (Ok o) comes is first last ok guard =
    let now : moment_of at.last ≡ e.time = ap (λ (k : Machine). moment_of k.last) is in
    let same : (o, new) ≡ leaving at (o, new.held) new.guard = (λ i. (o, record { held = new.held; guard = new.guard; first = first i; last = last i })) in
    let after : Machine → ℕ → Outcome × Machine = (λ k n. leaving k (answer_behind_guard conf k.guard k.held p n) (guard_after_packet conf k.guard k.held.world p n)) in
    same ∙ ((λ i. leaving at (ok i) (guard i)) ∙ (ap (after at) now ∙ (ap (λ (k : Machine). after k e.time) is
    ∙ ap (λ (w : Arrival). arrive conf (machine_at_moment conf m e.time) (first_moment m.first e.time) e.time w) (sym comes))))
