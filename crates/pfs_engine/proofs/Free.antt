-- A packet whose outcome needs no memory is found to need none before it is answered.
use Rattle.std.proofs.Common.{◌≡◌, ◌∙◌, ◌||◌, ℕ, Bool, true, false, if◌then◌else◌, Option, Some, None, Result, Ok, Err, IsOk, OnErr, ap, subst, sym, refl}
use Rattle.std.proofs.lemmas.Bool.{false≢true}
use Rattle.pfs_addr_values.specs.Packets.{PacketView}
use Rattle.pfs_conf_values.specs.Configs.{Conf, rule_of}
use Rattle.pfs_conf_values.specs.declared.actions.Action.{Action}
use Rattle.pfs_conf_values.specs.declared.actions.Action.TheVariants as action
use Rattle.pfs_conf_values.specs.declared.filters.TableNo.{TableNo}
use Rattle.pfs_store_contract.specs.Admission.{is_answered}
use Rattle.pfs_store_contract.specs.Calls.{packet_limit}
use Rattle.pfs_store_contract.specs.Handshakes.{hits_connections, hits_rate}
use Rattle.pfs_store_contract.specs.Touching.{completes_at, is_asking, is_taken, world_after_touch}
use Rattle.pfs_store_contract.specs.Worlds.{World}
use Rattle.pfs_store_contract.specs.declared.records.Limit.{Limit}
use Rattle.pfs_store_contract.specs.declared.records.State.{State}
use Rattle.pfs_engine_machine.specs.Guards.{Guard, asked, brings_cookie, gets_cookie}
use Rattle.pfs_engine_machine.specs.Machine.{MachineContents, Machine, machine_at_moment, answer_behind_guard, answer_to_packet, answer_of_action, answer_of_exceeded, answer_of_key, answer_of_limits, answer_of_rule, answer_of_state, deciding_rule, exceeded_of, held_behind_guard, held_for, held_of, outcome_of_held, outcome_of_new, packet_ruled, answer_of_keys, answer_of_loss, losing_rule}
use Rattle.pfs_engine_machine.specs.MachineInvariants.{moment_of}
use Rattle.pfs_engine_machine.specs.Refusals.{IsFree, IsFreeOf}
use Rattle.pfs_engine_machine.specs.Runs.{IsRefusedIn, NeedsMemory, without_memory}
use Rattle.pfs_engine_machine.specs.declared.events.Command.{Command}
use Rattle.pfs_engine_machine.specs.declared.events.Event.{Event}
use Rattle.pfs_engine_machine.specs.declared.events.Exceeded.{Exceeded}
use Rattle.pfs_engine_machine.specs.declared.events.Outcome.{Outcome}
use Rattle.pfs_engine_machine.specs.declared.events.Outcome.TheVariants as outcome
use Rattle.pfs_engine_machine.specs.declared.events.Arrival.{Arrival}
use Rattle.pfs_engine_machine.specs.declared.events.Arrival.TheVariants as arrival
use Rattle.pfs_engine.specs.Calls.{answer_at_last, met_held}
use Rattle.pfs_engine.specs.Packets.{NeedsNone, NeedsNoneAt, NeedsNoneBehindGuard, NeedsNoneBy, NeedsNoneOf, NeedsNoneUnless, NeedsNoneAtLimits, NeedsNoneUnlessLost}
use Rattle.pfs_engine_machine.specs.Sides.{state_for, are_free}

free_keys : (conf : Conf) (m : MachineContents) (p going : PacketView) (cookie : Bool) (now rule : ℕ) (free : Bool)
    → IsFree conf m.world p (answer_of_keys conf m p going cookie now rule free).0 → free ≡ false
free_keys conf m p going cookie now rule true none = by (cookie || is_answered conf rule p) none
  where
    by : (answered : Bool) → IsFree conf m.world p (outcome_of_new (record { 0 = rule }) answered) → true ≡ false
    by true none = elim none [ ]
    by false none = elim none [ ]
free_keys conf m p going cookie now rule false none = refl

free_limit : (conf : Conf) (m : MachineContents) (p going : PacketView) (cookie : Bool) (now rule : ℕ) (limit : Option Limit)
    → IsFree conf m.world p (answer_of_limits conf m p going cookie now rule limit).0 → NeedsNoneAtLimits conf m.world p going rule limit
free_limit conf m p going cookie now rule None free = free_keys conf m p going cookie now rule (are_free m.world p going) free
free_limit conf m p going cookie now rule (Some l) free = free

free_action : (conf : Conf) (m : MachineContents) (p going : PacketView) (cookie : Bool) (now rule : ℕ) (what : Action)
    → IsFree conf m.world p (answer_of_action conf m p going cookie now rule what).0 → NeedsNoneAt conf m p going rule what
free_action conf m p going cookie now rule action.Match free = tt
free_action conf m p going cookie now rule action.Block free = tt
free_action conf m p going cookie now rule action.Pass free = tt
free_action conf m p going cookie now rule (action.Keep o) free = free_limit conf m p going cookie now rule (packet_limit conf m.world p rule) free

free_rule : (conf : Conf) (m : MachineContents) (p going : PacketView) (cookie : Bool) (now : ℕ) (rule : Option ℕ)
    → IsFree conf m.world p (answer_of_rule conf m p going cookie now rule).0 → NeedsNoneBy conf m p going rule
free_rule conf m p going cookie now None free = tt
free_rule conf m p going cookie now (Some rule) free = free_action conf m p going cookie now rule (rule_of conf rule).action free

free_loss : (conf : Conf) (m : MachineContents) (p going : PacketView) (cookie : Bool) (now : ℕ) (decides loses : Option ℕ)
    → IsFree conf m.world p (answer_of_loss conf m p going cookie now decides loses).0 → NeedsNoneUnlessLost conf m p going decides loses
free_loss conf m p going cookie now decides None free = free_rule conf m p going cookie now decides free
free_loss conf m p going cookie now decides (Some rule) free = tt

free_state : (conf : Conf) (m : MachineContents) (p : PacketView) (cookie : Bool) (now : ℕ) (found : Option State)
    → IsFree conf m.world p (answer_of_state conf m p cookie now found).0 → NeedsNone conf m p cookie found
free_state conf m p cookie now None free =
    free_loss conf m p (packet_ruled conf m (asked p cookie)) cookie now (deciding_rule conf m (asked p cookie)) (losing_rule conf m (asked p cookie)) free
free_state conf m p cookie now (Some s) free = by (is_taken p s) (is_asking p s) (if completes_at p s then exceeded_of (hits_connections conf after s) (hits_rate conf after s) else None) free
  where
    after : World
    after = world_after_touch conf m.world s p now

    by : (taken asks : Bool) (limits : Option Exceeded)
        → IsFree conf m.world p (answer_of_exceeded conf (held_of after m.tables) s.number s.dir s.rule s.source now (outcome_of_held s.rule taken asks) limits).0 → IsFreeOf conf p s.rule
    by taken asks (Some e) of = of
    by true true None of = of
    by true false None of = of
    by false asks None of = of

needs_none : (conf : Conf) (m : MachineContents) (p : PacketView) (cookie : Bool) (now : ℕ) → IsFree conf m.world p (answer_of_key conf m p cookie now).0 → NeedsNoneOf conf m p cookie
needs_none conf m p cookie now free = free_state conf m p cookie now (state_for m.world p) free

pub needs_none_behind_guard : (conf : Conf) (g : Guard) (h : MachineContents) (p : PacketView) (now : ℕ)
    → IsFree conf (held_behind_guard conf g h p now).world p (answer_behind_guard conf g h p now).0 → NeedsNoneBehindGuard conf g h p now
needs_none_behind_guard conf g h p now = by (gets_cookie conf g h.world p)
  where
    cookie : Bool
    cookie = brings_cookie g h.world p

    by : (gets : Bool) → IsFree conf (if gets then h else held_for conf h p now).world p (if gets then (outcome.Cookie, h) else answer_to_packet conf h p cookie now).0
        → NeedsNoneUnless gets conf (held_for conf h p now) p cookie
    by true free = free
    by false free = needs_none conf (held_for conf h p now) p cookie now free

-- ---- memory that was refused was needed

-- of what this is at a moment, to what comes
needed : (conf : Conf) (m at : Machine) (e : Event) (w : Arrival) → e.what ≡ w → at ≡ machine_at_moment conf m e.time → NeedsMemory conf at.guard at.held (moment_of at.last) w
    → NeedsMemory conf (machine_at_moment conf m e.time).guard (machine_at_moment conf m e.time).held e.time e.what
needed conf m at e w comes is needs =
    let now : moment_of at.last ≡ e.time = ap (λ (k : Machine). moment_of k.last) is in
    subst (λ (v : Arrival). NeedsMemory conf (machine_at_moment conf m e.time).guard (machine_at_moment conf m e.time).held e.time v) (sym comes)
    (subst (λ (k : Machine). NeedsMemory conf k.guard k.held e.time w) is (subst (λ (n : ℕ). NeedsMemory conf at.guard at.held n w) now needs))

-- what is held then
remains : (conf : Conf) (m at new : Machine) (e : Event) (w : Arrival) → e.what ≡ w → at ≡ machine_at_moment conf m e.time → new ≡ without_memory conf at (moment_of at.last) w
    → new ≡ without_memory conf (machine_at_moment conf m e.time) e.time e.what
remains conf m at new e w comes is same =
    let now : moment_of at.last ≡ e.time = ap (λ (k : Machine). moment_of k.last) is in
    same ∙ (ap (λ (n : ℕ). without_memory conf at n w) now ∙ (ap (λ (k : Machine). without_memory conf k e.time w) is
    ∙ ap (without_memory conf (machine_at_moment conf m e.time) e.time) (sym comes)))

pub refused_in : {E : Type 0} (conf : Conf) (m at new : Machine) (e : Event) (p : PacketView) (r : Result Outcome E) → e.what ≡ arrival.Packet p
    → at ≡ machine_at_moment conf m e.time → OnErr r (new ≡ without_memory conf at (moment_of at.last) (arrival.Packet p))
    → (IsFree conf (met_held conf at p).world p (answer_at_last conf at p).0 → IsOk r)
    → OnErr r (IsRefusedIn conf m e new)
refused_in conf m at new e p (Ok o) comes is same free = tt
refused_in conf m at new e p (Err x) comes is same free = record {
  needs = needed conf m at e (arrival.Packet p) comes is (λ f. absurd (false≢true (free f)));
  moment = remains conf m at new e (arrival.Packet p) comes is same;
}

-- so was memory that was refused to an entry that is added
pub refused_at : {X E : Type 0} (conf : Conf) (m at new : Machine) (e : Event) (table : TableNo) (done : Command) (r : Result X E) → e.what ≡ arrival.Table table done
    → at ≡ machine_at_moment conf m e.time → OnErr r (new ≡ at) → OnErr r (NeedsMemory conf at.guard at.held (moment_of at.last) (arrival.Table table done))
    → OnErr r (IsRefusedIn conf m e new)
refused_at conf m at new e table done (Ok o) comes is same needs = tt
refused_at conf m at new e table done (Err x) comes is same needs = record {
  needs = needed conf m at e (arrival.Table table done) comes is needs;
  moment = remains conf m at new e (arrival.Table table done) comes is same;
}
