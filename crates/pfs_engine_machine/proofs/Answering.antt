-- What may come of a packet: it gets a cookie, or is one of a held state, or passes, or is blocked, or its state is refused, or made.
use Rattle.std.proofs.Common.{◌≡◌, ◌||◌, ℕ, Bool, true, false, if◌then◌else◌, Option, None, Some, IsSome, Result, Ok, Err, IfOk, ap, refl, sym, ◌∙◌, unwrap_or}
use Rattle.std.proofs.lemmas.Bool.{false≢true}
use Rattle.std.specs.Option.{option_and_then}
use Rattle.pfs_addr_values.specs.Packets.{PacketView}
use Rattle.pfs_conf_values.specs.Configs.{Conf, no_rule, options_at, options_in, rule_at, rule_of, scope_of}
use Rattle.pfs_conf_values.specs.Invariants.{IsConfig}
use Rattle.pfs_conf_values.specs.declared.actions.Action.{Action}
use Rattle.pfs_conf_values.specs.declared.actions.Action.TheVariants as action
use Rattle.pfs_conf_values.specs.declared.actions.Scope.TheVariants as scope
use Rattle.pfs_conf_values.specs.declared.actions.StateOptions.{StateOptions}
use Rattle.pfs_conf_values.specs.declared.items.Rule.{Rule}
use Rattle.pfs_conf_values.specs.declared.items.RuleNo.{RuleNo}
use Rattle.pfs_store_contract.specs.Admission.{is_answered, world_after_admission}
use Rattle.pfs_store_contract.specs.Calls.{packet_limit}
use Rattle.pfs_store_contract.specs.Handshakes.{hits_connections, hits_rate}
use Rattle.pfs_store_contract.specs.Touching.{completes_at, is_asking, is_taken, world_after_touch}
use Rattle.pfs_store_contract.specs.declared.records.Limit.{Limit}
use Rattle.pfs_store_contract.specs.declared.records.State.{State}
use Rattle.pfs_engine_machine.specs.MachineInvariants.{IsKept, IsWithinShared}
use Rattle.pfs_engine_machine.specs.Guards.{Guard, asked, brings_cookie, gets_cookie}
use Rattle.pfs_engine_machine.specs.Machine.{MachineContents, answer_behind_guard, answer_to_packet, answer_of_action, answer_of_exceeded, answer_of_key, answer_of_limits, answer_of_rule, answer_of_state, answer_of_handshake, deciding_rule, exceeded_of, held_behind_guard, held_for, held_of, held_refused, outcome_of_held, outcome_of_new, outcome_of_pass, packet_ruled, answer_of_keys, answer_of_loss, losing_rule}
use Rattle.pfs_engine_machine.specs.Refusals.{IsDropped, IsDroppedBehindGuard}
use Rattle.pfs_engine_machine.specs.declared.events.Exceeded.{Exceeded}
use Rattle.pfs_engine_machine.specs.declared.events.Outcome.{Outcome}
use Rattle.pfs_engine_machine.specs.declared.events.Outcome.TheVariants as outcome
use Rattle.pfs_engine_machine.specs.Sides.{state_for, are_free}
use Rattle.pfs_engine_machine.proofs.KeptAdmission.{shared_admitted, IsLedOn}
use Rattle.pfs_engine_machine.proofs.Reopening.{kept_met}
use Rattle.pfs_engine_machine.proofs.Leading.{led_on}

-- what holds of each answer holds of a packet's, which meets this
pub record Answers (conf : Conf) (m : MachineContents) (p : PacketView) (cookie : Bool) (now : ℕ) (Q : Outcome × MachineContents → Type 0) : Type 0 where
  pub held : (s : State) → state_for m.world p ≡ Some s → Q (answer_of_state conf m p cookie now (Some s))
  pub passes : Q (outcome_of_pass None cookie, m)
  pub passed : (rule : ℕ) → Q (outcome_of_pass (Some (record { 0 = rule })) cookie, m)
  pub blocked : (rule : ℕ) → Q (outcome.Block (record { 0 = rule }), m)
  pub lost : (rule : ℕ) → Q (outcome.Lost (record { 0 = rule }), m)
  pub refused : (rule : ℕ) (limit : Limit) → IsDropped conf m p cookie rule limit → Q (outcome.Drop (record { 0 = rule }) limit, held_refused conf m p now rule limit)
  pub conflicts : (rule : ℕ) → Q (outcome.Conflict (record { 0 = rule }), m)
  pub made : (rule : ℕ) (going : PacketView) → packet_limit conf m.world p rule ≡ None → IsLedOn conf p going → are_free m.world p going ≡ true
      → state_for m.world p ≡ None → going ≡ packet_ruled conf m (asked p cookie) → Q (outcome_of_new (record { 0 = rule }) (cookie || is_answered conf rule p), held_of (world_after_admission conf m.world p going rule cookie now) m.tables)

-- it is one of no held state, no rule loses it, and this one decides
record IsAsked (conf : Conf) (m : MachineContents) (p : PacketView) (cookie : Bool) (rule : ℕ) : Type 0 where
  fresh : state_for m.world p ≡ None
  passes : losing_rule conf m (asked p cookie) ≡ None
  rule_is : deciding_rule conf m (asked p cookie) ≡ Some rule

keeps_state : (found : Option Rule) (o : StateOptions) → (unwrap_or found no_rule).action ≡ action.Keep o
    → IsSome (option_and_then (λ (r : Rule). options_in r.action) found)
keeps_state None o e = cc
keeps_state (Some r) o e = rw e refl

key_answers : (conf : Conf) (m : MachineContents) (p going : PacketView) (cookie : Bool) (now rule : ℕ) (Q : Outcome × MachineContents → Type 0) → Answers conf m p cookie now Q
    → packet_limit conf m.world p rule ≡ None → IsLedOn conf p going → state_for m.world p ≡ None → going ≡ packet_ruled conf m (asked p cookie)
    → (free : Bool) → are_free m.world p going ≡ free → Q (answer_of_keys conf m p going cookie now rule free)
key_answers conf m p going cookie now rule Q a none led fresh same true e = a.made rule going none led e fresh same
key_answers conf m p going cookie now rule Q a none led fresh same false e = a.conflicts rule

limit_answers : (conf : Conf) (m : MachineContents) (p going : PacketView) (cookie : Bool) (now rule : ℕ) (Q : Outcome × MachineContents → Type 0) → Answers conf m p cookie now Q
    → IsAsked conf m p cookie rule → IsLedOn conf p going → going ≡ packet_ruled conf m (asked p cookie) → IsSome (options_at conf rule)
    → (limit : Option Limit) → packet_limit conf m.world p rule ≡ limit → Q (answer_of_limits conf m p going cookie now rule limit)
limit_answers conf m p going cookie now rule Q a is led same keeps None e = key_answers conf m p going cookie now rule Q a e led is.fresh same (are_free m.world p going) refl
limit_answers conf m p going cookie now rule Q a is led same keeps (Some l) e =
    a.refused rule l (record { fresh = is.fresh; passes = is.passes; rule_is = is.rule_is; keeps = keeps; met = e })

action_answers : (conf : Conf) (m : MachineContents) (p going : PacketView) (cookie : Bool) (now rule : ℕ) (Q : Outcome × MachineContents → Type 0) → Answers conf m p cookie now Q
    → IsAsked conf m p cookie rule → IsLedOn conf p going → going ≡ packet_ruled conf m (asked p cookie)
    → (what : Action) → (rule_of conf rule).action ≡ what → Q (answer_of_action conf m p going cookie now rule what)
action_answers conf m p going cookie now rule Q a is led same action.Match e = a.passes
action_answers conf m p going cookie now rule Q a is led same action.Block e = a.blocked rule
action_answers conf m p going cookie now rule Q a is led same action.Pass e = a.passed rule
action_answers conf m p going cookie now rule Q a is led same (action.Keep o) e =
    limit_answers conf m p going cookie now rule Q a is led same (keeps_state (rule_at conf rule) o e) (packet_limit conf m.world p rule) refl

rule_answers : (conf : Conf) (m : MachineContents) (p going : PacketView) (cookie : Bool) (now : ℕ) (Q : Outcome × MachineContents → Type 0) → Answers conf m p cookie now Q
    → state_for m.world p ≡ None → losing_rule conf m (asked p cookie) ≡ None → IsLedOn conf p going → going ≡ packet_ruled conf m (asked p cookie)
    → (rule : Option ℕ) → deciding_rule conf m (asked p cookie) ≡ rule → Q (answer_of_rule conf m p going cookie now rule)
rule_answers conf m p going cookie now Q a fresh passes led same None e = a.passes
rule_answers conf m p going cookie now Q a fresh passes led same (Some rule) e =
    action_answers conf m p going cookie now rule Q a (record { fresh = fresh; passes = passes; rule_is = e }) led same (rule_of conf rule).action refl

loss_answers : (conf : Conf) (m : MachineContents) (p : PacketView) (cookie : Bool) (now : ℕ) (Q : Outcome × MachineContents → Type 0) → Answers conf m p cookie now Q
    → state_for m.world p ≡ None → (loses : Option ℕ) → losing_rule conf m (asked p cookie) ≡ loses
    → Q (answer_of_loss conf m p (packet_ruled conf m (asked p cookie)) cookie now (deciding_rule conf m (asked p cookie)) loses)
loss_answers conf m p cookie now Q a fresh (Some rule) e = a.lost rule
loss_answers conf m p cookie now Q a fresh None e =
    rule_answers conf m p (packet_ruled conf m (asked p cookie)) cookie now Q a fresh e (led_on conf m p cookie) refl (deciding_rule conf m (asked p cookie)) refl

state_answers : (conf : Conf) (m : MachineContents) (p : PacketView) (cookie : Bool) (now : ℕ) (Q : Outcome × MachineContents → Type 0) → Answers conf m p cookie now Q
    → (found : Option State) → state_for m.world p ≡ found → Q (answer_of_state conf m p cookie now found)
state_answers conf m p cookie now Q a None e = loss_answers conf m p cookie now Q a e (losing_rule conf m (asked p cookie)) refl
state_answers conf m p cookie now Q a (Some s) e = a.held s e

pub answered_has : (conf : Conf) (m : MachineContents) (p : PacketView) (cookie : Bool) (now : ℕ) (Q : Outcome × MachineContents → Type 0) → Answers conf m p cookie now Q → Q (answer_of_key conf m p cookie now)
answered_has conf m p cookie now Q a = state_answers conf m p cookie now Q a (state_for m.world p) refl

-- ---- a packet of a held state is not refused, and makes no state

abbrev is_of_held : Outcome → Bool
is_of_held (outcome.State r) = true
is_of_held (outcome.Taken r) = true
is_of_held (outcome.Asking r) = true
is_of_held (outcome.New r) = false
is_of_held (outcome.Answered r) = false
is_of_held (outcome.Pass r) = false
is_of_held outcome.Cookie = false
is_of_held (outcome.Stateless r) = false
is_of_held (outcome.Block r) = false
is_of_held (outcome.Lost r) = false
is_of_held (outcome.Drop r l) = false
is_of_held (outcome.Conflict r) = false
is_of_held (outcome.Kill r e o k) = true
is_of_held outcome.Skip = false
is_of_held (outcome.Expire n) = false
is_of_held (outcome.Add became) = false
is_of_held (outcome.Delete n) = false
is_of_held (outcome.Killed n) = false
is_of_held (outcome.HeldAnswer amounts) = false

told_held : (rule : RuleNo) (taken asks : Bool) → is_of_held (outcome_of_held rule taken asks) ≡ true
told_held rule true true = refl
told_held rule true false = refl
told_held rule false asks = refl

handshake_held : (conf : Conf) (m : MachineContents) (s : State) (now : ℕ) (unhindered : Outcome) (completes : Bool) → is_of_held unhindered ≡ true
    → is_of_held (answer_of_handshake conf m s now unhindered completes).0 ≡ true
handshake_held conf m s now unhindered completes of = by (if completes then exceeded_of (hits_connections conf m.world s) (hits_rate conf m.world s) else None)
  where
    by : (limits : Option Exceeded) → is_of_held (answer_of_exceeded conf m s.number s.dir s.rule s.source now unhindered limits).0 ≡ true
    by (Some e) = refl
    by None = of

pub state_held : (conf : Conf) (m : MachineContents) (p : PacketView) (cookie : Bool) (now : ℕ) (s : State) → is_of_held (answer_of_state conf m p cookie now (Some s)).0 ≡ true
state_held conf m p cookie now s =
    handshake_held conf (held_of (world_after_touch conf m.world s p now) m.tables) s now (outcome_of_held s.rule (is_taken p s) (is_asking p s)) (completes_at p s)
    (told_held s.rule (is_taken p s) (is_asking p s))

-- ---- a state that is refused, and one that is made with shared nodes

abbrev numbered : ℕ → RuleNo
numbered n = record { 0 = n }

refuse-new : {P : Type 0} (r : RuleNo) (answered : Bool) (rule : RuleNo) (limit : Limit) → outcome_of_new r answered ≡ outcome.Drop rule limit → P
refuse-new r true rule limit e = cc
refuse-new r false rule limit e = cc

refuse-pass : {P : Type 0} (r : Option RuleNo) (cookie : Bool) (rule : RuleNo) (limit : Limit) → outcome_of_pass r cookie ≡ outcome.Drop rule limit → P
refuse-pass r true rule limit e = cc
refuse-pass r false rule limit e = cc

abbrev pub RefusedOnly : Conf → MachineContents → PacketView → Bool → ℕ → Outcome × MachineContents → Type 0
RefusedOnly conf m p cookie now a = (rule : RuleNo) (limit : Limit) → a.0 ≡ outcome.Drop rule limit
    → IsDropped conf m p cookie rule.0 limit × (a.1 ≡ held_refused conf m p now rule.0 limit)

pub refused_only : (conf : Conf) (m : MachineContents) (p : PacketView) (cookie : Bool) (now : ℕ) → RefusedOnly conf m p cookie now (answer_of_key conf m p cookie now)
refused_only conf m p cookie now = answered_has conf m p cookie now (RefusedOnly conf m p cookie now) (record {
  held = λ s found rule limit e. absurd (false≢true (sym (ap is_of_held e) ∙ state_held conf m p cookie now s));
  passes = λ rule limit e. refuse-pass None cookie rule limit e;
  passed = λ r rule limit e. refuse-pass (Some (numbered r)) cookie rule limit e;
  blocked = λ r rule limit e. cc;
  lost = λ r rule limit e. cc;
  conflicts = λ r rule limit e. cc;
  refused = λ r l is rule limit e.
      let rules : numbered r ≡ rule = cc in
      let limits : l ≡ limit = cc in
      let number : r ≡ rule.0 = ap (λ (x : RuleNo). x.0) rules in
      (rw (sym number, sym limits) is, ap (λ (n : ℕ). held_refused conf m p now n l) number ∙ ap (λ (x : Limit). held_refused conf m p now rule.0 x) limits);
  made = λ r going none led free fresh same rule limit e. refuse-new (numbered r) (cookie || is_answered conf r p) rule limit e;
})

-- ---- none gets a cookie by rules; and one for which no rule keeps state leaves all as it is

pass-brought : (r : Option RuleNo) (cookie : Bool) (rule : Option RuleNo) → outcome_of_pass r cookie ≡ outcome.Stateless rule → cookie ≡ true
pass-brought r true rule e = refl
pass-brought r false rule e = cc

pass-given : (r : Option RuleNo) (cookie : Bool) → outcome_of_pass r cookie ≡ outcome.Cookie → ⊥
pass-given r true e = cc
pass-given r false e = cc

new-brought : (r : RuleNo) (answered : Bool) (rule : Option RuleNo) → outcome_of_new r answered ≡ outcome.Stateless rule → ⊥
new-brought r true rule e = cc
new-brought r false rule e = cc

new-given : (r : RuleNo) (answered : Bool) → outcome_of_new r answered ≡ outcome.Cookie → ⊥
new-given r true e = cc
new-given r false e = cc

pub no_cookie_by_rules : (conf : Conf) (m : MachineContents) (p : PacketView) (cookie : Bool) (now : ℕ) → (answer_of_key conf m p cookie now).0 ≡ outcome.Cookie → ⊥
no_cookie_by_rules conf m p cookie now = answered_has conf m p cookie now (λ (a : Outcome × MachineContents). a.0 ≡ outcome.Cookie → ⊥) (record {
  held = λ s found e. false≢true (sym (ap is_of_held e) ∙ state_held conf m p cookie now s);
  passes = pass-given None cookie;
  passed = λ r. pass-given (Some (numbered r)) cookie;
  blocked = λ r e. cc;
  lost = λ r e. cc;
  refused = λ r l is e. cc;
  conflicts = λ r e. cc;
  made = λ r going none led free fresh same. new-given (numbered r) (cookie || is_answered conf r p);
})

abbrev pub LeavesAll : MachineContents → Bool → Outcome × MachineContents → Type 0
LeavesAll m cookie a = (rule : Option RuleNo) → a.0 ≡ outcome.Stateless rule → (cookie ≡ true) × (a.1 ≡ m)

pub stateless_leaves_all : (conf : Conf) (m : MachineContents) (p : PacketView) (cookie : Bool) (now : ℕ) → LeavesAll m cookie (answer_of_key conf m p cookie now)
stateless_leaves_all conf m p cookie now = answered_has conf m p cookie now (LeavesAll m cookie) (record {
  held = λ s found rule e. absurd (false≢true (sym (ap is_of_held e) ∙ state_held conf m p cookie now s));
  passes = λ rule e. (pass-brought None cookie rule e, refl);
  passed = λ r rule e. (pass-brought (Some (numbered r)) cookie rule e, refl);
  blocked = λ r rule e. cc;
  lost = λ r rule e. cc;
  refused = λ r l is rule e. cc;
  conflicts = λ r rule e. cc;
  made = λ r going none led free fresh same rule e. absurd (new-brought (numbered r) (cookie || is_answered conf r p) rule e);
})

abbrev pub MadeShared : Conf → MachineContents → PacketView → Outcome × MachineContents → Type 0
MadeShared conf m p a = (rule : RuleNo) (answered : Bool) → a.0 ≡ outcome_of_new rule answered → scope_of conf rule.0 ≡ Some scope.Global
    → IsWithinShared conf rule.0 p.source.addr m.world a.1.world

-- the rule of an outcome where a state is made
abbrev maker_of : Outcome → Option RuleNo
maker_of (outcome.New r) = Some r
maker_of (outcome.Answered r) = Some r
maker_of _ = None

maker-new : (rule : RuleNo) (answered : Bool) → maker_of (outcome_of_new rule answered) ≡ Some rule
maker-new rule true = refl
maker-new rule false = refl

pub maker-pass : (r : Option RuleNo) (cookie : Bool) → maker_of (outcome_of_pass r cookie) ≡ None
maker-pass r true = refl
maker-pass r false = refl

pub not-held : (o : Outcome) (rule : RuleNo) → is_of_held o ≡ true → maker_of o ≡ Some rule → ⊥
not-held (outcome.State r) rule h e = cc
not-held (outcome.Taken r) rule h e = cc
not-held (outcome.Asking r) rule h e = cc
not-held (outcome.New r) rule h e = false≢true h
not-held (outcome.Answered r) rule h e = false≢true h
not-held (outcome.Pass r) rule h e = false≢true h
not-held outcome.Cookie rule h e = false≢true h
not-held (outcome.Stateless r) rule h e = false≢true h
not-held (outcome.Block r) rule h e = false≢true h
not-held (outcome.Lost r) rule h e = false≢true h
not-held (outcome.Drop r l) rule h e = false≢true h
not-held (outcome.Conflict r) rule h e = false≢true h
not-held (outcome.Kill r x o k) rule h e = cc
not-held outcome.Skip rule h e = false≢true h
not-held (outcome.Expire n) rule h e = false≢true h
not-held (outcome.Add became) rule h e = false≢true h
not-held (outcome.Delete n) rule h e = false≢true h
not-held (outcome.Killed n) rule h e = false≢true h
not-held (outcome.HeldAnswer amounts) rule h e = false≢true h

-- an outcome that makes a state of a rule tells that rule
pub made-by : (o : Outcome) (rule : RuleNo) (answered : Bool) → o ≡ outcome_of_new rule answered → maker_of o ≡ Some rule
made-by o rule answered e = ap maker_of e ∙ maker-new rule answered

pub made_shared : (conf : Conf) (m : MachineContents) (p : PacketView) (cookie : Bool) (now : ℕ) → IsConfig conf → IsKept conf m now → MadeShared conf m p (answer_of_key conf m p cookie now)
made_shared conf m p cookie now config kept = answered_has conf m p cookie now (MadeShared conf m p) (record {
  held = λ s found rule answered e. absurd (not-held _ rule (state_held conf m p cookie now s) (made-by _ rule answered e));
  passes = λ rule answered e. absurd (let no = sym (maker-pass None cookie) ∙ made-by _ rule answered e in cc);
  passed = λ r rule answered e. absurd (let no = sym (maker-pass (Some (numbered r)) cookie) ∙ made-by _ rule answered e in cc);
  blocked = λ r rule answered e. absurd (let no = made-by _ rule answered e in cc);
  lost = λ r rule answered e. absurd (let no = made-by _ rule answered e in cc);
  refused = λ r l is rule answered e. absurd (let no = made-by _ rule answered e in cc);
  conflicts = λ r rule answered e. absurd (let no = made-by _ rule answered e in cc);
  made = λ r going none led free fresh own rule answered e global.
      let some : Some (numbered r) ≡ Some rule = sym (maker-new (numbered r) (cookie || is_answered conf r p)) ∙ made-by _ rule answered e in
      let same : numbered r ≡ rule = cc in
      let number : r ≡ rule.0 = ap (λ (x : RuleNo). x.0) same in
      rw (sym number) (shared_admitted conf m p going cookie r now config none (rw (sym number) at global) kept);
})

-- ---- behind the guard

refused_behind_guard : (conf : Conf) (g : Guard) (m : MachineContents) (p : PacketView) (now : ℕ) (rule : RuleNo) (limit : Limit)
    → (answer_behind_guard conf g m p now).0 ≡ outcome.Drop rule limit
    → IsDroppedBehindGuard conf g m p now rule.0 limit × ((answer_behind_guard conf g m p now).1 ≡ held_refused conf (held_behind_guard conf g m p now) p now rule.0 limit)
refused_behind_guard conf g m p now rule limit = by (gets_cookie conf g m.world p) refl
  where
    cookie : Bool
    cookie = brings_cookie g m.world p

    by : (b : Bool) → gets_cookie conf g m.world p ≡ b → (if b then (outcome.Cookie, m) else answer_to_packet conf m p cookie now).0 ≡ outcome.Drop rule limit
        → IsDroppedBehindGuard conf g m p now rule.0 limit
        × ((if b then (outcome.Cookie, m) else answer_to_packet conf m p cookie now).1 ≡ held_refused conf (if b then m else held_for conf m p now) p now rule.0 limit)
    by true f e = cc
    by false f e = let told = refused_only conf (held_for conf m p now) p cookie now rule limit e in (record { let_on = f; dropped = told.0 }, told.1)

shared_behind_guard : (conf : Conf) (g : Guard) (m : MachineContents) (p : PacketView) (now : ℕ) → IsConfig conf → IsKept conf m now → (rule : RuleNo) (answered : Bool)
    → (answer_behind_guard conf g m p now).0 ≡ outcome_of_new rule answered → scope_of conf rule.0 ≡ Some scope.Global
    → IsWithinShared conf rule.0 p.source.addr (held_behind_guard conf g m p now).world (answer_behind_guard conf g m p now).1.world
shared_behind_guard conf g m p now config kept rule answered made global = by (gets_cookie conf g m.world p) made
  where
    cookie : Bool
    cookie = brings_cookie g m.world p

    by : (b : Bool) → (if b then (outcome.Cookie, m) else answer_to_packet conf m p cookie now).0 ≡ outcome_of_new rule answered
        → IsWithinShared conf rule.0 p.source.addr (if b then m else held_for conf m p now).world (if b then (outcome.Cookie, m) else answer_to_packet conf m p cookie now).1.world
    by true e = absurd (let no = made-by outcome.Cookie rule answered e in cc)
    by false e = made_shared conf (held_for conf m p now) p cookie now config (kept_met conf m p now kept) rule answered e global

-- ---- of an answer that may be out of memory

pub refused_result : {E : Type 0} (conf : Conf) (g : Guard) (m after : MachineContents) (p : PacketView) (now : ℕ) (r : Result Outcome E)
    → IfOk r (λ o. (o, after) ≡ answer_behind_guard conf g m p now) → (rule : RuleNo) (limit : Limit) → r ≡ Ok (outcome.Drop rule limit)
    → IsDroppedBehindGuard conf g m p now rule.0 limit × (after ≡ held_refused conf (held_behind_guard conf g m p now) p now rule.0 limit)
refused_result conf g m after p now (Ok o) ok rule limit e =
    let dropped : o ≡ outcome.Drop rule limit = cc in
    let told = refused_behind_guard conf g m p now rule limit (sym (ap (λ (a : Outcome × MachineContents). a.0) ok) ∙ dropped) in
    (told.0, ap (λ (a : Outcome × MachineContents). a.1) ok ∙ told.1)
refused_result conf g m after p now (Err x) ok rule limit e = cc

pub shared_result : {E : Type 0} (conf : Conf) (g : Guard) (m after : MachineContents) (p : PacketView) (now : ℕ) (r : Result Outcome E) → IsConfig conf → IsKept conf m now
    → IfOk r (λ o. (o, after) ≡ answer_behind_guard conf g m p now) → (rule : RuleNo) (answered : Bool) → r ≡ Ok (outcome_of_new rule answered)
    → scope_of conf rule.0 ≡ Some scope.Global → IsWithinShared conf rule.0 p.source.addr (held_behind_guard conf g m p now).world after.world
shared_result conf g m after p now (Ok o) config kept ok rule answered e global =
    let made : o ≡ outcome_of_new rule answered = cc in
    let told = shared_behind_guard conf g m p now config kept rule answered (sym (ap (λ (a : Outcome × MachineContents). a.0) ok) ∙ made) global in
    let is : after ≡ (answer_behind_guard conf g m p now).1 = ap (λ (a : Outcome × MachineContents). a.1) ok in
    rw is told
shared_result conf g m after p now (Err x) config kept ok rule answered e global = cc
