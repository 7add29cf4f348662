-- A handshake that exceeds limits of its rule: what is told, and held after it, is what the machine says of the touch.
use Rattle.std.proofs.Common.{◌≡◌, ◌∙◌, ℕ, Bool, true, if◌then◌else◌, Option, None, Some, List, ap, filter, length, refl, sym, ◌-◌, ◌+◌, ◌≤◌, ◌==◌, ◌&&◌, ◌||◌, not, false, [], ◌∷◌, arith}
use Rattle.pfs_eval.specs.Entries.{Entry}
use Rattle.pfs_eval.specs.declared.tables.Added.{Added}
use Rattle.pfs_conf_values.specs.Configs.{Conf, options_of}
use Rattle.pfs_conf_values.specs.declared.actions.StateOptions.{StateOptions}
use Rattle.pfs_store_contract.specs.Counts.{exceeds_maximum}
use Rattle.pfs_store_contract.specs.Handshakes.{flush_of, goes_with, over_rate, stays_at_kill, goes_beside}
use Rattle.pfs_store_contract.specs.Leaving.{world_without}
use Rattle.pfs_store_contract.specs.Worlds.{World}
use Rattle.pfs_store_contract.specs.declared.records.Touched.{Touched}
use Rattle.pfs_engine_machine.specs.Machine.{MachineContents, addition_of, answer_of_exceeded, exceeded_of, held_of, outcome_of_held, tables_after_addition}
use Rattle.pfs_engine_machine.specs.declared.events.Exceeded.{Exceeded}
use Rattle.pfs_engine_machine.specs.declared.events.Outcome.{Outcome}
use Rattle.pfs_engine_machine.specs.declared.events.Outcome.TheVariants as outcome
use Rattle.pfs_engine.specs.Packets.{answer_of_touch}
use Rattle.std.proofs.Math.Bool.{or-false}
use Rattle.std.proofs.lemmas.Bool.Decides.{nat_tests}
use Rattle.pfs_addr_values.specs.declared.addresses.Addr.{Addr}
use Rattle.pfs_addr_values.specs.declared.packets.Dir.{Dir}
use Rattle.pfs_conf_values.specs.declared.actions.Scope.{Scope}
use Rattle.pfs_conf_values.specs.declared.items.RuleNo.{RuleNo}
use Rattle.pfs_store_contract.proofs.LeavingLaws.{without-twice}
use Rattle.pfs_store_contract.specs.Calls.{other_than}
use Rattle.pfs_store_contract.specs.declared.records.State.{State}
use Rattle.pfs_engine_machine.specs.MachineInvariants.{Rise}
use Rattle.pfs_engine.specs.Meters.{stays_beside}
use Rattle.pfs_engine_machine.proofs.Counts.{count-rest}

-- by the options of the rule, the limits, what became of the source, and what was killed
pub told_of_kill : (conf : Conf) (h : MachineContents) (number now : ℕ) (t : Touched) (o : StateOptions) (limits : Exceeded) (added : Option Added) (killed : ℕ) (after : World)
    (tables : List (List Entry)) → t.completed ≡ true → options_of conf t.rule.0 ≡ o
    → exceeded_of (exceeds_maximum o.max_src_conn t.connections) (over_rate o.max_src_conn_rate t.score.value) ≡ Some limits
    → added ≡ addition_of conf h.tables t.source o.overload
    → tables ≡ tables_after_addition conf h.tables t.source now o.overload
    → killed ≡ length (filter (goes_with conf.profile (flush_of o.overload) number t.dir t.rule t.source) h.world.states)
    → after ≡ world_without conf h.world (stays_at_kill conf.profile (flush_of o.overload) number t.dir t.rule t.source) now
    → (outcome.Kill t.rule limits added killed, held_of after tables) ≡ answer_of_touch conf h number now t
told_of_kill conf h number now t o limits added killed after tables completed options exceeded a b c d =
    let limits_by : StateOptions → Option Exceeded = λ r. exceeded_of (exceeds_maximum r.max_src_conn t.connections) (over_rate r.max_src_conn_rate t.score.value) in
    let answer_by : StateOptions → Outcome × MachineContents = λ r. (
      outcome.Kill t.rule limits (addition_of conf h.tables t.source r.overload) (length (filter (goes_with conf.profile (flush_of r.overload) number t.dir t.rule t.source) h.world.states)),
      held_of (world_without conf h.world (stays_at_kill conf.profile (flush_of r.overload) number t.dir t.rule t.source) now) (tables_after_addition conf h.tables t.source now r.overload),
    ) in
    let met : (if t.completed then limits_by (options_of conf t.rule.0) else None) ≡ Some limits =
    ap (λ (b : Bool). if b then limits_by (options_of conf t.rule.0) else None) completed ∙ (ap limits_by options ∙ exceeded) in
    let here : (outcome.Kill t.rule limits added killed, held_of after tables) ≡ answer_by o = rw (a, b, c, d) refl in
    here ∙ (sym (ap answer_by options) ∙ sym (ap (answer_of_exceeded conf h number t.dir t.rule t.source now (outcome_of_held t.rule t.taken t.asks)) met))

-- ---- what is killed in two steps

pub killed-alone : (conf : Conf) (w : World) (number : ℕ) (dir : Dir) (rule : RuleNo) (source : Addr) (now : ℕ)
    → world_without conf w (other_than number) now ≡ world_without conf w (stays_at_kill conf.profile None number dir rule source) now
killed-alone conf w number dir rule source now = λ i. world_without conf w (λ (s : State). not (sym (or-false (s.number == number)) i)) now

neither : (a b : Bool) → (not a && not b) ≡ not (a || b)
neither true b = refl
neither false b = refl

pub killed-beside : (conf : Conf) (w : World) (scope : Scope) (number : ℕ) (dir : Dir) (rule : RuleNo) (source : Addr) (now : ℕ)
    → world_without conf (world_without conf w (other_than number) now) (stays_beside conf.profile scope dir rule source) now
    ≡ world_without conf w (stays_at_kill conf.profile (Some scope) number dir rule source) now
killed-beside conf w scope number dir rule source now =
    without-twice conf w (other_than number) (stays_beside conf.profile scope dir rule source) now
    ∙ (λ i. world_without conf w (λ (s : State). neither (s.number == number) (goes_beside conf.profile (Some scope) dir rule source s) i) now)

-- a state has its number alone
above-none : (n : ℕ) (ss : List State) → (low high : ℕ) → n ≤ low → Rise low ss high → length (filter (λ (s : State). s.number == n) ss) ≡ 0
above-none n [] low high le r = refl
above-none n (s ∷ ss) low high le r =
    let other : (s.number == n) ≡ false = grind (arith, nat_tests, le, r.0) in
    ap (λ b. length (if b then s ∷ filter (λ (t : State). t.number == n) ss else filter (λ (t : State). t.number == n) ss)) other
    ∙ above-none n ss s.number high (omega (arith, le, r.0)) r.1

one-number : (n : ℕ) (ss : List State) → (low high : ℕ) → Rise low ss high → length (filter (λ (s : State). s.number == n) ss) ≤ 1
one-number n [] low high r = omega arith
one-number n (s ∷ ss) low high r = by (s.number == n) refl (one-number n ss s.number high r.1)
  where
    rest : List State
    rest = filter (λ (t : State). t.number == n) ss

    by : (b : Bool) → (s.number == n) ≡ b → length rest ≤ 1 → length (if b then s ∷ rest else rest) ≤ 1
    by true e le =
        let same : n ≡ s.number = grind (arith, nat_tests, e) in
        omega (arith, above-none n ss s.number high (omega (arith, same)) r.1)
    by false e le = le

-- how many are killed
pub killed-count : (conf : Conf) (w after : World) (flush : Option Scope) (number : ℕ) (dir : Dir) (rule : RuleNo) (source : Addr) (now before left : ℕ)
    → before ≡ length w.states → left ≡ length after.states → after ≡ world_without conf w (stays_at_kill conf.profile flush number dir rule source) now
    → before - left ≡ length (filter (goes_with conf.profile flush number dir rule source) w.states)
killed-count conf w after flush number dir rule source now before left all some is =
    let fewer = ap (λ (v : World). length v.states) is in
    omega (arith, all, some, fewer, count-rest (goes_with conf.profile flush number dir rule source) w.states)

-- one leaves first, or none
pub first-leaves : (conf : Conf) (w : World) (number now : ℕ) → Rise 0 w.states w.made → length w.states ≤ length (world_without conf w (other_than number) now).states + 1
first-leaves conf w number now r =
    omega (arith, count-rest (λ (s : State). s.number == number) w.states, one-number number w.states 0 w.made r)
