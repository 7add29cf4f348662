-- A state of whose key no packet arrives stays as it is, and so it goes.
use Rattle.std.proofs.Common.{◌≡◌, ℕ, ◌+◌, ◌<◌, ◌≤◌, Bool, true, false, ◌||◌, cond, ◌==◌, List, [], ◌∷◌, ◌++◌, take, Some, ◌⊎◌, inl, inr, refl, ap, ◌∙◌, sym, subst, arith}
use Rattle.std.specs.List.{All, AllByRecursion, Contains}
use Rattle.std.proofs.lemmas.Bool.{false≢true, or_right}
use Rattle.std.proofs.lemmas.Bool.Decides.{nat_tests}
use Rattle.std.proofs.lemmas.List.Elements.{All-contains, All-from_recursion, Contains-append_cases, Contains-push_cases, recursion_from_All}
use Rattle.pfs_addr_values.specs.Keys.{key_of}
use Rattle.pfs_addr_values.specs.Packets.{PacketView}
use Rattle.pfs_addr_values.specs.Sameness.{same_key}
use Rattle.pfs_conf_values.specs.Configs.{Conf}
use Rattle.pfs_conf_values.specs.Invariants.{IsConfig}
use Rattle.pfs_store_contract.specs.Admission.{new_state}
use Rattle.pfs_store_contract.specs.Calls.{stays_elsewhere}
use Rattle.pfs_store_contract.specs.Leaving.{world_without}
use Rattle.pfs_store_contract.specs.Purging.{has_expired, is_among, state_numbers, state_round, state_share, stays}
use Rattle.pfs_store_contract.specs.Touching.{numbered_state_after, state_after_packet, world_after_touch}
use Rattle.pfs_store_contract.specs.Worlds.{World, holds_number}
use Rattle.pfs_store_contract.specs.declared.records.State.{State}
use Rattle.pfs_engine_machine.proofs.Numbers.{Rise-filter, Rise-map, Rise-more, Rise-push}
use Rattle.pfs_engine_machine.proofs.Renewals.{renewed-same}
use Rattle.pfs_engine_machine.specs.MachineInvariants.{Rise}
use Rattle.pfs_engine_machine.specs.Machine.{MachineContents, held_for, start}
use Rattle.pfs_engine_machine.specs.declared.events.Event.{Event}
use Rattle.pfs_engine_machine.proofs.PacketChanges.{Changes, IsKeptByPackets, answered_keeps, key_has}
use Rattle.pfs_engine_machine.proofs.Limits.{refused_has}
use Rattle.pfs_engine_machine.proofs.Reopening.{met_has}
use Rattle.pfs_engine_machine.proofs.Lists.{each-filter, each-map, each-of, each-push, found}
use Rattle.pfs_engine_machine.proofs.HeldNumbers.{any-number}
use Rattle.pfs_engine_machine.proofs.RunActs.{done_all-append}
use Rattle.pfs_engine_machine.proofs.Small.{IsSmall, small-done_all, small-empty}
use Rattle.pfs_engine_machine.proofs.Staling.{IsExpiredThroughout, numbered-go}
use Rattle.pfs_engine_machine.specs.Acts.{RunAct, Arrive, Change, Kill, Purge, after, act_done, acts_done}
use Rattle.pfs_engine_machine.specs.Staleness.{StatesGo, brings}
use Rattle.pfs_engine_machine.specs.Sides.{state_for, met_key}
use Rattle.pfs_engine_machine.proofs.Keys.{found-by}

-- ---- numbers rise

record AreStatesNumbered (w : World) : Type 0 where
  rise : Rise 0 w.states w.made

numbered-packets : (conf : Conf) → IsKeptByPackets conf AreStatesNumbered
numbered-packets conf = record {
  touches = λ w s p now h. record { rise = Rise-map (numbered_state_after s.number p now) (λ t. (renewed-same s.number p now t).number) 0 w.made w.states h.rise };
  kills = λ w stay now h. record { rise = Rise-filter stay 0 w.made w.states h.rise };
  admits = λ w p going cookie rule now none led free h. record { rise = Rise-push 0 w.made w.states (new_state conf (w.made + 1) p going rule cookie now) h.rise (omega arith) };
  refuses = λ w p rule now l met h. refused_has conf w rule p.source.addr now l AreStatesNumbered met h (λ free. record { rise = Rise-more 0 w.made w.states h.rise });
}

numbered-all : (conf : Conf) (m : MachineContents) (acts : List RunAct) → AreStatesNumbered m.world → AreStatesNumbered (acts_done conf m acts).world
numbered-all conf m [] h = h
numbered-all conf m (Purge s ∷ acts) h =
    numbered-all conf (act_done conf m (Purge s)) acts (record { rise = Rise-filter (stays conf m.world.states s (take (state_share conf) (state_round m.world))) 0 m.world.made m.world.states h.rise })
numbered-all conf m (Arrive now p cookie ∷ acts) h =
    numbered-all conf (act_done conf m (Arrive now p cookie)) acts (answered_keeps conf AreStatesNumbered (numbered-packets conf) m p cookie now h)
numbered-all conf m (Change first now table done ∷ acts) h = numbered-all conf (act_done conf m (Change first now table done)) acts h
numbered-all conf m (Kill now hosts ∷ acts) h = numbered-all conf (act_done conf m (Kill now hosts)) acts ((numbered-packets conf).kills m.world (stays_elsewhere hosts) now h)

above : (low high : ℕ) (ss : List State) → Rise low ss high → AllByRecursion (λ (t : State). low < t.number) ss
above low high [] r = tt
above low high (s ∷ ss) r =
    (r.0, each-of (λ (t : State). s.number < t.number) (λ (t : State). low < t.number) (λ t h. omega (arith, h, r.0)) ss (above s.number high ss r.1))

cons_cases : (ts : List State) (t s : State) → Contains (t ∷ ts) s → (t ≡ s) ⊎ Contains ts s
cons_cases ts t s h = go (Contains-append_cases (t ∷ []) ts s h)
  where
    one : Contains [] s ⊎ (t ≡ s) → (t ≡ s) ⊎ Contains ts s
    one (inl c) = absurd (omega (arith, c.1))
    one (inr e) = inl e

    go : Contains (t ∷ []) s ⊎ Contains ts s → (t ≡ s) ⊎ Contains ts s
    go (inl c) = one (Contains-push_cases [] t s c)
    go (inr c) = inr c

-- a number has one state
unique : (low high : ℕ) (ss : List State) (s : State) → Rise low ss high → Contains ss s → AllByRecursion (λ (t : State). t.number ≡ s.number → t ≡ s) ss
unique low high [] s r c = tt
unique low high (t ∷ ts) s r c = go (cons_cases ts t s c) (unique t.number high ts s r.1)
  where
    go : (t ≡ s) ⊎ Contains ts s → (Contains ts s → AllByRecursion (λ (u : State). u.number ≡ s.number → u ≡ s) ts)
        → (t.number ≡ s.number → t ≡ s) × AllByRecursion (λ (u : State). u.number ≡ s.number → u ≡ s) ts
    go (inl e) i =
        let same : t.number ≡ s.number = ap (λ (u : State). u.number) e in
        (λ n. e, each-of (λ (u : State). t.number < u.number) (λ (u : State). u.number ≡ s.number → u ≡ s) (λ u h n. absurd (omega (arith, h, n, same))) ts (above t.number high ts r.1))
    go (inr d) i =
        let later : t.number < s.number = All-contains (λ (u : State). t.number < u.number) ts s (All-from_recursion (λ (u : State). t.number < u.number) ts (above t.number high ts r.1)) d in
        (λ n. absurd (omega (arith, n, later)), i d)

-- ---- the state stays as it is

record IsAsBefore (s : State) (w : World) : Type 0 where
  made : s.number ≤ w.made
  same : AllByRecursion (λ (t : State). t.number ≡ s.number → t ≡ s) w.states

before-touched : (conf : Conf) (s : State) (w : World) (x : State) (p : PacketView) (now : ℕ) → (x.number ≡ s.number → ⊥) → IsAsBefore s w
    → IsAsBefore s (world_after_touch conf w x p now)
before-touched conf s w x p now other h = record {
  made = h.made;
  same = each-map (λ (t : State). t.number ≡ s.number → t ≡ s) (λ (t : State). t.number ≡ s.number → t ≡ s) (numbered_state_after x.number p now) (λ t f. one t f (t.number == x.number) refl) w.states h.same;
}
  where
    one : (t : State) → (t.number ≡ s.number → t ≡ s) → (b : Bool) → (t.number == x.number) ≡ b
        → (cond b (state_after_packet p now t) t).number ≡ s.number → cond b (state_after_packet p now t) t ≡ s
    one t f false e n = f n
    one t f true e n = let same : t.number ≡ x.number = grind (arith, nat_tests) in absurd (other (sym same ∙ n))

-- another state is found
another : (s : State) (w : World) (p : PacketView) → same_key (met_key p s) (key_of p) ≡ false → IsAsBefore s w → (x : State) → state_for w p ≡ Some x
    → x.number ≡ s.number → ⊥
another s w p apart h x e n =
    let f = found (λ (t : State). t.number ≡ s.number → t ≡ s) (λ (t : State). same_key (met_key p t) (key_of p)) x w.states h.same (sym (found-by w p) ∙ e) in
    false≢true (sym apart ∙ ap (λ (t : State). same_key (met_key p t) (key_of p)) (sym (f.1 n)) ∙ f.0)

before-left : (conf : Conf) (s : State) (w : World) (stay : State → Bool) (now : ℕ) → IsAsBefore s w → IsAsBefore s (world_without conf w stay now)
before-left conf s w stay now h = record { made = h.made; same = each-filter (λ (t : State). t.number ≡ s.number → t ≡ s) stay w.states h.same }

before-packet : (conf : Conf) (s : State) (w : World) (p : PacketView) (cookie : Bool) (now : ℕ) → same_key (met_key p s) (key_of p) ≡ false → IsAsBefore s w → Changes conf w p cookie now (IsAsBefore s)
before-packet conf s w p cookie now apart h = record {
  passes = λ fresh. h;
  admits = λ rule going fresh none led free. record {
    made = omega (arith, h.made);
    same = each-push (λ (t : State). t.number ≡ s.number → t ≡ s) w.states (new_state conf (w.made + 1) p going rule cookie now) h.same (λ n. absurd (omega (arith, n, h.made)));
  };
  refuses = λ rule l fresh met. refused_has conf w rule p.source.addr now l (IsAsBefore s) met h (λ free. record { made = omega (arith, h.made); same = h.same });
  touches = λ x e. before-touched conf s w x p now (another s w p apart h x e) h;
  kills = λ v stay k. before-left conf s v stay now k;
}

before-done : (conf : Conf) (s : State) (m : MachineContents) (a : RunAct) → brings s a ≡ false → IsAsBefore s m.world → IsAsBefore s (act_done conf m a).world
before-done conf s m (Purge now) apart h = record {
  made = h.made;
  same = each-filter (λ (t : State). t.number ≡ s.number → t ≡ s) (stays conf m.world.states now (take (state_share conf) (state_round m.world))) m.world.states h.same;
}
before-done conf s m (Arrive now p cookie) apart h =
    let met = met_has conf m p now (IsAsBefore s) h (λ stay. before-left conf s m.world stay now h) in
    key_has conf (held_for conf m p now) p cookie now (IsAsBefore s) (before-packet conf s (held_for conf m p now).world p cookie now apart met)
before-done conf s m (Change first now table done) apart h = h
before-done conf s m (Kill now hosts) apart h = before-left conf s m.world (stays_elsewhere hosts) now h

before-all : (conf : Conf) (s : State) (m : MachineContents) (acts rest : List RunAct) → AllByRecursion (λ (a : RunAct). brings s a ≡ false) (acts ++ rest) → IsAsBefore s m.world
    → IsAsBefore s (acts_done conf m acts).world
before-all conf s m [] rest all h = h
before-all conf s m (a ∷ acts) rest all h = before-all conf s (act_done conf m a) acts rest all.1 (before-done conf s m a all.0 h)

-- ---- so it is expired at each purge

-- what none has is said of all
none-held : (n : ℕ) (P : State → Type 0) (ss : List State) → holds_number ss n ≡ false → AllByRecursion (λ (t : State). t.number ≡ n → P t) ss
none-held n P [] h = tt
none-held n P (s ∷ ss) h =
    (λ e. absurd (head (s.number == n) (holds_number ss n) refl h e), none-held n P ss (tail (s.number == n) (holds_number ss n) h))
  where
    tail : (a b : Bool) → (a || b) ≡ false → b ≡ false
    tail true b e = absurd (false≢true (sym e))
    tail false b e = e

    head : (a b : Bool) → (s.number == n) ≡ a → (a || b) ≡ false → s.number ≡ n → ⊥
    head true b f e same = false≢true (sym e)
    head false b f e same = grind (arith, nat_tests)

held-number : (ss : List State) (s : State) → Contains ss s → is_among (state_numbers ss) s.number ≡ true
held-number [] s c = absurd (omega (arith, c.1))
held-number (t ∷ ts) s c = go (cons_cases ts t s c) (held-number ts s)
  where
    one : (b : Bool) → (t.number == s.number) ≡ b → t.number ≡ s.number → (b || is_among (state_numbers ts) s.number) ≡ true
    one true f e = refl
    one false f e = grind (arith, nat_tests)

    go : (t ≡ s) ⊎ Contains ts s → (Contains ts s → is_among (state_numbers ts) s.number ≡ true) → ((t.number == s.number) || is_among (state_numbers ts) s.number) ≡ true
    go (inl e) i = one (t.number == s.number) refl (ap (λ (u : State). u.number) e)
    go (inr d) i = or_right (t.number == s.number) (is_among (state_numbers ts) s.number) (i d)

-- each state of the number is expired, since there is only the one
all-expired : (conf : Conf) (s : State) (v : World) (now : ℕ) → IsAsBefore s v → (holds_number v.states s.number ≡ true → has_expired conf v.states now s ≡ true)
    → All (λ (t : State). t.number ≡ s.number → has_expired conf v.states now t ≡ true) v.states
all-expired conf s v now h expired =
    All-from_recursion (λ (t : State). t.number ≡ s.number → has_expired conf v.states now t ≡ true) v.states (go (holds_number v.states s.number) refl)
  where
    go : (b : Bool) → holds_number v.states s.number ≡ b → AllByRecursion (λ (t : State). t.number ≡ s.number → has_expired conf v.states now t ≡ true) v.states
    go true e =
        each-of (λ (t : State). t.number ≡ s.number → t ≡ s) (λ (t : State). t.number ≡ s.number → has_expired conf v.states now t ≡ true)
        (λ t f n. ap (has_expired conf v.states now) (f n) ∙ expired e) v.states h.same
    go false e = none-held s.number (λ t. has_expired conf v.states now t ≡ true) v.states e

pub states-go : (conf : Conf) (events : List Event) → IsConfig conf → StatesGo conf events
states-go conf events sound earlier meanwhile later s rounds held apart expired =
    let m : MachineContents = after conf earlier in
    let number : AreStatesNumbered m.world = numbered-all conf (start conf).held earlier (record { rise = omega arith }) in
    let small : IsSmall conf m.world = small-done_all conf (start conf).held earlier (small-empty conf) in
    let made = small.state_made s.number (held-number m.world.states s held) in
    let first : IsAsBefore s m.world = record { made = made; same = unique 0 m.world.made m.world.states s number.rise held } in
    any-number (λ (t : State). t.number) s.number (after conf (earlier ++ meanwhile)).world.states
    ∙ numbered-go conf earlier meanwhile s.number sound rounds.purges made (through m first refl)
  where
    through : (m : MachineContents) → IsAsBefore s m.world → after conf earlier ≡ m → IsExpiredThroughout conf m s.number meanwhile
    through m first is before rest now e =
        let v : MachineContents = acts_done conf m before in
        let there : after conf (earlier ++ before) ≡ v = done_all-append conf (start conf).held earlier before ∙ ap (λ (u : MachineContents). acts_done conf u before) is in
        let apart' : AllByRecursion (λ (a : RunAct). brings s a ≡ false) (before ++ Purge now ∷ rest) =
        subst (AllByRecursion (λ (a : RunAct). brings s a ≡ false)) e (recursion_from_All (λ (a : RunAct). brings s a ≡ false) meanwhile apart) in
        all-expired conf s v.world now (before-all conf s m before (Purge now ∷ rest) apart' first)
        (λ h. ap (λ (u : MachineContents). has_expired conf u.world.states now s) (sym there) ∙ expired before rest now e (ap (λ (u : MachineContents). holds_number u.world.states s.number) there ∙ h))
