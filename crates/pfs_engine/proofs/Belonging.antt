-- A packet of a held state: there is room in the overload table where it completes a handshake, and what comes of its touch.
use Rattle.std.proofs.Common.{◌≡◌, ℕ, Bool, true, false, Option, None, Some, ap, ◌∙◌, sym, subst, refl, ◌+◌, ◌==◌, not, filter, length, map, List, [], ◌∷◌, arith}
use Rattle.std.specs.Prelude.{option_map}
use Rattle.pfs_addr_values.specs.Packets.{PacketView, with_tag}
use Rattle.pfs_addr_values.specs.Sameness.{same_addr}
use Rattle.pfs_addr_values.specs.declared.addresses.Addr.{Addr}
use Rattle.pfs_addr_values.specs.declared.packets.Dir.{Dir}
use Rattle.pfs_addr_values.specs.declared.packets.FlowKey.{FlowKey}
use Rattle.pfs_eval.specs.Holdings.{Holdings}
use Rattle.pfs_conf_values.specs.Configs.{Conf, options_of}
use Rattle.pfs_conf_values.specs.declared.items.RuleNo.{RuleNo}
use Rattle.pfs_conf_values.specs.declared.profiles.Profile.{Profile}
use Rattle.pfs_conf_values.specs.declared.profiles.Profile.TheVariants as profile
use Rattle.pfs_store_contract.specs.Calls.{renewal_of, source_states, told_at, touch_of, world_touched, state_number, state_rule, other_than, onward_key}
use Rattle.pfs_store_contract.specs.Leaving.{end_on, is_beside}
use Rattle.pfs_store_contract.specs.Touching.{completes_at, numbered_state_after, world_after_touch}
use Rattle.pfs_store_contract.specs.Worlds.{World}
use Rattle.pfs_store_contract.specs.declared.records.State.{State}
use Rattle.pfs_store_contract.specs.declared.records.StateNo.{StateNo}
use Rattle.pfs_store_contract.specs.declared.records.Touched.{Touched}
use Rattle.pfs_engine_machine.specs.MachineInvariants.{IsKept, Rise}
use Rattle.pfs_engine_machine.specs.Looks.{states_beside}
use Rattle.pfs_engine_machine.specs.Machine.{MachineContents, answer_of_key, answer_of_state, held_of, going_from, going_of_state}
use Rattle.pfs_engine_machine.specs.Refusals.{is_tcp}
use Rattle.pfs_engine.specs.Contents.{ContentsView, IsHeldAfter, view_of}
use Rattle.pfs_engine.specs.Packets.{answer_of_touch}
use Rattle.pfs_engine.specs.OverloadRoom.{HasRoomFor}
use Rattle.pfs_engine_machine.proofs.Renewals.{renewed-same}
use Rattle.pfs_engine_machine.proofs.KeptHandshakes.{proto_of_completed}
use Rattle.pfs_engine_machine.specs.Sides.{state_for}
use Rattle.pfs_engine_machine.proofs.Numbers.{Rise-map}
use Rattle.pfs_addr_values.specs.Keys.{under_key}
use Rattle.std.specs.Option.{option_and_then}

-- the state that was found
pub found_state : (o : Option State) (number : StateNo) → option_map state_number o ≡ Some number → (s : State) × (o ≡ Some s) × (s.number ≡ number.0)
found_state None number e = cc
found_state (Some s) number e = let same : state_number s ≡ number = cc in (s, refl, ap (λ (n : StateNo). n.0) same)

pub room_after : (conf store_conf : Conf) (m : MachineContents) (p : PacketView) (now : ℕ) (number : StateNo) (t : Touched) (rule : RuleNo) (tables : Holdings)
    → IsKept conf m now → option_map state_number (state_for m.world p) ≡ Some number
    → option_map state_rule (state_for m.world p) ≡ Some rule
    → Some t ≡ option_map (renewal_of store_conf m.world p now) (state_for m.world p)
    → (is_tcp p.proto ≡ true → HasRoomFor tables (options_of conf rule.0).overload)
    → t.completed ≡ true → HasRoomFor tables (options_of conf t.rule.0).overload
room_after conf store_conf m p now number t rule tables kept e rule_is touch_is room done =
    let (s, found, same) = found_state (state_for m.world p) number e in
    let told : Some t ≡ Some (renewal_of store_conf m.world p now s) = touch_is ∙ ap (option_map (renewal_of store_conf m.world p now)) found in
    let t_is : t ≡ renewal_of store_conf m.world p now s = cc in
    let completes : completes_at p s ≡ true = sym (ap (λ (x : Touched). x.completed) t_is) ∙ done in
    let at : Some rule ≡ Some s.rule = sym rule_is ∙ ap (option_map state_rule) found in
    let same_rule : rule ≡ s.rule = cc in
    subst (λ (r : RuleNo). HasRoomFor tables (options_of conf r.0).overload) (same_rule ∙ sym (ap (λ (x : Touched). x.rule) t_is))
    (room (proto_of_completed conf m p now s kept found completes))

-- a packet does not change where a state ends, nor who made it
renewed-beside : (profile : Profile) (dir : Dir) (source : Addr) (number : ℕ) (p : PacketView) (now : ℕ) (x : State)
    → is_beside profile dir source (numbered_state_after number p now x) ≡ is_beside profile dir source x
renewed-beside profile.Own dir source number p now x = ap (λ (a : Addr). same_addr a source) (renewed-same number p now x).source
renewed-beside profile.OpenBsd74 dir source number p now x = ap (λ (k : FlowKey). same_addr (end_on dir k).addr source) (renewed-same number p now x).key

-- nor which others end there
others-after : (profile : Profile) (dir : Dir) (source : Addr) (number : ℕ) (p : PacketView) (now : ℕ) (ss : List State)
    → 1 + source_states profile dir source (filter (other_than number) (map (numbered_state_after number p now) ss))
    ≡ 1 + source_states profile dir source (filter (other_than number) ss)
others-after profile dir source number p now ss = ap (λ n. 1 + n) (go ss)
  where
    go : (xs : List State) → length (filter (is_beside profile dir source) (filter (other_than number) (map (numbered_state_after number p now) xs)))
        ≡ length (filter (is_beside profile dir source) (filter (other_than number) xs))
    go [] = refl
    go (x ∷ xs) =
        let same = ap (λ n. not (n == number)) (renewed-same number p now x).number in
        let alike = renewed-beside profile dir source number p now x in
        let rest = go xs in
        grind (arith, same, alike, rest)

-- the state, and the others of its source, are as many as before
pub beside_after : (profile : Profile) (store_conf : Conf) (w after : World) (p : PacketView) (now : ℕ) (number : StateNo) (t : Touched)
    → option_map state_number (state_for w p) ≡ Some number → after ≡ world_touched store_conf w p now (state_for w p)
    → Some t ≡ option_map (renewal_of store_conf w p now) (state_for w p)
    → 1 + source_states profile t.dir t.source (filter (other_than number.0) after.states) ≡ states_beside profile w (state_for w p)
beside_after profile store_conf w after p now number t e is touch_is =
    let (s, found, same) = found_state (state_for w p) number e in
    let told : Some t ≡ Some (renewal_of store_conf w p now s) = touch_is ∙ ap (option_map (renewal_of store_conf w p now)) found in
    let t_is : t ≡ renewal_of store_conf w p now s = cc in
    let after_is : after ≡ world_after_touch store_conf w s p now = is ∙ ap (world_touched store_conf w p now) found in
    let others : Touched → ℕ → World → ℕ = λ x n v. 1 + source_states profile x.dir x.source (filter (other_than n) v.states) in
    let at : others t number.0 after ≡ others (renewal_of store_conf w p now s) s.number after =
    ap (λ (x : Touched). others x number.0 after) t_is ∙ ap (λ n. others (renewal_of store_conf w p now s) n after) (sym same) in
    at ∙ (ap (others (renewal_of store_conf w p now s) s.number) after_is
    ∙ (others-after profile s.dir s.source s.number p now w.states ∙ sym (ap (states_beside profile w) found)))

-- what is not told of a packet that completes no handshake, the answer does not ask
told_where : (conf : Conf) (h : MachineContents) (number now : ℕ) (done : Bool) (t : Touched) → t.completed ≡ done → answer_of_touch conf h number now (told_at done t) ≡ answer_of_touch conf h number now t
told_where conf h number now true t e = refl
told_where conf h number now false t e = rw e refl

-- what a packet of the state makes of the machine is what comes of its touch
pub told_after : (conf store_conf : Conf) (m : MachineContents) (after : World) (p : PacketView) (cookie : Bool) (now : ℕ) (number : StateNo) (t : Touched) → store_conf ≡ conf
    → option_map state_number (state_for m.world p) ≡ Some number → after ≡ world_touched store_conf m.world p now (state_for m.world p)
    → Some t ≡ option_map (renewal_of store_conf m.world p now) (state_for m.world p)
    → answer_of_touch conf (held_of after m.tables) number.0 now t ≡ answer_of_key conf m p cookie now
told_after conf store_conf m after p cookie now number t made_for e is touch_is =
    let (s, found, same) = found_state (state_for m.world p) number e in
    let told : Some t ≡ Some (renewal_of store_conf m.world p now s) = touch_is ∙ ap (option_map (renewal_of store_conf m.world p now)) found in
    let t_is : t ≡ renewal_of store_conf m.world p now s = cc in
    let after_is : after ≡ world_after_touch store_conf m.world s p now = is ∙ ap (world_touched store_conf m.world p now) found in
    let number_is : number.0 ≡ s.number = sym same in
    let first : answer_of_touch conf (held_of after m.tables) number.0 now t ≡ answer_of_touch conf (held_of (world_after_touch store_conf m.world s p now) m.tables) s.number now (renewal_of store_conf m.world p now s) =
    (λ i. answer_of_touch conf (held_of (after_is i) m.tables) (number_is i) now (t_is i)) in
    let second : answer_of_touch conf (held_of (world_after_touch store_conf m.world s p now) m.tables) s.number now (renewal_of store_conf m.world p now s)
    ≡ answer_of_touch conf (held_of (world_after_touch store_conf m.world s p now) m.tables) s.number now (touch_of store_conf m.world p now s) =
    told_where conf (held_of (world_after_touch store_conf m.world s p now) m.tables) s.number now (completes_at p s) (touch_of store_conf m.world p now s) refl in
    let third : answer_of_touch conf (held_of (world_after_touch store_conf m.world s p now) m.tables) s.number now (touch_of store_conf m.world p now s) ≡ answer_of_state conf m p cookie now (Some s) =
    ap (λ (k : Conf). answer_of_touch conf (held_of (world_after_touch k m.world s p now) m.tables) s.number now (touch_of k m.world p now s)) made_for in
    first ∙ (second ∙ (third ∙ sym (ap (answer_of_state conf m p cookie now) found)))

-- the numbers rise behind it
pub rises_after : (conf : Conf) (w after : World) (p : PacketView) (now : ℕ) (o : Option State) → Rise 0 w.states w.made → after ≡ world_touched conf w p now o
    → Rise 0 after.states after.made
rises_after conf w after p now o r is = subst (λ (v : World). Rise 0 v.states v.made) (sym is) (by o)
  where
    by : (o : Option State) → Rise 0 (world_touched conf w p now o).states (world_touched conf w p now o).made
    by None = r
    by (Some s) = Rise-map (numbered_state_after s.number p now) (λ (t : State). (renewed-same s.number p now t).number) 0 w.made w.states r

-- how it goes on
pub going_on : (conf store_conf : Conf) (m : MachineContents) (p : PacketView) (cookie : Bool) (now : ℕ) (number : StateNo) (t : Touched) (key : Option FlowKey)
    → option_map state_number (state_for m.world p) ≡ Some number
    → Some t ≡ option_map (renewal_of store_conf m.world p now) (state_for m.world p)
    → key ≡ option_and_then (onward_key p.dir) (state_for m.world p)
    → under_key key (with_tag p t.tag) ≡ going_from conf m p cookie
going_on conf store_conf m p cookie now number t key e touch_is key_is =
    let (s, found, same) = found_state (state_for m.world p) number e in
    let told : Some t ≡ Some (renewal_of store_conf m.world p now s) = touch_is ∙ ap (option_map (renewal_of store_conf m.world p now)) found in
    let t_is : t ≡ renewal_of store_conf m.world p now s = cc in
    let at : key ≡ onward_key p.dir s = key_is ∙ ap (option_and_then (onward_key p.dir)) found in
    ap (λ (k : Option FlowKey). under_key k (with_tag p t.tag)) at
    ∙ ap (λ (x : Touched). under_key (onward_key p.dir s) (with_tag p x.tag)) t_is
    ∙ sym (ap (going_of_state conf m p cookie) found)

-- ---- what is held, opened after room was made

-- it has the configuration, and holds what was held before
pub opened : {X : Type 0} (before roomy : ContentsView X) (conf : Conf) (store : X) (w : World) (holdings : Holdings) → view_of conf store w holdings ≡ roomy → IsHeldAfter before roomy before.held
    → (conf ≡ before.config) × (held_of w holdings.entries ≡ before.held)
opened {X = X} before roomy conf store w holdings is same = (ap (λ (v : ContentsView X). v.config) is ∙ same.config, ap (λ (v : ContentsView X). v.held) is ∙ same.held)
