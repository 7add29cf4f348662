-- What answers a packet that made a state is of that state.
use Rattle.std.proofs.Common.{◌≡◌, ◌∙◌, ◌+◌, ℕ, Bool, true, false, if◌then◌else◌, Some, None, List, [], ◌∷◌, ◌++◌, refl, ap, sym, subst}
use Rattle.std.specs.List.{find}
use Rattle.std.specs.Prelude.{option_map}
use Rattle.pfs_addr_values.proofs.SameLaws.{same_key_self}
use Rattle.pfs_addr_values.specs.Keys.{first_end, key_of, second_end}
use Rattle.pfs_addr_values.specs.Packets.{PacketView, is_from_inside}
use Rattle.pfs_addr_values.specs.Sameness.{same_key}
use Rattle.pfs_addr_values.specs.declared.packets.Dir.{Dir}
use Rattle.pfs_addr_values.specs.declared.packets.Dir.TheVariants as dir
use Rattle.pfs_addr_values.specs.declared.packets.Endpoint.{Endpoint}
use Rattle.pfs_addr_values.specs.declared.packets.FlowKey.{FlowKey}
use Rattle.pfs_addr_values.specs.declared.protocols.Proto.{Proto}
use Rattle.pfs_conf_values.specs.Configs.{Conf}
use Rattle.pfs_conf_values.specs.declared.items.RuleNo.{RuleNo}
use Rattle.pfs_store_contract.specs.Admission.{inner_side, key_inside, new_state, wire_key, wire_side, world_after_admission}
use Rattle.pfs_store_contract.specs.Calls.{state_number}
use Rattle.pfs_store_contract.specs.Worlds.{World, inner_key, state_inside, state_with}
use Rattle.pfs_store_contract.specs.declared.records.State.{State}
use Rattle.pfs_engine_machine.specs.Machine.{MachineContents, answer_of_key, going_from, going_of_state, held_for, outcome_of_new}
use Rattle.pfs_engine_machine.specs.Sides.{are_free, met_key, state_for}
use Rattle.pfs_engine_machine.specs.TwoKeys.{AnswersBelong, IsAnswerTo, is_out, turned_way}
use Rattle.pfs_engine_machine.specs.declared.events.Outcome.{Outcome}
use Rattle.pfs_engine_machine.proofs.Answering.{answered_has, made-by, maker-pass, not-held, state_held}
use Rattle.pfs_engine_machine.proofs.KeptAdmission.{free_inside, free_outside, inner_new}
use Rattle.pfs_engine_machine.proofs.Keys.{found-by}
use Rattle.pfs_engine_machine.proofs.Leading.{flagged-key}

-- a key, by its direction and its ends
abbrev key_at : Dir → Proto → Endpoint → Endpoint → FlowKey
key_at dir.In proto from to = record { proto = proto; a = from; b = to }
key_at dir.Out proto from to = record { proto = proto; a = to; b = from }

own-key : (p : PacketView) → key_of p ≡ key_at p.dir p.proto p.source p.destination
own-key p = by p.dir
  where
    by : (d : Dir) → ◌≡◌ {A = FlowKey} (record { proto = p.proto; a = first_end d p; b = second_end d p }) (key_at d p.proto p.source p.destination)
    by dir.In = refl
    by dir.Out = refl

-- a packet has the key of the one that it answers
answer-key : (p a : PacketView) → IsAnswerTo p a → key_of a ≡ key_of p
answer-key p a r = own-key a ∙ (λ i. key_at (r.way i) (r.proto i) (r.from i) (r.to i)) ∙ by p.dir ∙ sym (own-key p)
  where
    by : (d : Dir) → key_at (turned_way d) p.proto p.destination p.source ≡ key_at d p.proto p.source p.destination
    by dir.In = refl
    by dir.Out = refl

-- the last state of a list, where none before it has a key
found-last : (at : State → FlowKey) (key : FlowKey) (ss : List State) (new : State) → find (λ (t : State). same_key (at t) key) ss ≡ None → at new ≡ key
    → find (λ (t : State). same_key (at t) key) (ss ++ new ∷ []) ≡ Some new
found-last at key [] new none own = ap (λ (k : FlowKey). if same_key k key then Some new else None) own ∙ ap (λ b. if b then Some new else None) (same_key_self key)
found-last at key (s ∷ ss) new none own = go (same_key (at s) key) none (λ k. found-last at key ss new k own)
  where
    go : (b : Bool) → (if b then Some s else find (λ (t : State). same_key (at t) key) ss) ≡ None
        → (find (λ (t : State). same_key (at t) key) ss ≡ None → find (λ (t : State). same_key (at t) key) (ss ++ new ∷ []) ≡ Some new)
        → (if b then Some s else find (λ (t : State). same_key (at t) key) (ss ++ new ∷ [])) ≡ Some new
    go true e rest = cc
    go false e rest = rest e

-- the state that a packet made is that of what answers it
finds-new : (conf : Conf) (w : World) (p going a : PacketView) (cookie : Bool) (rule now : ℕ) → going.dir ≡ p.dir → are_free w p going ≡ true
    → (q : PacketView) → q.dir ≡ p.dir → key_of q ≡ key_of going → IsAnswerTo q a
    → state_for (world_after_admission conf w p going rule cookie now) a ≡ Some (new_state conf (w.made + 1) p going rule cookie now)
finds-new conf w p going a cookie rule now way free q q-way q-key r =
    found-by (world_after_admission conf w p going rule cookie now) a
    ∙ ap (λ (k : FlowKey). find (λ (t : State). same_key (met_key a t) k) (w.states ++ new ∷ [])) (answer-key q a r ∙ q-key)
    ∙ by p.dir (sym q-way)
  where
    new : State
    new = new_state conf (w.made + 1) p going rule cookie now

    -- the other way than the packet's own
    inside-is : (d : Dir) → d ≡ q.dir → is_from_inside a ≡ is_out (turned_way d)
    inside-is d e = r.inside ∙ ap is_out r.way ∙ ap (λ (x : Dir). is_out (turned_way x)) (sym e)

    at : Bool → State → FlowKey
    at b t = if b then inner_key t else t.key

    by : (d : Dir) → d ≡ q.dir
        → find (λ (t : State). same_key (at (is_from_inside a) t) (key_of going)) (w.states ++ new ∷ []) ≡ Some new
    by d e = ap (λ b. find (λ (t : State). same_key (at b t) (key_of going)) (w.states ++ new ∷ [])) (inside-is d e) ∙ there d (e ∙ q-way)
      where
        there : (d : Dir) → d ≡ p.dir → find (λ (t : State). same_key (at (is_out (turned_way d)) t) (key_of going)) (w.states ++ new ∷ []) ≡ Some new
        there dir.In e =
            let key : key_inside p going ≡ key_of going = ap (λ (x : Dir). inner_side x (key_of p) (key_of going)) (sym e) in
            found-last inner_key (key_of going) w.states new (sym (ap (λ (k : FlowKey). state_inside k w) key) ∙ free_inside w p going free)
            (inner_new conf (w.made + 1) rule now p going cookie ∙ key)
        there dir.Out e =
            let key : wire_key p going ≡ key_of going = ap (λ (x : Dir). wire_side x (key_of p) (key_of going)) (sym e) in
            found-last (λ (t : State). t.key) (key_of going) w.states new (sym (ap (λ (k : FlowKey). state_with k w) key) ∙ free_outside w p going free) key

abbrev MakesFound : Conf → MachineContents → PacketView → Bool → Outcome × MachineContents → Type 0
MakesFound conf met p cookie answer =
    (a : PacketView) (rule : RuleNo) (answered : Bool) → answer.0 ≡ outcome_of_new rule answered → IsAnswerTo (going_from conf met p cookie) a
    → option_map state_number (state_for answer.1.world a) ≡ Some (record { 0 = answer.1.world.made })

makes-found : (conf : Conf) (met : MachineContents) (p : PacketView) (cookie : Bool) (now : ℕ) → MakesFound conf met p cookie (answer_of_key conf met p cookie now)
makes-found conf met p cookie now = answered_has conf met p cookie now (MakesFound conf met p cookie) (record {
  held = λ s found a rule answered e. absurd (not-held _ rule (state_held conf met p cookie now s) (made-by _ rule answered e));
  passes = λ a rule answered e. absurd (let no = sym (maker-pass None cookie) ∙ made-by _ rule answered e in cc);
  passed = λ r a rule answered e. absurd (let no = sym (maker-pass (Some (record { 0 = r })) cookie) ∙ made-by _ rule answered e in cc);
  blocked = λ r a rule answered e. absurd (let no = made-by _ rule answered e in cc);
  lost = λ r a rule answered e. absurd (let no = made-by _ rule answered e in cc);
  refused = λ r l is a rule answered e. absurd (let no = made-by _ rule answered e in cc);
  conflicts = λ r a rule answered e. absurd (let no = made-by _ rule answered e in cc);
  made = λ r going none led free fresh same a rule answered e reply.
      let goes : going_from conf met p cookie ≡ record going { flags = p.flags } =
      ap (going_of_state conf met p cookie) fresh ∙ ap (λ (x : PacketView). record x { flags = p.flags }) (sym same) in
      let q : PacketView = record going { flags = p.flags } in
      ap (option_map state_number) (finds-new conf met.world p going a cookie r now led.dir free q led.dir (flagged-key going p.flags)
      (subst (λ (x : PacketView). IsAnswerTo x a) goes reply));
})

pub answers-belong : (conf : Conf) → AnswersBelong conf
answers-belong conf h p a cookie now rule answered e reply = makes-found conf (held_for conf h p now) p cookie now a rule answered e reply
