-- The state of a packet is the one that has its number.
use Rattle.std.proofs.Common.{◌≡◌, ◌∙◌, ◌||◌, ◌==◌, ℕ, Bool, true, false, if◌then◌else◌, Option, None, Some, List, [], ◌∷◌, All, ap, eq-eqb, refl, sym, ◌&&◌, unwrap_or}
use Rattle.std.proofs.lemmas.Bool.{eqb-true, false≢true}
use Rattle.std.proofs.lemmas.List.Elements.{All-head, All-tail}
use Rattle.std.specs.List.{find, list_any}
use Rattle.std.specs.Prelude.{option_map, is_none}
use Rattle.pfs_addr_values.specs.Keys.{key_of, under_key}
use Rattle.pfs_addr_values.specs.Packets.{PacketView, is_from_inside}
use Rattle.pfs_addr_values.specs.Sameness.{same_key}
use Rattle.pfs_conf_values.specs.Configs.{Conf, translates}
use Rattle.pfs_store_contract.specs.Calls.{state_number}
use Rattle.pfs_store_contract.specs.Worlds.{World, holds_number, state_numbered, inner_key, state_inside, state_with}
use Rattle.pfs_store_contract.specs.declared.records.State.{State}
use Rattle.pfs_store_contract.specs.declared.records.StateNo.{StateNo}
use Rattle.pfs_engine_machine.specs.MachineInvariants.{IsKept, IsPlain, Rise}
use Rattle.pfs_engine_machine.specs.Machine.{MachineContents}
use Rattle.pfs_engine_machine.specs.Sides.{met_key, state_for, are_free}
use Rattle.pfs_engine_machine.proofs.Changes.{find-all}
use Rattle.pfs_engine_machine.proofs.Keys.{found-by}
use Rattle.pfs_engine_machine.proofs.Numbers.{Rise-alone}
use Rattle.pfs_addr_values.specs.declared.packets.Dir.{Dir}
use Rattle.pfs_addr_values.specs.declared.packets.Dir.TheVariants as dir
use Rattle.pfs_addr_values.specs.declared.packets.FlowKey.{FlowKey}
use Rattle.pfs_store_contract.specs.Admission.{inner_side, wire_side}
use Rattle.pfs_engine_machine.specs.Ways.{inside, inside_of}
use Rattle.pfs_store_contract.specs.Touching.{may_reopen, reopens}
use Rattle.pfs_track.specs.StatePhases.{has_closed}

-- one that is found, and alone has its number, is found by that
by-number : (test : State → Bool) (s : State) (ss : List State) → All (λ (t : State). t.number ≡ s.number → t ≡ s) ss → find test ss ≡ Some s
    → find (λ (t : State). t.number == s.number) ss ≡ Some s
by-number test s [] alone e = cc
by-number test s (x ∷ ss) alone e = go (x.number == s.number) refl (test x) e (by-number test s ss (All-tail (λ (t : State). t.number ≡ s.number → t ≡ s) x ss alone))
  where
    here : x.number ≡ s.number → x ≡ s
    here = All-head (λ (t : State). t.number ≡ s.number → t ≡ s) x ss alone

    go : (b : Bool) → (x.number == s.number) ≡ b → (c : Bool) → (if c then Some x else find test ss) ≡ Some s
        → (find test ss ≡ Some s → find (λ (t : State). t.number == s.number) ss ≡ Some s)
        → (if b then Some x else find (λ (t : State). t.number == s.number) ss) ≡ Some s
    go true f c e rest = ap (λ (t : State). Some t) (here (eqb-true x.number s.number f))
    go false f true e rest = let same : x ≡ s = cc in absurd (false≢true (sym f ∙ eq-eqb x.number s.number (ap (λ (t : State). t.number) same)))
    go false f false e rest = rest e

found-any : {X : Type 0} (p : X → Bool) (xs : List X) (x : X) → find p xs ≡ Some x → list_any p xs ≡ true
found-any p [] x e = cc
found-any p (y ∷ ys) x e = go (p y) e (found-any p ys x)
  where
    go : (b : Bool) → (if b then Some y else find p ys) ≡ Some x → (find p ys ≡ Some x → list_any p ys ≡ true) → (b || list_any p ys) ≡ true
    go true e rest = refl
    go false e rest = rest e

-- the state of a packet, by its number
numbered-state : (conf : Conf) (h : MachineContents) (p : PacketView) (now : ℕ) (s : State) → IsKept conf h now → state_for h.world p ≡ Some s → state_numbered s.number h.world ≡ Some s
numbered-state conf h p now s k found =
    let there = sym (found-by h.world p) ∙ found in
    let test : State → Bool = λ t. same_key (met_key p t) (key_of p) in
    by-number test s h.world.states (Rise-alone test s 0 h.world.made h.world.states k.numbers there) there

pub numbered-found : (conf : Conf) (h : MachineContents) (p : PacketView) (now : ℕ) (number : StateNo) → IsKept conf h now → option_map state_number (state_for h.world p) ≡ Some number
    → state_numbered number.0 h.world ≡ state_for h.world p
numbered-found conf h p now number k e = by (state_for h.world p) refl e
  where
    by : (o : Option State) → state_for h.world p ≡ o → option_map state_number o ≡ Some number → state_numbered number.0 h.world ≡ o
    by None f e = cc
    by (Some s) f e =
        let same : state_number s ≡ number = cc in
        ap (λ (n : StateNo). state_numbered n.0 h.world) (sym same) ∙ numbered-state conf h p now s k f

pub number-held : (conf : Conf) (h : MachineContents) (p : PacketView) (now : ℕ) (number : StateNo) → IsKept conf h now → option_map state_number (state_for h.world p) ≡ Some number
    → holds_number h.world.states number.0 ≡ true
number-held conf h p now number k e = by (state_for h.world p) refl e
  where
    by : (o : Option State) → state_for h.world p ≡ o → option_map state_number o ≡ Some number → holds_number h.world.states number.0 ≡ true
    by None f e = cc
    by (Some s) f e =
        let same : state_number s ≡ number = cc in
        ap (λ (n : StateNo). holds_number h.world.states n.0) (sym same)
        ∙ found-any (λ (t : State). t.number == s.number) h.world.states s (numbered-state conf h p now s k f)

-- so is a state that has a key on the wire
pub numbered-outside : (w : World) (key : FlowKey) (number : StateNo) → Rise 0 w.states w.made → option_map state_number (state_with key w) ≡ Some number
    → state_numbered number.0 w ≡ state_with key w
numbered-outside w key number r e = by (state_with key w) refl e
  where
    test : State → Bool
    test t = same_key t.key key

    by : (o : Option State) → state_with key w ≡ o → option_map state_number o ≡ Some number → state_numbered number.0 w ≡ o
    by None f e = cc
    by (Some s) f e =
        let same : state_number s ≡ number = cc in
        ap (λ (n : StateNo). state_numbered n.0 w) (sym same) ∙ by-number test s w.states (Rise-alone test s 0 w.made w.states r f) f

-- where no rule translates, a packet that was seen on its way out is inside as it was seen
pub plain-inside : (conf : Conf) (w : World) (p : PacketView) → All (IsPlain conf) w.states → translates conf ≡ false → inside w p ≡ p
plain-inside conf w p plain none = by (state_with (key_of p) w) refl
  where
    by : (o : Option State) → state_with (key_of p) w ≡ o → inside_of p o ≡ p
    by None f = refl
    by (Some s) f = ap (λ (k : Option FlowKey). under_key k p) (find-all (IsPlain conf) (λ (t : State). same_key t.key (key_of p)) w.states s plain f none)

-- and one key finds what the other does
plain-found : (conf : Conf) (key : FlowKey) (ss : List State) → translates conf ≡ false → All (IsPlain conf) ss
    → find (λ (t : State). same_key (inner_key t) key) ss ≡ find (λ (t : State). same_key t.key key) ss
plain-found conf key [] none all = refl
plain-found conf key (s ∷ ss) none all =
    let own = ap (λ (o : Option FlowKey). same_key (unwrap_or o s.key) key) (All-head (IsPlain conf) s ss all none) in
    let rest = plain-found conf key ss none (All-tail (IsPlain conf) s ss all) in
    rw (own, rest) refl

-- one that meets no state, and goes on under its own key, makes one whose keys are free
pub plain-free : (conf : Conf) (h : MachineContents) (p going : PacketView) (now : ℕ) → IsKept conf h now → state_for h.world p ≡ None → key_of going ≡ key_of p → translates conf ≡ false
    → are_free h.world p going ≡ true
plain-free conf h p going now k fresh same none =
    ap (λ (x : FlowKey). is_none (state_with (wire_side p.dir (key_of p) x) h.world) && is_none (state_inside (inner_side p.dir (key_of p) x) h.world)) same
    ∙ by p.dir
  where
    w : World
    w = h.world

    both : state_inside (key_of p) w ≡ state_with (key_of p) w
    both = plain-found conf (key_of p) w.states none k.plain

    outside : state_with (key_of p) w ≡ None
    outside = go (is_from_inside p) fresh
      where
        go : (b : Bool) → (if b then state_inside (key_of p) w else state_with (key_of p) w) ≡ None → state_with (key_of p) w ≡ None
        go true e = sym both ∙ e
        go false e = e

    free : (is_none (state_with (key_of p) w) && is_none (state_inside (key_of p) w)) ≡ true
    free = rw (both, outside) refl

    by : (d : Dir) → (is_none (state_with (wire_side d (key_of p) (key_of p)) w) && is_none (state_inside (inner_side d (key_of p) (key_of p)) w)) ≡ true
    by dir.In = free
    by dir.Out = free

-- where a packet may begin a connection anew, it does so where the state has closed
pub closed-reopens : (conf : Conf) (w : World) (p : PacketView) (closed : Bool) → may_reopen conf p ≡ true → Some closed ≡ option_map (λ (s : State). has_closed s.phase) (state_for w p)
    → Some closed ≡ option_map (reopens conf p) (state_for w p)
closed-reopens conf w p closed may is = is ∙ by (state_for w p)
  where
    by : (o : Option State) → option_map (λ (s : State). has_closed s.phase) o ≡ option_map (reopens conf p) o
    by None = refl
    by (Some s) = ap (λ b. Some (b && has_closed s.phase)) (sym may)
