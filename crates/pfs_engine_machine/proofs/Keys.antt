-- No two states have the same key, whatever changes; so where the state of a key leaves, none has it.
use Rattle.std.proofs.Common.{◌≡◌, ◌∙◌, not, Bool, true, false, if◌then◌else◌, Some, None, List, [], ◌∷◌, ◌++◌, filter, map, refl, ap, sym, eq-eqb}
use Rattle.std.specs.List.{AllByRecursion, find}
use Rattle.std.proofs.lemmas.Bool.{false≢true}
use Rattle.pfs_addr_values.proofs.SameLaws.{same_key_self, same_key_true}
use Rattle.pfs_addr_values.specs.Sameness.{same_key}
use Rattle.pfs_addr_values.specs.declared.packets.FlowKey.{FlowKey}
use Rattle.pfs_store_contract.specs.Calls.{other_than}
use Rattle.pfs_store_contract.specs.declared.records.State.{State}
use Rattle.pfs_store_contract.specs.Worlds.{World, inner_key, state_inside, state_with}
use Rattle.pfs_addr_values.specs.Keys.{key_of}
use Rattle.pfs_addr_values.specs.Packets.{PacketView, is_from_inside}
use Rattle.pfs_engine_machine.specs.MachineInvariants.{KeysDiffer, outer_key}
use Rattle.pfs_engine_machine.specs.Sides.{met_key, state_for}
use Rattle.pfs_engine_machine.proofs.Lists.{each-filter, each-map, each-of, each-push}

-- ---- changes

pub keys-filter : (at : State → FlowKey) (p : State → Bool) (ss : List State) → KeysDiffer at ss → KeysDiffer at (filter p ss)
keys-filter at p [] h = h
keys-filter at p (s ∷ ss) h = go (p s) (keys-filter at p ss h.1)
  where
    go : (b : Bool) → KeysDiffer at (filter p ss) → KeysDiffer at (if b then s ∷ filter p ss else filter p ss)
    go true rest = (each-filter (λ (t : State). same_key (at s) (at t) ≡ false) p ss h.0, rest)
    go false rest = rest

pub keys-map : (at : State → FlowKey) (f : State → State) → ((s : State) → at (f s) ≡ at s) → (ss : List State) → KeysDiffer at ss → KeysDiffer at (map f ss)
keys-map at f same [] h = h
keys-map at f same (s ∷ ss) h =
    (each-map (λ (t : State). same_key (at s) (at t) ≡ false) (λ (t : State). same_key (at (f s)) (at t) ≡ false) f (λ t k. rw (same s, same t) k) ss h.0, keys-map at f same ss h.1)

-- one more, whose key none had
pub keys-push : (at : State → FlowKey) (ss : List State) (new : State) → find (λ (s : State). same_key (at s) (at new)) ss ≡ None → KeysDiffer at ss
    → KeysDiffer at (ss ++ new ∷ [])
keys-push at [] new fresh h = (tt, tt)
keys-push at (s ∷ ss) new fresh h = go (same_key (at s) (at new)) refl fresh (λ k. keys-push at ss new k h.1)
  where
    go : (b : Bool) → same_key (at s) (at new) ≡ b → (if b then Some s else find (λ (t : State). same_key (at t) (at new)) ss) ≡ None
        → (find (λ (t : State). same_key (at t) (at new)) ss ≡ None → KeysDiffer at (ss ++ new ∷ [])) → KeysDiffer at (s ∷ (ss ++ new ∷ []))
    go true e k rest = absurd cc
    go false e k rest = (each-push (λ (t : State). same_key (at s) (at t) ≡ false) ss new h.0 e, rest k)

-- ---- the state of a key leaves

none-found : (at : State → FlowKey) (key : FlowKey) (ss : List State) → AllByRecursion (λ (t : State). same_key (at t) key ≡ false) ss
    → find (λ (t : State). same_key (at t) key) ss ≡ None
none-found at key [] h = refl
none-found at key (s ∷ ss) h = rw (h.0) (none-found at key ss h.1)

-- a key that is not that of a state is another than its key
other-key : (x t key : FlowKey) → x ≡ key → same_key x t ≡ false → same_key t key ≡ false
other-key x t key e apart = go (same_key t key) refl
  where
    go : (b : Bool) → same_key t key ≡ b → b ≡ false
    go false f = refl
    go true f = absurd (false≢true (sym apart ∙ ap (same_key x) (same_key_true t key f) ∙ ap (same_key x) (sym e) ∙ same_key_self x))

pub found-leaves : (at : State → FlowKey) (key : FlowKey) (s : State) (ss : List State) → KeysDiffer at ss → find (λ (t : State). same_key (at t) key) ss ≡ Some s
    → find (λ (t : State). same_key (at t) key) (filter (other_than s.number) ss) ≡ None
found-leaves at key s [] h e = cc
found-leaves at key s (x ∷ ss) h e = go (same_key (at x) key) refl e (λ k. found-leaves at key s ss h.1 k)
  where
    has : State → Bool
    has t = same_key (at t) key

    rest : List State
    rest = filter (other_than s.number) ss

    there : (b : Bool) → same_key (at x) key ≡ false → find has rest ≡ None → find has (if b then x ∷ rest else rest) ≡ None
    there true f none = rw f none
    there false f none = none

    gone : x ≡ s → same_key (at x) key ≡ true → find has (filter (other_than s.number) (x ∷ ss)) ≡ None
    gone same f =
        let out : other_than s.number x ≡ false = ap (λ (t : State). other_than t.number x) (sym same) ∙ ap not (eq-eqb x.number x.number refl) in
        let apart = each-of (λ (t : State). same_key (at x) (at t) ≡ false) (λ (t : State). same_key (at t) key ≡ false)
        (λ t k. other-key (at x) (at t) key (same_key_true (at x) key f) k) ss h.0 in
        rw out (none-found at key rest (each-filter (λ (t : State). same_key (at t) key ≡ false) (other_than s.number) ss apart))

    go : (b : Bool) → same_key (at x) key ≡ b → (if b then Some x else find has ss) ≡ Some s → (find has ss ≡ Some s → find has rest ≡ None)
        → find has (filter (other_than s.number) (x ∷ ss)) ≡ None
    go true f k i = let same : x ≡ s = cc in gone same f
    go false f k i = there (other_than s.number x) f (i k)

-- ---- the state of a packet is found by the key that the packet meets

pub found-by : (w : World) (p : PacketView) → state_for w p ≡ find (λ (t : State). same_key (met_key p t) (key_of p)) w.states
found-by w p = by (is_from_inside p)
  where
    by : (b : Bool) → (if b then state_inside (key_of p) w else state_with (key_of p) w)
        ≡ find (λ (t : State). same_key (if b then inner_key t else t.key) (key_of p)) w.states
    by true = refl
    by false = refl

-- and no two states have that key
pub met-differ : (p : PacketView) (ss : List State) → KeysDiffer outer_key ss → KeysDiffer inner_key ss → KeysDiffer (met_key p) ss
met-differ p ss outer inner = by (is_from_inside p)
  where
    by : (b : Bool) → KeysDiffer (λ (t : State). if b then inner_key t else t.key) ss
    by true = inner
    by false = outer
