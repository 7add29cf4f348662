-- States that leave in two steps leave as in one; where none leaves, every node is as before.
use Rattle.std.proofs.Common.{◌≡◌, ◌≤◌, ◌+◌, ◌==◌, ◌&&◌, ◌||◌, ℕ, Bool, true, false, if◌then◌else◌, nat_lt, List, [], ◌∷◌, length, filter, map, refl, ap, sym, arith}
use Rattle.std.proofs.lemmas.Bool.Decides.{nat_tests}
use Rattle.pfs_conf_values.specs.Configs.{Conf}
use Rattle.pfs_store_contract.specs.Counts.{is_of_node, node_states}
use Rattle.pfs_store_contract.specs.Leaving.{node_after_leaving, node_retention, world_without}
use Rattle.pfs_store_contract.specs.Worlds.{World, holds_number}
use Rattle.pfs_store_contract.specs.declared.records.Node.{Node}
use Rattle.pfs_store_contract.specs.declared.records.State.{State}

-- ---- two filters

filter-twice : {X : Type 0} (p q : X → Bool) (xs : List X) → filter q (filter p xs) ≡ filter (λ x. p x && q x) xs
filter-twice p q [] = refl
filter-twice {X = X} p q (x ∷ xs) = go (p x) (filter-twice p q xs)
  where
    go : (b : Bool) → filter q (filter p xs) ≡ filter (λ y. p y && q y) xs
        → filter q (if b then x ∷ filter p xs else filter p xs) ≡ (if b && q x then x ∷ filter (λ y. p y && q y) xs else filter (λ y. p y && q y) xs)
    go true e = ap (λ ys. if q x then x ∷ ys else ys) e
    go false e = e

fewer : {X : Type 0} (q p : X → Bool) (xs : List X) → length (filter q (filter p xs)) ≤ length (filter q xs)
fewer q p [] = omega arith
fewer q p (x ∷ xs) = grind (arith, fewer q p xs)

-- ---- nodes

none_left : (c : ℕ) → (nat_lt 0 c && (c == 0)) ≡ false
none_left c = grind (arith, nat_tests)

-- where no state leaves, every node is as before
pub retained-same : (conf : Conf) (xs : List State) (now : ℕ) (ns : List Node) → ns ≡ map (node_after_leaving conf xs xs now) ns
retained-same conf xs now [] = refl
retained-same conf xs now (n ∷ ns) =
    (λ i. ap (λ (b : Bool). if b then record n { expires = now + node_retention conf n.scope } else n) (sym (none_left (node_states conf n.scope n.source xs))) i ∷ retained-same conf xs now ns i)

first_yes : (a b c : ℕ) → b ≤ a → c ≤ b → (nat_lt 0 a && (b == 0)) ≡ true → ((nat_lt 0 b && (c == 0)) ≡ false) × ((nat_lt 0 a && (c == 0)) ≡ true)
first_yes a b c l m h = (grind (arith, nat_tests), grind (arith, nat_tests))

first_no : (a b c : ℕ) → b ≤ a → c ≤ b → (nat_lt 0 a && (b == 0)) ≡ false → (nat_lt 0 b && (c == 0)) ≡ (nat_lt 0 a && (c == 0))
first_no a b c l m h = grind (arith, nat_tests)

node-twice : (conf : Conf) (xs : List State) (p q : State → Bool) (now : ℕ) (n : Node)
    → node_after_leaving conf (filter p xs) (filter q (filter p xs)) now (node_after_leaving conf xs (filter p xs) now n) ≡ node_after_leaving conf xs (filter q (filter p xs)) now n
node-twice conf xs p q now n = go (nat_lt 0 (node_states conf n.scope n.source xs) && (node_states conf n.scope n.source (filter p xs) == 0)) refl
  where
    l : node_states conf n.scope n.source (filter p xs) ≤ node_states conf n.scope n.source xs
    l = fewer (is_of_node conf n.scope n.source) p xs

    m : node_states conf n.scope n.source (filter q (filter p xs)) ≤ node_states conf n.scope n.source (filter p xs)
    m = fewer (is_of_node conf n.scope n.source) q (filter p xs)

    go : (b : Bool) → (nat_lt 0 (node_states conf n.scope n.source xs) && (node_states conf n.scope n.source (filter p xs) == 0)) ≡ b
        → node_after_leaving conf (filter p xs) (filter q (filter p xs)) now (node_after_leaving conf xs (filter p xs) now n) ≡ node_after_leaving conf xs (filter q (filter p xs)) now n
    go true t = let y = first_yes _ _ _ l m t in rw (t, y.0, y.1) refl
    go false t = rw (t, first_no _ _ _ l m t) refl

pub nodes-twice : (conf : Conf) (xs : List State) (p q : State → Bool) (now : ℕ) (ns : List Node)
    → map (node_after_leaving conf (filter p xs) (filter q (filter p xs)) now) (map (node_after_leaving conf xs (filter p xs) now) ns) ≡ map (node_after_leaving conf xs (filter q (filter p xs)) now) ns
nodes-twice conf xs p q now [] = refl
nodes-twice conf xs p q now (n ∷ ns) = (λ i. node-twice conf xs p q now n i ∷ nodes-twice conf xs p q now ns i)

-- ---- pending numbers

still-held : (p : State → Bool) (states : List State) (n : ℕ) → holds_number (filter p states) n ≡ true → holds_number states n ≡ true
still-held p [] n h = h
still-held p (s ∷ ss) n h = go (p s) h (still-held p ss n)
  where
    go : (b : Bool) → holds_number (if b then s ∷ filter p ss else filter p ss) n ≡ true → (holds_number (filter p ss) n ≡ true → holds_number ss n ≡ true)
        → holds_number (s ∷ ss) n ≡ true
    go true k i = here (s.number == n) k i
      where
        here : (c : Bool) → (c || holds_number (filter p ss) n) ≡ true → (holds_number (filter p ss) n ≡ true → holds_number ss n ≡ true) → (c || holds_number ss n) ≡ true
        here true k i = refl
        here false k i = i k
    go false k i = there (s.number == n) (i k)
      where
        there : (c : Bool) → holds_number ss n ≡ true → (c || holds_number ss n) ≡ true
        there true k = refl
        there false k = k

pending-twice : (held less : ℕ → Bool) → ((n : ℕ) → less n ≡ true → held n ≡ true) → (ns : List ℕ) → filter less (filter held ns) ≡ filter less ns
pending-twice held less h [] = refl
pending-twice held less h (n ∷ ns) = go (held n) refl (less n) refl (pending-twice held less h ns)
  where
    go : (b : Bool) → held n ≡ b → (c : Bool) → less n ≡ c → filter less (filter held ns) ≡ filter less ns
        → filter less (if b then n ∷ filter held ns else filter held ns) ≡ (if c then n ∷ filter less ns else filter less ns)
    go true e true f i = rw f (ap (λ ms. n ∷ ms) i)
    go true e false f i = rw f i
    go false e true f i = absurd (let k = h n f in cc)
    go false e false f i = i

-- ---- both

pub without-twice : (conf : Conf) (w : World) (p q : State → Bool) (now : ℕ)
    → world_without conf (world_without conf w p now) q now ≡ world_without conf w (λ s. p s && q s) now
without-twice conf w p q now =
    let states = filter-twice p q w.states in
    let nodes = nodes-twice conf w.states p q now w.nodes in
    let pending = pending-twice (holds_number (filter p w.states)) (holds_number (filter q (filter p w.states))) (still-held q (filter p w.states)) w.pending_states in
    rw (nodes, pending) (ap (λ (ss : List State). record w { states = ss; nodes = map (node_after_leaving conf w.states ss now) w.nodes; pending_states = filter (holds_number ss) w.pending_states }) states)
