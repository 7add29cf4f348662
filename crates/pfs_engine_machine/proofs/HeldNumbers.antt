-- The numbers of what is held, after some has left, changed or come.
use Rattle.std.proofs.Common.{◌≡◌, ℕ, ◌+◌, ◌<◌, ◌≤◌, Bool, true, false, ◌&&◌, ◌||◌, cond, ◌==◌, nat_lt, List, [], ◌∷◌, ◌++◌, filter, map, Option, Some, None, refl, ap, ◌∙◌, sym, arith}
use Rattle.std.specs.List.{AllByRecursion, list_any}
use Rattle.std.proofs.lemmas.Bool.{false≢true}
use Rattle.std.proofs.lemmas.Bool.Decides.{nat_tests}
use Rattle.pfs_addr_values.specs.Packets.{PacketView}
use Rattle.pfs_addr_values.specs.declared.addresses.Addr.{Addr}
use Rattle.pfs_conf_values.specs.Configs.{Conf, options_of}
use Rattle.pfs_conf_values.specs.declared.actions.Rate.{Rate}
use Rattle.pfs_store_contract.specs.Counts.{is_node, node_scope_of, node_states}
use Rattle.pfs_store_contract.specs.Leaving.{node_after_leaving, node_retention}
use Rattle.pfs_store_contract.specs.Purging.{is_among, node_numbers, state_numbers}
use Rattle.pfs_store_contract.specs.Touching.{nodes_scored, nodes_touched, numbered_state_after, node_after_handshake, state_after_packet}
use Rattle.pfs_store_contract.specs.declared.records.Node.{Node}
use Rattle.pfs_store_contract.specs.declared.records.NodeScope.{NodeScope}
use Rattle.pfs_store_contract.specs.declared.records.State.{State}
use Rattle.pfs_track.specs.Scores.{score_after}

-- ---- of whatever has numbers

-- one of this number is there
pub any-number : {X : Type 0} (f : X → ℕ) (n : ℕ) (xs : List X) → list_any (λ x. f x == n) xs ≡ is_among (map f xs) n
any-number f n [] = refl
any-number f n (x ∷ xs) = ap (λ (b : Bool). (f x == n) || b) (any-number f n xs)

-- none with this number stays
pub gone : {X : Type 0} (f : X → ℕ) (p : X → Bool) (n : ℕ) (xs : List X) → AllByRecursion (λ x. f x ≡ n → p x ≡ false) xs → is_among (map f (filter p xs)) n ≡ false
gone f p n [] h = refl
gone {X = X} f p n (x ∷ xs) h = go (p x) refl (f x == n) refl (gone f p n xs h.1)
  where
    go : (b : Bool) → p x ≡ b → (c : Bool) → (f x == n) ≡ c → is_among (map f (filter p xs)) n ≡ false → is_among (map f (cond b (x ∷ filter p xs) (filter p xs))) n ≡ false
    go false e c g i = i
    go true e false g i = rw g i
    go true e true g i =
        let same : f x ≡ n = grind (arith, nat_tests) in absurd (false≢true (sym (h.0 same) ∙ e))

-- what is held after some left was held before
pub was : {X : Type 0} (f : X → ℕ) (p : X → Bool) (n : ℕ) (xs : List X) → is_among (map f (filter p xs)) n ≡ true → is_among (map f xs) n ≡ true
was f p n [] h = h
was {X = X} f p n (x ∷ xs) h = go (p x) h (was f p n xs)
  where
    or_right : (a b : Bool) → b ≡ true → (a || b) ≡ true
    or_right true b e = refl
    or_right false b e = e

    either : (a b c : Bool) → (a || b) ≡ true → (b ≡ true → c ≡ true) → (a || c) ≡ true
    either true b c e k = refl
    either false b c e k = k e

    go : (b : Bool) → is_among (map f (cond b (x ∷ filter p xs) (filter p xs))) n ≡ true → (is_among (map f (filter p xs)) n ≡ true → is_among (map f xs) n ≡ true) → ((f x == n) || is_among (map f xs) n) ≡ true
    go true e i = either (f x == n) (is_among (map f (filter p xs)) n) (is_among (map f xs) n) e i
    go false e i = or_right (f x == n) (is_among (map f xs) n) (i e)

-- what is gone stays gone where some leave
pub still_gone : {X : Type 0} (f : X → ℕ) (p : X → Bool) (n : ℕ) (xs : List X) → is_among (map f xs) n ≡ false → is_among (map f (filter p xs)) n ≡ false
still_gone f p n xs h = go (is_among (map f (filter p xs)) n) refl
  where
    go : (b : Bool) → is_among (map f (filter p xs)) n ≡ b → b ≡ false
    go false e = refl
    go true e = absurd (false≢true (sym h ∙ was f p n xs e))

-- a change that leaves the numbers
pub same-map : {X : Type 0} (f : X → ℕ) (g : X → X) → ((x : X) → f (g x) ≡ f x) → (xs : List X) → map f (map g xs) ≡ map f xs
same-map f g e [] = refl
same-map f g e (x ∷ xs) = let i = same-map f g e xs in let h = e x in cc

-- one more at the end
pub pushed : {X : Type 0} (f : X → ℕ) (n : ℕ) (xs : List X) (x : X) → is_among (map f (xs ++ x ∷ [])) n ≡ (is_among (map f xs) n || (f x == n))
pushed f n [] x = last (f x == n)
  where
    last : (b : Bool) → (b || false) ≡ (false || b)
    last true = refl
    last false = refl
pushed f n (y ∷ xs) x = ap (λ (b : Bool). (f y == n) || b) (pushed f n xs x) ∙ assoc (f y == n) (is_among (map f xs) n) (f x == n)
  where
    assoc : (a b c : Bool) → (a || (b || c)) ≡ ((a || b) || c)
    assoc true b c = refl
    assoc false b c = refl

-- a number that is not the new one was held before
pub old : {X : Type 0} (f : X → ℕ) (n : ℕ) (xs : List X) (x : X) → n < f x → is_among (map f (xs ++ x ∷ [])) n ≡ true → is_among (map f xs) n ≡ true
old f n xs x h e = go (is_among (map f xs) n) (f x == n) refl (sym (pushed f n xs x) ∙ e)
  where
    go : (a b : Bool) → (f x == n) ≡ b → (a || b) ≡ true → a ≡ true
    go true b g k = refl
    go false true g k = let same : f x ≡ n = grind (arith, nat_tests) in absurd (omega (arith, same, h))
    go false false g k = absurd (false≢true k)

-- no number is above what was made, where one more may be
pub made-more : {X : Type 0} (f : X → ℕ) (made : ℕ) (xs : List X) (x : X) → f x ≡ made + 1 → ((n : ℕ) → is_among (map f xs) n ≡ true → n ≤ made)
    → (n : ℕ) → is_among (map f (xs ++ x ∷ [])) n ≡ true → n ≤ made + 1
made-more f made xs x e h n k = go (is_among (map f xs) n) refl (f x == n) refl (sym (pushed f n xs x) ∙ k)
  where
    go : (a : Bool) → is_among (map f xs) n ≡ a → (b : Bool) → (f x == n) ≡ b → (a || b) ≡ true → n ≤ made + 1
    go true i b g l = omega (arith, h n i)
    go false i true g l = let same : f x ≡ n = grind (arith, nat_tests) in omega (arith, same, e)
    go false i false g l = absurd (false≢true l)

pub among-same : (n : ℕ) (xs ys : List ℕ) → xs ≡ ys → is_among xs n ≡ true → is_among ys n ≡ true
among-same n xs ys e h = ap (λ (zs : List ℕ). is_among zs n) (sym e) ∙ h

-- ---- of states and nodes

pub numbers-renewed : (number : ℕ) (p : PacketView) (now : ℕ) (ss : List State) → state_numbers (map (numbered_state_after number p now) ss) ≡ state_numbers ss
numbers-renewed number p now ss = same-map (λ (s : State). s.number) (numbered_state_after number p now) (λ s. one s (s.number == number)) ss
  where
    one : (s : State) (b : Bool) → (cond b (state_after_packet p now s) s).number ≡ s.number
    one s true = refl
    one s false = refl

numbers-rescored : (scope : NodeScope) (source : Addr) (seconds now : ℕ) (ns : List Node) → node_numbers (map (node_after_handshake scope source seconds now) ns) ≡ node_numbers ns
numbers-rescored scope source seconds now ns =
    same-map (λ (n : Node). n.number) (node_after_handshake scope source seconds now) (λ n. one n (is_node scope source n)) ns
  where
    one : (n : Node) (b : Bool) → (cond b (record n { score = score_after seconds n.score now }) n).number ≡ n.number
    one n true = refl
    one n false = refl

numbers-scored : (ns : List Node) (source : Addr) (now : ℕ) (scope : Option NodeScope) (rate : Option Rate) → node_numbers (nodes_scored ns source now scope rate) ≡ node_numbers ns
numbers-scored ns source now None rate = refl
numbers-scored ns source now (Some scope) None = refl
numbers-scored ns source now (Some scope) (Some rate) = numbers-rescored scope source rate.seconds now ns

pub numbers-touched : (conf : Conf) (ns : List Node) (s : State) (now : ℕ) (completes : Bool) → node_numbers (nodes_touched conf ns s now completes) ≡ node_numbers ns
numbers-touched conf ns s now true = numbers-scored ns s.source now (node_scope_of conf s.rule.0) (options_of conf s.rule.0).max_src_conn_rate
numbers-touched conf ns s now false = refl

pub numbers-left : (conf : Conf) (before after : List State) (now : ℕ) (ns : List Node) → node_numbers (map (node_after_leaving conf before after now) ns) ≡ node_numbers ns
numbers-left conf before after now ns =
    same-map (λ (n : Node). n.number) (node_after_leaving conf before after now)
    (λ n. one n (nat_lt 0 (node_states conf n.scope n.source before) && (node_states conf n.scope n.source after == 0))) ns
  where
    one : (n : Node) (b : Bool) → (cond b (record n { expires = now + node_retention conf n.scope }) n).number ≡ n.number
    one n true = refl
    one n false = refl
