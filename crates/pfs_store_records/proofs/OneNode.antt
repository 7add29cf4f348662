-- One source node among others: its states by its scope, and the change of its tally alone.
use Rattle.std.proofs.Common.{◌≡◌, ◌∙◌, ◌<◌, ◌≤◌, ◌==◌, ◌&&◌, ℕ, Bool, true, false, if◌then◌else◌, Option, Some, None, List, [], ◌∷◌, map, refl, ap, sym, subst, arith, All}
use Rattle.std.specs.List.{find, list_any, AllByRecursion, IsDistinct}
use Rattle.std.proofs.lemmas.Bool.{and_from, and_parts}
use Rattle.std.proofs.lemmas.Bool.Decides.{nat_tests}
use Rattle.std.proofs.lemmas.List.Elements.{All-head, All-tail}
use Rattle.std.proofs.lemmas.Map.Keys.{IsDistinct-head, IsDistinct-tail}
use Rattle.pfs_addr_values.proofs.SameLaws.{same_addr_self, same_addr_true}
use Rattle.pfs_addr_values.specs.Sameness.{same_addr}
use Rattle.pfs_addr_values.specs.declared.addresses.Addr.{Addr}
use Rattle.pfs_conf_values.specs.Configs.{Conf, scope_of}
use Rattle.pfs_conf_values.specs.declared.actions.Scope.{Scope}
use Rattle.pfs_conf_values.specs.declared.actions.Scope.TheVariants as scope
use Rattle.pfs_conf_values.specs.declared.items.RuleNo.{RuleNo}
use Rattle.pfs_store_contract.specs.Counts.{is_of_node, node_scope_under, node_scope_of, same_scope}
use Rattle.pfs_store_contract.specs.declared.records.Node.{Node}
use Rattle.pfs_store_contract.specs.declared.records.NodeScope.{NodeScope}
use Rattle.pfs_store_contract.specs.declared.records.NodeScope.TheVariants as node_scope
use Rattle.pfs_store_contract.specs.declared.records.State.{State}
use Rattle.pfs_store_records.specs.Tallies.{IsTallied, has_node_number, is_tally, nodes_of, put_tally, same_node}
use Rattle.pfs_store_records.specs.declared.nodes.NodeTally.{NodeTally}
use Rattle.pfs_store_records.specs.Changes.{IsScope, IsScoped, at_node, is_at}
use Rattle.pfs_store_records.proofs.Searches.{any-also, any-map, found-all}
use Rattle.pfs_store_contract.proofs.ScopeLaws.{same_scope_self, same_scope_true}
use Rattle.pfs_store_records.proofs.Rising.{Above, IsRisingBy, head-above, rest-rising}

-- ---- the tests decide

pub same_addr_flip : (a b : Addr) → same_addr a b ≡ same_addr b a
same_addr_flip a b = go (same_addr a b) refl (same_addr b a) refl
  where
    go : (x : Bool) → same_addr a b ≡ x → (y : Bool) → same_addr b a ≡ y → same_addr a b ≡ same_addr b a
    go true p true q = p ∙ sym q
    go false p false q = p ∙ sym q
    go true p false q = let e = same_addr_true a b p in absurd (cc (p, q, ap (λ z. same_addr z a) e, ap (λ z. same_addr a z) e))
    go false p true q = let e = same_addr_true b a q in absurd (cc (p, q, ap (λ z. same_addr z b) e, ap (λ z. same_addr b z) e))

-- ---- the scope and source of a tally

pub scope_is : (sc : NodeScope) (a : Addr) (t : NodeTally) → is_tally sc a t ≡ true → t.node.scope ≡ sc
scope_is sc a t h = same_scope_true t.node.scope sc (and_parts (same_scope t.node.scope sc) (same_addr t.node.source a) h).0

pub source_is : (sc : NodeScope) (a : Addr) (t : NodeTally) → is_tally sc a t ≡ true → t.node.source ≡ a
source_is sc a t h = same_addr_true t.node.source a (and_parts (same_scope t.node.scope sc) (same_addr t.node.source a) h).1

pub is_tally_self : (t : NodeTally) → is_tally t.node.scope t.node.source t ≡ true
is_tally_self t = and_from (same_scope t.node.scope t.node.scope) (same_addr t.node.source t.node.source) (same_scope_self t.node.scope) (same_addr_self t.node.source)

-- ---- the states of a node are those whose rule has its scope

rule_flip : (a b : ℕ) → (a == b) ≡ (b == a)
rule_flip a b = grind (arith, nat_tests)

pub of_node : (conf : Conf) (s : State) (t : NodeTally) → IsScoped conf t → is_of_node conf t.node.scope t.node.source s ≡ is_at (node_scope_of conf s.rule.0) s.source t
of_node conf s t h = by t.node.scope refl h
  where
    own : (r : RuleNo) → t.node.scope ≡ node_scope.Rule r → scope_of conf r.0 ≡ Some scope.Rule → (o : Option Scope) → scope_of conf s.rule.0 ≡ o
        → ((s.rule.0 == r.0) && same_addr s.source t.node.source) ≡ is_at (node_scope_under s.rule.0 o) s.source t
    own r e k None f = ap (λ b. b && same_addr s.source t.node.source) (differs (s.rule.0 == r.0) refl)
      where
        differs : (b : Bool) → (s.rule.0 == r.0) ≡ b → (s.rule.0 == r.0) ≡ false
        differs true i =
            let q : s.rule.0 ≡ r.0 = grind (arith, nat_tests) in
            let z : Some scope.Rule ≡ None = sym k ∙ ap (scope_of conf) (sym q) ∙ f in
            absurd (cc z)
        differs false i = i
    own r e k (Some scope.Rule) f =
        rw e (λ i. rule_flip s.rule.0 r.0 i && same_addr_flip s.source t.node.source i)
    own r e k (Some scope.Global) f =
        rw e (ap (λ b. b && same_addr s.source t.node.source) (differs (s.rule.0 == r.0) refl))
      where
        differs : (b : Bool) → (s.rule.0 == r.0) ≡ b → (s.rule.0 == r.0) ≡ false
        differs true i =
            let q : s.rule.0 ≡ r.0 = grind (arith, nat_tests) in
            let z : Some scope.Rule ≡ Some scope.Global = sym k ∙ ap (scope_of conf) (sym q) ∙ f in
            absurd (cc z)
        differs false i = i

    shared : t.node.scope ≡ node_scope.Global → (o : Option Scope) → scope_of conf s.rule.0 ≡ o
        → is_of_node conf node_scope.Global t.node.source s ≡ is_at (node_scope_under s.rule.0 o) s.source t
    shared e None f = rw f refl
    shared e (Some scope.Rule) f = rw (f, e) refl
    shared e (Some scope.Global) f = rw (f, e) (same_addr_flip s.source t.node.source)

    by : (sc : NodeScope) → t.node.scope ≡ sc → IsScope conf sc → is_of_node conf t.node.scope t.node.source s ≡ is_at (node_scope_of conf s.rule.0) s.source t
    by (node_scope.Rule r) e k = ap (λ (x : NodeScope). is_of_node conf x t.node.source s) e ∙ own r e k (scope_of conf s.rule.0) refl
    by node_scope.Global e k = ap (λ (x : NodeScope). is_of_node conf x t.node.source s) e ∙ shared e (scope_of conf s.rule.0) refl

-- the scope of a rule's nodes is a scope
pub scope_of-IsScope : (conf : Conf) (rule : ℕ) (sc : NodeScope) → node_scope_of conf rule ≡ Some sc → IsScope conf sc
scope_of-IsScope conf rule sc h = by (scope_of conf rule) refl h
  where
    by : (o : Option Scope) → scope_of conf rule ≡ o → node_scope_under rule o ≡ Some sc → IsScope conf sc
    by None f k = absurd cc
    by (Some scope.Rule) f k = let q : node_scope.Rule (record { 0 = rule }) ≡ sc = cc in subst (IsScope conf) q f
    by (Some scope.Global) f k = let q : node_scope.Global ≡ sc = cc in subst (IsScope conf) q tt

-- ---- a change of one tally

flip_number : (a b : ℕ) → a < b → (b == a) ≡ false
flip_number a b h = grind (arith, nat_tests)

same_self : (n : ℕ) → (n == n) ≡ true
same_self n = grind (arith, nat_tests)

lower_differs : (a b : ℕ) → a < b → (a == b) ≡ false
lower_differs a b h = grind (arith, nat_tests)

-- others with higher numbers and other scopes or sources stay
put-later : (sc : NodeScope) (a : Addr) (v : NodeTally) (f : NodeTally → NodeTally) (ts : List NodeTally) → Above (λ (t : NodeTally). t.node.number) v.node.number ts
    → AllByRecursion (λ u. is_tally sc a u ≡ false) ts → map (put_tally v) ts ≡ map (at_node (Some sc) a f) ts
put-later sc a v f [] l h = refl
put-later sc a v f (t ∷ ts) (l, ls) (h, hs) =
    let n : has_node_number v.node.number t ≡ false = flip_number v.node.number t.node.number l in
    rw (n, h) (ap (λ xs. t ∷ xs) (put-later sc a v f ts ls hs))

pub other_of : (sc : NodeScope) (a : Addr) (t : NodeTally) (ts : List NodeTally) → is_tally sc a t ≡ true → AllByRecursion (λ u. same_node t u ≡ false) ts
    → AllByRecursion (λ u. is_tally sc a u ≡ false) ts
other_of sc a t ts h d =
    let p = scope_is sc a t h in
    let q = source_is sc a t h in
    subst (λ (z : NodeScope × Addr). AllByRecursion (λ u. is_tally z.0 z.1 u ≡ false) ts) (λ i. (p i, q i)) d

pub put-at : (sc : NodeScope) (a : Addr) (v t : NodeTally) (f : NodeTally → NodeTally) (ts : List NodeTally) → IsRisingBy (λ (u : NodeTally). u.node.number) ts → IsDistinct same_node ts
    → find (is_tally sc a) ts ≡ Some t → v.node.number ≡ t.node.number → f t ≡ v → map (put_tally v) ts ≡ map (at_node (Some sc) a f) ts
put-at sc a v t f [] r d l n c = refl
put-at sc a v t f (u ∷ ts) r d l n c =
    go (λ l'. put-at sc a v t f ts (rest-rising (λ (x : NodeTally). x.node.number) u ts r) (IsDistinct-tail same_node u ts d) l' n c) (is_tally sc a u) refl
  where
    higher : Above (λ (x : NodeTally). x.node.number) u.node.number ts
    higher = head-above (λ (x : NodeTally). x.node.number) u ts r

    go : (find (is_tally sc a) ts ≡ Some t → map (put_tally v) ts ≡ map (at_node (Some sc) a f) ts) → (b : Bool) → is_tally sc a u ≡ b
        → map (put_tally v) (u ∷ ts) ≡ map (at_node (Some sc) a f) (u ∷ ts)
    go more true i =
        let l' : Some u ≡ Some t = (rw i at l) in
        let k : u ≡ t = cc in
        let m : u.node.number ≡ v.node.number = ap (λ (x : NodeTally). x.node.number) k ∙ sym n in
        let y : has_node_number v.node.number u ≡ true = ap (λ z. u.node.number == z) (sym m) ∙ same_self u.node.number in
        let w : f u ≡ v = ap f k ∙ c in
        let ls = subst (λ z. Above (λ (x : NodeTally). x.node.number) z ts) m higher in
        rw (y, i, w) (ap (λ xs. v ∷ xs) (put-later sc a v f ts ls (other_of sc a u ts i (IsDistinct-head same_node u ts d))))
    go more false i =
        let l' : find (is_tally sc a) ts ≡ Some t = (rw i at l) in
        let lo : u.node.number < t.node.number = found-all (λ (x : NodeTally). u.node.number < x.node.number) (is_tally sc a) t ts higher l' in
        let y : has_node_number v.node.number u ≡ false = ap (λ z. u.node.number == z) n ∙ lower_differs u.node.number t.node.number lo in
        rw (y, i) (ap (λ xs. u ∷ xs) (more l'))

-- where the node is not there, nothing changes
pub none-at : (sc : NodeScope) (a : Addr) (f : NodeTally → NodeTally) (ts : List NodeTally) → find (is_tally sc a) ts ≡ None → ts ≡ map (at_node (Some sc) a f) ts
none-at sc a f [] l = refl
none-at sc a f (t ∷ ts) l = go (none-at sc a f ts) (is_tally sc a t) refl
  where
    go : (find (is_tally sc a) ts ≡ None → ts ≡ map (at_node (Some sc) a f) ts) → (b : Bool) → is_tally sc a t ≡ b → t ∷ ts ≡ map (at_node (Some sc) a f) (t ∷ ts)
    go more true i = let l' : Some t ≡ None = (rw i at l) in absurd (cc l')
    go more false i = rw i (ap (λ xs. t ∷ xs) (more (rw i at l)))

pub no-scope : (a : Addr) (f : NodeTally → NodeTally) (ts : List NodeTally) → ts ≡ map (at_node None a f) ts
no-scope a f [] = refl
no-scope a f (t ∷ ts) = ap (λ xs. t ∷ xs) (no-scope a f ts)

-- what was found may be written
pub tallied-at : (sc : NodeScope) (a : Addr) (v t : NodeTally) (ts : List NodeTally) → find (is_tally sc a) ts ≡ Some t → v.node.scope ≡ t.node.scope → v.node.source ≡ t.node.source
    → v.node.number ≡ t.node.number → IsTallied v ts
tallied-at sc a v t ts l p q n =
    let h : is_tally v.node.scope v.node.source t ≡ true =
    subst (λ (z : NodeScope × Addr). is_tally z.0 z.1 t ≡ true) (λ i. (sym p i, sym q i)) (is_tally_self t) in
    let y : has_node_number v.node.number t ≡ true = ap (λ z. t.node.number == z) n ∙ same_self t.node.number in
    any-also (is_tally sc a) (λ (u : NodeTally). is_tally v.node.scope v.node.source u && has_node_number v.node.number u) t ts l (and_from _ _ h y)

-- ---- a change that leaves scope and source alone

pub record IsFaithful (f : NodeTally → NodeTally) : Type 0 where
  pub scope : (t : NodeTally) → (f t).node.scope ≡ t.node.scope
  pub source : (t : NodeTally) → (f t).node.source ≡ t.node.source
  pub number : (t : NodeTally) → (f t).node.number ≡ t.node.number

at_same : {Y : Type 0} (part : NodeTally → Y) (o : Option NodeScope) (a : Addr) (f : NodeTally → NodeTally) → ((t : NodeTally) → part (f t) ≡ part t) → (t : NodeTally) → part (at_node o a f t) ≡ part t
at_same part o a f same t = go (is_at o a t)
  where
    go : (b : Bool) → part (if b then f t else t) ≡ part t
    go true = same t
    go false = refl

pub tally-at : (sc : NodeScope) (b : Addr) (o : Option NodeScope) (a : Addr) (f : NodeTally → NodeTally) → IsFaithful f → (ts : List NodeTally)
    → list_any (is_tally sc b) (map (at_node o a f) ts) ≡ list_any (is_tally sc b) ts
tally-at sc b o a f k ts =
    any-map (is_tally sc b) (at_node o a f)
    (λ t i. same_scope (at_same (λ (u : NodeTally). u.node.scope) o a f k.scope t i) sc && same_addr (at_same (λ (u : NodeTally). u.node.source) o a f k.source t i) b) ts

pub scoped-at : (conf : Conf) (o : Option NodeScope) (a : Addr) (f : NodeTally → NodeTally) → IsFaithful f → (ts : List NodeTally) → AllByRecursion (IsScoped conf) ts
    → AllByRecursion (IsScoped conf) (map (at_node o a f) ts)
scoped-at conf o a f k [] h = tt
scoped-at conf o a f k (t ∷ ts) (h, hs) = (subst (IsScope conf) (sym (at_same (λ (u : NodeTally). u.node.scope) o a f k.scope t)) h, scoped-at conf o a f k ts hs)

pub numbers-at : (o : Option NodeScope) (a : Addr) (f : NodeTally → NodeTally) → IsFaithful f → (ts : List NodeTally)
    → map (λ (n : Node). n.number) (nodes_of (map (at_node o a f) ts)) ≡ map (λ (n : Node). n.number) (nodes_of ts)
numbers-at o a f k [] = refl
numbers-at o a f k (t ∷ ts) = (λ i. at_same (λ (u : NodeTally). u.node.number) o a f k.number t i ∷ numbers-at o a f k ts i)

-- the tally that is found after a change of it
pub find-at : (sc : NodeScope) (a : Addr) (f : NodeTally → NodeTally) → IsFaithful f → (t : NodeTally) (ts : List NodeTally) → find (is_tally sc a) ts ≡ Some t
    → find (is_tally sc a) (map (at_node (Some sc) a f) ts) ≡ Some (f t)
find-at sc a f k t [] l = absurd cc
find-at sc a f k t (u ∷ ts) l = go (find-at sc a f k t ts) (is_tally sc a u) refl
  where
    same : (x : NodeTally) → is_tally sc a (f x) ≡ is_tally sc a x
    same x = (λ i. same_scope (k.scope x i) sc && same_addr (k.source x i) a)

    go : (find (is_tally sc a) ts ≡ Some t → find (is_tally sc a) (map (at_node (Some sc) a f) ts) ≡ Some (f t)) → (b : Bool) → is_tally sc a u ≡ b
        → find (is_tally sc a) (map (at_node (Some sc) a f) (u ∷ ts)) ≡ Some (f t)
    go more true i =
        let l' : Some u ≡ Some t = (rw i at l) in
        let q : u ≡ t = cc in
        let y : is_tally sc a (f u) ≡ true = same u ∙ i in
        rw (i, y) (ap (λ x. Some (f x)) q)
    go more false i = rw (i, i) (more (rw i at l))

-- no handshake of a node that is found came after a moment
pub scored-found : (now : ℕ) (sc : NodeScope) (a : Addr) (t : NodeTally) (ts : List NodeTally) → All (λ (n : Node). n.score.last ≤ now) (nodes_of ts) → find (is_tally sc a) ts ≡ Some t → t.node.score.last ≤ now
scored-found now sc a t [] h l = absurd cc
scored-found now sc a t (u ∷ ts) h l = go (scored-found now sc a t ts (All-tail (λ (n : Node). n.score.last ≤ now) u.node (nodes_of ts) h)) (is_tally sc a u) refl
  where
    go : (find (is_tally sc a) ts ≡ Some t → t.node.score.last ≤ now) → (b : Bool) → is_tally sc a u ≡ b → t.node.score.last ≤ now
    go more true i =
        let l' : Some u ≡ Some t = (rw i at l) in
        let q : u ≡ t = cc in
        subst (λ (x : NodeTally). x.node.score.last ≤ now) q (All-head (λ (n : Node). n.score.last ≤ now) u.node (nodes_of ts) h)
    go more false i = more (rw i at l)
