-- What is read as a route is a route of the grammar and keeps its load rules, and each route of the grammar is read.
use Rattle.std.proofs.Common.{◌≡◌, ◌∙◌, ℕ, Bool, true, false, cond, ◌||◌, List, [], ◌∷◌, Option, Some, None, Result, Ok, Err, IfOk, refl, sym, ap, subst}
use Rattle.std.specs.Prelude.{codes}
use Rattle.std.specs.Str.{bytes_eq}
use Rattle.pfs_conf_tokens.specs.declared.refusals.Refusal.{Refusal}
use Rattle.pfs_conf_tokens.specs.declared.refusals.Why.{Why}
use Rattle.pfs_conf_tokens.specs.declared.refusals.Why.TheVariants as why
use Rattle.pfs_conf_tokens.specs.TokenResults.{Gives}
use Rattle.pfs_conf_tokens.specs.Tokens.{Tok}
use Rattle.pfs_conf_tokens.specs.Keys.{is_word_key}
use Rattle.pfs_conf_tokens.specs.Reading.{act, chain, done}
use Rattle.pfs_conf_tokens.specs.Grammar.{WordOf, skip_lines}
use Rattle.pfs_conf_tokens.specs.Values.{in_word, value_at, valued}
use Rattle.pfs_conf_tokens.proofs.Laws.{chain_ok, ok_parts}
use Rattle.pfs_addr_values.specs.Names.{is_name, name_of}
use Rattle.pfs_addr_values.specs.Prefixes.{IsNetwork, Network}
use Rattle.pfs_addr_values.proofs.PrefixLaws.{network_of_is_network}
use Rattle.pfs_addr.specs.Texts.{prefix_of}
use Rattle.pfs_addr.proofs.PieceLaws.{prefix_of_parts}
use Rattle.pfs_conf_values.specs.Routes.{IsRoute}
use Rattle.pfs_conf_values.specs.declared.routes.Route.{Route}
use Rattle.pfs_conf_settings.specs.Drafts.{Drafted, with_route}
use Rattle.pfs_conf_settings.specs.RouteGrammar.{LeavesBy, RouteOf, SetsRoute, interface_named, is_no_interface, lined, plain, sets}
use Rattle.pfs_conf_settings.specs.Routes.{leaving_at, leaving_name_at, prefix_at, route_at, route_by, routed_at}

-- ---- a word that says a value

word_value_is : {A : Type 0} (w : Why) (value : List ℕ → Option A) (ts : List Tok) (x : A) (left : List Tok) → value_at w (in_word value) ts ≡ Ok (x, left) → WordOf value ts x left
word_value_is w value [] x left e = absurd cc
word_value_is {A} w value (t ∷ ts) x left e = go (is_word_key t.key) refl e
  where
    found : is_word_key t.key ≡ true → (o : Option A) → value t.text ≡ o → act (valued w o) (t ∷ ts) ≡ Ok (x, left) → WordOf value (t ∷ ts) x left
    found g None f h = absurd cc
    found g (Some y) f h = let p = ok_parts y x ts left h in (t, ap (λ (z : List Tok). t ∷ z) p.1, g, f ∙ ap (λ (z : A). Some z) p.0)

    go : (b : Bool) → is_word_key t.key ≡ b → act (valued w (cond b (value t.text) None)) (t ∷ ts) ≡ Ok (x, left) → WordOf value (t ∷ ts) x left
    go true g h = found g (value t.text) refl h
    go false g h = absurd cc

word_value_reads : {A : Type 0} (w : Why) (value : List ℕ → Option A) {ts : List Tok} {x : A} {left : List Tok} → WordOf value ts x left → value_at w (in_word value) ts ≡ Ok (x, left)
word_value_reads w value q = rw (q.1, q.2, q.3) refl

-- ---- is

prefix_is : (ts : List Tok) (p : Network) (left : List Tok) → prefix_at ts ≡ Ok (p, left) → WordOf prefix_of ts p left
unfolding prefix_at
prefix_is ts p left e = word_value_is why.Host prefix_of ts p left e

interface_is : (ts : List Tok) (name : List ℕ) (left : List Tok) → leaving_name_at ts ≡ Ok (name, left) → WordOf interface_named ts name left
unfolding leaving_name_at
interface_is ts name left e = word_value_is why.Plain interface_named ts name left e

leaving_is : (inside : Bool) (ts : List Tok) (name : List ℕ) (left : List Tok) → leaving_at inside ts ≡ Ok (name, left) → LeavesBy inside ts name left
unfolding leaving_at
leaving_is true ts name left e = lined (interface_is (skip_lines ts) name left e)
leaving_is false ts name left e = plain (interface_is ts name left e)

route_is : (inside : Bool) (ts : List Tok) (r : Route) (left : List Tok) → route_at inside ts ≡ Ok (r, left) → RouteOf inside ts r left
unfolding route_at
route_is inside ts r left e =
    let c = chain_ok prefix_at (λ p. chain (leaving_at inside) (λ name. done (route_by p name))) ts r left e in
    let b = chain_ok (leaving_at inside) (λ name. done (route_by c.0 name)) c.1 r left c.3 in
    let q = ok_parts (route_by c.0 b.0) r b.1 left b.3 in
    let read : RouteOf inside ts (route_by c.0 b.0) b.1 = record { mid = c.1; prefix = prefix_is ts c.0 c.1 c.2; interface = leaving_is inside c.1 b.0 b.1 b.2 } in
    subst (λ (z : Route). RouteOf inside ts z left) q.0 (subst (λ (z : List Tok). RouteOf inside ts (route_by c.0 b.0) z) q.1 read)

pub routed_is : (inside : Bool) (d : Drafted) (ts : List Tok) (e : Drafted) (left : List Tok) → routed_at inside d ts ≡ Ok (e, left) → SetsRoute inside d ts e left
unfolding routed_at
routed_is inside d ts e left h =
    let c = chain_ok (route_at inside) (λ r. done (with_route r d)) ts e left h in
    let q = ok_parts (with_route c.0 d) e c.1 left c.3 in
    subst (λ (z : Drafted). SetsRoute inside d ts z left) q.0 (sets (subst (λ (z : List Tok). RouteOf inside ts c.0 z) q.1 (route_is inside ts c.0 c.1 c.2)))

-- ---- reads

prefix_reads : {ts left : List Tok} {p : Network} → WordOf prefix_of ts p left → prefix_at ts ≡ Ok (p, left)
unfolding prefix_at
prefix_reads q = word_value_reads why.Host prefix_of q

interface_reads : {ts left : List Tok} {name : List ℕ} → WordOf interface_named ts name left → leaving_name_at ts ≡ Ok (name, left)
unfolding leaving_name_at
interface_reads q = word_value_reads why.Plain interface_named q

leaving_reads : {inside : Bool} {ts left : List Tok} {name : List ℕ} → LeavesBy inside ts name left → leaving_at inside ts ≡ Ok (name, left)
unfolding leaving_at
leaving_reads (plain q) = interface_reads q
leaving_reads (lined q) = interface_reads q

route_reads : {inside : Bool} {ts left : List Tok} {r : Route} → RouteOf inside ts r left → route_at inside ts ≡ Ok (r, left)
unfolding route_at
route_reads q = rw (prefix_reads q.prefix, leaving_reads q.interface) refl

pub routed_reads : {inside : Bool} {d e : Drafted} {ts left : List Tok} → SetsRoute inside d ts e left → routed_at inside d ts ≡ Ok (e, left)
unfolding routed_at
routed_reads (sets q) = rw (route_reads q) refl

-- a word begins a route
pub routed_begins : {inside : Bool} {d e : Drafted} {ts left : List Tok} → SetsRoute inside d ts e left → (t : Tok) × (rest : List Tok) × (ts ≡ t ∷ rest) × (is_word_key t.key ≡ true)
routed_begins (sets q) = (q.prefix.0, q.mid, q.prefix.1, q.prefix.2)

-- ---- what is read keeps the load rules

neither : (a b : Bool) → (a || b) ≡ false → (a ≡ false) × (b ≡ false)
neither false b e = (refl, e)
neither true b e = absurd cc

name_is : (w name : List ℕ) → name_of 15 w ≡ Some name → (w ≡ name) × (is_name 15 w ≡ true)
name_is w name e = go (is_name 15 w) refl e
  where
    go : (b : Bool) → is_name 15 w ≡ b → cond b (Some w) None ≡ Some name → (w ≡ name) × (is_name 15 w ≡ true)
    go true g h = (cc, g)
    go false g h = absurd cc

-- the load rules of an interface's name
record IsNamed (name : List ℕ) : Type 0 where
  pub is_one : is_name 15 name ≡ true
  pub not_any : bytes_eq name (codes "any") ≡ false
  pub not_rdomain : bytes_eq name (codes "rdomain") ≡ false

named_within : (w name : List ℕ) → interface_named w ≡ Some name → IsNamed name
named_within w name e = go (is_no_interface w) refl e
  where
    go : (b : Bool) → is_no_interface w ≡ b → cond b None (name_of 15 w) ≡ Some name → IsNamed name
    go true g h = absurd cc
    go false g h =
        let p = name_is w name h in
        let n = neither (bytes_eq w (codes "any")) (bytes_eq w (codes "rdomain")) g in
        subst IsNamed p.0 (record { is_one = p.1; not_any = n.0; not_rdomain = n.1 })

interface_within : {inside : Bool} {ts left : List Tok} {name : List ℕ} → LeavesBy inside ts name left → IsNamed name
interface_within {name = name} (plain q) = named_within q.0.text name q.3
interface_within {name = name} (lined q) = named_within q.0.text name q.3

-- what is read as a prefix is one
pub network_within : (text : List ℕ) (p : Network) → prefix_of text ≡ Some p → IsNetwork p
network_within text p e = let w = prefix_of_parts text p e in subst IsNetwork (sym w.of) (network_of_is_network w.addr p.bits w.is_addr w.short)

route_within : {inside : Bool} {ts left : List Tok} {r : Route} → RouteOf inside ts r left → IsRoute r
route_within {r = r} q =
    let n = interface_within q.interface in
    record { network = network_within q.prefix.0.text r.prefix q.prefix.3; interface = n.is_one; not_any = n.not_any; not_rdomain = n.not_rdomain }

pub gives_route : (inside : Bool) (r : Result Route Refusal) (left ts : List Tok) → Gives r left (route_at inside ts) → IfOk r IsRoute
gives_route inside (Ok r) left ts e = route_within (route_is inside ts r left e)
gives_route inside (Err e) left ts h = tt
