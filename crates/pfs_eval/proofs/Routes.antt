-- The narrowest of routes, found one by one.
use Rattle.std.proofs.Common.{◌≡◌, ◌<◌, ◌∙◌, ◌&&◌, ◌+◌, ℕ, suc, Bool, true, false, List, ◌∷◌, Option, Some, None, drop, drop-cons, get_or, length, map, refl, sym, arith, add-one, subst}
use Rattle.std.specs.Prelude.{nat_lt, option_map, if◌then◌else◌}
use Rattle.std.proofs.lemmas.Bool.Decides.{nat_tests}
use Rattle.pfs_addr_values.specs.declared.addresses.Addr.{Addr}
use Rattle.pfs_addr_values.specs.Prefixes.{Network, covers}
use Rattle.pfs_conf_values.specs.declared.routes.Route.{Route}
use Rattle.pfs_eval.specs.Covering.{narrower, narrowest}
use Rattle.pfs_eval.specs.RouteSteps.{has_more_bits, longer}
use Rattle.pfs_eval.specs.Routing.{entry_of_route}

-- the narrowest of one that was found, if one was, and of one further
abbrev pub with_further : {K : Type 0} → Option (Network × K) → Option (Network × K) → Option (Network × K)
with_further None further = further
with_further (Some e) further = Some (narrower e further)

-- where none is further, it is the one that was found
pub none-further : {K : Type 0} (found : Option (Network × K)) → with_further found None ≡ found
none-further None = refl
none-further (Some e) = refl

-- a route that is not longer than another, and does not cover: what was found stays
longer-not : (found : Option Route) (r : Route) (a : Addr) → covers r.prefix a ≡ false → longer found r a ≡ found
longer-not found r a off = by (has_more_bits r found)
  where
    by : (more : Bool) → (if more && covers r.prefix a then Some r else found) ≡ found
    by true = rw off refl
    by false = refl

-- of three numbers of bits
of-three : (f r : Network × List ℕ) (rest : Option (Network × List ℕ))
    → Some (narrower f (Some (narrower r rest))) ≡ (if nat_lt f.0.bits r.0.bits then Some (narrower r rest) else Some (narrower f rest))
of-three f r None = grind (arith, nat_tests)
of-three f r (Some g) = grind (arith, nat_tests)

-- one route more
pub route-further : (found : Option Route) (r : Route) (rs : List Route) (a : Addr)
    → with_further (option_map entry_of_route found) (narrowest (map entry_of_route (r ∷ rs)) a)
    ≡ with_further (option_map entry_of_route (longer found r a)) (narrowest (map entry_of_route rs) a)
route-further found r rs a = by found (covers r.prefix a) refl
  where
    by : (found : Option Route) (on : Bool) → covers r.prefix a ≡ on
        → with_further (option_map entry_of_route found) (narrowest (map entry_of_route (r ∷ rs)) a)
        ≡ with_further (option_map entry_of_route (longer found r a)) (narrowest (map entry_of_route rs) a)
    by found false e = rw (longer-not found r a e, e) refl
    by None true e = rw e refl
    by (Some f) true e = rw e (of-three (entry_of_route f) (entry_of_route r) (narrowest (map entry_of_route rs) a) ∙ chosen (nat_lt f.prefix.bits r.prefix.bits))
      where
        chosen : (more : Bool)
            → (if more then Some (narrower (entry_of_route r) (narrowest (map entry_of_route rs) a)) else Some (narrower (entry_of_route f) (narrowest (map entry_of_route rs) a)))
            ≡ with_further (option_map entry_of_route (if more && true then Some r else Some f)) (narrowest (map entry_of_route rs) a)
        chosen true = refl
        chosen false = refl

-- at a place among routes
pub route-next : (found : Option Route) (rs : List Route) (i : ℕ) (d r : Route) (a : Addr) (all : Option (Network × List ℕ)) → i < length rs → r ≡ get_or rs i d
    → with_further (option_map entry_of_route found) (narrowest (map entry_of_route (drop i rs)) a) ≡ all
    → with_further (option_map entry_of_route (longer found r a)) (narrowest (map entry_of_route (drop (i + 1) rs)) a) ≡ all
route-next found rs i d r a all within is so_far =
    let P : List Route → Type 0 = λ ts. with_further (option_map entry_of_route found) (narrowest (map entry_of_route ts) a) ≡ all in
    rw (is, add-one) (sym (route-further found (get_or rs i d) (drop (suc i) rs) a) ∙ subst P (drop-cons rs i d within) so_far)
