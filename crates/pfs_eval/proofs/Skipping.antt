-- A skip step passes over nothing that could match.
use Rattle.std.proofs.Common.{◌≡◌, ℕ, ◌+◌, ◌<◌, ◌≤◌, Bool, false, ◌&&◌, List, [], ◌∷◌, length, filter, drop, slice_get, Option, Some, ap, sym, subst, ◌∙◌, ◌⊎◌, inl, inr, suc, zero, arith}
use Rattle.std.proofs.lemmas.Bool.{cases_order, cond-false}
use Rattle.pfs_addr_values.specs.Packets.{PacketView}
use Rattle.pfs_conf_values.specs.declared.filters.Filter.{Filter}
use Rattle.pfs_conf_values.specs.declared.items.Item.{Item}
use Rattle.pfs_eval.specs.Entries.{Entry}
use Rattle.pfs_eval.specs.Lines.{back}
use Rattle.pfs_eval.specs.Matching.{dir_holds, family_holds, filter_of, flags_hold, host_holds, interface_holds, matches_item, ports_hold, proto_holds}
use Rattle.pfs_eval.specs.Parameters.{IsSame, holds_at}
use Rattle.pfs_eval.specs.Skips.{IsPassed, IsSkip}
use Rattle.pfs_eval.specs.Asking.{asking}
use Rattle.pfs_eval.specs.Translating.{TakenKeys}
use Rattle.pfs_eval.specs.Verdict.{Asking, PathPlace, behind_all, is_hit}
use Rattle.pfs_eval.specs.Visits.{holds_there}
use Rattle.pfs_eval.specs.declared.comparing.Parameter.{Parameter}
use Rattle.pfs_eval.specs.declared.comparing.Parameter.TheVariants as parameter
use Rattle.pfs_eval.proofs.Bodies.{behind-within, deeper-inside, ends-behind, place_behind, some_at}
use Rattle.pfs_eval.proofs.Paths.{behind-miss, place_at, rest_of, rest-jump}
use Rattle.pfs_eval.proofs.Cuts.{walked, found_of, found-cons, walked-on}

-- of how many of those places what the item asks in its filter holds
unfoldable pub matching : Asking → List PathPlace → ℕ
matching a xs = length (filter (holds_there a) xs)

matching-miss : (a : Asking) (x : PathPlace) (xs : List PathPlace) → holds_there a x ≡ false
    → matching a (x ∷ xs) ≡ matching a xs
unfolding matching
matching-miss a x xs e = ap (λ (ys : List PathPlace). length ys) (cond-false (holds_there a x) _ _ e)

found-miss : (a : Asking) (f : Option ℕ) (x : PathPlace) (xs : List PathPlace) → is_hit a x ≡ false
    → found_of a f (x ∷ xs) ≡ found_of a f xs
found-miss a f x xs e = found-cons a f x xs ∙ ap (λ g. found_of a g xs) (cond-false _ _ _ e)

pub walked-miss : (a : Asking) (stop : ℕ) (x : PathPlace) (rest : List PathPlace) → stop ≤ x.item.depth
    → is_hit a x ≡ false → walked a stop (x ∷ rest) ≡ x ∷ walked a stop rest
walked-miss a stop x rest d e = walked-on a stop x rest d ∙ ap (λ t. x ∷ t) (cond-false (is_hit a x) _ _ e)

no_hit : (r h c d : Bool) → h ≡ false → ((r && h && c) && d) ≡ false
no_hit r h c d e = grind arith

no_match : (r b : Bool) → b ≡ false → (r && b) ≡ false
no_match r b e = grind arith

no_first : (a b : Bool) → a ≡ false → (a && b) ≡ false
no_first a b e = grind arith

-- a walk at p with this packet may go on at r: the verdict, the packet and the items that match stay, and no visit is added
pub record MayGoOn (a : Asking) (q : PacketView) (items : List Item) (stop p r : ℕ) : Type 0 where
  pub found : (f : Option ℕ) → found_of a f (walked a stop (rest_of a q items p)) ≡ found_of a f (walked a stop (rest_of a q items r))
  pub packet : behind_all a q (walked a stop (rest_of a q items p)) ≡ behind_all a q (walked a stop (rest_of a q items r))
  pub matches : matching a (walked a stop (rest_of a q items p)) ≡ matching a (walked a stop (rest_of a q items r))
  pub fewer : 1 + length (walked a stop (rest_of a q items r)) ≤ length (walked a stop (rest_of a q items p))
  pub forward : p < r

-- the place of an item
abbrev pub here : PacketView → List Item → ℕ → Item → PathPlace
here q items p i = place_at q (back p [] items) p i (drop (p + 1) items)

-- behind an item that does not match, a walk goes on behind its body
pub miss-on : (a : Asking) (q : PacketView) (items : List Item) (stop p : ℕ) (i : Item) → slice_get items p ≡ Some i → stop ≤ i.depth
    → a.holds q i ≡ false → walked a stop (rest_of a q items p) ≡ here q items p i ∷ walked a stop (rest_of a q items (place_behind items p i))
miss-on a q items stop p i at d e =
    ap (walked a stop) (rest-jump a q items p i at e) ∙ walked-miss a stop (here q items p i) _ d (no_hit _ _ _ _ e)

one_on : (a : Asking) (q : PacketView) (items : List Item) (stop p : ℕ) (i : Item) → slice_get items p ≡ Some i → stop ≤ i.depth
    → a.holds q i ≡ false → MayGoOn a q items stop p (place_behind items p i)
one_on a q items stop p i at d e =
    let x = here q items p i in
    let miss : is_hit a x ≡ false = no_hit _ _ _ _ e in
    let step = miss-on a q items stop p i at d e in
    record {
      found = λ f. ap (found_of a f) step ∙ found-miss a f x _ miss;
      packet = ap (behind_all a q) step ∙ ap (λ r. behind_all a r (walked a stop (rest_of a q items (place_behind items p i)))) (behind-miss a q i e);
      matches = ap (matching a) step ∙ matching-miss a x _ e;
      fewer = let l = ap (λ (xs : List PathPlace). length xs) step in omega (arith, l);
      forward = omega arith;
    }

both_on : (a : Asking) (q : PacketView) (items : List Item) (stop p r s : ℕ) → MayGoOn a q items stop p r → MayGoOn a q items stop r s
    → MayGoOn a q items stop p s
both_on a q items stop p r s h k = record {
  found = λ f. h.found f ∙ k.found f;
  packet = h.packet ∙ k.packet;
  matches = h.matches ∙ k.matches;
  fewer = omega (arith, h.fewer, k.fewer);
  forward = omega (arith, h.forward, k.forward);
}

-- items that ask the same at a parameter agree there
pub same-holds : (tables : List (List Entry)) (packet : PacketView) (k : Parameter) (f g : Filter) → IsSame k f g
    → holds_at tables packet k f ≡ holds_at tables packet k g
same-holds tables packet parameter.Interface f g e = ap (λ r. interface_holds r packet.ifname) e
same-holds tables packet parameter.Direction f g e = ap (λ r. dir_holds r packet.dir) e
same-holds tables packet parameter.Family f g e = ap (λ r. family_holds r packet.source.addr packet.destination.addr) e
same-holds tables packet parameter.Protocol f g e = ap (λ r. proto_holds r packet.proto) e
same-holds tables packet parameter.SourceHost f g e = ap (λ r. host_holds tables r packet.source.addr) e
same-holds tables packet parameter.DestinationHost f g e = ap (λ r. host_holds tables r packet.destination.addr) e
same-holds tables packet parameter.SourcePort f g e = ap (λ r. ports_hold r packet.source.port) e
same-holds tables packet parameter.DestinationPort f g e = ap (λ r. ports_hold r packet.destination.port) e
same-holds tables packet parameter.Flags f g e = ap (λ r. flags_hold r packet.proto packet.flags) e

-- an item that fails on a parameter does not match
pub fails : (tables : List (List Entry)) (packet : PacketView) (k : Parameter) (i : Item)
    → holds_at tables packet k (filter_of i.what) ≡ false → matches_item tables packet i ≡ false
unfolding matches_item
fails tables packet parameter.Interface i e = no_first _ _ (no_first _ _ (no_first _ _ (no_first _ _ (no_first _ _ (no_first _ _ (no_first _ _ (no_match _ _ e)))))))
fails tables packet parameter.Direction i e = no_first _ _ (no_first _ _ (no_first _ _ (no_first _ _ (no_first _ _ (no_first _ _ (no_first _ _ (no_first _ _ e)))))))
fails tables packet parameter.Family i e = no_first _ _ (no_first _ _ (no_first _ _ (no_first _ _ (no_first _ _ (no_first _ _ (no_match _ _ e))))))
fails tables packet parameter.Protocol i e = no_first _ _ (no_first _ _ (no_first _ _ (no_first _ _ (no_first _ _ (no_match _ _ e)))))
fails tables packet parameter.SourceHost i e = no_first _ _ (no_first _ _ (no_first _ _ (no_first _ _ (no_match _ _ e))))
fails tables packet parameter.DestinationHost i e = no_first _ _ (no_first _ _ (no_match _ _ e))
fails tables packet parameter.SourcePort i e = no_first _ _ (no_first _ _ (no_first _ _ (no_match _ _ e)))
fails tables packet parameter.DestinationPort i e = no_first _ _ (no_match _ _ e)
fails tables packet parameter.Flags i e = no_match _ _ e

-- ---- what is passed over

pub same-sym : (k : Parameter) (f g : Filter) → IsSame k f g → IsSame k g f
same-sym parameter.Interface f g e = sym e
same-sym parameter.Direction f g e = sym e
same-sym parameter.Family f g e = sym e
same-sym parameter.Protocol f g e = sym e
same-sym parameter.SourceHost f g e = sym e
same-sym parameter.DestinationHost f g e = sym e
same-sym parameter.SourcePort f g e = sym e
same-sym parameter.DestinationPort f g e = sym e
same-sym parameter.Flags f g e = sym e

pub same-trans : (k : Parameter) (f g h : Filter) → IsSame k f g → IsSame k g h → IsSame k f h
same-trans parameter.Interface f g h d e = d ∙ e
same-trans parameter.Direction f g h d e = d ∙ e
same-trans parameter.Family f g h d e = d ∙ e
same-trans parameter.Protocol f g h d e = d ∙ e
same-trans parameter.SourceHost f g h d e = d ∙ e
same-trans parameter.DestinationHost f g h d e = d ∙ e
same-trans parameter.SourcePort f g h d e = d ∙ e
same-trans parameter.DestinationPort f g h d e = d ∙ e
same-trans parameter.Flags f g h d e = d ∙ e

-- two items of one body that ask the same pass over the same items
pub passed-same : (k : Parameter) (i j x : Item) → j.depth ≡ i.depth → IsSame k (filter_of i.what) (filter_of j.what)
    → IsPassed k j x → IsPassed k i x
passed-same k i j x e s (inl deeper) = inl (omega (arith, e, deeper))
passed-same k i j x e s (inr h) = inr (h.0 ∙ e, same-trans k (filter_of i.what) (filter_of j.what) (filter_of x.what) s h.1)

-- the skip of an item is that of the next one of its body, where both ask the same
skip_next : (k : Parameter) (items : List Item) (p b q : ℕ) (i j : Item) → IsSkip k items p i q → p < b → b < q
    → j.depth ≡ i.depth → IsSame k (filter_of i.what) (filter_of j.what) → IsSkip k items b j q
skip_next k items p b q i j s h l e same =
    let back = same-sym k (filter_of i.what) (filter_of j.what) same in
    record {
      behind = l;
      within = s.within;
      passed = λ r x m n at. passed-same k j i x (sym e) back (s.passed r x (omega (arith, h, m)) n at);
      first = λ x at on. s.first x at (passed-same k i j x e same on);
    }

-- what holds of an item that goes on at q directly behind its body
abbrev pub HoldsLast : (ℕ → Item → Type 0) → Parameter → List Item → ℕ → Type 0
HoldsLast P k items q = (p : ℕ) (i : Item) → IsSkip k items p i q → slice_get items p ≡ Some i → place_behind items p i ≡ q → P p i

-- what holds of an item, if it does of the next one of its body, which asks the same
abbrev pub HoldsMore : (ℕ → Item → Type 0) → Parameter → List Item → Type 0
HoldsMore P k items =
    (p : ℕ) (i j : Item) → slice_get items p ≡ Some i → slice_get items (place_behind items p i) ≡ Some j → j.depth ≡ i.depth
    → IsSame k (filter_of i.what) (filter_of j.what) → P (place_behind items p i) j → P p i

skip_step : (P : ℕ → Item → Type 0) (k : Parameter) (items : List Item) (p q : ℕ) (i : Item) → HoldsLast P k items q
    → HoldsMore P k items → IsSkip k items p i q → slice_get items p ≡ Some i
    → ((b : ℕ) (j : Item) → p < b → IsSkip k items b j q → slice_get items b ≡ Some j → P b j) → P p i
skip_step P k items p q i last more s at rest = by (cases_order (place_behind items p i) q)
  where
    b : ℕ
    b = place_behind items p i

    ahead : p < b
    ahead = omega arith

    on : (j : Item) → slice_get items b ≡ Some j → b < q → IsPassed k i j → P p i
    on j there l (inl deeper) = absurd (omega (arith, deeper, ends-behind items p i j there))
    on j there l (inr h) = more p i j at there h.0 h.1 (rest b j ahead (skip_next k items p b q i j s ahead l h.0 h.1) there)

    by : (b ≡ q) ⊎ ((b < q) ⊎ (q < b)) → P p i
    by (inl e) = last p i s at e
    by (inr (inl l)) =
        let there = some_at items b (omega (arith, l, s.within)) in
        on there.0 there.1 l (s.passed b there.0 ahead l there.1)
    by (inr (inr g)) =
        let there = some_at items q (omega (arith, g, behind-within items p i at)) in
        absurd (s.first there.0 there.1 (inl (deeper-inside items p q i there.0 s.behind g there.1)))

skip_within : (n : ℕ) (P : ℕ → Item → Type 0) (k : Parameter) (items : List Item) (p q : ℕ) (i : Item) → HoldsLast P k items q
    → HoldsMore P k items → q ≤ p + n → IsSkip k items p i q → slice_get items p ≡ Some i → P p i
skip_within zero P k items p q i last more few s at = absurd (omega (arith, few, s.behind))
skip_within (suc n) P k items p q i last more few s at =
    skip_step P k items p q i last more s at
    (λ b j l t there. skip_within n P k items b q j last more (omega (arith, few, l)) t there)

-- what a skip passes over, item by item of one body: what holds of the last of them holds of each
pub over_skip : (P : ℕ → Item → Type 0) (k : Parameter) (items : List Item) (p q : ℕ) (i : Item) → HoldsLast P k items q
    → HoldsMore P k items → IsSkip k items p i q → slice_get items p ≡ Some i → P p i
over_skip P k items p q i last more s at = skip_within q P k items p q i last more (omega arith) s at

-- a walk goes on at the skip of the parameter that an item fails on
pub skip-on : (tables : List (List Entry)) (taken : TakenKeys) (packet : PacketView) (k : Parameter) (items : List Item) (stop p q : ℕ) (i : Item)
    → IsSkip k items p i q → slice_get items p ≡ Some i → stop ≤ i.depth
    → holds_at tables packet k (filter_of i.what) ≡ false → MayGoOn (asking items tables taken) packet items stop p q
skip-on tables taken packet k items stop p q i s at d h = over_skip GoesOn k items p q i last more s at d h
  where
    a : Asking
    a = asking items tables taken

    GoesOn : ℕ → Item → Type 0
    GoesOn p i = stop ≤ i.depth → holds_at tables packet k (filter_of i.what) ≡ false → MayGoOn a packet items stop p q

    own : (p : ℕ) (i : Item) → slice_get items p ≡ Some i → stop ≤ i.depth → holds_at tables packet k (filter_of i.what) ≡ false
        → MayGoOn a packet items stop p (place_behind items p i)
    own p i at d h = one_on a packet items stop p i at d (fails tables packet k i h)

    last : HoldsLast GoesOn k items q
    last p i s at e d h = subst (λ r. MayGoOn a packet items stop p r) e (own p i at d h)

    more : HoldsMore GoesOn k items
    more p i j at there e same on d h =
        let again = sym (same-holds tables packet k (filter_of i.what) (filter_of j.what) same) ∙ h in
        both_on a packet items stop p (place_behind items p i) q (own p i at d h) (on (omega (arith, d, e)) again)
