-- The path, as a walk over places finds it.
use Rattle.std.proofs.Common.{◌≡◌, ℕ, ◌+◌, ◌≤◌, suc, zero, Bool, true, false, ◌&&◌, cond, nat_lt, nat_le, List, [], ◌∷◌, length, drop, drop-cons, slice_get, Some, None, refl, ap, ◌∙◌, arith, add-zero, add-one, one-add, add-suc, add_comm, not}
use Rattle.std.proofs.lemmas.List.{drop_all, drop-drop}
use Rattle.std.proofs.lemmas.Bool.{cond-false}
use Rattle.std.proofs.lemmas.Option.{slice_get_within, get_or_from_slice_get}
use Rattle.std.proofs.lemmas.Bool.Decides.{nat_tests}
use Rattle.pfs_addr_values.specs.Packets.{PacketView}
use Rattle.pfs_conf_values.specs.declared.items.Item.{Item}
use Rattle.pfs_eval.specs.Verdict.{Asking, PathPlace, packet_past, enclosing, hides, path_from}
use Rattle.pfs_eval.specs.Lines.{back}
use Rattle.pfs_eval.specs.Skips.{body_length}

-- what two equal `Some` hold is equal
pub some_same : {X : Type 0} {x y : X} → Some x ≡ Some y → x ≡ y
some_same h = cc

-- the place of an item, where this is the packet
abbrev pub place_at : PacketView → List Item → ℕ → Item → List Item → PathPlace
place_at q before n i rest = record { no = n; item = i; packet = q; around = enclosing i.depth before; after = rest }

no_rule : (r h c : Bool) → h ≡ false → (r && h && c) ≡ false
no_rule r h c e = grind arith

-- an item that does not hold of a packet leaves it as it is
pub behind-miss : (a : Asking) (q : PacketView) (i : Item) → a.holds q i ≡ false → packet_past a q i ≡ q
behind-miss a q i e = cond-false _ _ _ (no_rule _ _ _ e)

-- two choices by the same test
pub same_cond : {X : Type 0} (b c : Bool) (x y x' y' : X) → b ≡ c → (c ≡ true → x ≡ x') → (c ≡ false → y ≡ y')
    → cond b x y ≡ cond c x' y'
same_cond b true x y x' y' e h k = rw e (h refl)
same_cond b false x y x' y' e h k = rw e (k refl)

-- ---- places in the list

-- the path from a place on, where it is on it
unfoldable pub rest_of : Asking → PacketView → List Item → ℕ → List PathPlace
rest_of a q items p = path_from a q None (back p [] items) p (drop p items)

back-nil : (k : ℕ) (before : List Item) → back k before [] ≡ before
unfolding back
back-nil zero before = refl
back-nil (suc k) before = refl

-- the items in front, in two steps
pub back-add : (k p : ℕ) (before items : List Item)
    → back k (back p before items) (drop p items) ≡ back (k + p) before items
unfolding back
back-add k zero before items = rw add-zero refl
back-add k (suc p) before [] = rw add-suc (back-nil k before)
back-add k (suc p) before (i ∷ rest) = rw add-suc (back-add k p (i ∷ before) rest)

jump_step : (a : Asking) (q : PacketView) (h : ℕ) (before : List Item) (n : ℕ) (i : Item) (rest : List Item) (b c : Bool)
    → c ≡ not b
    → path_from a q (Some h) (i ∷ before) (n + 1) rest ≡ path_from a q None (back (body_length h rest) (i ∷ before) rest)
    (n + 1 + body_length h rest) (drop (body_length h rest) rest)
    → cond c (place_at q before n i rest ∷ path_from a (packet_past a q i) (hides (a.holds q i) i.depth) (i ∷ before) (n + 1) rest)
    (path_from a q (Some h) (i ∷ before) (n + 1) rest)
    ≡ path_from a q None (back (cond b (1 + body_length h rest) 0) before (i ∷ rest)) (n + cond b (1 + body_length h rest) 0)
    (drop (cond b (1 + body_length h rest) 0) (i ∷ rest))
unfolding path_from back
jump_step a q h before n i rest true c e k =
    let e2 : n + 1 + body_length h rest ≡ n + suc (body_length h rest) = omega arith in
    rw (e, one-add) (k ∙ ap (λ j. path_from a q None (back (body_length h rest) (i ∷ before) rest) j (drop (body_length h rest) rest)) e2)
jump_step a q h before n i rest false c e k = rw (e, add-zero) refl

-- past a body that is hidden, nothing is
pub path-jump : (a : Asking) (q : PacketView) (h : ℕ) (before : List Item) (n : ℕ) (items : List Item)
    → path_from a q (Some h) before n items ≡ path_from a q None (back (body_length h items) before items) (n + body_length h items)
    (drop (body_length h items) items)
unfolding path_from back
path-jump a q h before n [] = refl
path-jump a q h before n (i ∷ rest) =
    jump_step a q h before n i rest (nat_lt h i.depth) (nat_le i.depth h) (grind (arith, nat_tests))
    (path-jump a q h (i ∷ before) (n + 1) rest)

-- ---- one place of the walk

pub rest-end : (a : Asking) (q : PacketView) (items : List Item) (p : ℕ) → length items ≤ p → rest_of a q items p ≡ []
unfolding rest_of path_from
rest-end a q items p h = rw (drop_all p items h) refl

pub drop-at : (items : List Item) (p : ℕ) (i : Item) → slice_get items p ≡ Some i
    → drop p items ≡ i ∷ drop (p + 1) items
drop-at items p i h =
    let w = slice_get_within items p i h in
    rw (add-one, drop-cons items p i w, get_or_from_slice_get items p i i h) refl

back-more : (before items : List Item) (p : ℕ) (i : Item) → slice_get items p ≡ Some i
    → back (suc p) before items ≡ i ∷ back p before items
unfolding back
back-more before [] zero i h = cc
back-more before [] (suc p) i h = cc
back-more before (x ∷ rest) zero i h = ap (λ y. y ∷ before) (some_same h)
back-more before (x ∷ rest) (suc p) i h = back-more (x ∷ before) rest p i h

pub back-at : (items : List Item) (p : ℕ) (i : Item) → slice_get items p ≡ Some i
    → back (p + 1) [] items ≡ i ∷ back p [] items
back-at items p i h = rw add-one (back-more [] items p i h)

-- an item of the path is at p; after it the path goes on as its test says
pub rest-at : (a : Asking) (q : PacketView) (items : List Item) (p : ℕ) (i : Item) → slice_get items p ≡ Some i
    → rest_of a q items p ≡ place_at q (back p [] items) p i (drop (p + 1) items) ∷ path_from a (packet_past a q i) (hides (a.holds q i) i.depth)
    (back (p + 1) [] items) (p + 1) (drop (p + 1) items)
unfolding rest_of path_from
rest-at a q items p i h = rw (drop-at items p i h, back-at items p i h) refl

pub rest-next : (a : Asking) (q : PacketView) (items : List Item) (p : ℕ) (i : Item) → slice_get items p ≡ Some i → a.holds q i ≡ true
    → rest_of a q items p ≡ place_at q (back p [] items) p i (drop (p + 1) items) ∷ rest_of a (packet_past a q i) items (p + 1)
unfolding rest_of
rest-next a q items p i h e = rest-at a q items p i h ∙ rw e refl

jump-at : (a : Asking) (q : PacketView) (items : List Item) (p d k : ℕ) → k ≡ body_length d (drop p items)
    → path_from a q (Some d) (back p [] items) p (drop p items) ≡ rest_of a q items (p + k)
unfolding rest_of
jump-at a q items p d k e =
    let back_is : back k (back p [] items) (drop p items) ≡ back (p + k) [] items = back-add k p [] items
    ∙ ap (λ j. back j [] items) (add_comm k p) in
    path-jump a q d (back p [] items) p (drop p items) ∙ rw (← e, back_is, drop-drop) refl

pub rest-jump : (a : Asking) (q : PacketView) (items : List Item) (p : ℕ) (i : Item) → slice_get items p ≡ Some i → a.holds q i ≡ false
    → rest_of a q items p ≡ place_at q (back p [] items) p i (drop (p + 1) items) ∷ rest_of a q items (p + 1 + body_length i.depth (drop (p + 1) items))
unfolding rest_of
rest-jump a q items p i h e = rest-at a q items p i h
    ∙ rw (behind-miss a q i e, e) (ap (λ xs. place_at q (back p [] items) p i (drop (p + 1) items) ∷ xs)
    (jump-at a q items (p + 1) i.depth _ refl))
