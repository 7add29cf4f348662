-- The path before its cut, as what a walk visits.
use Rattle.std.proofs.Common.{◌≡◌, ℕ, ◌+◌, ◌<◌, ◌≤◌, max, Bool, true, false, ◌&&◌, ◌||◌, cond, nat_lt, nat_le, List, [], ◌∷◌, filter, map, Option, Some, None, refl, ap, arith}
use Rattle.std.specs.List.{list_any}
use Rattle.std.proofs.lemmas.Bool.Decides.{nat_tests}
use Rattle.pfs_addr_values.specs.Packets.{PacketView}
use Rattle.pfs_conf_values.specs.declared.items.Item.{Item}
use Rattle.pfs_eval.specs.Verdict.{Asking, PathPlace, behind_all, ends_at_once, is_quick, is_hit, ends_before, cut_from, cut, last_or, packet_at_cut, verdict}
use Rattle.pfs_eval.specs.Lines.{back, stop_depth_of}
use Rattle.pfs_eval.proofs.Paths.{same_cond, rest_of}

-- what a walk visits, where a rule that matched ends it at items less deep than `stop`
unfoldable pub walked : Asking → ℕ → List PathPlace → List PathPlace
walked a stop [] = []
walked a stop (x ∷ rest) =
    cond (nat_lt x.item.depth stop) [] (x ∷ cond (is_hit a x)
    (cond (ends_at_once a x) [] (walked a (max stop (stop_depth_of x.around)) rest)) (walked a stop rest))

stop_step : (q a l : Bool) (d n k : ℕ) → l ≡ nat_lt d k → ((q && nat_le d n) || l) ≡ nat_lt d (cond q (max (n + 1) k) k)
stop_step true a l d n k e = grind (arith, nat_tests)
stop_step false a l d n k e = e

-- one quick anchor at least as deep as d
pub any-stop : (d : ℕ) (around : List Item)
    → list_any (λ (a : Item). (is_quick a.what) && nat_le d a.depth) around ≡ nat_lt d (stop_depth_of around)
any-stop d [] = grind (arith, nat_tests)
any-stop d (a ∷ outer) = stop_step (is_quick a.what) false _ d a.depth (stop_depth_of outer) (any-stop d outer)

abbrev over : Asking → PathPlace → List PathPlace → Bool
over a x seen = list_any (λ (r : PathPlace). is_hit a r && ends_before a x r) seen

or_true : (h q a o : Bool) → h ≡ true → q ≡ true → ((h && (q || a)) || o) ≡ true
or_true h q a o e f = grind arith

or_more : (h q a o : Bool) (d k l : ℕ) → h ≡ true → q ≡ false → a ≡ nat_lt d k → o ≡ nat_lt d l
    → ((h && (q || a)) || o) ≡ nat_lt d (max l k)
or_more h q a o d k l e f x y = grind (arith, nat_tests)

or_same : (h q a o t : Bool) → h ≡ false → o ≡ t → ((h && (q || a)) || o) ≡ t
or_same h q a o t e f = grind arith

cut-over : (a : Asking) (seen rest : List PathPlace) → ((y : PathPlace) → over a y seen ≡ true) → cut_from a seen rest ≡ []
cut-over a seen [] h = refl
cut-over a seen (x ∷ rest) h = rw (h x) refl

cut_behind : (a : Asking) (seen : List PathPlace) (stop : ℕ) (x : PathPlace) (rest : List PathPlace) (h q : Bool) → is_hit a x ≡ h
    → ends_at_once a x ≡ q → ((y : PathPlace) → over a y seen ≡ nat_lt y.item.depth stop)
    → ((seen' : List PathPlace) (stop' : ℕ) → ((y : PathPlace) → over a y seen' ≡ nat_lt y.item.depth stop')
    → cut_from a seen' rest ≡ walked a stop' rest)
    → cut_from a (x ∷ seen) rest ≡ cond h (cond q [] (walked a (max stop (stop_depth_of x.around)) rest))
    (walked a stop rest)
cut_behind a seen stop x rest true true e f k i = cut-over a (x ∷ seen) rest (λ y. or_true (is_hit a x)
    (ends_at_once a x) _ (over a y seen) e f)
cut_behind a seen stop x rest true false e f k i =
    i (x ∷ seen) (max stop (stop_depth_of x.around))
    (λ y. or_more (is_hit a x)
    (ends_at_once a x) _ (over a y seen) y.item.depth (stop_depth_of x.around) stop e f (any-stop y.item.depth x.around) (k y))
cut_behind a seen stop x rest false q e f k i = i (x ∷ seen) stop (λ y. or_same (is_hit a x)
    (ends_at_once a x) _ (over a y seen) _ e (k y))

-- the path before its cut is what the walk visits
pub cut_from-walked : (a : Asking) (seen : List PathPlace) (stop : ℕ) (xs : List PathPlace)
    → ((y : PathPlace) → over a y seen ≡ nat_lt y.item.depth stop) → cut_from a seen xs ≡ walked a stop xs
unfolding walked
cut_from-walked a seen stop [] k = refl
cut_from-walked a seen stop (x ∷ rest) k =
    same_cond (over a x seen) (nat_lt x.item.depth stop) _ _ _ _ (k x) (λ w. refl)
    (λ w. ap (λ ys. x ∷ ys)
    (cut_behind a seen stop x rest (is_hit a x)
    (ends_at_once a x) refl refl k (λ s l r. cut_from-walked a s l rest r)))

none_over : (d : ℕ) → false ≡ nat_lt d 0
none_over d = grind (arith, nat_tests)

pub cut-walked : (a : Asking) (p : PacketView) (items : List Item) → cut a p items ≡ walked a 0 (rest_of a p items 0)
unfolding rest_of back
cut-walked a p items = cut_from-walked a [] 0 _ (λ y. none_over y.item.depth)

-- ---- the verdict, while the walk goes on

unfoldable pub found_of : Asking → Option ℕ → List PathPlace → Option ℕ
found_of a f xs = last_or f (map (λ (x : PathPlace). x.no) (filter (is_hit a) xs))

pub found-cons : (a : Asking) (f : Option ℕ) (x : PathPlace) (xs : List PathPlace)
    → found_of a f (x ∷ xs) ≡ found_of a (cond (is_hit a x) (Some x.no) f) xs
unfolding found_of
found-cons a f x xs = by (is_hit a x)
  where
    by : (b : Bool) → last_or f (map (λ (y : PathPlace). y.no) (cond b (x ∷ filter (is_hit a) xs) (filter (is_hit a) xs)))
        ≡ last_or (cond b (Some x.no) f) (map (λ (y : PathPlace). y.no) (filter (is_hit a) xs))
    by true = refl
    by false = refl

pub verdict-walked : (a : Asking) (p : PacketView) (items : List Item)
    → verdict a p items ≡ found_of a None (walked a 0 (rest_of a p items 0))
unfolding verdict found_of
verdict-walked a p items = rw (cut-walked a p items) refl

pub behind-walked : (a : Asking) (p : PacketView) (items : List Item)
    → packet_at_cut a p items ≡ behind_all a p (walked a 0 (rest_of a p items 0))
unfolding packet_at_cut
behind-walked a p items = rw (cut-walked a p items) refl

-- ---- one step of the walk

pub walked-less : (a : Asking) (stop : ℕ) (x : PathPlace) (rest : List PathPlace) → x.item.depth < stop
    → walked a stop (x ∷ rest) ≡ []
unfolding walked
walked-less a stop x rest h = let e : nat_lt x.item.depth stop ≡ true = grind (arith, nat_tests) in rw e refl

pub walked-on : (a : Asking) (stop : ℕ) (x : PathPlace) (rest : List PathPlace) → stop ≤ x.item.depth
    → walked a stop (x ∷ rest) ≡ x ∷ cond (is_hit a x)
    (cond (ends_at_once a x) [] (walked a (max stop (stop_depth_of x.around)) rest)) (walked a stop rest)
unfolding walked
walked-on a stop x rest h = let e : nat_lt x.item.depth stop ≡ false = grind (arith, nat_tests) in rw e refl

pub walked-end : (a : Asking) (stop : ℕ) → walked a stop [] ≡ []
unfolding walked
walked-end a stop = refl

pub found-end : (a : Asking) (f : Option ℕ) → found_of a f [] ≡ f
unfolding found_of
found-end a f = refl
