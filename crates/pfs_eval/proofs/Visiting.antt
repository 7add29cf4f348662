-- What a walk has left behind each visit.
use Rattle.std.proofs.Common.{◌≡◌, ℕ, ◌+◌, ◌<◌, ◌≤◌, max, Bool, true, false, ◌&&◌, ◌||◌, not, cond, List, [], ◌∷◌, length, filter, slice_get, Option, Some, None, MatchOption, refl, ap, sym, ◌∙◌, arith, subst, ◌⊎◌, inl, inr}
use Rattle.std.specs.List.{dedup}
use Rattle.std.proofs.lemmas.Option.{slice_get_within}
use Rattle.std.proofs.lemmas.Bool.{cond-true, cond-false}
use Rattle.pfs_addr_values.specs.Packets.{PacketView}
use Rattle.pfs_conf_values.specs.Depths.{is_rule}
use Rattle.pfs_conf_values.specs.declared.items.Item.{Item}
use Rattle.pfs_eval.specs.Asking.{asking, given_tag, is_lost_at_once, made_by}
use Rattle.pfs_eval.specs.Entries.{Entry}
use Rattle.pfs_eval.specs.Lines.{AreLines, IsLine, is_deciding, is_matched, packet_after, stop_depth_of, walk_after}
use Rattle.pfs_eval.specs.Matching.{filter_holds, filter_of, matches_item}
use Rattle.pfs_eval.specs.Parameters.{failing_at, holds_at}
use Rattle.pfs_eval.specs.Skips.{AreSkipsOf, skip_of}
use Rattle.pfs_eval.specs.Translating.{TakenKeys}
use Rattle.pfs_eval.specs.Verdict.{Asking, PathPlace, packet_past, behind_all, can_decide, cut, ends_at_once, is_hit, is_quick, matches_rule, packet_at_cut, verdict}
use Rattle.pfs_eval.specs.Visits.{holds_there, is_left_with, visit_floor, visits_of}
use Rattle.pfs_eval.specs.declared.comparing.Parameter.{Parameter}
use Rattle.pfs_eval.specs.declared.lines.Line.{Line}
use Rattle.pfs_eval.specs.declared.walks.RuleWalk.{RuleWalk}
use Rattle.pfs_eval.proofs.Paths.{rest_of, rest-at, rest-next, rest-end, some_same}
use Rattle.pfs_eval.proofs.Cuts.{walked, behind-walked, cut-walked, verdict-walked, found_of, found-cons, found-end, walked-less, walked-on, walked-end}
use Rattle.pfs_eval.proofs.LinesMade.{depth_of, item_of}
use Rattle.pfs_eval.proofs.Counting.{behind_none, none_left, skip-counts}
use Rattle.pfs_eval.proofs.Skipping.{MayGoOn, here, matching, skip-on, walked-miss}
use Rattle.pfs_eval.proofs.Translations.{keeps, next_at_end, next_on}

-- ---- what a walk has left

-- the places that a walk visits from where it is, if it skips none, where the packet is q by then
abbrev pub left_of : Asking → List Item → RuleWalk → PacketView → List PathPlace
left_of a items w q = walked a w.stop_depth (rest_of a q items w.place)

-- the walk finds the verdict on the packet p, makes of it what the rules do, and visits what is left of the path before its cut, but for
-- what is left behind together: at most all of it, and at least what holds there
pub record IsLeft (same : PathPlace → PathPlace → Bool) (a : Asking) (items : List Item) (p : PacketView) (w : RuleWalk) (q : PacketView) (count first : ℕ) : Type 0 where
  pub visits : count + length (dedup same (left_of a items w q)) ≡ first + length (dedup same (cut a p items))
  pub verdict : found_of a w.found (left_of a items w q) ≡ verdict a p items
  pub packet : behind_all a q (left_of a items w q) ≡ packet_at_cut a p items
  pub most : count + length (left_of a items w q) ≤ first + length (cut a p items)
  pub least : first + visit_floor a p items ≤ count + matching a (left_of a items w q)

pub left-start : (same : PathPlace → PathPlace → Bool) (a : Asking) (items : List Item) (p : PacketView) (count : ℕ)
    → IsLeft same a items p (record { place = 0; stop_depth = 0; found = None }) p count count
unfolding visit_floor matching
left-start same a items p count = record {
  visits = rw (cut-walked a p items) refl;
  verdict = sym (verdict-walked a p items);
  packet = sym (behind-walked a p items);
  most = rw (cut-walked a p items) (omega arith);
  least = rw (cut-walked a p items) (omega arith);
}

-- what the walk has found, what became of the packet, and how many items were compared
pub record IsFound (tables : List (List Entry)) (taken : TakenKeys) (p : PacketView) (items : List Item) (found : Option ℕ) (q : PacketView) (count first : ℕ) : Type 0 where
  pub verdict : found ≡ verdict (asking items tables taken) p items
  pub packet : q ≡ packet_at_cut (asking items tables taken) p items
  pub visits : count ≡ first + visits_of tables taken p items
  pub most : count ≤ first + length (cut (asking items tables taken) p items)
  pub least : first + visit_floor (asking items tables taken) p items ≤ count

-- the walk is over
left-end : (tables : List (List Entry)) (taken : TakenKeys) (items : List Item) (p : PacketView) (w : RuleWalk) (q : PacketView) (count first : ℕ)
    → left_of (asking items tables taken) items w q ≡ []
    → IsLeft (is_left_with tables) (asking items tables taken) items p w q count first → IsFound tables taken p items w.found q count first
unfolding matching visits_of
left-end tables taken items p w q count first e h =
    let a = asking items tables taken in
    record {
      verdict = sym (found-end a w.found) ∙ sym (ap (found_of a w.found) e) ∙ h.verdict;
      packet = sym (ap (behind_all a q) e) ∙ h.packet;
      visits = omega (arith, ap (λ xs. length (dedup (is_left_with tables) xs)) e, h.visits);
      most = omega (arith, ap (λ (xs : List PathPlace). length xs) e, h.most);
      least = omega (arith, ap (matching a) e, h.least);
    }

matching-cons : (a : Asking) (x : PathPlace) (xs : List PathPlace) → matching a (x ∷ xs) ≤ 1 + matching a xs
unfolding matching
matching-cons a x xs = by (holds_there a x)
  where
    by : (b : Bool) → length (cond b (x ∷ filter (holds_there a) xs) (filter (holds_there a) xs)) ≤ 1 + length (filter (holds_there a) xs)
    by true = omega arith
    by false = omega arith

-- a visit to x, which holds, so that nothing is left behind with it
left-step : (same : PathPlace → PathPlace → Bool) (a : Asking) (items : List Item) (p : PacketView) (w w' : RuleWalk) (q q' : PacketView) (count first : ℕ)
    (x : PathPlace) → ((y : PathPlace) → same y x ≡ false) → left_of a items w q ≡ x ∷ left_of a items w' q'
    → w'.found ≡ cond (is_hit a x) (Some x.no) w.found → q' ≡ packet_past a x.packet x.item
    → IsLeft same a items p w q count first → IsLeft same a items p w' q' (count + 1) first
left-step same a items p w w' q q' count first x alone e f g h =
    let more = left_of a items w' q' in
    record {
      visits =
          let k = ap (λ xs. length (dedup same xs)) e in
          let l = behind_none same x more alone in
          omega (arith, k, l, h.visits);
      verdict = ap (λ o. found_of a o more) f ∙ sym (found-cons a w.found x _) ∙ sym (ap (found_of a w.found) e) ∙ h.verdict;
      packet = ap (λ r. behind_all a r more) g ∙ sym (ap (behind_all a q) e) ∙ h.packet;
      most = omega (arith, ap (λ (xs : List PathPlace). length xs) e, h.most);
      least = let k = ap (matching a) e in let l = matching-cons a x more in omega (arith, k, l, h.least);
    }

-- a visit to an item that does not hold, and a skip
left-skip : (same : PathPlace → PathPlace → Bool) (a : Asking) (items : List Item) (p : PacketView) (w : RuleWalk) (q : PacketView) (r count first : ℕ)
    → MayGoOn a q items w.stop_depth w.place r
    → length (dedup same (left_of a items w q)) ≡ 1 + length (dedup same (walked a w.stop_depth (rest_of a q items r)))
    → IsLeft same a items p w q count first
    → IsLeft same a items p (record { place = r; stop_depth = w.stop_depth; found = w.found }) q (count + 1) first
left-skip same a items p w q r count first k c h = record {
  visits = omega (arith, c, h.visits);
  verdict = sym (k.found w.found) ∙ h.verdict;
  packet = sym k.packet ∙ h.packet;
  most = omega (arith, k.fewer, h.most);
  least = omega (arith, k.matches, h.least);
}

-- ---- one visit

walked-quick : (a : Asking) (stop : ℕ) (x : PathPlace) (rest : List PathPlace) → stop ≤ x.item.depth → is_hit a x ≡ true
    → ends_at_once a x ≡ true → walked a stop (x ∷ rest) ≡ x ∷ []
walked-quick a stop x rest d e f = walked-on a stop x rest d
    ∙ ap (λ t. x ∷ t) (cond-true (is_hit a x) _ _ e ∙ cond-true (ends_at_once a x) _ _ f)

walked-hit : (a : Asking) (stop : ℕ) (x : PathPlace) (rest : List PathPlace) → stop ≤ x.item.depth → is_hit a x ≡ true
    → ends_at_once a x ≡ false → walked a stop (x ∷ rest) ≡ x ∷ walked a (max stop (stop_depth_of x.around)) rest
walked-hit a stop x rest d e f = walked-on a stop x rest d
    ∙ ap (λ t. x ∷ t) (cond-true (is_hit a x) _ _ e ∙ cond-false (ends_at_once a x) _ _ f)

with_holds : (r h c : Bool) → h ≡ true → (r && c) ≡ (r && h && c)
with_holds r h c e = grind arith

-- the rule of a line matches a packet, of which its filter holds, where the item does
matched-is : (tables : List (List Entry)) (taken : TakenKeys) (items : List Item) (n : ℕ) (i : Item) (line : Line) (q : PacketView) → IsLine items n i line
    → matches_item tables q i ≡ true → is_matched line q ≡ matches_rule (asking items tables taken) q i
matched-is tables taken items n i line q l e = rw (l.item, l.asked) (with_holds _ _ _ e)

-- then it becomes what it is behind the item
packet-is : (tables : List (List Entry)) (taken : TakenKeys) (items : List Item) (n : ℕ) (i : Item) (line : Line) (q : PacketView) → IsLine items n i line
    → matches_item tables q i ≡ true → packet_after taken q line None ≡ packet_past (asking items tables taken) q i
packet-is tables taken items n i line q l e =
    ap (λ b. cond b (made_by taken line.given line.item.what q) q) (matched-is tables taken items n i line q l e)
    ∙ ap (λ g. cond (matches_rule (asking items tables taken) q i) (made_by taken g line.item.what q) q) l.given
    ∙ ap (λ (y : Item). cond (matches_rule (asking items tables taken) q i) (made_by taken (given_tag items i.what) y.what q) q) l.item

-- and the rule is found, where the place is a hit
hit-is : (tables : List (List Entry)) (taken : TakenKeys) (items : List Item) (n : ℕ) (i : Item) (line : Line) (q : PacketView) → IsLine items n i line
    → matches_item tables q i ≡ true
    → (is_matched line q && is_deciding taken line q) ≡ is_hit (asking items tables taken) (here q items n i)
hit-is tables taken items n i line q l e =
    ap (λ b. b && is_deciding taken line q) (matched-is tables taken items n i line q l e)
    ∙ ap (λ g. matches_rule (asking items tables taken) q i && (can_decide line.item.what || is_lost_at_once taken g line.item.what q)) l.given
    ∙ ap (λ (y : Item). matches_rule (asking items tables taken) q i && (can_decide y.what || is_lost_at_once taken (given_tag items i.what) y.what q)) l.item

-- a visit to an item that holds keeps what is left: by whether it is a hit, and quick
match_cases : (same : PathPlace → PathPlace → Bool) (tables : List (List Entry)) (taken : TakenKeys) (items : List Item) (p : PacketView) (w : RuleWalk) (q : PacketView)
    (i : Item) (line : Line) (count first : ℕ)
    → ((y : PathPlace) → same y (here q items w.place i) ≡ false) → slice_get items w.place ≡ Some i → IsLine items w.place i line → w.stop_depth ≤ i.depth
    → matches_item tables q i ≡ true → IsLeft same (asking items tables taken) items p w q count first
    → (b c : Bool) → is_hit (asking items tables taken) (here q items w.place i) ≡ b → ends_at_once (asking items tables taken) (here q items w.place i) ≡ c
    → IsLeft same (asking items tables taken) items p (walk_after taken w q line None) (packet_past (asking items tables taken) q i) (count + 1) first
match_cases same tables taken items p w q i line count first alone at l d e h true true f g =
    let a = asking items tables taken in
    let x = here q items w.place i in
    let q' = packet_past a q i in
    let w' : RuleWalk = record { place = line.next; stop_depth = max w.stop_depth line.stop_depth; found = Some w.place } in
    let is : walk_after taken w q line None ≡ w' = cond-true _ _ _ (hit-is tables taken items w.place i line q l e ∙ f) in
    let out : line.next ≡ length items = l.next ∙ next_at_end items w.place i.what (a.holds q i) (a.came q i) (a.lost q i) f g (keeps taken (given_tag items i.what) i.what q) in
    let ends : left_of a items w' q' ≡ [] = ap (walked a w'.stop_depth)
    (rest-end a q' items line.next (omega (arith, out))) ∙ walked-end a w'.stop_depth in
    let next = ap (walked a w.stop_depth) (rest-next a q items w.place i at e)
    ∙ walked-quick a w.stop_depth x _ d f g ∙ ap (λ t. x ∷ t) (sym ends) in
    subst (λ (v : RuleWalk). IsLeft same a items p v q' (count + 1) first) (sym is)
    (left-step same a items p w w' q q' count first x alone next (sym (cond-true _ _ _ f)) refl h)
match_cases same tables taken items p w q i line count first alone at l d e h true false f g =
    let a = asking items tables taken in
    let x = here q items w.place i in
    let q' = packet_past a q i in
    let w' : RuleWalk = record { place = line.next; stop_depth = max w.stop_depth line.stop_depth; found = Some w.place } in
    let is : walk_after taken w q line None ≡ w' = cond-true _ _ _ (hit-is tables taken items w.place i line q l e ∙ f) in
    let on : line.next ≡ w.place + 1 = l.next ∙ next_on items w.place i.what (a.holds q i) (a.came q i) (a.lost q i) f g in
    let next = ap (walked a w.stop_depth) (rest-next a q items w.place i at e)
    ∙ walked-hit a w.stop_depth x _ d f g
    ∙ ap (λ k. x ∷ walked a (max w.stop_depth k) (rest_of a q' items (w.place + 1))) (sym l.stop)
    ∙ ap (λ n. x ∷ walked a (max w.stop_depth line.stop_depth) (rest_of a q' items n)) (sym on) in
    subst (λ (v : RuleWalk). IsLeft same a items p v q' (count + 1) first) (sym is)
    (left-step same a items p w w' q q' count first x alone next (sym (cond-true _ _ _ f)) refl h)
match_cases same tables taken items p w q i line count first alone at l d e h false c f g =
    let a = asking items tables taken in
    let x = here q items w.place i in
    let q' = packet_past a q i in
    let w' : RuleWalk = record { place = w.place + 1; stop_depth = w.stop_depth; found = w.found } in
    let is : walk_after taken w q line None ≡ w' = cond-false _ _ _ (hit-is tables taken items w.place i line q l e ∙ f) in
    let next = ap (walked a w.stop_depth) (rest-next a q items w.place i at e) ∙ walked-miss a w.stop_depth x _ d f in
    subst (λ (v : RuleWalk). IsLeft same a items p v q' (count + 1) first) (sym is)
    (left-step same a items p w w' q q' count first x alone next (sym (cond-false _ _ _ f)) refl h)

further : (taken : TakenKeys) (items : List Item) (w : RuleWalk) (q : PacketView) (i : Item) (line : Line) → IsLine items w.place i line → w.place < length items
    → w.place < (walk_after taken w q line None).place
further taken items w q i line l n = by (is_matched line q && is_deciding taken line q)
  where
    ahead : (c : Bool) → (is_rule i.what && (is_quick i.what || not (can_decide i.what))) ≡ c → w.place < line.next
    ahead true k = let out : line.next ≡ length items = l.next ∙ cond-true _ _ _ k in omega (arith, out)
    ahead false k = let on : line.next ≡ w.place + 1 = l.next ∙ cond-false _ _ _ k in omega (arith, on)

    found : RuleWalk
    found = record { place = line.next; stop_depth = max w.stop_depth line.stop_depth; found = Some w.place }

    past : RuleWalk
    past = record { place = w.place + 1; stop_depth = w.stop_depth; found = w.found }

    by : (b : Bool) → w.place < (cond b found past).place
    by true = ahead _ refl
    by false = omega arith

-- what a visit does: what is left stays true, and the walk goes forward
pub record IsVisit (same : PathPlace → PathPlace → Bool) (a : Asking) (items : List Item) (p : PacketView) (w w' : RuleWalk) (q' : PacketView) (count first : ℕ) : Type 0 where
  pub left : IsLeft same a items p w' q' count first
  pub forward : w.place < w'.place

-- what the comparison of what an item asks with a packet tells
pub record Tells (tables : List (List Entry)) (packet : PacketView) (line : Line) (failed : Option Parameter) : Type 0 where
  pub first : failed ≡ failing_at tables packet (filter_of line.item.what)
  pub answer : MatchOption failed (filter_holds tables packet (filter_of line.item.what) ≡ true) (λ k. holds_at tables packet k (filter_of line.item.what) ≡ false)

matching_item : (tables : List (List Entry)) (packet : PacketView) (i : Item) → filter_holds tables packet (filter_of i.what) ≡ true
    → matches_item tables packet i ≡ true
unfolding matches_item
matching_item tables packet i e = e

visit_by : (tables : List (List Entry)) (taken : TakenKeys) (items : List Item) (p : PacketView) (w : RuleWalk) (q : PacketView) (i : Item) (line : Line)
    (failed : Option Parameter) (count first : ℕ) → slice_get items w.place ≡ Some i → IsLine items w.place i line
    → w.stop_depth ≤ i.depth → AreSkipsOf items w.place line.skips → Tells tables q line failed
    → IsLeft (is_left_with tables) (asking items tables taken) items p w q count first
    → IsVisit (is_left_with tables) (asking items tables taken) items p w (walk_after taken w q line failed) (packet_after taken q line failed) (count + 1) first
visit_by tables taken items p w q i line None count first at l d s t h =
    let a = asking items tables taken in
    let same = is_left_with tables in
    let e = matching_item tables q i (subst (λ (x : Item). filter_holds tables q (filter_of x.what) ≡ true) l.item t.answer) in
    let on = sym (t.first ∙ ap (λ (x : Item). failing_at tables q (filter_of x.what)) l.item) in
    let alone : (y : PathPlace) → same y (here q items w.place i) ≡ false = λ y. none_left tables y (here q items w.place i) on in
    record {
      left = subst (λ r. IsLeft same a items p (walk_after taken w q line None) r (count + 1) first) (sym (packet-is tables taken items w.place i line q l e))
          (match_cases same tables taken items p w q i line count first alone at l d e h (is_hit a (here q items w.place i)) (ends_at_once a (here q items w.place i)) refl refl);
      forward = further taken items w q i line l (slice_get_within items w.place i at);
    }
visit_by tables taken items p w q i line (Some k) count first at l d s t h =
    let a = asking items tables taken in
    let same = is_left_with tables in
    let r = skip_of line.skips k in
    let e = subst (λ (x : Item). holds_at tables q k (filter_of x.what) ≡ false) l.item t.answer in
    let on = skip-on tables taken q k items w.stop_depth w.place r i (s i at k) at d e in
    let counts = skip-counts tables taken q k items w.stop_depth w.place r i (s i at k) at d e (sym (t.first ∙ ap (λ (x : Item). failing_at tables q (filter_of x.what)) l.item)) in
    record { left = left-skip same a items p w q r count first on counts h; forward = on.forward }

pub visit : (tables : List (List Entry)) (taken : TakenKeys) (items : List Item) (p : PacketView) (lines : List Line) (w w' : RuleWalk) (q q' : PacketView)
    (tested line : Line) (failed : Option Parameter) (count count' first : ℕ)
    → AreLines items lines → slice_get lines w.place ≡ Some tested → slice_get lines w.place ≡ Some line
    → w.stop_depth ≤ tested.item.depth → Tells tables q line failed → w' ≡ walk_after taken w q line failed → q' ≡ packet_after taken q line failed
    → count' ≡ count + 1 → IsLeft (is_left_with tables) (asking items tables taken) items p w q count first
    → IsVisit (is_left_with tables) (asking items tables taken) items p w w' q' count' first
visit tables taken items p lines w w' q q' tested line failed count count' first a there at deep t ew eq ec h =
    let i = item_of items lines w.place line a at in
    let d : w.stop_depth ≤ line.item.depth = subst (λ (l : Line). w.stop_depth ≤ l.item.depth) (some_same (sym there ∙ at)) deep in
    rw (ew, eq, ec) (visit_by tables taken items p w q i.item line failed count first i.at i.is (omega (arith, d, depth_of i.is)) (a.skips w.place line (omega arith) at) t h)

-- ---- the end

-- where the walk ends: after the last line, or at an item that is not deep enough
abbrev pub IsEnd : List Line → RuleWalk → Type 0
IsEnd lines w = (length lines ≤ w.place) ⊎ ((line : Line) × (slice_get lines w.place ≡ Some line) × (line.item.depth < w.stop_depth))

nothing_left : (a : Asking) (items : List Item) (lines : List Line) (w : RuleWalk) (q : PacketView) → AreLines items lines → IsEnd lines w
    → left_of a items w q ≡ []
nothing_left a items lines w q are (inl past) = ap (walked a w.stop_depth)
    (rest-end a q items w.place (omega (arith, past, are.long))) ∙ walked-end a w.stop_depth
nothing_left a items lines w q are (inr k) =
    let i = item_of items lines w.place k.0 are k.1 in
    ap (walked a w.stop_depth) (rest-at a q items w.place i.item i.at)
    ∙ walked-less a w.stop_depth _ _ (omega (arith, k.2, depth_of i.is))

pub walk_end : {tables : List (List Entry)} {taken : TakenKeys} {p q : PacketView} {items : List Item} {lines : List Line} {w : RuleWalk} {count first : ℕ}
    → AreLines items lines → IsEnd lines w → IsLeft (is_left_with tables) (asking items tables taken) items p w q count first
    → IsFound tables taken p items w.found q count first
walk_end {tables} {taken} {p} {q} {items} {lines} {w} {count} {first} a ends h =
    left-end tables taken items p w q count first (nothing_left (asking items tables taken) items lines w q a ends) h

-- the lines of a compiled ruleset, as a loop reads them, are those of its items, as clauses see them
pub lines_of : {inside items : List Item} {kept lines : List Line} → AreLines inside kept → inside ≡ items → lines ≡ kept → AreLines items lines
lines_of {inside} {items} {kept} {lines} a e f = subst (λ ls. AreLines items ls) (sym f) (subst (λ is. AreLines is kept) e a)
