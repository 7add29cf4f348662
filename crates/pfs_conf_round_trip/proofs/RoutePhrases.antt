-- The line of `set route` is read again.
use Rattle.std.proofs.Common.{◌≡◌, ◌∙◌, ℕ, suc, Bool, true, false, not, All, List, [], ◌∷◌, ◌++◌, map, Option, None, Some, refl, sym, ap, subst, append_assoc, append-nil}
use Rattle.std.specs.Prelude.{◌||◌, codes, filter}
use Rattle.std.specs.List.{IsDistinct}
use Rattle.std.proofs.lemmas.Bool.{cond-false, cond-true}
use Rattle.std.proofs.lemmas.List.Elements.{All-head, All-tail}
use Rattle.std.proofs.lemmas.Map.Keys.{IsDistinct-head, IsDistinct-tail}
use Rattle.pfs_conf_tokens.specs.declared.keys.Key.{Key}
use Rattle.pfs_conf_tokens.specs.declared.keys.Key.TheVariants as key
use Rattle.pfs_conf_tokens.specs.Grammar.{WordOf, skip_lines}
use Rattle.pfs_conf_tokens.specs.Keys.{ends_line, is_word_key}
use Rattle.pfs_conf_tokens.specs.Lexis.{tokens}
use Rattle.pfs_conf_tokens.specs.Tokens.{Tok, token}
use Rattle.pfs_conf_tokens.specs.Words.{key_of_text}
use Rattle.pfs_conf_tokens.proofs.ShownLaws.{breaks, space_then, word_then}
use Rattle.pfs_conf_tokens.proofs.WordKeys.{key_of_Route, key_of_Set}
use Rattle.pfs_addr_values.specs.Names.{name_of}
use Rattle.pfs_addr.specs.Texts.{prefix_of}
use Rattle.pfs_conf_values.specs.Entries.{same_network}
use Rattle.pfs_conf_values.specs.Routes.{AreRoutes, IsRoute, route_prefixes}
use Rattle.pfs_conf_values.specs.declared.routes.Route.{Route}
use Rattle.pfs_conf_settings.specs.Drafts.{Drafted, has_other_prefix, routes_with, with_route}
use Rattle.pfs_conf_settings.specs.RouteGrammar.{LeavesBy, RouteOf, SetsRoute, interface_named, is_no_interface, lined, plain, sets}
use Rattle.pfs_conf_settings.specs.SettingGrammar.{AmongLines, route, routes}
use Rattle.pfs_conf_show.specs.Pieces.{prefix_text}
use Rattle.pfs_conf_show.specs.Settings.{route_text, routes_text}
use Rattle.pfs_conf_round_trip.proofs.Lists.{Chain, bracketed_more, done, listed_again, next}
use Rattle.pfs_conf_round_trip.proofs.Names.{key_of_word, name_again, name_text}
use Rattle.pfs_conf_round_trip.proofs.Pieces.{at, line_end, mark_between, word_first, word_space}
use Rattle.pfs_conf_round_trip.proofs.PrefixWords.{prefix_again, prefix_word}
use Rattle.pfs_conf_round_trip.proofs.SettingPhrases.{Lined, SettingLine, braces, ended_text, stays}
use Rattle.pfs_conf_round_trip.proofs.TablePhrases.{of_this}

-- ---- a word, after line ends or not

word_no_end : (k : Key) → is_word_key k ≡ true → ends_line k ≡ false
word_no_end key.LineEnd e = absurd cc
word_no_end _ e = refl

lined_word : {A : Type 0} (value : List ℕ → Option A) {ts left : List Tok} {x : A} → WordOf value ts x left → WordOf value (skip_lines ts) x left
lined_word value {ts = ts} {left = left} w = (w.0, stays ts w.0 left w.1 (word_no_end w.0.key w.2) ∙ w.1, w.2, w.3)

-- ---- a route

neither : (a b : Bool) → a ≡ false → b ≡ false → (a || b) ≡ false
neither a b e f = rw (e, f) refl

interface_word : (line : ℕ) (r : Route) (more : List ℕ) → IsRoute r → breaks more ≡ true → WordOf interface_named (at line (32 ∷ (r.interface ++ more))) r.interface (at line more)
interface_word line r more h b =
    let n = r.interface in
    let named : interface_named n ≡ Some n =
    cond-false (is_no_interface n) None (name_of 15 n) (neither _ _ h.not_any h.not_rdomain) ∙ name_again 15 n h.interface in
    (token line (key_of_text n) n, space_then true line (n ++ more) ∙ word_then true line n more (name_text 15 n h.interface) b, key_of_word n, named)

leaves_by : (inside : Bool) {ts left : List Tok} {name : List ℕ} → WordOf interface_named ts name left → LeavesBy inside ts name left
leaves_by true w = lined (lined_word interface_named w)
leaves_by false w = plain w

-- what is behind the prefix of a route
abbrev behind_prefix : Route → List ℕ → List ℕ
behind_prefix r more = 32 ∷ (r.interface ++ more)

route_parts : (r : Route) (more : List ℕ) → route_text r ++ more ≡ prefix_text r.prefix ++ behind_prefix r more
route_parts r more = append_assoc (prefix_text r.prefix) (32 ∷ r.interface) more

prefix_read : (line : ℕ) (r : Route) (more : List ℕ) → IsRoute r → WordOf prefix_of (at line (route_text r ++ more)) r.prefix (at line (behind_prefix r more))
prefix_read line r more h =
    let w = prefix_text r.prefix in (
      token line (key_of_text w) w,
      ap (at line) (route_parts r more) ∙ word_then true line w (behind_prefix r more) (prefix_word r.prefix h.network) refl,
      key_of_word w,
      prefix_again r.prefix h.network,
    )

route_reads : (line : ℕ) (r : Route) (more : List ℕ) → IsRoute r → breaks more ≡ true → RouteOf false (at line (route_text r ++ more)) r (at line more)
route_reads line r more h b = record { mid = at line (behind_prefix r more); prefix = prefix_read line r more h; interface = leaves_by false (interface_word line r more h b) }

lined_route_reads : (line : ℕ) (r : Route) (more : List ℕ) → IsRoute r → breaks more ≡ true → RouteOf true (skip_lines (at line (route_text r ++ more))) r (at line more)
lined_route_reads line r more h b =
    record { mid = at line (behind_prefix r more); prefix = lined_word prefix_of (prefix_read line r more h); interface = leaves_by true (interface_word line r more h b) }

give_route : (d : Drafted) (r : Route) → IsRoute r → (line : ℕ) (more : List ℕ) → Lined line more → AmongLines (SetsRoute true) d (at line (route_text r ++ more)) (with_route r d) (at line more)
give_route d r h line more f = record { mid = at line more; item = sets (lined_route_reads line r more h f.0); behind = sym f.1 }

-- ---- that no prefix occurs twice

-- a route whose prefix none of the others has replaces none
replaces_none : (before rest : List Route) (r : Route) → IsDistinct same_network (route_prefixes (before ++ r ∷ rest)) → filter (has_other_prefix r) before ≡ before
replaces_none [] rest r h = refl
replaces_none (x ∷ before) rest r h =
    let prefixes = route_prefixes (before ++ r ∷ rest) in
    let apart : same_network x.prefix r.prefix ≡ false = of_this (λ (z : Route). z.prefix) (λ y. same_network x.prefix y ≡ false) before rest r (IsDistinct-head same_network x.prefix prefixes h) in
    cond-true (has_other_prefix r x) (x ∷ filter (has_other_prefix r) before) (filter (has_other_prefix r) before) (ap not apart)
    ∙ ap (λ (z : List Route). x ∷ z) (replaces_none before rest r (IsDistinct-tail same_network x.prefix prefixes h))

-- a draft with these routes
abbrev routed : Drafted → List Route → Drafted
routed d rs = record d { routes = rs }

routes_chain : (d : Drafted) (before rest : List Route) → All IsRoute rest → IsDistinct same_network (route_prefixes (before ++ rest))
    → Chain (AmongLines (SetsRoute true)) Lined (map route_text rest) (routed d before) (routed d (before ++ rest))
routes_chain d before [] h distinct =
    let P : List Route → Type 0 = λ z. Chain (AmongLines (SetsRoute true)) Lined [] (routed d before) (routed d z) in
    subst P (sym (append-nil before)) done
routes_chain d before (r ∷ rest) h distinct =
    let joined : (before ++ r ∷ []) ++ rest ≡ before ++ r ∷ rest = append_assoc before (r ∷ []) rest in
    let put : routes_with r before ≡ before ++ r ∷ [] = ap (λ (z : List Route). z ++ r ∷ []) (replaces_none before rest r distinct) in
    let D : List Route → Type 0 = λ z. IsDistinct same_network (route_prefixes z) in
    let P : List Route → Type 0 = λ z. Chain (AmongLines (SetsRoute true)) Lined (map route_text (r ∷ rest)) (routed d before) (routed d z) in
    let Q : List Route → Type 0 = λ z. Chain (AmongLines (SetsRoute true)) Lined (map route_text rest) (routed d z) (routed d ((before ++ r ∷ []) ++ rest)) in
    subst P joined
    (next (give_route (routed d before) r (All-head IsRoute r rest h))
    (subst Q (sym put) (routes_chain d (before ++ r ∷ []) rest (All-tail IsRoute r rest h) (subst D (sym joined) distinct))))

-- ---- the line

-- of one route
pub route_line : (d : Drafted) (r : Route) (line : ℕ) (more : List ℕ) → d.routes ≡ [] → IsRoute r
    → SettingLine d (tokens 0 false line (routes_text (r ∷ []) ++ more)) (routed d (r ∷ [])) (tokens 0 false (suc line) more)
route_line d r line more none h =
    let P : List ℕ → Type 0 = λ z. SettingLine d (tokens 0 false line (codes "set route " ++ z)) (routed d (r ∷ [])) (tokens 0 false (suc line) more) in
    let Q : List Route → Type 0 = λ z. SetsRoute false d (at line (route_text r ++ 10 ∷ more)) (routed d (routes_with r z)) (at line (10 ∷ more)) in
    subst P (sym (append_assoc (route_text r) (codes "\n") more)) (record {
      behind_set = _;
      before_end = at line (10 ∷ more);
      set = word_space false line (codes "set") _ refl key_of_Set;
      setting = route (word_space true line (codes "route") (route_text r ++ 10 ∷ more) refl key_of_Route) (subst Q none (sets (route_reads line r (10 ∷ more) h refl)));
      ended = line_end true line more;
    })

-- of several
pub routes_line : (d : Drafted) (r q : Route) (rest : List Route) (line : ℕ) (more : List ℕ) → d.routes ≡ [] → AreRoutes (r ∷ q ∷ rest)
    → SettingLine d (tokens 0 false line (routes_text (r ∷ q ∷ rest) ++ more)) (routed d (r ∷ q ∷ rest)) (tokens 0 false (suc line) more)
routes_line d r q rest line more none h =
    let x = route_text r in
    let xs = map route_text (q ∷ rest) in
    let e = routed d (r ∷ q ∷ rest) in
    let S : List Route → Type 0 = λ z. Chain (AmongLines (SetsRoute true)) Lined (x ∷ xs) (routed d z) e in
    let chain : Chain (AmongLines (SetsRoute true)) Lined (x ∷ xs) d e = subst S (sym none) (routes_chain d [] (r ∷ q ∷ rest) h.each h.distinct) in
    let P : List ℕ → Type 0 = λ z. SettingLine d (tokens 0 false line (codes "set route" ++ z)) e (tokens 0 false (suc line) more) in
    subst P (sym (ended_text x xs more ∙ bracketed_more (codes " { ") (codes " }") x xs (10 ∷ more))) (record {
      behind_set = _;
      before_end = at line (10 ∷ more);
      set = word_space false line (codes "set") _ refl key_of_Set;
      setting = routes (word_first true line (codes "route") _ refl refl key_of_Route) (mark_between line 123 _ refl)
          (listed_again (AmongLines (SetsRoute true)) Lined key.CloseBrace (codes " { ") (codes " }") (braces (AmongLines (SetsRoute true))) x xs d e line (10 ∷ more) chain);
      ended = line_end true line more;
    })
