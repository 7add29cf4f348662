-- The canonical text of a configuration reads as that configuration.
use Rattle.std.proofs.Common.{◌≡◌, ◌∙◌, ◌≤◌, ◌<◌, ◌+◌, ℕ, suc, Bool, true, false, List, [], ◌∷◌, ◌++◌, length, map, Option, Some, None, refl, sym, ap, subst, arith}
use Rattle.std.specs.Prelude.{◌||◌, not, nat_lt, position}
use Rattle.std.specs.List.{flat_map, list_any, position_or_len}
use Rattle.std.specs.Option.{option_map}
use Rattle.std.proofs.lemmas.Bool.{cond-true, cond-false, le-ltb, lt-ltb}
use Rattle.std.proofs.lemmas.Bool.Decides.{nat_tests}
use Rattle.std.proofs.lemmas.List.Elements.{All-head}
use Rattle.pfs_conf_tokens.specs.declared.refusals.LoadRule.TheVariants as load_rule
use Rattle.pfs_conf_tokens.specs.Lexis.{tokens, tokens_of}
use Rattle.pfs_conf_tokens.specs.Tokens.{Tok}
use Rattle.pfs_conf_values.specs.Configs.{Conf, conf_of, entries_in, is_adaptive, needs_profile, overloads_const, timeout_of}
use Rattle.pfs_conf_values.specs.Invariants.{IsConfig}
use Rattle.pfs_conf_settings.specs.Drafts.{Drafted, const_overload, empty_draft, conf_of_draft, has_broken_pair, has_too_many_entries, has_too_many_tables, has_unprofiled_cookies, has_unprofiled_routes, unprofiled}
use Rattle.pfs_conf_values.specs.Timeouts.{resolved_timeouts, timeout_names}
use Rattle.pfs_conf_values.specs.Settled.{settled_items}
use Rattle.pfs_conf_values.specs.Routes.{AreRoutes, IsRoute}
use Rattle.pfs_conf_values.specs.Syncookies.{AreSyncookies}
use Rattle.pfs_conf_values.specs.declared.items.Item.{Item}
use Rattle.pfs_conf_values.specs.declared.limits.Limits.{Limits}
use Rattle.pfs_conf_values.specs.declared.profiles.Profile.{Profile}
use Rattle.pfs_conf_values.specs.declared.profiles.Profile.TheVariants as profile
use Rattle.pfs_conf_values.specs.declared.routes.Route.{Route}
use Rattle.pfs_conf_values.specs.declared.syncookies.Syncookies.{Syncookies}
use Rattle.pfs_conf_values.specs.declared.syncookies.Syncookies.TheVariants as variant
use Rattle.pfs_conf_values.specs.declared.timeouts.TimeoutName.{TimeoutName}
use Rattle.pfs_conf_values.specs.declared.timeouts.TimeoutName.TheVariants as name
use Rattle.pfs_conf_settings.specs.Settings.{greatest_value, least_value}
use Rattle.pfs_conf.specs.Grammar.{StatementOf, cookies, set}
use Rattle.pfs_conf.specs.Reads.{Reads}
use Rattle.pfs_conf.specs.Statements.{at_line_0, cookies_break, first_reported, line_of, nothing, text_breaks}
use Rattle.pfs_conf.specs.declared.progress.Progress.{Progress}
use Rattle.pfs_conf.proofs.LoadLaws.{one_text}
use Rattle.pfs_conf_show.specs.Settings.{profile_text, routes_text, syncookies_text, timeouts_text}
use Rattle.pfs_conf_show.specs.Tables.{table_text}
use Rattle.pfs_conf_show.specs.Texts.{items_text, text_of}
use Rattle.pfs_conf_round_trip.specs.Again.{CanBeSaid}
use Rattle.pfs_conf_round_trip.proofs.Numbering.{AreTablesNumbered, drafted}
use Rattle.pfs_conf_round_trip.proofs.RoutePhrases.{route_line, routes_line}
use Rattle.pfs_conf_round_trip.proofs.SettingPhrases.{AreGiven, SettingLine, limits_line, profile_line, set_all, timeouts_line, value_in}
use Rattle.pfs_conf_round_trip.proofs.SyncookiePhrases.{adaptive_line, always_line}
use Rattle.pfs_conf_round_trip.proofs.Statements.{EndsSaid, EndsFrom, items_read, reached, stated, tables_read}

-- ---- timeouts

-- a pair of adaptive values is in order
in_order : (start end : ℕ) → is_adaptive start end ≡ true → start ≤ end
in_order start end h = grind (arith, nat_tests)

least_given : (conf : Conf) → IsConfig conf → (n : TimeoutName) → least_value n ≤ value_in conf.timeouts n
least_given conf h name.Interval = h.interval
least_given conf h _ = omega arith

greatest_given : (conf : Conf) → IsConfig conf → timeout_of conf name.AdaptiveEnd ≤ 4294967295 → (n : TimeoutName) → value_in conf.timeouts n ≤ greatest_value n
greatest_given conf h end name.AdaptiveStart =
    let order = in_order (timeout_of conf name.AdaptiveStart) (timeout_of conf name.AdaptiveEnd) h.adaptive in
    omega (arith, order, end)
greatest_given conf h end name.AdaptiveEnd = end
greatest_given conf h end name.TcpFirst = h.seconds name.TcpFirst refl
greatest_given conf h end name.TcpOpening = h.seconds name.TcpOpening refl
greatest_given conf h end name.TcpEstablished = h.seconds name.TcpEstablished refl
greatest_given conf h end name.TcpClosing = h.seconds name.TcpClosing refl
greatest_given conf h end name.TcpFinwait = h.seconds name.TcpFinwait refl
greatest_given conf h end name.TcpClosed = h.seconds name.TcpClosed refl
greatest_given conf h end name.UdpFirst = h.seconds name.UdpFirst refl
greatest_given conf h end name.UdpSingle = h.seconds name.UdpSingle refl
greatest_given conf h end name.UdpMultiple = h.seconds name.UdpMultiple refl
greatest_given conf h end name.OtherFirst = h.seconds name.OtherFirst refl
greatest_given conf h end name.OtherSingle = h.seconds name.OtherSingle refl
greatest_given conf h end name.OtherMultiple = h.seconds name.OtherMultiple refl
greatest_given conf h end name.SrcTrack = h.seconds name.SrcTrack refl
greatest_given conf h end name.Interval = h.seconds name.Interval refl

are_given : (conf : Conf) → IsConfig conf → timeout_of conf name.AdaptiveEnd ≤ 4294967295 → AreGiven (value_in conf.timeouts)
are_given conf h end = record { low = least_given conf h; high = greatest_given conf h end }

-- all timeouts are set
abbrev all_set : List ℕ → List (Option ℕ)
all_set ts = map (λ (n : TimeoutName). Some (value_in ts n)) timeout_names

-- what is set stays
timeouts_again : (p : Profile) (states : ℕ) (ts : List ℕ) → length ts ≡ 16 → resolved_timeouts p states (all_set ts) ≡ ts
timeouts_again p states (t0 ∷ t1 ∷ t2 ∷ t3 ∷ t4 ∷ t5 ∷ t6 ∷ t7 ∷ t8 ∷ t9 ∷ t10 ∷ t11 ∷ t12 ∷ t13 ∷ t14 ∷ t15 ∷ []) h = refl
timeouts_again p states _ h = absurd (omega arith)

-- ---- the load rules of the text as a whole

none_found : (p : Item → Bool) (items : List Item) → list_any p items ≡ false → position_or_len p items ≡ length items
none_found p [] h = refl
none_found p (i ∷ items) h = go (p i) refl (none_found p items)
  where
    go : (b : Bool) → p i ≡ b → (list_any p items ≡ false → position_or_len p items ≡ length items) → position_or_len p (i ∷ items) ≡ length (i ∷ items)
    go true e rest = absurd (let some = sym (ap (λ (b : Bool). b || list_any p items) e) ∙ h in cc)
    go false e rest =
        let at = rest (sym (ap (λ (b : Bool). b || list_any p items) e) ∙ h) in
        cond-true (not (p i)) (1 + position_or_len p items) 0 (ap not e) ∙ omega (arith, at)

no_position : (p : Item → Bool) (items : List Item) → list_any p items ≡ false → position p items ≡ None
no_position p items h =
    let at = none_found p items h in
    cond-false (nat_lt (position_or_len p items) (length items)) _ _ (le-ltb (position_or_len p items) (length items) (omega (arith, at)))

none_of_texts : (p : Progress) (v : Option ℕ) (a b u r : Bool) (s : Option ℕ) (c : Bool) → v ≡ None → a ≡ false → b ≡ false → u ≡ false → r ≡ false → s ≡ None → c ≡ false
    → first_reported (
    (load_rule.ConstOverload, option_map (line_of p) v) ∷ (load_rule.AdaptivePair, at_line_0 a) ∷ (load_rule.TooManyTables, at_line_0 b)
    ∷ (load_rule.NeedsProfile, at_line_0 u) ∷ (load_rule.NeedsProfile, at_line_0 r) ∷ (load_rule.NeedsProfile, option_map (line_of p) s) ∷ (load_rule.TooManyEntries, at_line_0 c) ∷ []
    ) ≡ None
none_of_texts p v a b u r s c h i j g m k l = rw (h, i, j, g, m, k, l) refl

text_kept : (p : Progress) (d : Drafted) → p.draft ≡ d → const_overload d ≡ None → has_broken_pair d ≡ false → has_too_many_tables d ≡ false → has_unprofiled_cookies d ≡ false → has_unprofiled_routes d ≡ false → unprofiled d ≡ None
    → has_too_many_entries d ≡ false → text_breaks p ≡ None
text_kept p d e overload pair tables cookied routed profiled entries =
    none_of_texts p _ _ _ _ _ _ _ (ap const_overload e ∙ overload) (ap has_broken_pair e ∙ pair) (ap has_too_many_tables e ∙ tables) (ap has_unprofiled_cookies e ∙ cookied) (ap has_unprofiled_routes e ∙ routed) (ap unprofiled e ∙ profiled)
    (ap has_too_many_entries e ∙ entries)

-- ---- the text

-- what the text says
abbrev whole : Conf → Drafted
whole conf = drafted conf.profile conf.syncookies conf.routes conf.limits (all_set conf.timeouts) conf.tables conf.items

-- what it says is the configuration
whole_again : (conf : Conf) → IsConfig conf → conf_of_draft (whole conf) ≡ conf
whole_again conf h =
    ap (λ (ts : List ℕ). conf_of conf.profile conf.syncookies conf.routes conf.limits ts conf.tables (settled_items conf.profile conf.items)) (timeouts_again conf.profile conf.limits.states conf.timeouts h.size)
    ∙ ap (conf_of conf.profile conf.syncookies conf.routes conf.limits conf.timeouts conf.tables) h.settled

setting_read : (d e : Drafted) (lines : List ℕ) (ts left : List Tok) → SettingLine d ts e left → StatementOf (reached d 0 lines) ts (reached e 0 lines) left
setting_read d e lines ts left s = set refl s.set s.setting s.ended

-- after `set limit`
abbrev limited : Conf → Drafted
limited conf = record empty_draft { limits = conf.limits }

settings_set : (conf : Conf) → set_all timeout_names (value_in conf.timeouts) (limited conf) ≡ drafted profile.Own variant.Never [] conf.limits (all_set conf.timeouts) [] []
settings_set conf = refl

-- the profile is set, if the text has one
profile_reads : (whole : Drafted) (p : Profile) (limits : Limits) (timeouts : List (Option ℕ)) (more : List ℕ) → EndsFrom whole (drafted p variant.Never [] limits timeouts [] []) 0 more
    → EndsFrom whole (drafted profile.Own variant.Never [] limits timeouts [] []) 0 (profile_text p ++ more)
profile_reads whole profile.Own limits timeouts more e line lines = e line lines
profile_reads whole profile.OpenBsd74 limits timeouts more e line lines =
    stated (setting_read (drafted profile.Own variant.Never [] limits timeouts [] []) (drafted profile.OpenBsd74 variant.Never [] limits timeouts [] []) lines _ _ (profile_line (drafted profile.Own variant.Never [] limits timeouts [] []) line more))
    (e (suc line) lines)

-- shares that break no load rule
shares_kept : (start end : ℕ) → end < start → cookies_break (variant.Adaptive start end) ≡ None
shares_kept start end h = let below = lt-ltb end start h in rw below refl

-- SYN cookies are set, if the text has any
cookies_read : (whole : Drafted) (p : Profile) (s : Syncookies) (limits : Limits) (timeouts : List (Option ℕ)) (more : List ℕ) → AreSyncookies s
    → EndsFrom whole (drafted p s [] limits timeouts [] []) 0 more → EndsFrom whole (drafted p variant.Never [] limits timeouts [] []) 0 (syncookies_text s ++ more)
cookies_read whole p variant.Never limits timeouts more h e line lines = e line lines
cookies_read whole p variant.Always limits timeouts more h e line lines = stated (cookies variant.Always refl (always_line line more) refl) (e (suc line) lines)
cookies_read whole p (variant.Adaptive start end) limits timeouts more h e line lines =
    stated (cookies (variant.Adaptive start end) refl (adaptive_line line start end more h.1 (omega (arith, h.0, h.1))) (shares_kept start end h.0)) (e (suc line) lines)

-- routes are set, if the text has any
routes_read : (whole : Drafted) (p : Profile) (s : Syncookies) (routes : List Route) (limits : Limits) (timeouts : List (Option ℕ)) (more : List ℕ) → AreRoutes routes
    → EndsFrom whole (drafted p s routes limits timeouts [] []) 0 more → EndsFrom whole (drafted p s [] limits timeouts [] []) 0 (routes_text routes ++ more)
routes_read whole p s [] limits timeouts more h e line lines = e line lines
routes_read whole p s (r ∷ []) limits timeouts more h e line lines =
    let d = drafted p s [] limits timeouts [] [] in
    stated (setting_read d (drafted p s (r ∷ []) limits timeouts [] []) lines _ _ (route_line d r line more refl (All-head IsRoute r [] h.each))) (e (suc line) lines)
routes_read whole p s (r ∷ q ∷ routes) limits timeouts more h e line lines =
    let d = drafted p s [] limits timeouts [] [] in
    stated (setting_read d (drafted p s (r ∷ q ∷ routes) limits timeouts [] []) lines _ _ (routes_line d r q routes line more refl h)) (e (suc line) lines)

-- its tables have numbers
numbered_tables : (conf : Conf) → IsConfig conf → AreTablesNumbered conf.tables
numbered_tables conf h = let most = h.limits.tables in let few = h.few_tables in record { names = h.names; few = omega arith }

text_ends : (conf : Conf) → IsConfig conf → timeout_of conf name.AdaptiveEnd ≤ 4294967295 → EndsSaid (whole conf) nothing (tokens_of (text_of conf))
text_ends conf h end =
    let items = items_text conf.tables 0 conf.items in
    let tables = flat_map table_text conf.tables ++ items in
    let ways = routes_text conf.routes ++ tables in
    let settings = syncookies_text conf.syncookies ++ ways in
    let behind = profile_text conf.profile ++ settings in
    let timeouts = timeouts_text conf.timeouts ++ behind in
    let d = drafted profile.Own variant.Never [] conf.limits (all_set conf.timeouts) [] [] in
    let read : EndsFrom (whole conf) d 0 behind =
    profile_reads (whole conf) conf.profile conf.limits (all_set conf.timeouts) settings
    (cookies_read (whole conf) conf.profile conf.syncookies conf.limits (all_set conf.timeouts) ways h.syncookies
    (routes_read (whole conf) conf.profile conf.syncookies conf.routes conf.limits (all_set conf.timeouts) tables h.routes
    (tables_read (whole conf) conf.profile conf.syncookies conf.routes conf.limits (all_set conf.timeouts) [] conf.tables items h.tables h.names
    (items_read conf.profile conf.syncookies conf.routes conf.limits (all_set conf.timeouts) conf.tables [] conf.items 0 h.tables (numbered_tables conf h) h.items h.few_items h.preorder h.anchors)))) in
    let E : Drafted → Type 0 = λ z. EndsSaid (whole conf) (reached z 0 []) (tokens 0 false 3 behind) in
    stated (setting_read empty_draft (limited conf) [] _ _ (limits_line empty_draft conf.limits 1 timeouts h.limits))
    (stated (setting_read (limited conf) (set_all timeout_names (value_in conf.timeouts) (limited conf)) [] _ _ (timeouts_line (limited conf) conf.timeouts 2 behind (are_given conf h end)))
    (subst E (sym (settings_set conf)) (read 3 [])))

-- the text of a configuration reads as it
pub text_again : (conf : Conf) → IsConfig conf → CanBeSaid conf → Reads (text_of conf) conf
text_again conf h said =
    let e = text_ends conf h said.end in
    record {
      short = said.short;
      whole = record {
        said = e.said;
        left = e.left;
        statements = e.statements;
        all_closed = e.all_closed;
        keeps = text_kept e.said (whole conf) e.says (no_position (overloads_const conf.tables) conf.items h.overloads) (ap not h.adaptive)
            (le-ltb conf.limits.tables (length conf.tables) h.few_tables) h.cookies_profiled h.routes_profiled (no_position (needs_profile conf.profile) conf.items h.profiled) (le-ltb conf.limits.table_entries (entries_in conf.tables) h.few_entries);
        says = ap conf_of_draft e.says ∙ whole_again conf h;
      };
    }

-- and as no other
pub text_alone : (conf : Conf) → IsConfig conf → (other : Conf) → CanBeSaid conf → Reads (text_of conf) other → other ≡ conf
text_alone conf h other said reads = one_text other conf reads.whole (text_again conf h said).whole
