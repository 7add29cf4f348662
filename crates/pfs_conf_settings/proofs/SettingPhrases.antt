-- What is read after `set` is a setting of the grammar, and these are read.
use Rattle.std.proofs.Common.{◌≡◌, ℕ, Bool, true, false, List, [], ◌∷◌, Option, Some, None, Ok, refl, sym, ap, subst}
use Rattle.pfs_conf_tokens.specs.declared.keys.Key.{Key}
use Rattle.pfs_conf_tokens.specs.declared.keys.Key.TheVariants as key
use Rattle.pfs_conf_tokens.specs.Tokens.{Tok, head}
use Rattle.pfs_conf_tokens.specs.Reading.{rest, closes_braces, stay, act, chain, done, skipping}
use Rattle.pfs_conf_tokens.specs.Keys.{ends_line, is_word_key}
use Rattle.pfs_conf_tokens.specs.Grammar.{Word, ListOf, skip_lines}
use Rattle.pfs_conf_tokens.proofs.Laws.{ok_parts, chain_ok, not_refused}
use Rattle.pfs_conf_tokens.proofs.ReaderLaws.{closes_braces_key, line_end_key, word_head, word_is, number_is, number_reads, list_is, list_reads, ReadsList, no_comma}
use Rattle.pfs_conf_tokens.proofs.LineLaws.{skip_stays}
use Rattle.pfs_conf_values.specs.declared.limits.LimitName.TheVariants as limit_name
use Rattle.pfs_conf_values.specs.declared.profiles.Profile.TheVariants as profile_name
use Rattle.pfs_conf_values.specs.declared.timeouts.TimeoutName.{TimeoutName}
use Rattle.pfs_conf_settings.specs.declared.settings.Setting.{Setting}
use Rattle.pfs_conf_settings.specs.declared.settings.Setting.TheVariants as setting
use Rattle.pfs_conf_settings.specs.Drafts.{Drafted, with_limit, with_profile, with_timeout}
use Rattle.pfs_conf_settings.specs.Settings.{timeout_named, bounded_at, limit_by, limit_at, least_value, greatest_value, timeout_statement, time_by, time_at, setting_at, lined_setting_at, some_settings_by, some_settings_at, profile_by, profile_at, settings_by, settings_at}
use Rattle.pfs_conf_settings.specs.SettingGrammar.{ValueOf, plain, lined, LimitOf, states, src_nodes, tables, table_entries, frags, TimeOf, kept, frag, tsdiff, icmp_first, icmp_error, AmongLines, SettingOf, profile, limit, limits, timeout, timeouts, route, routes}
use Rattle.pfs_conf_settings.specs.RouteGrammar.{SetsRoute}
use Rattle.pfs_conf_settings.specs.Routes.{routed_at}
use Rattle.pfs_conf_settings.proofs.RoutePhrases.{routed_begins, routed_is, routed_reads}
use Rattle.pfs_conf_settings.proofs.SettingLaws.{lined_shrinks}
use Rattle.pfs_conf_settings.proofs.TimeoutKeys.{placed, named}

-- ---- is

value_is : (inside : Bool) (low high : ℕ) (ts : List Tok) (n : ℕ) (left : List Tok) → bounded_at inside low high ts ≡ Ok (n, left) → ValueOf low high inside ts n left
unfolding bounded_at
value_is true low high ts n left e = lined (number_is low high (skip_lines ts) n left e)
value_is false low high ts n left e = plain (number_is low high ts n left e)

-- a pair is read as its value and what is done with it
pair_is : (inside : Bool) (low high : ℕ) (f : ℕ → Drafted) (ts : List Tok) (e : Drafted) (left : List Tok) → chain (bounded_at inside low high) (λ n. done (f n)) ts ≡ Ok (e, left)
    → (n : ℕ) × ValueOf low high inside ts n left × (f n ≡ e)
pair_is inside low high f ts e left h =
    let c = chain_ok (bounded_at inside low high) (λ n. done (f n)) ts e left h in
    let q = ok_parts (f c.0) e c.1 left c.3 in
    (c.0, subst (λ (z : List Tok). ValueOf low high inside ts c.0 z) q.1 (value_is inside low high ts c.0 c.1 c.2), q.0)

pub limit_is : (inside : Bool) (d : Drafted) (ts : List Tok) (e : Drafted) (left : List Tok) → limit_at inside d ts ≡ Ok (e, left) → LimitOf inside d ts e left
unfolding limit_at
limit_is inside d ts e left h = by_key (head ts).key refl h
  where
    by_key : (k : Key) → (head ts).key ≡ k → act (limit_by inside d k) ts ≡ Ok (e, left) → LimitOf inside d ts e left
    by_key key.States g q = let p = pair_is inside 1 4294967295 (λ n. with_limit limit_name.States n d) (rest ts) e left q in subst (λ (z : Drafted). LimitOf inside d ts z left) p.2 (states (word_is key.States ts g (λ r. cc)) p.1)
    by_key key.SrcNodes g q = let p = pair_is inside 1 4294967295 (λ n. with_limit limit_name.SrcNodes n d) (rest ts) e left q in subst (λ (z : Drafted). LimitOf inside d ts z left) p.2 (src_nodes (word_is key.SrcNodes ts g (λ r. cc)) p.1)
    by_key key.Tables g q = let p = pair_is inside 1 4294967295 (λ n. with_limit limit_name.Tables n d) (rest ts) e left q in subst (λ (z : Drafted). LimitOf inside d ts z left) p.2 (tables (word_is key.Tables ts g (λ r. cc)) p.1)
    by_key key.TableEntries g q = let p = pair_is inside 1 4294967295 (λ n. with_limit limit_name.TableEntries n d) (rest ts) e left q in subst (λ (z : Drafted). LimitOf inside d ts z left) p.2 (table_entries (word_is key.TableEntries ts g (λ r. cc)) p.1)
    by_key key.Frags g q = let p = pair_is inside 1 4294967295 (λ n. d) (rest ts) e left q in subst (λ (z : Drafted). LimitOf inside d ts z left) p.2 (frags (word_is key.Frags ts g (λ r. cc)) p.1)
    by_key _ g q = absurd (not_refused _ _ _ q)

timed_is : (inside : Bool) (d : Drafted) (ts : List Tok) (e : Drafted) (left : List Tok) (o : Option TimeoutName) → timeout_named (head ts).key ≡ o → act (timeout_statement inside d o) ts ≡ Ok (e, left) → TimeOf inside d ts e left
timed_is inside d ts e left None g q = absurd cc
timed_is inside d [] e left (Some name) g q = absurd cc
timed_is inside d (t ∷ ts) e left (Some name) g q =
    let p = pair_is inside (least_value name) (greatest_value name) (λ n. with_timeout name n d) ts e left q in
    subst (λ (z : Drafted). TimeOf inside d (t ∷ ts) z left) p.2 (kept name (placed t.key name g) p.1)

pub time_is : (inside : Bool) (d : Drafted) (ts : List Tok) (e : Drafted) (left : List Tok) → time_at inside d ts ≡ Ok (e, left) → TimeOf inside d ts e left
unfolding time_at
time_is inside d ts e left h = by_key (head ts).key refl h
  where
    by_key : (k : Key) → (head ts).key ≡ k → act (time_by inside d k) ts ≡ Ok (e, left) → TimeOf inside d ts e left
    by_key key.Frag g q = let p = pair_is inside 0 2147483647 (λ n. d) (rest ts) e left q in subst (λ (z : Drafted). TimeOf inside d ts z left) p.2 (frag (word_is key.Frag ts g (λ r. cc)) p.1)
    by_key key.TcpTsdiff g q = let p = pair_is inside 0 2147483647 (λ n. d) (rest ts) e left q in subst (λ (z : Drafted). TimeOf inside d ts z left) p.2 (tsdiff (word_is key.TcpTsdiff ts g (λ r. cc)) p.1)
    by_key key.IcmpFirst g q = let p = pair_is inside 0 2147483647 (λ n. d) (rest ts) e left q in subst (λ (z : Drafted). TimeOf inside d ts z left) p.2 (icmp_first (word_is key.IcmpFirst ts g (λ r. cc)) p.1)
    by_key key.IcmpError g q = let p = pair_is inside 0 2147483647 (λ n. d) (rest ts) e left q in subst (λ (z : Drafted). TimeOf inside d ts z left) p.2 (icmp_error (word_is key.IcmpError ts g (λ r. cc)) p.1)
    by_key k g q = timed_is inside d ts e left (timeout_named k) (ap timeout_named g) q

-- the word of a setting, and the setting of the grammar
abbrev word_of : Setting → Key
word_of setting.Limit = key.Limit
word_of setting.Timeout = key.Timeout
word_of setting.Route = key.Route

abbrev OfSetting : Setting → Bool → Drafted → List Tok → Drafted → List Tok → Type 0
OfSetting setting.Limit inside = LimitOf inside
OfSetting setting.Timeout inside = TimeOf inside
OfSetting setting.Route inside = SetsRoute inside

setting_is : (s : Setting) (inside : Bool) (d : Drafted) (ts : List Tok) (e : Drafted) (left : List Tok) → setting_at s inside d ts ≡ Ok (e, left) → OfSetting s inside d ts e left
setting_is setting.Limit inside d ts e left h = limit_is inside d ts e left h
setting_is setting.Timeout inside d ts e left h = time_is inside d ts e left h
setting_is setting.Route inside d ts e left h = routed_is inside d ts e left h

lined_is : (s : Setting) (d : Drafted) (ts : List Tok) (e : Drafted) (left : List Tok) → lined_setting_at s d ts ≡ Ok (e, left) → AmongLines (OfSetting s true) d ts e left
unfolding lined_setting_at
lined_is s d ts e left h =
    let c = chain_ok (setting_at s true d) (λ x. skipping (done x)) (skip_lines ts) e left h in
    let q = ok_parts c.0 e (skip_lines c.1) left c.3 in
    record { mid = c.1; item = subst (λ (z : Drafted). OfSetting s true d (skip_lines ts) z c.1) q.0 (setting_is s true d (skip_lines ts) c.0 c.1 c.2); behind = sym q.1 }

one_is : (s : Setting) {d e : Drafted} {ts a left : List Tok} → Word (word_of s) ts a → OfSetting s false d a e left → SettingOf d ts e left
one_is setting.Limit w v = limit w v
one_is setting.Timeout w v = timeout w v
one_is setting.Route w v = route w v

list_of : (s : Setting) {d e : Drafted} {ts a b left : List Tok} → Word (word_of s) ts a → Word key.OpenBrace a b → ListOf key.CloseBrace (AmongLines (OfSetting s true)) d b e left → SettingOf d ts e left
list_of setting.Limit w o v = limits w o v
list_of setting.Timeout w o v = timeouts w o v
list_of setting.Route w o v = routes w o v

some_settings_are : (s : Setting) (d : Drafted) (ts a : List Tok) (e : Drafted) (left : List Tok) → Word (word_of s) ts a → some_settings_at s d a ≡ Ok (e, left) → SettingOf d ts e left
unfolding some_settings_at
some_settings_are s d ts a e left w h = by_key (head a).key refl h
  where
    by_key : (k : Key) → (head a).key ≡ k → act (some_settings_by s d k) a ≡ Ok (e, left) → SettingOf d ts e left
    by_key key.OpenBrace g q = list_of s w (word_is key.OpenBrace a g (λ r. cc)) (list_is key.CloseBrace closes_braces (AmongLines (OfSetting s true)) (lined_setting_at s) closes_braces_key (λ r. cc) (lined_is s) d (rest a) e left q)
    by_key _ g q = one_is s w (setting_is s false d a e left q)

profile_is : (d : Drafted) (ts a : List Tok) (e : Drafted) (left : List Tok) → Word key.Profile ts a → profile_at d a ≡ Ok (e, left) → SettingOf d ts e left
unfolding profile_at
profile_is d ts a e left w h = by_key (head a).key refl h
  where
    by_key : (k : Key) → (head a).key ≡ k → act (profile_by d k) a ≡ Ok (e, left) → SettingOf d ts e left
    by_key key.OpenBsd74 g q =
        let r = ok_parts (with_profile profile_name.OpenBsd74 d) e (rest a) left q in
        subst (λ (z : Drafted). SettingOf d ts z left) r.0 (profile w (subst (λ (z : List Tok). Word key.OpenBsd74 a z) r.1 (word_is key.OpenBsd74 a g (λ r. cc))))
    by_key _ g q = absurd (not_refused _ _ _ q)

pub settings_are : (d : Drafted) (ts : List Tok) (e : Drafted) (left : List Tok) → settings_at d ts ≡ Ok (e, left) → SettingOf d ts e left
unfolding settings_at
settings_are d ts e left h = by_key (head ts).key refl h
  where
    by_key : (k : Key) → (head ts).key ≡ k → act (settings_by d k) ts ≡ Ok (e, left) → SettingOf d ts e left
    by_key key.Profile g q = profile_is d ts (rest ts) e left (word_is key.Profile ts g (λ r. cc)) q
    by_key key.Limit g q = some_settings_are setting.Limit d ts (rest ts) e left (word_is key.Limit ts g (λ r. cc)) q
    by_key key.Timeout g q = some_settings_are setting.Timeout d ts (rest ts) e left (word_is key.Timeout ts g (λ r. cc)) q
    by_key key.Route g q = some_settings_are setting.Route d ts (rest ts) e left (word_is key.Route ts g (λ r. cc)) q
    by_key _ g q = absurd (not_refused _ _ _ q)

-- ---- reads

value_reads : {inside : Bool} {low high n : ℕ} {ts left : List Tok} → ValueOf low high inside ts n left → bounded_at inside low high ts ≡ Ok (n, left)
unfolding bounded_at
value_reads {low = low} {high = high} (plain w) = number_reads low high w
value_reads {low = low} {high = high} (lined w) = number_reads low high w

pub limit_reads : {inside : Bool} {d e : Drafted} {ts left : List Tok} → LimitOf inside d ts e left → limit_at inside d ts ≡ Ok (e, left)
unfolding limit_at
limit_reads (states w v) = let h = word_head w in rw (h.0, h.1, value_reads v) refl
limit_reads (src_nodes w v) = let h = word_head w in rw (h.0, h.1, value_reads v) refl
limit_reads (tables w v) = let h = word_head w in rw (h.0, h.1, value_reads v) refl
limit_reads (table_entries w v) = let h = word_head w in rw (h.0, h.1, value_reads v) refl
limit_reads (frags w v) = let h = word_head w in rw (h.0, h.1, value_reads v) refl

-- a timeout that is kept is none of those that are not
kept_by : (inside : Bool) (d : Drafted) (k : Key) (name : TimeoutName) → timeout_named k ≡ Some name → time_by inside d k ≡ timeout_statement inside d (Some name)
kept_by inside d key.Frag name e = absurd cc
kept_by inside d key.TcpTsdiff name e = absurd cc
kept_by inside d key.IcmpFirst name e = absurd cc
kept_by inside d key.IcmpError name e = absurd cc
kept_by inside d _ name e = ap (timeout_statement inside d) e

pub time_reads : {inside : Bool} {d e : Drafted} {ts left : List Tok} → TimeOf inside d ts e left → time_at inside d ts ≡ Ok (e, left)
unfolding time_at
time_reads {inside = inside} {d = d} (kept {t = t} name e v) = rw (kept_by inside d t.key name (named t.key name e), value_reads v) refl
time_reads (frag w v) = let h = word_head w in rw (h.0, h.1, value_reads v) refl
time_reads (tsdiff w v) = let h = word_head w in rw (h.0, h.1, value_reads v) refl
time_reads (icmp_first w v) = let h = word_head w in rw (h.0, h.1, value_reads v) refl
time_reads (icmp_error w v) = let h = word_head w in rw (h.0, h.1, value_reads v) refl

setting_reads : (s : Setting) (inside : Bool) (d : Drafted) (ts : List Tok) (e : Drafted) (left : List Tok) → OfSetting s inside d ts e left → setting_at s inside d ts ≡ Ok (e, left)
setting_reads setting.Limit inside d ts e left q = limit_reads q
setting_reads setting.Timeout inside d ts e left q = time_reads q
setting_reads setting.Route inside d ts e left q = routed_reads q

lined_reads : (s : Setting) (d : Drafted) (ts : List Tok) (e : Drafted) (left : List Tok) → AmongLines (OfSetting s true) d ts e left → lined_setting_at s d ts ≡ Ok (e, left)
unfolding lined_setting_at
lined_reads s d ts e left q = rw (setting_reads s true d (skip_lines ts) e q.mid q.item) (ap (λ (z : List Tok). Ok (e, z)) (sym q.behind))

-- what begins a pair, after line ends or not
abbrev Begins : Key → Type 0
Begins k = (closes_braces k ≡ false) × (true ≡ true) × (no_comma k ≡ true)

limit_begins : {inside : Bool} {d e : Drafted} {ts left : List Tok} → LimitOf inside d ts e left → Begins (head ts).key
limit_begins (states w v) = rw (word_head w).0 (refl, refl, refl)
limit_begins (src_nodes w v) = rw (word_head w).0 (refl, refl, refl)
limit_begins (tables w v) = rw (word_head w).0 (refl, refl, refl)
limit_begins (table_entries w v) = rw (word_head w).0 (refl, refl, refl)
limit_begins (frags w v) = rw (word_head w).0 (refl, refl, refl)

named_begins : (k : Key) (name : TimeoutName) → timeout_named k ≡ Some name → Begins k
named_begins key.CloseBrace name e = absurd cc
named_begins key.Comma name e = absurd cc
named_begins _ name e = (refl, refl, refl)

time_begins : {inside : Bool} {d e : Drafted} {ts left : List Tok} → TimeOf inside d ts e left → Begins (head ts).key
time_begins (kept {t = t} name e v) = named_begins t.key name (named t.key name e)
time_begins (frag w v) = rw (word_head w).0 (refl, refl, refl)
time_begins (tsdiff w v) = rw (word_head w).0 (refl, refl, refl)
time_begins (icmp_first w v) = rw (word_head w).0 (refl, refl, refl)
time_begins (icmp_error w v) = rw (word_head w).0 (refl, refl, refl)

word_begins : (k : Key) → is_word_key k ≡ true → Begins k
word_begins key.CloseBrace e = absurd cc
word_begins key.Comma e = absurd cc
word_begins _ e = (refl, refl, refl)

routed_starts : {inside : Bool} {d e : Drafted} {ts left : List Tok} → SetsRoute inside d ts e left → Begins (head ts).key
routed_starts q = let p = routed_begins q in subst (λ (z : List Tok). Begins (head z).key) (sym p.2) (word_begins p.0.key p.3)

setting_begins : (s : Setting) (inside : Bool) (d : Drafted) (ts : List Tok) (e : Drafted) (left : List Tok) → OfSetting s inside d ts e left → Begins (head ts).key
setting_begins setting.Limit inside d ts e left q = limit_begins q
setting_begins setting.Timeout inside d ts e left q = time_begins q
setting_begins setting.Route inside d ts e left q = routed_starts q

line_end_begins : (k : Key) → ends_line k ≡ true → Begins k
line_end_begins k e = subst Begins (sym (line_end_key k e)) (refl, refl, refl)

lined_begins : (ts : List Tok) → Begins (head (skip_lines ts)).key → Begins (head ts).key
lined_begins ts h = go (ends_line (head ts).key) refl
  where
    go : (b : Bool) → ends_line (head ts).key ≡ b → Begins (head ts).key
    go true g = line_end_begins (head ts).key g
    go false g = subst (λ (z : List Tok). Begins (head z).key) (sym (skip_stays ts g)) h

anything : Key → Bool
anything k = true

settings_readable : (s : Setting) → ReadsList key.CloseBrace closes_braces anything (AmongLines (OfSetting s true)) (lined_setting_at s)
unfolding anything
settings_readable s = record { closes = refl; close_follows = refl; comma_goes = refl; comma_follows = refl; begins = λ {a} {b} {ts} {left} q. lined_begins ts (setting_begins s true a (skip_lines ts) b q.mid q.item); reads = λ {a} {b} {ts} {left} q f. lined_reads s a ts b left q; shrinks = lined_shrinks s }

-- what begins a pair is no brace
limit_stays : (d : Drafted) {inside : Bool} {e : Drafted} {ts left : List Tok} → LimitOf inside d ts e left → some_settings_by setting.Limit d (head ts).key ≡ stay (limit_at false d)
limit_stays d (states w v) = rw (word_head w).0 refl
limit_stays d (src_nodes w v) = rw (word_head w).0 refl
limit_stays d (tables w v) = rw (word_head w).0 refl
limit_stays d (table_entries w v) = rw (word_head w).0 refl
limit_stays d (frags w v) = rw (word_head w).0 refl

named_stays : (d : Drafted) (k : Key) (name : TimeoutName) → timeout_named k ≡ Some name → some_settings_by setting.Timeout d k ≡ stay (time_at false d)
named_stays d key.OpenBrace name e = absurd cc
named_stays d _ name e = refl

time_stays : (d : Drafted) {inside : Bool} {e : Drafted} {ts left : List Tok} → TimeOf inside d ts e left → some_settings_by setting.Timeout d (head ts).key ≡ stay (time_at false d)
time_stays d (kept {t = t} name e v) = named_stays d t.key name (named t.key name e)
time_stays d (frag w v) = rw (word_head w).0 refl
time_stays d (tsdiff w v) = rw (word_head w).0 refl
time_stays d (icmp_first w v) = rw (word_head w).0 refl
time_stays d (icmp_error w v) = rw (word_head w).0 refl

word_stays : (d : Drafted) (k : Key) → is_word_key k ≡ true → some_settings_by setting.Route d k ≡ stay (routed_at false d)
word_stays d key.OpenBrace e = absurd cc
word_stays d _ e = refl

routed_stays : (d : Drafted) {inside : Bool} {e : Drafted} {ts left : List Tok} → SetsRoute inside d ts e left → some_settings_by setting.Route d (head ts).key ≡ stay (routed_at false d)
routed_stays d q = let p = routed_begins q in rw p.2 (word_stays d p.0.key p.3)

pub settings_read : {d e : Drafted} {ts left : List Tok} → SettingOf d ts e left → settings_at d ts ≡ Ok (e, left)
unfolding settings_at some_settings_at profile_at
settings_read (profile w v) = let h = word_head w in let i = word_head v in rw (h.0, h.1, i.0, i.1) refl
settings_read {d = d} (limit w v) = let h = word_head w in rw (h.0, h.1, limit_stays d v) (limit_reads v)
settings_read (limits w o v) = let h = word_head w in let i = word_head o in rw (h.0, h.1, i.0, i.1) (list_reads (settings_readable setting.Limit) v)
settings_read {d = d} (timeout w v) = let h = word_head w in rw (h.0, h.1, time_stays d v) (time_reads v)
settings_read (timeouts w o v) = let h = word_head w in let i = word_head o in rw (h.0, h.1, i.0, i.1) (list_reads (settings_readable setting.Timeout) v)
settings_read {d = d} (route w v) = let h = word_head w in rw (h.0, h.1, routed_stays d v) (routed_reads v)
settings_read (routes w o v) = let h = word_head w in let i = word_head o in rw (h.0, h.1, i.0, i.1) (list_reads (settings_readable setting.Route) v)
