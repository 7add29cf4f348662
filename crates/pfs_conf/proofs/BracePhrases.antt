-- The readers of options and of tables end no line but in braces.
use Rattle.std.proofs.Common.{◌≡◌, ℕ, Bool, true, false, cond, List, [], ◌∷◌, ◌++◌, Option, Some, None, refl}
use Rattle.pfs_conf_tokens.specs.Keys.{is_word_key}
use Rattle.pfs_conf_tokens.specs.declared.keys.Key.{Key}
use Rattle.pfs_conf_tokens.specs.declared.keys.Key.TheVariants as key
use Rattle.pfs_conf_tokens.specs.declared.refusals.Why.{Why}
use Rattle.pfs_conf_tokens.specs.declared.refusals.Why.TheVariants as why
use Rattle.pfs_conf_tokens.specs.Tokens.{Tok}
use Rattle.pfs_conf_tokens.specs.Values.{in_word, value_at, valued}
use Rattle.pfs_conf_tokens.specs.Reading.{Act, take, refuse, on_front, done, chain, skipping, number_at}
use Rattle.pfs_addr_values.specs.Names.{name_of}
use Rattle.pfs_addr_values.specs.Prefixes.{Network}
use Rattle.pfs_addr.specs.Texts.{prefix_of}
use Rattle.pfs_conf_values.specs.Entries.{TextEntry, sign_of}
use Rattle.pfs_conf_values.specs.declared.limits.LimitName.{LimitName}
use Rattle.pfs_conf_values.specs.declared.limits.LimitName.TheVariants as limit
use Rattle.pfs_conf_values.specs.declared.timeouts.TimeoutName.{TimeoutName}
use Rattle.pfs_conf_settings.specs.Drafts.{Drafted, with_limit, with_profile, with_route, with_timeout, is_defined}
use Rattle.pfs_conf_settings.specs.RouteGrammar.{interface_named}
use Rattle.pfs_conf_settings.specs.Routes.{leaving_at, leaving_name_at, prefix_at, route_at, route_by, routed_at}
use Rattle.pfs_conf_values.specs.declared.profiles.Profile.TheVariants as profile
use Rattle.pfs_conf_settings.specs.declared.settings.Setting.{Setting}
use Rattle.pfs_conf_settings.specs.declared.settings.Setting.TheVariants as variant
use Rattle.pfs_conf_settings.specs.Settings.{timeout_named, bounded_at, limit_statement, limit_by, limit_at, least_value, greatest_value, unkept, timeout_statement, time_by, time_at, setting_at, lined_setting_at, some_settings_by, some_settings_at, profile_by, profile_at, settings_by, settings_at}
use Rattle.pfs_conf_settings.specs.Tables.{sign_by, sign_at, again, entry_joined, entries_with, entry_by, entry_at, lined_entry_at, entries_by, braced_entries_at, unless, part_by, part_at, parts_at}
use Rattle.pfs_conf_settings.specs.TableGrammar.{no_parts}
use Rattle.pfs_conf_settings.specs.declared.tables.Parts.{Parts}
use Rattle.pfs_conf.specs.Reading.{open_by, angle_by, new_table_named, new_name_by, new_name_at}
use Rattle.pfs_conf.proofs.BraceLaws.{LeavesBraces, ActLeavesBraces, keeps_done, keeps_chain, keeps_front, keeps_if, keeps_once, keeps_word, keeps_number, keeps_up_to_line, keeps_list, keeps_skipping}

-- ---- options (pf.conf(5), OPTIONS)

keeps_value : (lined : Bool) (low high : ℕ) → LeavesBraces lined lined (bounded_at lined low high)
unfolding bounded_at
keeps_value true low high = keeps_skipping (number_at low high) (keeps_number true low high)
keeps_value false low high = keeps_number false low high

limited_acts : (lined : Bool) (name : LimitName) (d : Drafted) (k : Key) → is_word_key k ≡ true → ActLeavesBraces lined lined k (limit_statement lined name d)
limited_acts lined name d k e = keeps_word lined lined k _ e (keeps_chain (bounded_at lined 1 4294967295) (λ n. done (with_limit name n d)) (keeps_value lined 1 4294967295) (λ n. keeps_done (with_limit name n d)))

limit_acts : (lined : Bool) (d : Drafted) (k : Key) → ActLeavesBraces lined lined k (limit_by lined d k)
limit_acts lined d key.States = limited_acts lined limit.States d key.States refl
limit_acts lined d key.SrcNodes = limited_acts lined limit.SrcNodes d key.SrcNodes refl
limit_acts lined d key.Tables = limited_acts lined limit.Tables d key.Tables refl
limit_acts lined d key.TableEntries = limited_acts lined limit.TableEntries d key.TableEntries refl
limit_acts lined d key.Frags = keeps_word lined lined key.Frags _ refl (keeps_chain (bounded_at lined 1 4294967295) (λ n. done d) (keeps_value lined 1 4294967295) (λ n. keeps_done d))
limit_acts lined d _ = tt

keeps_limit : (lined : Bool) (d : Drafted) → LeavesBraces lined lined (limit_at lined d)
unfolding limit_at
keeps_limit lined d = keeps_front (λ t. limit_by lined d t.key) (λ t. limit_acts lined d t.key)

named_is_word : (k : Key) (name : TimeoutName) → timeout_named k ≡ Some name → is_word_key k ≡ true
named_is_word key.Quoted name e = absurd cc
named_is_word key.OpenBrace name e = absurd cc
named_is_word key.CloseBrace name e = absurd cc
named_is_word key.OpenParen name e = absurd cc
named_is_word key.CloseParen name e = absurd cc
named_is_word key.OpenAngle name e = absurd cc
named_is_word key.CloseAngle name e = absurd cc
named_is_word key.Comma name e = absurd cc
named_is_word key.Not name e = absurd cc
named_is_word key.Equals name e = absurd cc
named_is_word key.LineEnd name e = absurd cc
named_is_word key.End name e = absurd cc
named_is_word key.Bad name e = absurd cc
named_is_word _ name e = refl

timed_acts : (lined : Bool) (d : Drafted) (k : Key) (o : Option TimeoutName) → timeout_named k ≡ o → ActLeavesBraces lined lined k (timeout_statement lined d o)
timed_acts lined d k None e = tt
timed_acts lined d k (Some name) e = keeps_word lined lined k _ (named_is_word k name e)
    (keeps_chain (bounded_at lined (least_value name) (greatest_value name)) (λ n. done (with_timeout name n d)) (keeps_value lined (least_value name) (greatest_value name)) (λ n. keeps_done (with_timeout name n d)))

unkept_acts : (lined : Bool) (d : Drafted) (k : Key) → is_word_key k ≡ true → ActLeavesBraces lined lined k (unkept lined d)
unkept_acts lined d k e = keeps_word lined lined k _ e (keeps_chain (bounded_at lined 0 2147483647) (λ n. done d) (keeps_value lined 0 2147483647) (λ n. keeps_done d))

time_acts : (lined : Bool) (d : Drafted) (k : Key) → ActLeavesBraces lined lined k (time_by lined d k)
time_acts lined d key.Frag = unkept_acts lined d key.Frag refl
time_acts lined d key.TcpTsdiff = unkept_acts lined d key.TcpTsdiff refl
time_acts lined d key.IcmpFirst = unkept_acts lined d key.IcmpFirst refl
time_acts lined d key.IcmpError = unkept_acts lined d key.IcmpError refl
time_acts lined d k = timed_acts lined d k (timeout_named k) refl

keeps_time : (lined : Bool) (d : Drafted) → LeavesBraces lined lined (time_at lined d)
unfolding time_at
keeps_time lined d = keeps_front (λ t. time_by lined d t.key) (λ t. time_acts lined d t.key)

keeps_lines : {A : Type 0} (x : A) → LeavesBraces true true (skipping (done x))
keeps_lines x = keeps_skipping (done x) (keeps_done x)

valued_acts : {A : Type 0} (lined : Bool) (w : Why) (k : Key) (o : Option A) → is_word_key k ≡ true → ActLeavesBraces lined lined k (valued w o)
valued_acts lined w k None e = tt
valued_acts lined w k (Some x) e = keeps_word lined lined k (done x) e (keeps_done x)

in_word_acts : {A : Type 0} (lined : Bool) (w : Why) (value : List ℕ → Option A) (t : Tok) → ActLeavesBraces lined lined t.key (valued w (in_word value t))
in_word_acts {A} lined w value t = go (is_word_key t.key) refl
  where
    go : (b : Bool) → is_word_key t.key ≡ b → ActLeavesBraces {A = A} lined lined t.key (valued w (cond b (value t.text) None))
    go true e = valued_acts lined w t.key (value t.text) e
    go false e = tt

keeps_word_value : {A : Type 0} (lined : Bool) (w : Why) (value : List ℕ → Option A) → LeavesBraces lined lined (value_at w (in_word value))
keeps_word_value lined w value = keeps_front (λ t. valued w (in_word value t)) (λ t. in_word_acts lined w value t)

keeps_prefix : (lined : Bool) → LeavesBraces lined lined prefix_at
unfolding prefix_at
keeps_prefix lined = keeps_word_value lined why.Host prefix_of

keeps_interface : (lined : Bool) → LeavesBraces lined lined leaving_name_at
unfolding leaving_name_at
keeps_interface lined = keeps_word_value lined why.Plain interface_named

keeps_leaving : (lined : Bool) → LeavesBraces lined lined (leaving_at lined)
unfolding leaving_at
keeps_leaving true = keeps_skipping leaving_name_at (keeps_interface true)
keeps_leaving false = keeps_interface false

keeps_route : (lined : Bool) → LeavesBraces lined lined (route_at lined)
unfolding route_at
keeps_route lined =
    keeps_chain prefix_at (λ p. chain (leaving_at lined) (λ name. done (route_by p name))) (keeps_prefix lined)
    (λ p. keeps_chain (leaving_at lined) (λ name. done (route_by p name)) (keeps_leaving lined) (λ name. keeps_done (route_by p name)))

keeps_routed : (lined : Bool) (d : Drafted) → LeavesBraces lined lined (routed_at lined d)
unfolding routed_at
keeps_routed lined d = keeps_chain (route_at lined) (λ r. done (with_route r d)) (keeps_route lined) (λ r. keeps_done (with_route r d))

keeps_setting : (s : Setting) (lined : Bool) (d : Drafted) → LeavesBraces lined lined (setting_at s lined d)
keeps_setting variant.Limit lined d = keeps_limit lined d
keeps_setting variant.Timeout lined d = keeps_time lined d
keeps_setting variant.Route lined d = keeps_routed lined d

keeps_lined : (s : Setting) (d : Drafted) → LeavesBraces true true (lined_setting_at s d)
unfolding lined_setting_at
keeps_lined s d = keeps_skipping (chain (setting_at s true d) (λ e. skipping (done e))) (keeps_chain (setting_at s true d) (λ e. skipping (done e)) (keeps_setting s true d) (λ e. keeps_lines e))

some_settings_acts : (s : Setting) (d : Drafted) (k : Key) → ActLeavesBraces false false k (some_settings_by s d k)
some_settings_acts s d key.OpenBrace = (refl, keeps_list (lined_setting_at s) (keeps_lined s) d)
some_settings_acts s d _ = keeps_setting s false d

keeps_some_settings : (s : Setting) (d : Drafted) → LeavesBraces false false (some_settings_at s d)
unfolding some_settings_at
keeps_some_settings s d = keeps_front (λ t. some_settings_by s d t.key) (λ t. some_settings_acts s d t.key)

profile_acts : (d : Drafted) (k : Key) → ActLeavesBraces false false k (profile_by d k)
profile_acts d key.OpenBsd74 = keeps_word false false key.OpenBsd74 _ refl (keeps_done (with_profile profile.OpenBsd74 d))
profile_acts d _ = tt

keeps_profile : (d : Drafted) → LeavesBraces false false (profile_at d)
unfolding profile_at
keeps_profile d = keeps_front (λ t. profile_by d t.key) (λ t. profile_acts d t.key)

settings_acts : (d : Drafted) (k : Key) → ActLeavesBraces false false k (settings_by d k)
settings_acts d key.Profile = (refl, keeps_profile d)
settings_acts d key.Limit = (refl, keeps_some_settings variant.Limit d)
settings_acts d key.Timeout = (refl, keeps_some_settings variant.Timeout d)
settings_acts d key.Route = (refl, keeps_some_settings variant.Route d)
settings_acts d _ = tt

pub keeps_settings : (d : Drafted) → LeavesBraces false false (settings_at d)
unfolding settings_at
keeps_settings d = keeps_front (λ t. settings_by d t.key) (λ t. settings_acts d t.key)

-- ---- tables (pf.conf(5), TABLES)

negation_acts : (k : Key) → ActLeavesBraces true true k (sign_by k)
negation_acts key.Not = (refl, keeps_done true)
negation_acts _ = keeps_done false

keeps_negation : LeavesBraces true true sign_at
unfolding sign_at
keeps_negation = keeps_front (λ t. sign_by t.key) (λ t. negation_acts t.key)

held_acts : (k : Key) (entries : List TextEntry) → is_word_key k ≡ true → ActLeavesBraces true true k (take (done entries))
held_acts k entries e = keeps_word true true k (done entries) e (keeps_done entries)

again_acts : (k : Key) (entries : List TextEntry) (negated held : Bool) → is_word_key k ≡ true → ActLeavesBraces true true k (again entries negated held)
again_acts k entries true true e = held_acts k entries e
again_acts k entries false false e = held_acts k entries e
again_acts k entries true false e = tt
again_acts k entries false true e = tt

joined_acts : (k : Key) (entries : List TextEntry) (negated : Bool) (p : Network) (o : Option Bool) → is_word_key k ≡ true → ActLeavesBraces true true k (entry_joined entries negated p o)
joined_acts k entries negated p None e = held_acts k (entries ++ (p, negated) ∷ []) e
joined_acts k entries negated p (Some held) e = again_acts k entries negated held e

entered_acts : (k : Key) (entries : List TextEntry) (negated : Bool) (o : Option Network) → is_word_key k ≡ true → ActLeavesBraces true true k (entries_with entries negated o)
entered_acts k entries negated None e = tt
entered_acts k entries negated (Some p) e = joined_acts k entries negated p (sign_of entries p) e

keeps_entry : (entries : List TextEntry) (negated : Bool) → LeavesBraces true true (entry_at entries negated)
unfolding entry_at
keeps_entry entries negated = keeps_front (λ t. entry_by entries negated t)
    (λ t. keeps_if true true t.key (is_word_key t.key) (entries_with entries negated (prefix_of t.text)) (refuse why.Host) (λ e. entered_acts t.key entries negated (prefix_of t.text) e) (λ e. tt))

keeps_signed : (entries : List TextEntry) (negated : Bool) → LeavesBraces true true (skipping (chain (entry_at entries negated) (λ more. skipping (done more))))
keeps_signed entries negated = keeps_skipping (chain (entry_at entries negated) (λ more. skipping (done more))) (keeps_chain (entry_at entries negated) (λ more. skipping (done more)) (keeps_entry entries negated) (λ more. keeps_lines more))

keeps_lined_entry : (entries : List TextEntry) → LeavesBraces true true (lined_entry_at entries)
unfolding lined_entry_at
keeps_lined_entry entries =
    keeps_skipping (chain sign_at (λ negated. skipping (chain (entry_at entries negated) (λ more. skipping (done more)))))
    (keeps_chain sign_at (λ negated. skipping (chain (entry_at entries negated) (λ more. skipping (done more)))) keeps_negation (keeps_signed entries))

entries_acts : (k : Key) → ActLeavesBraces true false k (entries_by k)
entries_acts key.CloseBrace = (refl, keeps_done [])
entries_acts _ = keeps_list lined_entry_at keeps_lined_entry []

keeps_entries : LeavesBraces true false braced_entries_at
unfolding braced_entries_at
keeps_entries = keeps_skipping (on_front (λ t. entries_by t.key)) (keeps_front (λ t. entries_by t.key) (λ t. entries_acts t.key))

unless_acts : {A : Type 0} (k : Key) (b : Bool) (a : Act A) → ActLeavesBraces false false k a → ActLeavesBraces false false k (unless b a)
unless_acts k true a h = tt
unless_acts k false a h = h

part_acts : (p : Parts) (k : Key) → ActLeavesBraces false false k (part_by p k)
part_acts p key.Persist = unless_acts key.Persist p.persist _ (refl, keeps_done (record p { persist = true }))
part_acts p key.Const = unless_acts key.Const p.is_const _ (refl, keeps_done (record p { is_const = true }))
part_acts p key.Counters = unless_acts key.Counters p.counters _ (refl, keeps_done (record p { counters = true }))
part_acts p key.OpenBrace = keeps_once false false key.OpenBrace p.entries _ (refl, keeps_chain braced_entries_at (λ entries. done (record p { entries = Some entries })) keeps_entries (λ entries. keeps_done (record p { entries = Some entries })))
part_acts p _ = tt

keeps_part : (p : Parts) → LeavesBraces false false (part_at p)
unfolding part_at
keeps_part p = keeps_front (λ t. part_by p t.key) (λ t. part_acts p t.key)

pub keeps_parts : LeavesBraces false false parts_at
unfolding parts_at
keeps_parts = keeps_up_to_line part_at keeps_part no_parts

open_acts : (k : Key) → ActLeavesBraces false false k (open_by k)
open_acts key.OpenAngle = (refl, keeps_done tt)
open_acts _ = tt

close_acts : (k : Key) → ActLeavesBraces false false k (angle_by k)
close_acts key.CloseAngle = (refl, keeps_done tt)
close_acts _ = tt

named_acts : (d : Drafted) (k : Key) (o : Option (List ℕ)) → is_word_key k ≡ true → ActLeavesBraces false false k (new_table_named d o)
named_acts d k None e = tt
named_acts d k (Some name) e = keeps_if false false k (is_defined name d) (refuse why.Again) (take (done name)) (λ h. tt) (λ h. keeps_word false false k (done name) e (keeps_done name))

pub keeps_table_name : (d : Drafted) → LeavesBraces false false (new_name_at d)
unfolding new_name_at
keeps_table_name d = keeps_chain (on_front (λ t. open_by t.key)) (λ u. chain (on_front (λ t. new_name_by d t)) (λ n. chain (on_front (λ t. angle_by t.key)) (λ v. done n)))
    (keeps_front (λ t. open_by t.key) (λ t. open_acts t.key))
    (λ u. keeps_chain (on_front (λ t. new_name_by d t)) (λ n. chain (on_front (λ t. angle_by t.key)) (λ v. done n))
    (keeps_front (λ t. new_name_by d t) (λ t. keeps_if false false t.key (is_word_key t.key) (new_table_named d (name_of 31 t.text)) (refuse why.Plain) (λ e. named_acts d t.key (name_of 31 t.text) e) (λ e. tt)))
    (λ n. keeps_chain (on_front (λ t. angle_by t.key)) (λ v. done n) (keeps_front (λ t. angle_by t.key) (λ t. close_acts t.key)) (λ v. keeps_done n)))
