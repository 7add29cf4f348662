-- The readers of settings look no further than the token in front of what they leave.
use Rattle.std.proofs.Common.{◌≡◌, ℕ, Bool, true, false, Option, Some, None, refl}
use Rattle.pfs_conf_tokens.specs.declared.keys.Key.{Key}
use Rattle.pfs_conf_tokens.specs.declared.keys.Key.TheVariants as key
use Rattle.pfs_conf_tokens.specs.Keys.{before_end}
use Rattle.pfs_conf_tokens.specs.Reading.{closes_braces, chain, done, next_of, skipping, number_at}
use Rattle.pfs_conf_tokens.proofs.Laws.{Taking, OnlineAct, Online, across, online_done, online_chain, online_taking, online_front, front_shrinks, chain_shrinks, Shrinks, online_across}
use Rattle.pfs_conf_tokens.proofs.ReaderLaws.{closes_braces_before_end, online_list, next_shrinks, online_skipping, skipping_shrinks, online_number}
use Rattle.pfs_conf_values.specs.declared.limits.LimitName.{LimitName}
use Rattle.pfs_conf_values.specs.declared.limits.LimitName.TheVariants as limit
use Rattle.pfs_conf_values.specs.declared.profiles.Profile.TheVariants as profile
use Rattle.pfs_conf_values.specs.declared.timeouts.TimeoutName.{TimeoutName}
use Rattle.pfs_conf_settings.specs.declared.settings.Setting.{Setting}
use Rattle.pfs_conf_settings.specs.declared.settings.Setting.TheVariants as setting
use Rattle.pfs_conf_settings.specs.Drafts.{Drafted, with_limit, with_profile, with_timeout}
use Rattle.pfs_conf_settings.proofs.RouteLaws.{online_routed, routed_shrinks}
use Rattle.pfs_conf_settings.specs.Settings.{timeout_named, bounded_at, limit_statement, limit_by, limit_at, least_value, greatest_value, unkept, timeout_statement, time_by, time_at, setting_at, lined_setting_at, some_settings_by, some_settings_at, profile_by, profile_at, settings_by, settings_at}

-- ---- a pair of a name and a number

pub online_value : (lined : Bool) (low high : ℕ) → Online across (bounded_at lined low high)
unfolding bounded_at
online_value true low high = online_skipping (number_at low high) (online_across (number_at low high) (online_number low high))
online_value false low high = online_across (number_at low high) (online_number low high)

limited_taking : (lined : Bool) (name : LimitName) (d : Drafted) (k : Key) → before_end k ≡ true → Taking across k (limit_statement lined name d)
limited_taking lined name d k h = (h, online_chain (bounded_at lined 1 4294967295) _ (online_value lined 1 4294967295) (λ n. online_done (with_limit name n d)))

limit_taking : (lined : Bool) (d : Drafted) (k : Key) → Taking across k (limit_by lined d k)
limit_taking lined d key.States = limited_taking lined limit.States d key.States refl
limit_taking lined d key.SrcNodes = limited_taking lined limit.SrcNodes d key.SrcNodes refl
limit_taking lined d key.Tables = limited_taking lined limit.Tables d key.Tables refl
limit_taking lined d key.TableEntries = limited_taking lined limit.TableEntries d key.TableEntries refl
limit_taking lined d key.Frags = (refl, online_chain (bounded_at lined 1 4294967295) _ (online_value lined 1 4294967295) (λ n. online_done d))
limit_taking lined d _ = tt

pub online_limit : (lined : Bool) (d : Drafted) → Online across (limit_at lined d)
unfolding limit_at
online_limit lined d = online_taking (λ t. limit_by lined d t.key) (λ t. limit_taking lined d t.key)

limit_shrinks : (lined : Bool) (d : Drafted) → Shrinks (limit_at lined d)
unfolding limit_at
limit_shrinks lined d = front_shrinks across (λ t. limit_by lined d t.key) (λ t. limit_taking lined d t.key)

named_before_end : (k : Key) (name : TimeoutName) → timeout_named k ≡ Some name → before_end k ≡ true
named_before_end key.End name e = absurd cc
named_before_end _ name e = refl

timed_taking : (lined : Bool) (d : Drafted) (k : Key) (o : Option TimeoutName) → timeout_named k ≡ o → Taking across k (timeout_statement lined d o)
timed_taking lined d k None e = tt
timed_taking lined d k (Some name) e =
    (named_before_end k name e, online_chain (bounded_at lined (least_value name) (greatest_value name)) _ (online_value lined (least_value name) (greatest_value name)) (λ n. online_done (with_timeout name n d)))

unkept_taking : (lined : Bool) (d : Drafted) (k : Key) → before_end k ≡ true → Taking across k (unkept lined d)
unkept_taking lined d k h = (h, online_chain (bounded_at lined 0 2147483647) _ (online_value lined 0 2147483647) (λ n. online_done d))

time_taking : (lined : Bool) (d : Drafted) (k : Key) → Taking across k (time_by lined d k)
time_taking lined d key.Frag = unkept_taking lined d key.Frag refl
time_taking lined d key.TcpTsdiff = unkept_taking lined d key.TcpTsdiff refl
time_taking lined d key.IcmpFirst = unkept_taking lined d key.IcmpFirst refl
time_taking lined d key.IcmpError = unkept_taking lined d key.IcmpError refl
time_taking lined d k = timed_taking lined d k (timeout_named k) refl

pub online_time : (lined : Bool) (d : Drafted) → Online across (time_at lined d)
unfolding time_at
online_time lined d = online_taking (λ t. time_by lined d t.key) (λ t. time_taking lined d t.key)

time_shrinks : (lined : Bool) (d : Drafted) → Shrinks (time_at lined d)
unfolding time_at
time_shrinks lined d = front_shrinks across (λ t. time_by lined d t.key) (λ t. time_taking lined d t.key)

-- ---- among line ends

online_behind : (d : Drafted) → Online across (skipping (done d))
online_behind d = online_skipping (done d) (online_done d)

online_setting : (s : Setting) (lined : Bool) (d : Drafted) → Online across (setting_at s lined d)
online_setting setting.Limit lined d = online_limit lined d
online_setting setting.Timeout lined d = online_time lined d
online_setting setting.Route lined d = online_routed lined d

setting_shrinks : (s : Setting) (lined : Bool) (d : Drafted) → Shrinks (setting_at s lined d)
setting_shrinks setting.Limit lined d = limit_shrinks lined d
setting_shrinks setting.Timeout lined d = time_shrinks lined d
setting_shrinks setting.Route lined d = routed_shrinks lined d

online_lined : (s : Setting) (d : Drafted) → Online across (lined_setting_at s d)
unfolding lined_setting_at
online_lined s d = online_skipping (chain (setting_at s true d) (λ e. skipping (done e))) (online_chain (setting_at s true d) (λ e. skipping (done e)) (online_setting s true d) online_behind)

pub lined_shrinks : (s : Setting) (d : Drafted) → Shrinks (lined_setting_at s d)
unfolding lined_setting_at
lined_shrinks s d =
    skipping_shrinks (chain (setting_at s true d) (λ e. skipping (done e))) (chain_shrinks across (setting_at s true d) (λ e. skipping (done e)) (setting_shrinks s true d) online_behind)

pub next_setting_shrinks : (s : Setting) (d : Drafted) → Shrinks (next_of (lined_setting_at s) d)
next_setting_shrinks s d = next_shrinks (lined_setting_at s) (lined_shrinks s) d

-- ---- whole statements

some_settings_act : (s : Setting) (d : Drafted) (k : Key) → OnlineAct across k (some_settings_by s d k)
some_settings_act s d key.OpenBrace = (refl, online_list closes_braces (lined_setting_at s) closes_braces_before_end (lined_shrinks s) (online_lined s) d)
some_settings_act s d _ = online_setting s false d

online_some_settings : (s : Setting) (d : Drafted) → Online across (some_settings_at s d)
unfolding some_settings_at
online_some_settings s d = online_front (λ t. some_settings_by s d t.key) (λ t. some_settings_act s d t.key)

profile_taking : (d : Drafted) (k : Key) → Taking across k (profile_by d k)
profile_taking d key.OpenBsd74 = (refl, online_done (with_profile profile.OpenBsd74 d))
profile_taking d _ = tt

online_profile : (d : Drafted) → Online across (profile_at d)
unfolding profile_at
online_profile d = online_taking (λ t. profile_by d t.key) (λ t. profile_taking d t.key)

settings_act : (d : Drafted) (k : Key) → OnlineAct across k (settings_by d k)
settings_act d key.Profile = (refl, online_profile d)
settings_act d key.Limit = (refl, online_some_settings setting.Limit d)
settings_act d key.Timeout = (refl, online_some_settings setting.Timeout d)
settings_act d key.Route = (refl, online_some_settings setting.Route d)
settings_act d _ = tt

pub online_settings : (d : Drafted) → Online across (settings_at d)
unfolding settings_at
online_settings d = online_front (λ t. settings_by d t.key) (λ t. settings_act d t.key)
