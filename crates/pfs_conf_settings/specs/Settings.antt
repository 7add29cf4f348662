-- How the statements that set the profile, limits, timeouts and routes are read. Line ends are ignored between any two tokens in braces.
-- (not promised)
use Rattle.std.specs.Prelude.{ℕ, Bool, true, false, Option, Some, None}
use Rattle.pfs_conf_tokens.specs.declared.keys.Key.{Key}
use Rattle.pfs_conf_tokens.specs.declared.keys.Key.TheVariants as key
use Rattle.pfs_conf_tokens.specs.declared.refusals.Why.TheVariants as why
use Rattle.pfs_conf_tokens.specs.Reading.{closes_braces, Reader, Act, take, stay, refuse, on_front, done, chain, list_all, skipping, number_at}
use Rattle.pfs_conf_values.specs.declared.limits.LimitName.{LimitName}
use Rattle.pfs_conf_values.specs.declared.limits.LimitName.TheVariants as limit
use Rattle.pfs_conf_values.specs.declared.profiles.Profile.TheVariants as profile
use Rattle.pfs_conf_values.specs.declared.timeouts.TimeoutName.{TimeoutName}
use Rattle.pfs_conf_values.specs.declared.timeouts.TimeoutName.TheVariants as timeout
use Rattle.pfs_conf_settings.specs.declared.settings.Setting.{Setting}
use Rattle.pfs_conf_settings.specs.declared.settings.Setting.TheVariants as setting
use Rattle.pfs_conf_settings.specs.Drafts.{Drafted, with_limit, with_profile, with_timeout}
use Rattle.pfs_conf_settings.specs.Routes.{routed_at}
use Rattle.pfs_conf_values.specs.Bounds.{least_timeout, greatest_timeout}
use Rattle.pfs_conf_values.specs.Timeouts.{place_of}

-- the timeout that a key names, if it is one of those that are kept
abbrev pub timeout_named : Key → Option TimeoutName
timeout_named key.TcpFirst = Some timeout.TcpFirst
timeout_named key.TcpOpening = Some timeout.TcpOpening
timeout_named key.TcpEstablished = Some timeout.TcpEstablished
timeout_named key.TcpClosing = Some timeout.TcpClosing
timeout_named key.TcpFinwait = Some timeout.TcpFinwait
timeout_named key.TcpClosed = Some timeout.TcpClosed
timeout_named key.UdpFirst = Some timeout.UdpFirst
timeout_named key.UdpSingle = Some timeout.UdpSingle
timeout_named key.UdpMultiple = Some timeout.UdpMultiple
timeout_named key.OtherFirst = Some timeout.OtherFirst
timeout_named key.OtherSingle = Some timeout.OtherSingle
timeout_named key.OtherMultiple = Some timeout.OtherMultiple
timeout_named key.SrcTrack = Some timeout.SrcTrack
timeout_named key.Interval = Some timeout.Interval
timeout_named key.AdaptiveStart = Some timeout.AdaptiveStart
timeout_named key.AdaptiveEnd = Some timeout.AdaptiveEnd
timeout_named _ = None

-- a number, in braces after any line ends
unfoldable pub bounded_at : Bool → ℕ → ℕ → Reader ℕ
bounded_at true low high ts = skipping (number_at low high) ts
bounded_at false low high ts = number_at low high ts

-- a limit: a name and a number, 1 to 4294967295; `frags` is not kept
abbrev pub limit_statement : Bool → LimitName → Drafted → Act Drafted
limit_statement inside name d = take (chain (bounded_at inside 1 4294967295) (λ n. done (with_limit name n d)))

abbrev pub limit_by : Bool → Drafted → Key → Act Drafted
limit_by inside d key.States = limit_statement inside limit.States d
limit_by inside d key.SrcNodes = limit_statement inside limit.SrcNodes d
limit_by inside d key.Tables = limit_statement inside limit.Tables d
limit_by inside d key.TableEntries = limit_statement inside limit.TableEntries d
limit_by inside d key.Frags = take (chain (bounded_at inside 1 4294967295) (λ n. done d))
limit_by inside d _ = refuse why.Plain

unfoldable pub limit_at : Bool → Drafted → Reader Drafted
limit_at inside d ts = on_front (λ t. limit_by inside d t.key) ts

-- the least and the greatest value of a timeout
abbrev pub least_value : TimeoutName → ℕ
least_value name = least_timeout (place_of name)

abbrev pub greatest_value : TimeoutName → ℕ
greatest_value name = greatest_timeout (place_of name)

-- a timeout: a name and a number; those of fragments, of timestamps and of ICMP are not kept
abbrev pub unkept : Bool → Drafted → Act Drafted
unkept inside d = take (chain (bounded_at inside 0 2147483647) (λ n. done d))

abbrev pub timeout_statement : Bool → Drafted → Option TimeoutName → Act Drafted
timeout_statement inside d None = refuse why.Plain
timeout_statement inside d (Some name) = take (chain (bounded_at inside (least_value name) (greatest_value name)) (λ n. done (with_timeout name n d)))

abbrev pub time_by : Bool → Drafted → Key → Act Drafted
time_by inside d key.Frag = unkept inside d
time_by inside d key.TcpTsdiff = unkept inside d
time_by inside d key.IcmpFirst = unkept inside d
time_by inside d key.IcmpError = unkept inside d
time_by inside d k = timeout_statement inside d (timeout_named k)

unfoldable pub time_at : Bool → Drafted → Reader Drafted
time_at inside d ts = on_front (λ t. time_by inside d t.key) ts

-- a limit, a timeout or a route
abbrev pub setting_at : Setting → Bool → Drafted → Reader Drafted
setting_at setting.Limit = limit_at
setting_at setting.Timeout = time_at
setting_at setting.Route = routed_at

-- one of them among line ends
unfoldable pub lined_setting_at : Setting → Drafted → Reader Drafted
lined_setting_at s d ts = skipping (chain (setting_at s true d) (λ e. skipping (done e))) ts

-- one, or a list in braces
abbrev pub some_settings_by : Setting → Drafted → Key → Act Drafted
some_settings_by s d key.OpenBrace = take (list_all closes_braces (lined_setting_at s) d)
some_settings_by s d _ = stay (setting_at s false d)

unfoldable pub some_settings_at : Setting → Drafted → Reader Drafted
some_settings_at s d ts = on_front (λ t. some_settings_by s d t.key) ts

-- the name of a profile
abbrev pub profile_by : Drafted → Key → Act Drafted
profile_by d key.OpenBsd74 = take (done (with_profile profile.OpenBsd74 d))
profile_by d _ = refuse why.Plain

unfoldable pub profile_at : Drafted → Reader Drafted
profile_at d ts = on_front (λ t. profile_by d t.key) ts

-- what follows `set`
abbrev pub settings_by : Drafted → Key → Act Drafted
settings_by d key.Profile = take (profile_at d)
settings_by d key.Limit = take (some_settings_at setting.Limit d)
settings_by d key.Timeout = take (some_settings_at setting.Timeout d)
settings_by d key.Route = take (some_settings_at setting.Route d)
settings_by d _ = refuse why.Setting

unfoldable pub settings_at : Drafted → Reader Drafted
settings_at d ts = on_front (λ t. settings_by d t.key) ts
