-- SYN cookies of a rules text: whether they are ever sent, and what its load rules ask of them.
use Rattle.std.specs.Prelude.{◌<◌, ◌≤◌, Bool, true, false}
use Rattle.pfs_conf_values.specs.declared.profiles.Profile.{Profile}
use Rattle.pfs_conf_values.specs.declared.profiles.Profile.TheVariants as profile
use Rattle.pfs_conf_values.specs.declared.syncookies.Syncookies.{Syncookies}
use Rattle.pfs_conf_values.specs.declared.syncookies.Syncookies.TheVariants as cookies

-- whether cookies are ever sent
abbrev pub are_sent : Syncookies → Bool
are_sent cookies.Never = false
are_sent _ = true

-- the shares of `adaptive`, in percent: the end below the start, which is at most 100 (pf.conf(5), OPTIONS, "set syncookies")
abbrev pub AreSyncookies : Syncookies → Type 0
AreSyncookies cookies.Never = Unit {0}
AreSyncookies cookies.Always = Unit {0}
AreSyncookies (cookies.Adaptive start end) = (end < start) × (start ≤ 100)

-- whether they need the profile of OpenBSD 7.4, and the text has it not
abbrev pub need_profile : Profile → Syncookies → Bool
need_profile profile.Own s = are_sent s
need_profile profile.OpenBsd74 s = false
