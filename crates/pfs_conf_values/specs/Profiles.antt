-- The profile of a rules text: the machine of this program's own, or what OpenBSD 7.4 does otherwise.
use Rattle.std.specs.Prelude.{ℕ, ◌==◌, Bool, true, false, if◌then◌else◌, Option, Some, None}
use Rattle.pfs_conf_values.specs.declared.profiles.Profile.{Profile}
use Rattle.pfs_conf_values.specs.declared.profiles.Profile.TheVariants as profile

abbrev pub is_openbsd : Profile → Bool
is_openbsd profile.Own = false
is_openbsd profile.OpenBsd74 = true

-- the value of a timeout that has effect of the one that a rule gives: to OpenBSD a rule's 0 is not given (certain)
abbrev pub effective : Profile → Option ℕ → Option ℕ
effective profile.Own given = given
effective profile.OpenBsd74 None = None
effective profile.OpenBsd74 (Some n) = if n == 0 then None else Some n
