-- Worked: what the profile makes of the rules and the limit of a text.
use Rattle.std.proofs.Common.{◌≡◌, refl, ℕ, true, Option, Some, None, List, [], ◌∷◌, ◌++◌, replicate}
use Rattle.pfs_conf_values.specs.Configs.{no_options}
use Rattle.pfs_conf_values.specs.Settled.{paired, settled_options}
use Rattle.pfs_conf_values.specs.Timeouts.{no_timeouts, tenths_of}
use Rattle.pfs_conf_values.specs.declared.actions.StateOptions.{StateOptions}
use Rattle.pfs_conf_values.specs.declared.profiles.Profile.TheVariants as profile

-- only an adaptive pair is given
abbrev only_pair : Option ℕ → Option ℕ → List (Option ℕ)
only_pair start end = replicate 14 None ++ start ∷ end ∷ []

-- `max 25` gives 12 and 24, `max 9` nothing, and a pair that is given stays
of_25 : paired (Some 25) no_timeouts ≡ only_pair (Some 12) (Some 24)
of_25 = refl

of_9 : paired (Some 9) no_timeouts ≡ no_timeouts
of_9 = refl

of_none : paired None no_timeouts ≡ no_timeouts
of_none = refl

stays_given : paired (Some 30) (only_pair (Some 5) (Some 6)) ≡ only_pair (Some 5) (Some 6)
stays_given = refl

-- the greatest that can be given is the end of the greatest `max`
of_most : paired (Some 4294967295) no_timeouts ≡ only_pair (Some 2576980374) (Some 4294967295)
of_most = refl

-- `max 25, sloppy`
abbrev as_written : StateOptions
as_written = record no_options { max = Some 25; sloppy = true }

of_own : settled_options profile.Own as_written ≡ record no_options { max = Some 25 }
of_own = refl

of_openbsd : settled_options profile.OpenBsd74 as_written ≡ record as_written { timeouts = only_pair (Some 12) (Some 24) }
of_openbsd = refl

-- of 1009 states, and of 8
start_of_own : tenths_of profile.Own 6 1009 ≡ 605
start_of_own = refl

end_of_own : tenths_of profile.Own 12 1009 ≡ 1210
end_of_own = refl

start_of_openbsd : tenths_of profile.OpenBsd74 6 1009 ≡ 600
start_of_openbsd = refl

end_of_openbsd : tenths_of profile.OpenBsd74 12 1009 ≡ 1200
end_of_openbsd = refl

off : tenths_of profile.OpenBsd74 12 8 ≡ 0
off = refl
