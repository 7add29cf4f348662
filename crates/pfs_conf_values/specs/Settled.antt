-- What the profile makes of the rules of a text at its end: whether `sloppy` is kept, and the adaptive pair of `max`.
use Rattle.std.specs.Prelude.{ℕ, ◌||◌, min, nat_lt, Bool, false, if◌then◌else◌, Option, Some, None, is_some, List, map, slice_index_or, slice_set}
use Rattle.pfs_conf_values.specs.Timeouts.{place_of, tenths_of}
use Rattle.pfs_conf_values.specs.declared.actions.Action.{Action}
use Rattle.pfs_conf_values.specs.declared.actions.Action.TheVariants as action
use Rattle.pfs_conf_values.specs.declared.actions.StateOptions.{StateOptions}
use Rattle.pfs_conf_values.specs.declared.items.Item.{Item}
use Rattle.pfs_conf_values.specs.declared.items.ItemKind.{ItemKind}
use Rattle.pfs_conf_values.specs.declared.items.ItemKind.TheVariants as what
use Rattle.pfs_conf_values.specs.declared.profiles.Profile.{Profile}
use Rattle.pfs_conf_values.specs.declared.profiles.Profile.TheVariants as profile
use Rattle.pfs_conf_values.specs.declared.timeouts.TimeoutName.TheVariants as timeout

-- whether a rule has an adaptive value of its own
abbrev pub gives_adaptive : List (Option ℕ) → Bool
gives_adaptive ts =
    is_some (slice_index_or ts (place_of timeout.AdaptiveStart) None) || is_some (slice_index_or ts (place_of timeout.AdaptiveEnd) None)

-- the timeouts of a rule with the adaptive pair of its `max`, whose end is at most what a rule can give (certain, but for the bound)
abbrev pub with_pair_of_max : ℕ → List (Option ℕ) → List (Option ℕ)
with_pair_of_max n ts =
    let start = tenths_of profile.OpenBsd74 6 n in
    let end = min (tenths_of profile.OpenBsd74 12 n) 4294967295 in
    slice_set (slice_set ts (place_of timeout.AdaptiveStart) (Some start)) (place_of timeout.AdaptiveEnd) (Some end)

-- OpenBSD: a `max` of ten states or more gives a rule its pair, unless the rule has one (certain)
abbrev pub paired : Option ℕ → List (Option ℕ) → List (Option ℕ)
paired None ts = ts
paired (Some n) ts = if nat_lt n 10 || gives_adaptive ts then ts else with_pair_of_max n ts

-- the options of a rule as they have effect: `sloppy` under the profile of OpenBSD alone, which gives `max` its pair
abbrev pub settled_options : Profile → StateOptions → StateOptions
settled_options profile.Own o = record o { sloppy = false }
settled_options profile.OpenBsd74 o = record o { timeouts = paired o.max o.timeouts }

-- the same of what a rule does, of an item, and of all items
abbrev pub settled_action : Profile → Action → Action
settled_action p (action.Keep o) = action.Keep (settled_options p o)
settled_action p a = a

abbrev pub settled_kind : Profile → ItemKind → ItemKind
settled_kind p (what.Rule r) = what.Rule (record r { action = settled_action p r.action })
settled_kind p (what.Anchor a) = what.Anchor a

abbrev pub settled_item : Profile → Item → Item
settled_item p i = record i { what = settled_kind p i.what }

abbrev pub settled_items : Profile → List Item → List Item
settled_items p items = map (settled_item p) items
