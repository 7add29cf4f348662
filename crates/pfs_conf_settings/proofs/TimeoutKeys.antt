-- The key of a timeout's name: the timeout that it names is the one at its place.
use Rattle.std.proofs.Common.{◌≡◌, ℕ, Option, Some, None, refl, ap, ◌∙◌}
use Rattle.std.specs.Prelude.{map, slice_index_or}
use Rattle.std.specs.Option.{option_map}
use Rattle.pfs_conf_tokens.specs.declared.keys.Key.{Key}
use Rattle.pfs_conf_tokens.specs.declared.keys.Key.TheVariants as key
use Rattle.pfs_conf_tokens.specs.Keys.{timeout_place}
use Rattle.pfs_conf_values.specs.Timeouts.{place_of, timeout_names}
use Rattle.pfs_conf_values.specs.declared.timeouts.TimeoutName.{TimeoutName}
use Rattle.pfs_conf_values.specs.declared.timeouts.TimeoutName.TheVariants as timeout
use Rattle.pfs_conf_settings.specs.Settings.{timeout_named}

-- the last line of each of these stands for every other key or name, and is checked at each
places : (k : Key) → timeout_place k ≡ option_map place_of (timeout_named k)
places key.TcpFirst = refl
places _ = refl

pub placed : (k : Key) (name : TimeoutName) → timeout_named k ≡ Some name → timeout_place k ≡ Some (place_of name)
placed k name e = places k ∙ ap (option_map place_of) e

-- the timeout at a place
abbrev name_at : ℕ → Option TimeoutName
name_at place = slice_index_or (map Some timeout_names) place None

abbrev name_at_some : Option ℕ → Option TimeoutName
name_at_some None = None
name_at_some (Some place) = name_at place

names : (k : Key) → timeout_named k ≡ name_at_some (timeout_place k)
names key.TcpFirst = refl
names _ = refl

name_again : (name : TimeoutName) → name_at (place_of name) ≡ Some name
name_again timeout.TcpFirst = refl
name_again _ = refl

pub named : (k : Key) (name : TimeoutName) → timeout_place k ≡ Some (place_of name) → timeout_named k ≡ Some name
named k name e = names k ∙ (ap name_at_some e ∙ name_again name)
