-- What the first statements of a text say, what each more changes, and the load rules of the whole text.
use Rattle.std.specs.Prelude.{ℕ, not, nat_lt, Bool, true, false, Option, Some, None, List, [], ◌∷◌, ◌++◌, filter, length, position, slice_index_or, slice_set}
use Rattle.pfs_conf_values.specs.Configs.{Conf, entries_in, is_adaptive, needs_profile, overloads_const}
use Rattle.pfs_conf_values.specs.Entries.{same_network}
use Rattle.pfs_conf_values.specs.Limits.{default_limits, limits_with}
use Rattle.pfs_conf_values.specs.Routes.{routes_need_profile}
use Rattle.pfs_conf_settings.specs.Namings.{Named, defining, is_defined_in, naming, place_in, table_number}
use Rattle.pfs_conf_values.specs.Timeouts.{no_timeouts, place_of, resolved_timeouts}
use Rattle.pfs_conf_values.specs.Settled.{settled_items}
use Rattle.pfs_conf_values.specs.Syncookies.{need_profile}
use Rattle.pfs_conf_values.specs.declared.items.Item.{Item}
use Rattle.pfs_conf_values.specs.declared.limits.LimitName.{LimitName}
use Rattle.pfs_conf_values.specs.declared.limits.Limits.{Limits}
use Rattle.pfs_conf_values.specs.declared.profiles.Profile.{Profile}
use Rattle.pfs_conf_values.specs.declared.profiles.Profile.TheVariants as profile
use Rattle.pfs_conf_values.specs.declared.routes.Route.{Route}
use Rattle.pfs_conf_values.specs.declared.syncookies.Syncookies.{Syncookies}
use Rattle.pfs_conf_values.specs.declared.syncookies.Syncookies.TheVariants as cookies
use Rattle.pfs_conf_values.specs.declared.tables.TableDef.{TableDef}
use Rattle.pfs_conf_values.specs.declared.timeouts.TimeoutName.{TimeoutName}
use Rattle.pfs_conf_values.specs.declared.timeouts.TimeoutName.TheVariants as timeout

-- what the first statements of a text say: the profile, the SYN cookies, the routes, the limits, the timeouts that are set, by
-- their places, the tables that are named, which of them are defined, and the items
pub record Drafted : Type 0 where
  pub profile : Profile
  pub syncookies : Syncookies
  pub routes : List Route
  pub limits : Limits
  pub timeouts : List (Option ℕ)
  pub tables : List TableDef
  pub defined : List Bool
  pub items : List Item

-- no statement is read
abbrev pub empty_draft : Drafted
empty_draft = record { profile = profile.Own; syncookies = cookies.Never; routes = []; limits = default_limits; timeouts = no_timeouts; tables = []; defined = []; items = [] }

-- ---- what a statement changes

-- `set profile`
abbrev pub with_profile : Profile → Drafted → Drafted
with_profile p d = record d { profile = p }

-- `set syncookies` (pf.conf(5), OPTIONS)
abbrev pub with_syncookies : Syncookies → Drafted → Drafted
with_syncookies s d = record d { syncookies = s }

-- the shares of `adaptive` alone
abbrev pub usual_shares : Syncookies
usual_shares = cookies.Adaptive 25 12

-- the end of `adaptive` is not below its start
abbrev pub has_broken_shares : Syncookies → Bool
has_broken_shares cookies.Never = false
has_broken_shares cookies.Always = false
has_broken_shares (cookies.Adaptive start end) = not (nat_lt end start)

-- whether a route has another prefix than this one
abbrev pub has_other_prefix : Route → Route → Bool
has_other_prefix r held = not (same_network held.prefix r.prefix)

-- routes and one more: it replaces the one with the same prefix, and stands last
abbrev pub routes_with : Route → List Route → List Route
routes_with r routes = filter (has_other_prefix r) routes ++ r ∷ []

-- `set route` (own)
abbrev pub with_route : Route → Drafted → Drafted
with_route r d = record d { routes = routes_with r d.routes }

-- `set limit` (pf.conf(5), OPTIONS)
abbrev pub with_limit : LimitName → ℕ → Drafted → Drafted
with_limit name n d = record d { limits = limits_with d.limits name n }

-- `set timeout` (pf.conf(5), OPTIONS)
abbrev pub with_timeout : TimeoutName → ℕ → Drafted → Drafted
with_timeout name n d = record d { timeouts = slice_set d.timeouts (place_of name) (Some n) }

-- the tables that are named
abbrev pub tables_of : Drafted → Named
tables_of d = record { tables = d.tables; defined = d.defined }

-- a draft with other tables
abbrev pub with_tables : Named → Drafted → Drafted
with_tables n d = record d { tables = n.tables; defined = n.defined }

-- the number of the table of a name
abbrev pub number_of_table : List ℕ → Drafted → ℕ
number_of_table name d = table_number (place_in name d.tables)

-- the table of a name is used
abbrev pub with_name : List ℕ → Drafted → Drafted
with_name name d = with_tables (naming name (tables_of d)) d

-- whether the table of a name is defined
abbrev pub is_defined : List ℕ → Drafted → Bool
is_defined name d = is_defined_in name (tables_of d)

-- a table is defined (pf.conf(5), TABLES)
abbrev pub with_table : TableDef → Drafted → Drafted
with_table t d = with_tables (defining t (tables_of d)) d

-- a rule, or the head of an anchor, is appended to the items
abbrev pub with_item : Item → Drafted → Drafted
with_item i d = record d { items = d.items ++ i ∷ [] }

-- ---- the load rules of a whole text

-- the place of the first rule whose `overload` names a table that is `const`
abbrev pub const_overload : Drafted → Option ℕ
const_overload d = position (overloads_const d.tables) d.items

-- whether the SYN cookies need the profile of OpenBSD 7.4, in a text without it
abbrev pub has_unprofiled_cookies : Drafted → Bool
has_unprofiled_cookies d = need_profile d.profile d.syncookies

-- whether the routes need the profile of OpenBSD 7.4, in a text without it
abbrev pub has_unprofiled_routes : Drafted → Bool
has_unprofiled_routes d = routes_need_profile d.profile d.routes

-- the place of the first item that needs the profile of OpenBSD 7.4, in a text without it
abbrev pub unprofiled : Drafted → Option ℕ
unprofiled d = position (needs_profile d.profile) d.items

-- one adaptive value without the other, or not both 0 and not start < end
abbrev pub broken_pair : Option ℕ → Option ℕ → Bool
broken_pair None None = false
broken_pair (Some start) (Some end) = not (is_adaptive start end)
broken_pair _ _ = true

-- whether the global adaptive pair is such (pf.conf(5), OPTIONS)
abbrev pub has_broken_pair : Drafted → Bool
has_broken_pair d =
    broken_pair (slice_index_or d.timeouts (place_of timeout.AdaptiveStart) None)
    (slice_index_or d.timeouts (place_of timeout.AdaptiveEnd) None)

-- whether more tables are named than the limit says
abbrev pub has_too_many_tables : Drafted → Bool
has_too_many_tables d = nat_lt d.limits.tables (length d.tables)

-- whether the tables have more entries together than the limit says
abbrev pub has_too_many_entries : Drafted → Bool
has_too_many_entries d = nat_lt d.limits.table_entries (entries_in d.tables)

-- what a text says whose statements say this: what it does not set has its default, and its rules have what its profile gives
-- them
abbrev pub conf_of_draft : Drafted → Conf
conf_of_draft d = record {
  profile = d.profile;
  syncookies = d.syncookies;
  routes = d.routes;
  limits = d.limits;
  timeouts = resolved_timeouts d.profile d.limits.states d.timeouts;
  tables = d.tables;
  items = settled_items d.profile d.items;
}
