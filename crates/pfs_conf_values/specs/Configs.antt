-- A configuration: what a rules text says, and what is read of it.
use Rattle.std.specs.Prelude.{ℕ, ◌==◌, ◌&&◌, ◌||◌, not, nat_lt, max, Bool, true, false, if◌then◌else◌, Option, Some, None, is_some, unwrap_or, List, length, map, option_map, position, slice_get, slice_index, slice_index_or}
use Rattle.std.specs.List.{list_any, sum_by}
use Rattle.std.specs.Option.{option_and_then}
use Rattle.std.specs.Str.{bytes_eq}
use Rattle.pfs_addr_values.specs.declared.packets.TagNo.{TagNo}
use Rattle.pfs_conf_values.specs.Limits.{limit_value}
use Rattle.pfs_conf_values.specs.Profiles.{effective, is_openbsd}
use Rattle.pfs_conf_values.specs.Timeouts.{place_of, no_timeouts}
use Rattle.pfs_conf_values.specs.Translations.{no_translation, translates_by}
use Rattle.pfs_conf_values.specs.declared.actions.Action.{Action}
use Rattle.pfs_conf_values.specs.declared.actions.Action.TheVariants as action
use Rattle.pfs_conf_values.specs.declared.actions.Overload.{Overload}
use Rattle.pfs_conf_values.specs.declared.actions.Rate.{Rate}
use Rattle.pfs_conf_values.specs.declared.actions.Scope.{Scope}
use Rattle.pfs_conf_values.specs.declared.actions.Scope.TheVariants as scope
use Rattle.pfs_conf_values.specs.declared.actions.StateOptions.{StateOptions}
use Rattle.pfs_conf_values.specs.declared.filters.Came.{Came}
use Rattle.pfs_conf_values.specs.declared.filters.Filter.{Filter}
use Rattle.pfs_conf_values.specs.declared.filters.FlagTest.TheVariants as flag_test
use Rattle.pfs_conf_values.specs.declared.filters.Host.TheVariants as host
use Rattle.pfs_conf_values.specs.declared.filters.Side.{Side}
use Rattle.pfs_conf_values.specs.declared.filters.TableNo.{TableNo}
use Rattle.pfs_conf_values.specs.declared.items.Item.{Item}
use Rattle.pfs_conf_values.specs.declared.items.Rule.{Rule}
use Rattle.pfs_conf_values.specs.declared.items.ItemKind.{ItemKind}
use Rattle.pfs_conf_values.specs.declared.items.ItemKind.TheVariants as what
use Rattle.pfs_conf_values.specs.declared.limits.LimitName.{LimitName}
use Rattle.pfs_conf_values.specs.declared.limits.Limits.{Limits}
use Rattle.pfs_conf_values.specs.declared.profiles.Profile.{Profile}
use Rattle.pfs_conf_values.specs.declared.profiles.Profile.TheVariants as profile
use Rattle.pfs_conf_values.specs.declared.routes.Route.{Route}
use Rattle.pfs_conf_values.specs.declared.syncookies.Syncookies.{Syncookies}
use Rattle.pfs_conf_values.specs.declared.tables.TableDef.{TableDef}
use Rattle.pfs_conf_values.specs.declared.timeouts.TimeoutName.{TimeoutName}
use Rattle.pfs_conf_values.specs.declared.timeouts.TimeoutName.TheVariants as timeout

-- what a rules text says: its profile, its SYN cookies, its routes, the limits, the 16 timeouts by their places, the tables by their numbers,
-- and the items in order
pub record Conf : Type 0 where
  pub profile : Profile
  pub syncookies : Syncookies
  pub routes : List Route
  pub limits : Limits
  pub timeouts : List ℕ
  pub tables : List TableDef
  pub items : List Item

-- the configuration of these parts
abbrev pub conf_of : Profile → Syncookies → List Route → Limits → List ℕ → List TableDef → List Item → Conf
conf_of profile syncookies routes limits timeouts tables items =
    record { profile = profile; syncookies = syncookies; routes = routes; limits = limits; timeouts = timeouts; tables = tables; items = items }

-- ---- what is read of it

-- the value of a limit
abbrev pub limit_of : Conf → LimitName → ℕ
limit_of conf name = limit_value conf.limits name

-- the value of a timeout
abbrev pub timeout_of : Conf → TimeoutName → ℕ
timeout_of conf name = slice_index conf.timeouts (place_of name)

-- the rule that an item is, if it is one
abbrev pub rule_in : ItemKind → Option Rule
rule_in (what.Rule r) = Some r
rule_in (what.Anchor a) = None

-- the rule of a number, if that item is a rule
abbrev pub rule_at : Conf → ℕ → Option Rule
rule_at conf n = option_and_then (λ (i : Item). rule_in i.what) (slice_get conf.items n)

-- every host, with every port
abbrev pub any_side : Side TableNo
any_side = record { host = host.Any; ports = None }

-- a filter that every packet matches
abbrev pub any_packet : Filter
any_packet = record { dir = None; on = None; family = None; proto = None; from = any_side; to = any_side; flags = flag_test.Any }

-- nothing is asked of how a packet came
abbrev pub any_way : Came
any_way = record { tagged = None; received_on = None }

-- what is given for a rule where none is
abbrev pub no_rule : Rule
no_rule = record { quick = false; filter = any_packet; came = any_way; tag = None; translation = no_translation; action = action.Block }

-- the rule of a number
abbrev pub rule_of : Conf → ℕ → Rule
rule_of conf n = unwrap_or (rule_at conf n) no_rule

-- the options of a rule that keeps state
abbrev pub options_in : Action → Option StateOptions
options_in action.Match = None
options_in action.Block = None
options_in action.Pass = None
options_in (action.Keep o) = Some o

-- the options of the rule of a number, if it keeps state
abbrev pub options_at : Conf → ℕ → Option StateOptions
options_at conf n = option_and_then (λ (r : Rule). options_in r.action) (rule_at conf n)

-- no option is given
abbrev pub no_options : StateOptions
no_options = record {
  max = None;
  scope = None;
  max_src_nodes = None;
  max_src_states = None;
  max_src_conn = None;
  max_src_conn_rate = None;
  overload = None;
  sloppy = false;
  synproxy = false;
  timeouts = no_timeouts;
}

-- the options of the rule of a number; none where it keeps no state
abbrev pub options_of : Conf → ℕ → StateOptions
options_of conf n = unwrap_or (options_at conf n) no_options

-- the scope of a rule's source nodes; none where it does not track sources
abbrev pub scope_of : Conf → ℕ → Option Scope
scope_of conf n = (options_of conf n).scope

-- the value that a rule gives for a timeout
abbrev pub given_timeout : TimeoutName → Option StateOptions → Option ℕ
given_timeout name None = None
given_timeout name (Some o) = slice_index_or o.timeouts (place_of name) None

-- the value that the rule of a number gives for a timeout, if it has effect
abbrev pub rule_timeout_of : Conf → ℕ → TimeoutName → Option ℕ
rule_timeout_of conf n name = effective conf.profile (given_timeout name (options_at conf n))

-- whether the states of TCP that the rule of a number makes are tracked by OpenBSD's table of full states: under its profile, but
-- for `sloppy` (pf.conf(5), STATEFUL TRACKING OPTIONS, "sloppy")
abbrev pub tracks_fully : Conf → ℕ → Bool
tracks_fully conf n = is_openbsd conf.profile && not (options_of conf n).sloppy

-- whether the rule of a number has `synproxy state` (pf.conf(5), STATEFUL FILTERING, "synproxy state")
abbrev pub is_synproxy : Conf → ℕ → Bool
is_synproxy conf n = (options_of conf n).synproxy

-- the seconds of `max-src-conn-rate N/S`
abbrev pub rate_seconds : Option Rate → ℕ
rate_seconds None = 0
rate_seconds (Some r) = r.seconds

-- the value that a rule gives for `src.track`, or else this one
abbrev pub src_track_or : ℕ → StateOptions → ℕ
src_track_or value o = unwrap_or (slice_index_or o.timeouts (place_of timeout.SrcTrack) None) value

-- how long a source node of a rule alone is kept after its last state left: the greater of `src.track`, the rule's or else
-- the global one, and of the seconds of its rate (own); of OpenBSD the greater of the two that the rule gives, and the global
-- `src.track` where both are 0 or not given (certain)
abbrev pub rule_retention : Profile → ℕ → StateOptions → ℕ
rule_retention profile.Own global o = max (src_track_or global o) (rate_seconds o.max_src_conn_rate)
rule_retention profile.OpenBsd74 global o =
    let own = max (src_track_or 0 o) (rate_seconds o.max_src_conn_rate) in if own == 0 then global else own

-- how long a source node is kept, by the scope of its rule: one that rules share for the global `src.track`
-- (pf.conf(5), STATEFUL TRACKING OPTIONS)
abbrev pub retention_in : Profile → ℕ → StateOptions → Option Scope → ℕ
retention_in profile global o (Some scope.Rule) = rule_retention profile global o
retention_in profile global o _ = global

-- how long a source node of the rule of a number is kept
abbrev pub retention_of : Conf → ℕ → ℕ
retention_of conf n = retention_in conf.profile (timeout_of conf timeout.SrcTrack) (options_of conf n) (options_of conf n).scope

-- how many entries tables have together
abbrev pub entries_in : List TableDef → ℕ
entries_in tables = sum_by (λ (t : TableDef). length t.entries) tables

-- how many entries the tables of a configuration have
abbrev pub entry_count_of : Conf → ℕ
entry_count_of conf = entries_in conf.tables

-- whether this is the name of a table
abbrev pub has_name : List ℕ → TableDef → Bool
has_name name t = bytes_eq t.name name

-- the number of the table of a name, if there is one (pf.conf(5), TABLES)
abbrev pub table_named : Conf → List ℕ → Option TableNo
table_named conf name = option_map (λ n. record { 0 = n }) (position (has_name name) conf.tables)

-- ---- tags (pf.conf(5), PARAMETERS, "tag")

-- whether a rule gives this tag
abbrev pub gives : List ℕ → Option (List ℕ) → Bool
gives name None = false
gives name (Some tag) = bytes_eq tag name

abbrev pub gives_in : List ℕ → Option Rule → Bool
gives_in name None = false
gives_in name (Some r) = gives name r.tag

-- a tag is known by the number of the first rule that gives it; one that no rule gives is not known (own)
abbrev pub tag_named : List Item → List ℕ → Option TagNo
tag_named items name = option_map (λ n. record { 0 = n }) (position (λ (i : Item). gives_in name (rule_in i.what)) items)

-- ---- translation (pf.conf(5), TRANSLATION)

-- whether an item is a rule that translates
abbrev pub translates_in : Option Rule → Bool
translates_in None = false
translates_in (Some r) = translates_by r.translation

-- whether some rule does
abbrev pub translates : Conf → Bool
translates conf = list_any (λ (i : Item). translates_in (rule_in i.what)) conf.items

-- ---- what its load rules ask of tables and of an adaptive pair

-- the names of tables
abbrev pub table_names : List TableDef → List (List ℕ)
table_names tables = map (λ (t : TableDef). t.name) tables

-- an adaptive pair: both 0, or the start below the end
abbrev pub is_adaptive : ℕ → ℕ → Bool
is_adaptive start end = ((start == 0) && (end == 0)) || nat_lt start end

-- whether a table is `const`
abbrev pub is_const_table : Option TableDef → Bool
is_const_table None = false
is_const_table (Some t) = t.is_const

-- whether `overload` names a table that is `const`
abbrev pub overloads_const_by : List TableDef → Option Overload → Bool
overloads_const_by tables None = false
overloads_const_by tables (Some v) = is_const_table (slice_get tables v.table.0)

-- whether the `overload` of options does
abbrev pub adds_to_const : List TableDef → Option StateOptions → Bool
adds_to_const tables None = false
adds_to_const tables (Some o) = overloads_const_by tables o.overload

-- whether an item is a rule whose `overload` names a `const` table
abbrev pub overloads_const : List TableDef → Item → Bool
overloads_const tables i = adds_to_const tables (option_and_then (λ (r : Rule). options_in r.action) (rule_in i.what))

-- ---- what its load rules ask of the profile

-- whether options are those of `synproxy state`
abbrev pub proxies : Option StateOptions → Bool
proxies None = false
proxies (Some o) = o.synproxy

-- whether an item is a rule with `synproxy state`
abbrev pub has_synproxy : Item → Bool
has_synproxy i = proxies (option_and_then (λ (r : Rule). options_in r.action) (rule_in i.what))

-- whether this is `match`
abbrev pub is_match : Action → Bool
is_match action.Match = true
is_match _ = false

-- whether a rule is a `match` rule, or gives or asks for a tag, or asks for the interface by which a packet came, or translates
abbrev pub marks : Rule → Bool
marks r = is_match r.action || is_some r.tag || is_some r.came.tagged || is_some r.came.received_on || translates_by r.translation

abbrev pub marks_in : Option Rule → Bool
marks_in None = false
marks_in (Some r) = marks r

-- whether an item needs the profile of OpenBSD 7.4, and the text has it not
abbrev pub needs_profile : Profile → Item → Bool
needs_profile profile.Own i = has_synproxy i || marks_in (rule_in i.what)
needs_profile profile.OpenBsd74 i = false
