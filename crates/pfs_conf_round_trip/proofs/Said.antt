-- What the grammar reads a canonical text as: tables by their names, both hosts where one of them is given, the scope as it is
-- written.
use Rattle.std.specs.Prelude.{ℕ, Bool, false, if◌then◌else◌, ◌&&◌, List, [], ◌∷◌, Option, Some, None, slice_get}
use Rattle.std.specs.Option.{option_map}
use Rattle.pfs_conf_values.specs.declared.actions.Action.{Action}
use Rattle.pfs_conf_values.specs.declared.actions.Action.TheVariants as action
use Rattle.pfs_conf_values.specs.declared.actions.Overload.{Overload}
use Rattle.pfs_conf_values.specs.declared.actions.Scope.{Scope}
use Rattle.pfs_conf_values.specs.declared.actions.Scope.TheVariants as scope
use Rattle.pfs_conf_values.specs.declared.actions.StateOptions.{StateOptions}
use Rattle.pfs_conf_values.specs.declared.filters.Filter.{Filter}
use Rattle.pfs_conf_values.specs.declared.filters.Host.{Host}
use Rattle.pfs_conf_values.specs.declared.filters.Host.TheVariants as host
use Rattle.pfs_conf_values.specs.declared.filters.Side.{Side}
use Rattle.pfs_conf_values.specs.declared.filters.TableNo.{TableNo}
use Rattle.pfs_conf_values.specs.declared.tables.TableDef.{TableDef}
use Rattle.pfs_conf_filters.specs.declared.phrases.Head.{Head}
use Rattle.pfs_conf_filters.specs.declared.phrases.Hosts.{Hosts}
use Rattle.pfs_conf_filters.specs.declared.phrases.Parameters.{Parameters}
use Rattle.pfs_conf_filters.specs.Reading.{all_hosts, given_hosts, marks_of, side}
use Rattle.pfs_conf_options.specs.declared.clauses.Options.{Options}
use Rattle.pfs_conf_options.specs.declared.clauses.OverloadText.{OverloadText}
use Rattle.pfs_conf_options.specs.declared.clauses.StateClause.{StateClause}
use Rattle.pfs_conf_options.specs.declared.clauses.StateClause.TheVariants as clause
use Rattle.pfs_conf_options.specs.declared.clauses.Track.{Track}
use Rattle.pfs_conf_options.specs.declared.clauses.Track.TheVariants as track
use Rattle.pfs_conf_values.specs.Entries.{TextEntry}
use Rattle.pfs_conf_settings.specs.declared.tables.Parts.{Parts}
use Rattle.pfs_conf_show.specs.Filters.{is_every_side}
use Rattle.pfs_conf_show.specs.Tables.{name_in}

-- ---- filters

-- a table of a number, by its name
abbrev pub table_said : List TableDef → TableNo → List ℕ
table_said tables t = name_in (slice_get tables t.0)

abbrev pub host_said : List TableDef → Host TableNo → Host (List ℕ)
host_said tables host.Any = host.Any
host_said tables (host.Prefix p negated) = host.Prefix p negated
host_said tables (host.Table t negated) = host.Table (table_said tables t) negated

abbrev pub side_said : List TableDef → Side TableNo → Side (List ℕ)
side_said tables s = side (host_said tables s.host) s.ports

-- `all`, or both sides
abbrev pub hosts_said : List TableDef → Side TableNo → Side TableNo → Hosts
hosts_said tables from to =
    if is_every_side from && is_every_side to then all_hosts else given_hosts (Some (side_said tables from)) (Some (side_said tables to))

abbrev pub head_said : Bool → Filter → Head
head_said quick f = record { dir = f.dir; marks = marks_of false quick; on = f.on; family = f.family; proto = f.proto }

abbrev pub parameters_said : List TableDef → Bool → Filter → Parameters
parameters_said tables quick f = record { head = head_said quick f; hosts = hosts_said tables f.from f.to }

-- ---- options

abbrev pub track_said : Scope → Track
track_said scope.Rule = track.Rule
track_said scope.Global = track.Global

abbrev pub overload_said : List TableDef → Overload → OverloadText
overload_said tables v = record { table = table_said tables v.table; flush = v.flush }

abbrev pub options_said : List TableDef → StateOptions → Options
options_said tables o = record {
  max = o.max;
  track = option_map track_said o.scope;
  max_src_nodes = o.max_src_nodes;
  max_src_states = o.max_src_states;
  max_src_conn = o.max_src_conn;
  max_src_conn_rate = o.max_src_conn_rate;
  overload = option_map (overload_said tables) o.overload;
  sloppy = o.sloppy;
  floating = false;
  no_sync = false;
  synproxy = o.synproxy;
  timeouts = o.timeouts;
}

-- the state clause of a rule, if one is written
abbrev pub state_said : List TableDef → Action → Option StateClause
state_said tables action.Match = None
state_said tables action.Block = None
state_said tables action.Pass = Some clause.No
state_said tables (action.Keep o) = Some (clause.Keep (options_said tables o))

-- ---- tables

-- the parts of a table's definition
abbrev pub parts_said : Bool → List TextEntry → Parts
parts_said c [] = record { persist = false; is_const = c; counters = false; entries = None }
parts_said c (e ∷ es) = record { persist = false; is_const = c; counters = false; entries = Some (e ∷ es) }
