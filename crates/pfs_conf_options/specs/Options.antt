-- What the options of a state clause mean, and which load rules they break.
use Rattle.std.specs.Prelude.{ℕ, Bool, true, false, ◌&&◌, ◌||◌, not, if◌then◌else◌, Option, Some, None, is_some, slice_index_or}
use Rattle.pfs_conf_tokens.specs.declared.keys.Key.{Key}
use Rattle.pfs_conf_tokens.specs.declared.keys.Key.TheVariants as key
use Rattle.pfs_conf_tokens.specs.Keys.{timeout_place}
use Rattle.pfs_conf_values.specs.Timeouts.{place_of, no_timeouts}
use Rattle.pfs_conf_values.specs.Bounds.{broken_rule_pair, is_global}
use Rattle.pfs_conf_values.specs.declared.timeouts.TimeoutName.{TimeoutName}
use Rattle.pfs_conf_values.specs.declared.timeouts.TimeoutName.TheVariants as timeout
use Rattle.pfs_conf_values.specs.declared.actions.Scope.{Scope}
use Rattle.pfs_conf_values.specs.declared.actions.Scope.TheVariants as scope
use Rattle.pfs_conf_values.specs.declared.actions.Overload.{Overload}
use Rattle.pfs_conf_values.specs.declared.actions.StateOptions.{StateOptions}
use Rattle.pfs_conf_values.specs.declared.filters.TableNo.{TableNo}
use Rattle.pfs_conf_options.specs.declared.clauses.Track.{Track}
use Rattle.pfs_conf_options.specs.declared.clauses.Track.TheVariants as track
use Rattle.pfs_conf_options.specs.declared.clauses.OverloadText.{OverloadText}
use Rattle.pfs_conf_options.specs.declared.clauses.Options.{Options}
use Rattle.pfs_conf_options.specs.declared.clauses.StateClause.{StateClause}
use Rattle.pfs_conf_options.specs.declared.clauses.StateClause.TheVariants as clause

-- no option is given
abbrev pub none_given : Options
none_given = record {
  max = None;
  track = None;
  max_src_nodes = None;
  max_src_states = None;
  max_src_conn = None;
  max_src_conn_rate = None;
  overload = None;
  sloppy = false;
  floating = false;
  no_sync = false;
  synproxy = false;
  timeouts = no_timeouts;
}

-- the same options of `synproxy state` (pf.conf(5), STATEFUL FILTERING)
abbrev pub proxied : Options → Options
proxied o = record o { synproxy = true }

-- the options of a state clause; `no state` has none
abbrev pub options_given : StateClause → Options
options_given clause.No = none_given
options_given (clause.Keep o) = o

-- the place of a timeout that a rule may have: of all but `interval`
abbrev pub rule_place : Key → Option ℕ
rule_place key.Interval = None
rule_place k = timeout_place k

-- the value that the options give for a timeout
abbrev pub given_for : TimeoutName → Options → Option ℕ
given_for name o = slice_index_or o.timeouts (place_of name) None

-- ---- the scope (pf.conf(5), STATEFUL TRACKING OPTIONS, "source-track")

-- whether connections of a source are limited: `max-src-conn` or `max-src-conn-rate`
abbrev pub has_connection_limit : Options → Bool
has_connection_limit o = is_some o.max_src_conn || is_some o.max_src_conn_rate

-- the scope, where this is written after `source-track`, or nothing of it. Without a stated scope: rule if
-- `max-src-nodes`, `max-src-conn` or `max-src-conn-rate` is given; else global if `max-src-states` or a bare
-- `source-track` is; else sources are not tracked (own)
abbrev pub scope_by_track : Options → Option Track → Option Scope
scope_by_track o (Some track.Rule) = Some scope.Rule
scope_by_track o (Some track.Global) = Some scope.Global
scope_by_track o t =
    if is_some o.max_src_nodes || has_connection_limit o then Some scope.Rule
    else if is_some o.max_src_states || is_some t then Some scope.Global
    else None

-- the scope of the rule's source nodes, stated or not
abbrev pub scope_of_options : Options → Option Scope
scope_of_options o = scope_by_track o o.track

-- ---- load rules

-- whether `source-track global` is written
abbrev pub states_global : Option Track → Bool
states_global (Some track.Global) = true
states_global _ = false

-- `overload` without `max-src-conn` and without `max-src-conn-rate`
abbrev pub has_overload_alone : Options → Bool
has_overload_alone o = is_some o.overload && not (has_connection_limit o)

-- `source-track global` with `max-src-conn` or `max-src-conn-rate`
abbrev pub has_global_connections : Options → Bool
has_global_connections o = states_global o.track && has_connection_limit o

-- scope global, stated or not, with a `src.track` of the rule's own
abbrev pub has_global_retention : Options → Bool
has_global_retention o = is_global (scope_of_options o) && is_some (given_for timeout.SrcTrack o)

-- one adaptive value without the other, or not 1 <= start < end
abbrev pub has_broken_rule_pair : Options → Bool
has_broken_rule_pair o = broken_rule_pair (given_for timeout.AdaptiveStart o) (given_for timeout.AdaptiveEnd o)

-- ---- the options of a configuration

-- what `overload` does, where its table has this number
abbrev pub overload_to : Option OverloadText → Option TableNo → Option Overload
overload_to None table = None
overload_to (Some v) None = None
overload_to (Some v) (Some table) = Some (record { table = table; flush = v.flush })

-- the options with the scope that they mean, and the table by its number
abbrev pub resolved_options : Options → Option TableNo → StateOptions
resolved_options o table = record {
  max = o.max;
  scope = scope_of_options o;
  max_src_nodes = o.max_src_nodes;
  max_src_states = o.max_src_states;
  max_src_conn = o.max_src_conn;
  max_src_conn_rate = o.max_src_conn_rate;
  overload = overload_to o.overload table;
  sloppy = o.sloppy;
  synproxy = o.synproxy;
  timeouts = o.timeouts;
}

-- ---- what is read
