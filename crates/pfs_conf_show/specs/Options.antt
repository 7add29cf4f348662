-- The state clause of a rule. (pf.conf(5), STATEFUL TRACKING OPTIONS; the order of the options is own)
use Rattle.std.specs.Prelude.{ℕ, Bool, true, false, List, [], ◌∷◌, ◌++◌, Option, Some, None, codes, decimal, slice_index_or}
use Rattle.std.specs.List.{flat_map}
use Rattle.pfs_conf_values.specs.Timeouts.{place_of, timeout_names}
use Rattle.pfs_conf_values.specs.declared.actions.Action.{Action}
use Rattle.pfs_conf_values.specs.declared.actions.Action.TheVariants as action
use Rattle.pfs_conf_values.specs.declared.actions.Overload.{Overload}
use Rattle.pfs_conf_values.specs.declared.actions.Rate.{Rate}
use Rattle.pfs_conf_values.specs.declared.actions.Scope.{Scope}
use Rattle.pfs_conf_values.specs.declared.actions.Scope.TheVariants as scope
use Rattle.pfs_conf_values.specs.declared.actions.StateOptions.{StateOptions}
use Rattle.pfs_conf_values.specs.declared.tables.TableDef.{TableDef}
use Rattle.pfs_conf_values.specs.declared.timeouts.TimeoutName.{TimeoutName}
use Rattle.pfs_conf_show.specs.Pieces.{bracketed_list, text_if_given, word_and_number}
use Rattle.pfs_conf_show.specs.Settings.{timeout_word}
use Rattle.pfs_conf_show.specs.Tables.{table_ref}

-- the scope of source nodes, stated or not
abbrev pub scope_text : Scope → List ℕ
scope_text scope.Rule = codes "source-track rule"
scope_text scope.Global = codes "source-track global"

-- `max-src-conn-rate N/S`
abbrev pub rate_text : Rate → List ℕ
rate_text r = word_and_number (codes "max-src-conn-rate") r.limit ++ (codes "/" ++ decimal r.seconds)

abbrev pub flush_text : Option Scope → List ℕ
flush_text None = []
flush_text (Some scope.Rule) = codes " flush"
flush_text (Some scope.Global) = codes " flush global"

-- `overload <t>`, with what is flushed
abbrev pub overload_text : List TableDef → Overload → List ℕ
overload_text tables v = codes "overload " ++ (table_ref tables v.table ++ flush_text v.flush)

-- `sloppy`, if it is given
abbrev pub sloppy_texts : Bool → List (List ℕ)
sloppy_texts false = []
sloppy_texts true = codes "sloppy" ∷ []

-- the rule's own value of a timeout, if it gives one
abbrev pub rule_timeout_text : List (Option ℕ) → TimeoutName → List (List ℕ)
rule_timeout_text timeouts name = text_if_given (word_and_number (timeout_word name)) (slice_index_or timeouts (place_of name) None)

-- the texts of the options that are given, in their order
abbrev pub option_texts : List TableDef → StateOptions → List (List ℕ)
option_texts tables o =
    text_if_given (word_and_number (codes "max")) o.max
    ++ (text_if_given scope_text o.scope
    ++ (text_if_given (word_and_number (codes "max-src-nodes")) o.max_src_nodes
    ++ (text_if_given (word_and_number (codes "max-src-states")) o.max_src_states
    ++ (text_if_given (word_and_number (codes "max-src-conn")) o.max_src_conn
    ++ (text_if_given rate_text o.max_src_conn_rate
    ++ (text_if_given (overload_text tables) o.overload
    ++ (sloppy_texts o.sloppy
    ++ flat_map (rule_timeout_text o.timeouts) timeout_names)))))))

-- ` (o, o, ..)`, or nothing
abbrev pub options_text : List TableDef → StateOptions → List ℕ
options_text tables o = bracketed_list (codes " (") (codes ")") (option_texts tables o)

-- how the state clause of a rule that keeps state begins (pf.conf(5), STATEFUL FILTERING)
abbrev pub kept_text : Bool → List ℕ
kept_text false = codes " keep state"
kept_text true = codes " synproxy state"

-- the state clause of a pass rule; no other has one
abbrev pub state_text : List TableDef → Action → List ℕ
state_text tables action.Match = []
state_text tables action.Block = []
state_text tables action.Pass = codes " no state"
state_text tables (action.Keep o) = kept_text o.synproxy ++ options_text tables o
