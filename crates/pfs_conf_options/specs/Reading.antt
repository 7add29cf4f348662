-- How a state clause is read from left to right; made of the parts of pfs_conf_tokens' specs/Reading.antt alone. (not promised)
use Rattle.std.specs.Prelude.{ℕ, Bool, true, false, List, Option, Some, None, nat_le, ◌&&◌, if◌then◌else◌, slice_index_or, slice_set}
use Rattle.pfs_conf_tokens.specs.declared.keys.Key.{Key}
use Rattle.pfs_conf_tokens.specs.declared.keys.Key.TheVariants as key
use Rattle.pfs_conf_tokens.specs.declared.refusals.Why.TheVariants as why
use Rattle.pfs_conf_tokens.specs.Reading.{closes_parens, Reader, Act, take, stay, refuse, on_front, done, chain, once, list_all, number_at}
use Rattle.pfs_conf_tokens.specs.Numbers.{number_written, split_around}
use Rattle.pfs_conf_tokens.specs.Values.{table_name_at}
use Rattle.pfs_conf_values.specs.Bounds.{greatest_timeout}
use Rattle.pfs_conf_values.specs.declared.actions.Rate.{Rate}
use Rattle.pfs_conf_values.specs.declared.actions.Scope.{Scope}
use Rattle.pfs_conf_values.specs.declared.actions.Scope.TheVariants as scope
use Rattle.pfs_conf_options.specs.declared.clauses.Track.{Track}
use Rattle.pfs_conf_options.specs.declared.clauses.Track.TheVariants as track
use Rattle.pfs_conf_options.specs.declared.clauses.OverloadText.{OverloadText}
use Rattle.pfs_conf_options.specs.declared.clauses.Options.{Options}
use Rattle.pfs_conf_options.specs.declared.clauses.StateClause.{StateClause}
use Rattle.pfs_conf_options.specs.declared.clauses.StateClause.TheVariants as clause
use Rattle.pfs_conf_options.specs.Options.{none_given, proxied, rule_place}

-- ---- what follows an option's word

-- the word after `source-track`, if any
abbrev pub track_by : Key → Act Track
track_by key.Rule = take (done track.Rule)
track_by key.Global = take (done track.Global)
track_by _ = stay (done track.Bare)

unfoldable pub track_at : Reader Track
track_at ts = on_front (λ t. track_by t.key) ts

-- a number from 1 to a greatest
abbrev pub count_in : ℕ → Option ℕ → Option ℕ
count_in high None = None
count_in high (Some n) = if nat_le 1 n && nat_le n high then Some n else None

-- the number from 1 to a greatest that a text writes
abbrev pub count_written : ℕ → List ℕ → Option ℕ
count_written high text = count_in high (number_written text)

-- N/S as one word: N is 1 to 4294967, S is 1 to 2147483647
abbrev pub rate_with : Option ℕ → Option ℕ → Option Rate
rate_with None s = None
rate_with (Some n) None = None
rate_with (Some n) (Some s) = Some (record { limit = n; seconds = s })

-- the rate that the texts before and after the slash write
abbrev pub rate_parts : Option (List ℕ × List ℕ) → Option Rate
rate_parts None = None
rate_parts (Some parts) = rate_with (count_written 4294967 parts.0) (count_written 2147483647 parts.1)

unfoldable pub rate_of : List ℕ → Option Rate
rate_of text = rate_parts (split_around 47 text)

-- where a rate is wanted
abbrev pub rate_found : Option Rate → Act Rate
rate_found None = refuse why.Number
rate_found (Some r) = take (done r)

abbrev pub rate_by : List ℕ → Key → Act Rate
rate_by text key.Number = rate_found (rate_of text)
rate_by text _ = refuse why.Number

unfoldable pub rate_at : Reader Rate
rate_at ts = on_front (λ t. rate_by t.text t.key) ts

-- the name of a table in angle brackets: after the name, the closing bracket
abbrev pub name_closed_by : List ℕ → Key → Act (List ℕ)
name_closed_by name key.CloseAngle = take (done name)
name_closed_by name _ = refuse why.Plain

abbrev pub name_closed : List ℕ → Reader (List ℕ)
name_closed name ts = on_front (λ t. name_closed_by name t.key) ts

-- from the opening bracket on
abbrev pub table_by : Key → Act (List ℕ)
table_by key.OpenAngle = take (chain table_name_at name_closed)
table_by _ = refuse why.Plain

unfoldable pub table_at : Reader (List ℕ)
table_at ts = on_front (λ t. table_by t.key) ts

-- `flush`, `flush global`, or neither
abbrev pub flushed_by : Key → Act (Option Scope)
flushed_by key.Global = take (done (Some scope.Global))
flushed_by _ = stay (done (Some scope.Rule))

abbrev pub flush_scope_at : Reader (Option Scope)
flush_scope_at ts = on_front (λ t. flushed_by t.key) ts

-- from `flush` on
abbrev pub flush_by : Key → Act (Option Scope)
flush_by key.Flush = take flush_scope_at
flush_by _ = stay (done None)

unfoldable pub flush_at : Reader (Option Scope)
flush_at ts = on_front (λ t. flush_by t.key) ts

-- the table after `overload`, and what is flushed
unfoldable pub overload_text_at : Reader OverloadText
overload_text_at ts = chain table_at (λ name. chain flush_at (λ f. done (record { table = name; flush = f }))) ts

-- ---- options: each is given at most once

-- a word that says all by itself
abbrev pub mark_once : Bool → Act Options → Act Options
mark_once true a = refuse why.Again
mark_once false a = a

-- any other word is that of a timeout
abbrev pub timeout_by : Option ℕ → Options → Act Options
timeout_by None o = refuse why.Plain
timeout_by (Some place) o = once (slice_index_or o.timeouts place None) (take (chain (number_at 0 (greatest_timeout place)) (λ n. done (record o { timeouts = slice_set o.timeouts place (Some n) }))))

unfoldable pub timeout_at : Options → Reader Options
timeout_at o ts = on_front (λ t. timeout_by (rule_place t.key) o) ts

-- a word that says all by itself, or a timeout
abbrev pub mark_by : Key → Options → Act Options
mark_by key.Sloppy o = mark_once o.sloppy (take (done (record o { sloppy = true })))
mark_by key.Floating o = mark_once o.floating (take (done (record o { floating = true })))
mark_by key.NoSync o = mark_once o.no_sync (take (done (record o { no_sync = true })))
mark_by k o = timeout_by (rule_place k) o

unfoldable pub state_mark_at : Options → Reader Options
state_mark_at o ts = on_front (λ t. mark_by t.key o) ts

-- an option on the connections of a source
abbrev pub connection_by : Key → Options → Act Options
connection_by key.MaxSrcConn o = once o.max_src_conn (take (chain (number_at 1 4294967295) (λ n. done (record o { max_src_conn = Some n }))))
connection_by key.MaxSrcConnRate o = once o.max_src_conn_rate (take (chain rate_at (λ r. done (record o { max_src_conn_rate = Some r }))))
connection_by key.Overload o = once o.overload (take (chain overload_text_at (λ v. done (record o { overload = Some v }))))
connection_by k o = mark_by k o

unfoldable pub connection_at : Options → Reader Options
connection_at o ts = on_front (λ t. connection_by t.key o) ts

-- an option is added to those that are read already
abbrev pub option_by : Key → Options → Act Options
option_by key.Max o = once o.max (take (chain (number_at 1 4294967295) (λ n. done (record o { max = Some n }))))
option_by key.SourceTrack o = once o.track (take (chain track_at (λ s. done (record o { track = Some s }))))
option_by key.MaxSrcNodes o = once o.max_src_nodes (take (chain (number_at 1 4294967295) (λ n. done (record o { max_src_nodes = Some n }))))
option_by key.MaxSrcStates o = once o.max_src_states (take (chain (number_at 1 4294967295) (λ n. done (record o { max_src_states = Some n }))))
option_by k o = connection_by k o

unfoldable pub option_at : Options → Reader Options
option_at o ts = on_front (λ t. option_by t.key o) ts

-- ---- the clause

-- one option or more, up to the closing parenthesis
unfoldable pub state_options_at : Reader Options
state_options_at ts = list_all closes_parens option_at none_given ts

-- after `keep state` or `synproxy state`: options in parentheses, or none
abbrev pub kept_by : Key → Act Options
kept_by key.OpenParen = take state_options_at
kept_by _ = stay (done none_given)

unfoldable pub kept_at : Reader Options
kept_at ts = on_front (λ t. kept_by t.key) ts

-- the clause that `keep state` makes of them
abbrev pub kept_clause : Reader StateClause
kept_clause ts = chain kept_at (λ o. done (clause.Keep o)) ts

-- and that `synproxy state` makes
abbrev pub proxied_clause : Reader StateClause
proxied_clause ts = chain kept_at (λ o. done (clause.Keep (proxied o))) ts

-- the word `state`, and what follows it
abbrev pub behind_state : Reader StateClause → Key → Act StateClause
behind_state f key.State = take f
behind_state f _ = refuse why.Plain

abbrev pub state_word : Reader StateClause → Reader StateClause
state_word f ts = on_front (λ t. behind_state f t.key) ts

-- `no state`, or `keep state` or `synproxy state` with its options
abbrev pub state_by : Key → Act StateClause
state_by key.No = take (state_word (done clause.No))
state_by key.Keep = take (state_word kept_clause)
state_by key.Synproxy = take (state_word proxied_clause)
state_by _ = refuse why.Plain

unfoldable pub state_at : Reader StateClause
state_at ts = on_front (λ t. state_by t.key) ts
