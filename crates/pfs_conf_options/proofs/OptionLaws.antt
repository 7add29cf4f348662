-- The readers of a state clause look no further than the token in front of what they leave.
use Rattle.std.proofs.Common.{◌≡◌, ℕ, ◌<◌, Bool, true, false, List, Option, Some, None, Result, refl, subst, slice_index_or, slice_set, nat_lt}
use Rattle.std.proofs.lemmas.Bool.{ltb-true}
use Rattle.pfs_conf_tokens.specs.Tokens.{Tok}
use Rattle.pfs_conf_tokens.specs.declared.keys.Key.{Key}
use Rattle.pfs_conf_tokens.specs.declared.keys.Key.TheVariants as key
use Rattle.pfs_conf_tokens.specs.Keys.{timeout_place}
use Rattle.pfs_conf_tokens.specs.Reading.{closes_parens, Refused, Act, done, number_at, next_of}
use Rattle.pfs_conf_tokens.proofs.Laws.{Taking, OnlineAct, Online, inside, online_done, online_chain, online_front, online_taking, once_taking, front_shrinks, Shrinks}
use Rattle.pfs_conf_tokens.proofs.ValueLaws.{online_table_name}
use Rattle.pfs_conf_tokens.proofs.ReaderLaws.{closes_parens_in_line, online_number, online_list, next_shrinks, timeout_in_line}
use Rattle.pfs_conf_values.specs.declared.actions.Scope.TheVariants as scope
use Rattle.pfs_conf_values.specs.declared.actions.Rate.{Rate}
use Rattle.pfs_conf_options.specs.declared.clauses.Track.TheVariants as track
use Rattle.pfs_conf_options.specs.declared.clauses.Options.{Options}
use Rattle.pfs_conf_options.specs.declared.clauses.StateClause.{StateClause}
use Rattle.pfs_conf_options.specs.declared.clauses.StateClause.TheVariants as clause
use Rattle.pfs_conf_options.specs.Options.{none_given, proxied, rule_place}
use Rattle.pfs_conf_values.specs.Bounds.{greatest_timeout}
use Rattle.pfs_conf_options.specs.Reading.{track_by, track_at, rate_of, rate_found, rate_by, rate_at, name_closed_by, name_closed, table_by, table_at, flushed_by, flush_by, flush_at, overload_text_at, mark_once, timeout_by, mark_by, connection_by, option_by, option_at, state_options_at, kept_by, kept_at, kept_clause, proxied_clause, behind_state, state_word, state_by, state_at}
use Rattle.pfs_conf_tokens.specs.Values.{table_name_at}

-- ---- what follows an option's word

track_acts : (k : Key) → OnlineAct inside k (track_by k)
track_acts key.Rule = (refl, online_done track.Rule)
track_acts key.Global = (refl, online_done track.Global)
track_acts _ = online_done track.Bare

pub online_track : Online inside track_at
unfolding track_at
online_track = online_front (λ t. track_by t.key) (λ t. track_acts t.key)

rate_taking : (text : List ℕ) (k : Key) → Taking inside k (rate_by text k)
rate_taking text key.Number = found (rate_of text)
  where
    found : (r : Option Rate) → Taking inside key.Number (rate_found r)
    found None = tt
    found (Some r) = (refl, online_done r)
rate_taking text _ = tt

pub online_rate : Online inside rate_at
unfolding rate_at
online_rate = online_taking (λ t. rate_by t.text t.key) (λ t. rate_taking t.text t.key)

closed_taking : (name : List ℕ) (k : Key) → Taking inside k (name_closed_by name k)
closed_taking name key.CloseAngle = (refl, online_done name)
closed_taking name _ = tt

online_closed : (name : List ℕ) → Online inside (name_closed name)
online_closed name = online_taking (λ t. name_closed_by name t.key) (λ t. closed_taking name t.key)

table_taking : (k : Key) → Taking inside k (table_by k)
table_taking key.OpenAngle = (refl, online_chain table_name_at name_closed online_table_name online_closed)
table_taking _ = tt

pub online_table : Online inside table_at
unfolding table_at
online_table = online_taking (λ t. table_by t.key) (λ t. table_taking t.key)

flushed_acts : (k : Key) → OnlineAct inside k (flushed_by k)
flushed_acts key.Global = (refl, online_done (Some scope.Global))
flushed_acts _ = online_done (Some scope.Rule)

flush_acts : (k : Key) → OnlineAct inside k (flush_by k)
flush_acts key.Flush = (refl, online_front (λ t. flushed_by t.key) (λ t. flushed_acts t.key))
flush_acts _ = online_done None

pub online_flush : Online inside flush_at
unfolding flush_at
online_flush = online_front (λ t. flush_by t.key) (λ t. flush_acts t.key)

pub online_overload : Online inside overload_text_at
unfolding overload_text_at
online_overload =
    online_chain table_at _ online_table (λ name.
    online_chain flush_at _ online_flush (λ f.
    online_done (record { table = name; flush = f })))

-- ---- options

-- a timeout that a rule may have is one
pub rule_place_is : (k : Key) (place : ℕ) → rule_place k ≡ Some place → timeout_place k ≡ Some place
rule_place_is key.Interval place e = absurd cc
rule_place_is _ place e = e

-- and its place is one of the sixteen
abbrev is_within : Option ℕ → Bool
is_within None = true
is_within (Some place) = nat_lt place 16

timeout_within : (k : Key) → is_within (timeout_place k) ≡ true
timeout_within key.Interval = refl
timeout_within _ = refl

pub timeout_place_below : (k : Key) (place : ℕ) → timeout_place k ≡ Some place → place < 16
timeout_place_below k place e = ltb-true place 16 (subst (λ (o : Option ℕ). is_within o ≡ true) e (timeout_within k))

timeout_taking : (k : Key) (o : Options) (place : Option ℕ) → rule_place k ≡ place → Taking inside k (timeout_by place o)
timeout_taking k o None e = tt
timeout_taking k o (Some place) e = once_taking inside k (slice_index_or o.timeouts place None) _ (timeout_in_line k place (rule_place_is k place e), online_chain (number_at 0 (greatest_timeout place)) _ (online_number 0 (greatest_timeout place)) (λ n. online_done (record o { timeouts = slice_set o.timeouts place (Some n) })))

mark_once_taking : (k : Key) (b : Bool) (a : Act Options) → Taking inside k a → Taking inside k (mark_once b a)
mark_once_taking k true a h = tt
mark_once_taking k false a h = h

mark_taking : (o : Options) (k : Key) → Taking inside k (mark_by k o)
mark_taking o key.Sloppy = mark_once_taking key.Sloppy o.sloppy _ (refl, online_done (record o { sloppy = true }))
mark_taking o key.Floating = mark_once_taking key.Floating o.floating _ (refl, online_done (record o { floating = true }))
mark_taking o key.NoSync = mark_once_taking key.NoSync o.no_sync _ (refl, online_done (record o { no_sync = true }))
mark_taking o k = timeout_taking k o (rule_place k) refl

connection_taking : (o : Options) (k : Key) → Taking inside k (connection_by k o)
connection_taking o key.MaxSrcConn = once_taking inside key.MaxSrcConn o.max_src_conn _ (refl, online_chain (number_at 1 4294967295) _ (online_number 1 4294967295) (λ n. online_done (record o { max_src_conn = Some n })))
connection_taking o key.MaxSrcConnRate = once_taking inside key.MaxSrcConnRate o.max_src_conn_rate _ (refl, online_chain rate_at _ online_rate (λ r. online_done (record o { max_src_conn_rate = Some r })))
connection_taking o key.Overload = once_taking inside key.Overload o.overload _ (refl, online_chain overload_text_at _ online_overload (λ v. online_done (record o { overload = Some v })))
connection_taking o k = mark_taking o k

option_taking : (o : Options) (k : Key) → Taking inside k (option_by k o)
option_taking o key.Max = once_taking inside key.Max o.max _ (refl, online_chain (number_at 1 4294967295) _ (online_number 1 4294967295) (λ n. online_done (record o { max = Some n })))
option_taking o key.SourceTrack = once_taking inside key.SourceTrack o.track _ (refl, online_chain track_at _ online_track (λ s. online_done (record o { track = Some s })))
option_taking o key.MaxSrcNodes = once_taking inside key.MaxSrcNodes o.max_src_nodes _ (refl, online_chain (number_at 1 4294967295) _ (online_number 1 4294967295) (λ n. online_done (record o { max_src_nodes = Some n })))
option_taking o key.MaxSrcStates = once_taking inside key.MaxSrcStates o.max_src_states _ (refl, online_chain (number_at 1 4294967295) _ (online_number 1 4294967295) (λ n. online_done (record o { max_src_states = Some n })))
option_taking o k = connection_taking o k

pub online_option : (o : Options) → Online inside (option_at o)
unfolding option_at
online_option o = online_taking (λ t. option_by t.key o) (λ t. option_taking o t.key)

pub option_shrinks : (o : Options) → Shrinks (option_at o)
unfolding option_at
option_shrinks o = front_shrinks inside (λ t. option_by t.key o) (λ t. option_taking o t.key)

pub next_option_shrinks : (o : Options) → Shrinks (next_of option_at o)
next_option_shrinks o = next_shrinks option_at option_shrinks o

pub online_options : Online inside state_options_at
unfolding state_options_at
online_options = online_list closes_parens option_at closes_parens_in_line option_shrinks online_option none_given

-- ---- the clause

kept_acts : (k : Key) → OnlineAct inside k (kept_by k)
kept_acts key.OpenParen = (refl, online_options)
kept_acts _ = online_done none_given

pub online_kept : Online inside kept_at
unfolding kept_at
online_kept = online_front (λ t. kept_by t.key) (λ t. kept_acts t.key)

online_kept_clause : Online inside kept_clause
online_kept_clause = online_chain kept_at _ online_kept (λ o. online_done (clause.Keep o))

online_proxied_clause : Online inside proxied_clause
online_proxied_clause = online_chain kept_at _ online_kept (λ o. online_done (clause.Keep (proxied o)))

online_state_word : (f : List Tok → Result (StateClause × List Tok) Refused) → Online inside f → Online inside (state_word f)
online_state_word f h = online_taking (λ t. behind_state f t.key) (λ t. taking t.key)
  where
    taking : (k : Key) → Taking inside k (behind_state f k)
    taking key.State = (refl, h)
    taking _ = tt

state_taking : (k : Key) → Taking inside k (state_by k)
state_taking key.No = (refl, online_state_word (done clause.No) (online_done clause.No))
state_taking key.Keep = (refl, online_state_word kept_clause online_kept_clause)
state_taking key.Synproxy = (refl, online_state_word proxied_clause online_proxied_clause)
state_taking _ = tt

pub online_state : Online inside state_at
unfolding state_at
online_state = online_taking (λ t. state_by t.key) (λ t. state_taking t.key)

-- a state clause takes a token
pub state_shrinks : Shrinks state_at
unfolding state_at
state_shrinks = front_shrinks inside (λ t. state_by t.key) (λ t. state_taking t.key)
