-- What a state clause that is read keeps, and that its options, resolved, are such as a configuration has.
use Rattle.pfs_conf_tokens.specs.declared.refusals.Refusal.{Refusal}
use Rattle.pfs_conf_tokens.specs.TokenResults.{Gives}
use Rattle.pfs_conf_options.specs.Reading.{state_at}
use Rattle.pfs_conf_options.proofs.PhraseLaws.{state_is}
use Rattle.std.proofs.Common.{Result, Ok, Err, IfOk, ◌≡◌, ℕ, ◌<◌, ◌≤◌, Bool, true, false, cond, List, Option, Some, None, is_some, is_none, IfSome, refl, sym, subst, ◌∙◌, arith, ◌&&◌, ◌||◌, not, ◌==◌, slice_index_or, slice_set, length-set, inl, inr}
use Rattle.std.proofs.lemmas.List.{get_or-set_same, get_or-set_other, get_or_past, get_or-replicate}
use Rattle.std.proofs.lemmas.Bool.{cases_lt, cases_eq, eqb-false}
use Rattle.pfs_conf_tokens.specs.Tokens.{Tok}
use Rattle.pfs_conf_tokens.specs.declared.keys.Key.{Key}
use Rattle.pfs_conf_tokens.specs.declared.keys.Key.TheVariants as key
use Rattle.pfs_conf_tokens.specs.Grammar.{Number, Until, ends, goes, NextOf, plain, comma}
use Rattle.pfs_addr_values.specs.Names.{is_name, name_of}
use Rattle.pfs_conf_values.specs.Timeouts.{no_timeouts}
use Rattle.pfs_conf_values.specs.LoadRules.{IsCount, IsTimeout, IsTableNo, limits_connections, AreOptions}
use Rattle.pfs_conf_values.specs.Bounds.{greatest_timeout, is_global}
use Rattle.pfs_conf_values.specs.declared.actions.Scope.TheVariants as scope
use Rattle.pfs_conf_values.specs.declared.filters.TableNo.{TableNo}
use Rattle.pfs_conf_options.specs.declared.clauses.Track.{Track}
use Rattle.pfs_conf_options.specs.declared.clauses.Track.TheVariants as track
use Rattle.pfs_conf_options.specs.declared.clauses.OverloadText.{OverloadText}
use Rattle.pfs_conf_options.specs.declared.clauses.Options.{Options}
use Rattle.pfs_conf_options.specs.declared.clauses.StateClause.{StateClause}
use Rattle.pfs_conf_options.specs.Options.{none_given, options_given, proxied, rule_place, has_connection_limit, scope_by_track, states_global, has_overload_alone, has_global_connections, has_global_retention, has_broken_rule_pair, overload_to, resolved_options}
use Rattle.pfs_conf_options.specs.Bounds.{AreRead}
use Rattle.pfs_conf_options.specs.Grammar.{TableOf, OptionOf, max, source_track, max_src_nodes, max_src_states, max_src_conn, max_src_conn_rate, overload, sloppy, floating, no_sync, timeout, plainly, listed, StateOf, no, keep, proxy}
use Rattle.pfs_conf_options.proofs.OptionLaws.{timeout_place_below, rule_place_is}

-- ---- what is read

none_at : (place : ℕ) → slice_index_or no_timeouts place None ≡ None
none_at place = elim (cases_lt place 16) [
  | inl below ↦ get_or-replicate 16 place None None below
  | inr past ↦ get_or_past no_timeouts place None past
]

no_options_read : AreRead none_given
no_options_read = record {
  max = tt;
  max_src_nodes = tt;
  max_src_states = tt;
  max_src_conn = tt;
  max_src_conn_rate = tt;
  overload = tt;
  no_interval = none_at 13;
  timeouts = λ place. subst (λ (z : Option ℕ). IfSome z (IsTimeout place)) (sym (none_at place)) tt;
  size = refl;
}

counted : {ts left : List Tok} {n : ℕ} → Number 1 4294967295 ts n left → IsCount n
counted w = (w.4, w.5)

-- a name of a table is a name
named : (text name : List ℕ) → name_of 31 text ≡ Some name → is_name 31 name ≡ true
named text name e = choose (is_name 31 text) refl e
  where
    choose : (b : Bool) → is_name 31 text ≡ b → cond b (Some text) None ≡ Some name → is_name 31 name ≡ true
    choose true g h = let same : text ≡ name = cc in subst (λ (z : List ℕ). is_name 31 z ≡ true) same g
    choose false g h = absurd cc

table_named : {ts left : List Tok} {name : List ℕ} → TableOf ts name left → is_name 31 name ≡ true
table_named {name = name} w = named w.named.0.text name w.named.3

-- `interval` is none of a rule
abbrev is_interval : Option ℕ → Bool
is_interval None = false
is_interval (Some place) = place == 13

no_interval_by : (k : Key) → is_interval (rule_place k) ≡ false
no_interval_by key.Interval = refl
no_interval_by _ = refl

not_interval : (k : Key) (place : ℕ) → rule_place k ≡ Some place → (place == 13) ≡ false
not_interval k place e = subst (λ (z : Option ℕ). is_interval z ≡ false) e (no_interval_by k)

-- a value within the bounds of its timeout
timeout_is_within : (place n : ℕ) → (place == 13) ≡ false → n ≤ greatest_timeout place → IsTimeout place n
timeout_is_within place n e high = (subst (λ (b : Bool). cond b 1 0 ≤ n) (sym e) (omega arith), high)

-- one more timeout keeps what is read
with_timeout : (o : Options) → AreRead o → (k : Key) (place n : ℕ) → rule_place k ≡ Some place → n ≤ greatest_timeout place → AreRead (record o { timeouts = slice_set o.timeouts place (Some n) })
with_timeout o a k place n e high = record {
  max = a.max;
  max_src_nodes = a.max_src_nodes;
  max_src_states = a.max_src_states;
  max_src_conn = a.max_src_conn;
  max_src_conn_rate = a.max_src_conn_rate;
  overload = a.overload;
  no_interval = get_or-set_other o.timeouts place 13 (Some n) None (λ h. eqb-false place 13 other (sym h)) ∙ a.no_interval;
  timeouts = λ q. elim (cases_eq q place) [
    | inl same ↦ subst (λ (z : Option ℕ). IfSome z (IsTimeout q)) (sym (subst (λ (z : ℕ). slice_index_or (slice_set o.timeouts place (Some n)) z None ≡ Some n) (sym same) there)) (subst (λ (z : ℕ). IsTimeout z n) (sym same) (timeout_is_within place n other high))
    | inr differs ↦ subst (λ (z : Option ℕ). IfSome z (IsTimeout q)) (sym (get_or-set_other o.timeouts place q (Some n) None differs)) (a.timeouts q)
  ];
  size = length-set o.timeouts place (Some n) ∙ a.size;
}
  where
    other : (place == 13) ≡ false
    other = not_interval k place e

    below : place < 16
    below = timeout_place_below k place (rule_place_is k place e)

    there : slice_index_or (slice_set o.timeouts place (Some n)) place None ≡ Some n
    there = get_or-set_same o.timeouts place (Some n) None (omega (arith, a.size, below))

-- an option keeps what is read
pub option_keeps : {o p : Options} {ts left : List Tok} → OptionOf o ts p left → AreRead o → AreRead p
option_keeps (max n w fresh number) a = record { max = counted number; max_src_nodes = a.max_src_nodes; max_src_states = a.max_src_states; max_src_conn = a.max_src_conn; max_src_conn_rate = a.max_src_conn_rate; overload = a.overload; no_interval = a.no_interval; timeouts = a.timeouts; size = a.size }
option_keeps (source_track s w fresh tracked) a = record { max = a.max; max_src_nodes = a.max_src_nodes; max_src_states = a.max_src_states; max_src_conn = a.max_src_conn; max_src_conn_rate = a.max_src_conn_rate; overload = a.overload; no_interval = a.no_interval; timeouts = a.timeouts; size = a.size }
option_keeps (max_src_nodes n w fresh number) a = record { max = a.max; max_src_nodes = counted number; max_src_states = a.max_src_states; max_src_conn = a.max_src_conn; max_src_conn_rate = a.max_src_conn_rate; overload = a.overload; no_interval = a.no_interval; timeouts = a.timeouts; size = a.size }
option_keeps (max_src_states n w fresh number) a = record { max = a.max; max_src_nodes = a.max_src_nodes; max_src_states = counted number; max_src_conn = a.max_src_conn; max_src_conn_rate = a.max_src_conn_rate; overload = a.overload; no_interval = a.no_interval; timeouts = a.timeouts; size = a.size }
option_keeps (max_src_conn n w fresh number) a = record { max = a.max; max_src_nodes = a.max_src_nodes; max_src_states = a.max_src_states; max_src_conn = counted number; max_src_conn_rate = a.max_src_conn_rate; overload = a.overload; no_interval = a.no_interval; timeouts = a.timeouts; size = a.size }
option_keeps (max_src_conn_rate r w fresh rate) a = record { max = a.max; max_src_nodes = a.max_src_nodes; max_src_states = a.max_src_states; max_src_conn = a.max_src_conn; max_src_conn_rate = rate.3.bounds; overload = a.overload; no_interval = a.no_interval; timeouts = a.timeouts; size = a.size }
option_keeps (overload v w fresh table) a = record { max = a.max; max_src_nodes = a.max_src_nodes; max_src_states = a.max_src_states; max_src_conn = a.max_src_conn; max_src_conn_rate = a.max_src_conn_rate; overload = table_named table.table; no_interval = a.no_interval; timeouts = a.timeouts; size = a.size }
option_keeps (sloppy w fresh) a = record { max = a.max; max_src_nodes = a.max_src_nodes; max_src_states = a.max_src_states; max_src_conn = a.max_src_conn; max_src_conn_rate = a.max_src_conn_rate; overload = a.overload; no_interval = a.no_interval; timeouts = a.timeouts; size = a.size }
option_keeps (floating w fresh) a = record { max = a.max; max_src_nodes = a.max_src_nodes; max_src_states = a.max_src_states; max_src_conn = a.max_src_conn; max_src_conn_rate = a.max_src_conn_rate; overload = a.overload; no_interval = a.no_interval; timeouts = a.timeouts; size = a.size }
option_keeps (no_sync w fresh) a = record { max = a.max; max_src_nodes = a.max_src_nodes; max_src_states = a.max_src_states; max_src_conn = a.max_src_conn; max_src_conn_rate = a.max_src_conn_rate; overload = a.overload; no_interval = a.no_interval; timeouts = a.timeouts; size = a.size }
option_keeps {o = o} (timeout k place n w e fresh number) a = with_timeout o a k place n e number.5

more_keep : {o p : Options} {ts left : List Tok} → Until key.CloseParen (NextOf OptionOf) o ts p left → AreRead o → AreRead p
more_keep (ends w) a = a
more_keep (goes (plain q) u) a = more_keep u (option_keeps q a)
more_keep (goes (comma w q) u) a = more_keep u (option_keeps q a)

-- those of `synproxy state` have the same bounds
proxied_read : {o : Options} → AreRead o → AreRead (proxied o)
proxied_read a = record { max = a.max; max_src_nodes = a.max_src_nodes; max_src_states = a.max_src_states; max_src_conn = a.max_src_conn; max_src_conn_rate = a.max_src_conn_rate; overload = a.overload; no_interval = a.no_interval; timeouts = a.timeouts; size = a.size }

-- the options of a state clause that is read are within their bounds
pub state_within : {ts : List Tok} {x : StateClause} {left : List Tok} → StateOf ts x left → AreRead (options_given x)
state_within (no w v) = no_options_read
state_within (keep w v plainly) = no_options_read
state_within (keep w v (listed p q)) = more_keep q.others (option_keeps q.begins no_options_read)
state_within (proxy w v plainly) = proxied_read no_options_read
state_within (proxy w v (listed p q)) = proxied_read (more_keep q.others (option_keeps q.begins no_options_read))

-- ---- what is resolved

same_connections : (o : Options) (table : Option TableNo) → limits_connections (resolved_options o table) ≡ has_connection_limit o
same_connections o table = refl

and_false : (a b : Bool) → b ≡ false → a && b ≡ false
and_false true b e = e
and_false false b e = refl

-- an unstated scope is global only where no connections are limited
unstated_by : (nodes connections states is_bare : Bool) → is_global (cond (nodes || connections) (Some scope.Rule) (cond (states || is_bare) (Some scope.Global) None)) && connections ≡ false
unstated_by true connections states is_bare = refl
unstated_by false true states is_bare = refl
unstated_by false false true is_bare = refl
unstated_by false false false true = refl
unstated_by false false false false = refl

rule_connections_by : (o : Options) (t : Option Track) → states_global t && has_connection_limit o ≡ false → is_global (scope_by_track o t) && has_connection_limit o ≡ false
rule_connections_by o (Some track.Rule) e = refl
rule_connections_by o (Some track.Global) e = e
rule_connections_by o (Some track.Bare) e = unstated_by (is_some o.max_src_nodes) (has_connection_limit o) (is_some o.max_src_states) true
rule_connections_by o None e = unstated_by (is_some o.max_src_nodes) (has_connection_limit o) (is_some o.max_src_states) false

-- without a scope no option is about sources
tracked_by : (nodes connections states is_bare : Bool) → is_none (cond (nodes || connections) (Some scope.Rule) (cond (states || is_bare) (Some scope.Global) None)) && (nodes || states || connections) ≡ false
tracked_by true connections states is_bare = refl
tracked_by false true states is_bare = refl
tracked_by false false true is_bare = refl
tracked_by false false false true = refl
tracked_by false false false false = refl

tracked : (o : Options) (t : Option Track) → is_none (scope_by_track o t) && (is_some o.max_src_nodes || is_some o.max_src_states || has_connection_limit o) ≡ false
tracked o (Some track.Rule) = refl
tracked o (Some track.Global) = refl
tracked o (Some track.Bare) = tracked_by (is_some o.max_src_nodes) (has_connection_limit o) (is_some o.max_src_states) true
tracked o None = tracked_by (is_some o.max_src_nodes) (has_connection_limit o) (is_some o.max_src_states) false

alone_by : (v : Option OverloadText) (table : Option TableNo) (limited : Bool) → is_some v && not limited ≡ false → is_some (overload_to v table) && not limited ≡ false
alone_by None table limited e = refl
alone_by (Some v) None limited e = refl
alone_by (Some v) (Some table) limited e = e

overload_known : (tables : ℕ) (v : Option OverloadText) (table : Option TableNo) → IfSome table (IsTableNo tables) → IfSome (overload_to v table) (λ w. IsTableNo tables w.table)
overload_known tables None table h = tt
overload_known tables (Some v) None h = tt
overload_known tables (Some v) (Some table) h = h

-- options that break no load rule, resolved, are such as a configuration with so many tables has
pub resolved_are : (tables : ℕ) (o : Options) (table : Option TableNo) → AreRead o → IfSome table (IsTableNo tables)
    → has_overload_alone o ≡ false → has_global_connections o ≡ false → has_global_retention o ≡ false → has_broken_rule_pair o ≡ false
    → AreOptions tables (resolved_options o table)
resolved_are tables o table a known alone connections retention pair = record {
  max = a.max;
  max_src_nodes = a.max_src_nodes;
  max_src_states = a.max_src_states;
  max_src_conn = a.max_src_conn;
  max_src_conn_rate = a.max_src_conn_rate;
  overload = overload_known tables o.overload table known;
  tracked = tracked o o.track;
  connections = alone_by o.overload table (has_connection_limit o) alone;
  rule_connections = rule_connections_by o o.track connections;
  rule_retention = retention;
  adaptive = pair;
  no_interval = a.no_interval;
  timeouts = a.timeouts;
  size = a.size;
}

-- what a reader of state clauses gives is within its bounds
pub gives_within : (r : Result StateClause Refusal) (left ts : List Tok) → Gives r left (state_at ts) → IfOk r (λ x. AreRead (options_given x))
gives_within (Ok x) left ts e = state_within (state_is ts x left e)
gives_within (Err d) left ts e = tt
