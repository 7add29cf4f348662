-- The state clauses of a canonical text are read again.
use Rattle.std.proofs.Common.{◌≡◌, ◌≤◌, ◌<◌, ◌^◌, ℕ, Bool, true, false, All, List, [], ◌∷◌, ◌++◌, length, Option, Some, None, IfSome, refl, sym, subst, arith, append_assoc}
use Rattle.std.specs.Prelude.{codes, decimal, slice_index_or, slice_set}
use Rattle.std.specs.List.{flat_map}
use Rattle.std.specs.Option.{option_map}
use Rattle.pfs_conf_tokens.specs.declared.keys.Key.{Key}
use Rattle.pfs_conf_tokens.specs.declared.keys.Key.TheVariants as key
use Rattle.pfs_conf_tokens.specs.Grammar.{Number, Word}
use Rattle.pfs_conf_tokens.specs.Tokens.{token}
use Rattle.pfs_conf_tokens.specs.Words.{key_of_text}
use Rattle.pfs_conf_tokens.proofs.ShownLaws.{breaks, decimal_text, is_word_text, key_of_decimal, number_of-decimal, split_around_append, word_then}
use Rattle.pfs_conf_tokens.proofs.WordKeys.{key_of_Flush, key_of_Global, key_of_Keep, key_of_Max, key_of_MaxSrcConn, key_of_MaxSrcConnRate, key_of_MaxSrcNodes, key_of_MaxSrcStates, key_of_No, key_of_Overload, key_of_Rule, key_of_Sloppy, key_of_SourceTrack, key_of_State, key_of_Synproxy, key_of_TcpFirst, key_of_TcpOpening, key_of_TcpEstablished, key_of_TcpClosing, key_of_TcpFinwait, key_of_TcpClosed, key_of_UdpFirst, key_of_UdpSingle, key_of_UdpMultiple, key_of_OtherFirst, key_of_OtherSingle, key_of_OtherMultiple, key_of_SrcTrack, key_of_AdaptiveStart, key_of_AdaptiveEnd}
use Rattle.pfs_addr_values.specs.Names.{is_name}
use Rattle.pfs_addr.proofs.PieceLaws.{decimal_lacks}
use Rattle.pfs_conf_values.specs.Invariants.{IsTable}
use Rattle.pfs_conf_values.specs.LoadRules.{AreOptions, IsCount, IsTableNo, IsTimeout}
use Rattle.pfs_conf_values.specs.Bounds.{IsRate, greatest_timeout}
use Rattle.pfs_conf_values.specs.Timeouts.{no_timeouts, timeout_names}
use Rattle.pfs_conf_values.specs.declared.actions.Overload.{Overload}
use Rattle.pfs_conf_values.specs.declared.actions.Rate.{Rate}
use Rattle.pfs_conf_values.specs.declared.actions.Scope.{Scope}
use Rattle.pfs_conf_values.specs.declared.actions.Scope.TheVariants as scope
use Rattle.pfs_conf_values.specs.declared.actions.StateOptions.{StateOptions}
use Rattle.pfs_conf_values.specs.declared.tables.TableDef.{TableDef}
use Rattle.pfs_conf_options.specs.Grammar.{FlushOf, KeptOf, OptionOf, OverloadOf, RateOf, StateOf, all, global, keep, listed, max, max_src_conn, max_src_conn_rate, max_src_nodes, max_src_states, no, nothing, overload, own, plainly, proxy, rule, sloppy, source_track, timeout}
use Rattle.pfs_conf_options.specs.Options.{none_given, rule_place}
use Rattle.pfs_conf_options.specs.declared.clauses.Options.{Options}
use Rattle.pfs_conf_options.specs.declared.clauses.OverloadText.{OverloadText}
use Rattle.pfs_conf_options.specs.declared.clauses.StateClause.TheVariants as clause
use Rattle.pfs_conf_options.specs.declared.clauses.Track.{Track}
use Rattle.pfs_conf_options.specs.declared.clauses.Track.TheVariants as track
use Rattle.pfs_conf_show.specs.Options.{flush_text, kept_text, option_texts, options_text, overload_text, rate_text, rule_timeout_text, scope_text, sloppy_texts}
use Rattle.pfs_conf_show.specs.Pieces.{bracketed_list, text_if_given, word_and_number}
use Rattle.pfs_conf_show.specs.Tables.{angled_name, table_ref}
use Rattle.pfs_conf_round_trip.proofs.Said.{options_said, overload_said, table_said, track_said}
use Rattle.pfs_conf_round_trip.proofs.FilterPhrases.{angle_closes, angle_names, angle_opens, table_named}
use Rattle.pfs_conf_round_trip.proofs.Lists.{Chain, Closing, both, bracketed_more, done, listed_again, next}
use Rattle.pfs_conf_round_trip.proofs.Names.{key_of_word, name_again}
use Rattle.pfs_conf_round_trip.proofs.Pieces.{at, decimal_all, mark, mark_behind, number, text_append, word, word_between, word_first, word_number, word_space}

-- what may follow an option
abbrev Fits : ℕ → List ℕ → Type 0
Fits line more = breaks more ≡ true

abbrev pub OptionChain : List (List ℕ) → Options → Options → Type 0
OptionChain = Chain OptionOf Fits

closing : Closing OptionOf Fits key.CloseParen (codes ")")
closing = record { comma_fits = λ line more. refl; closing_fits = λ line more. refl; closes = λ line more. mark true line 41 more refl }

-- ---- single options

count_number : (line n : ℕ) (more : List ℕ) → IsCount n → breaks more ≡ true → Number 1 4294967295 (at line (decimal n ++ more)) n (at line more)
count_number line n more h b = number true line 1 4294967295 n more h.0 h.1 (omega (arith, h.1)) b

track_reads : (s : Scope) (line : ℕ) (more : List ℕ) → breaks more ≡ true → (o : Options) → o.track ≡ None
    → OptionOf o (at line (scope_text s ++ more)) (record o { track = Some (track_said s) }) (at line more)
track_reads scope.Rule line more b o fresh =
    source_track track.Rule (word_space true line (codes "source-track") (codes "rule" ++ more) refl key_of_SourceTrack) fresh (rule (word_first true line (codes "rule") more refl b key_of_Rule))
track_reads scope.Global line more b o fresh =
    source_track track.Global (word_space true line (codes "source-track") (codes "global" ++ more) refl key_of_SourceTrack) fresh (global (word_first true line (codes "global") more refl b key_of_Global))

rate_says : (r : Rate) (line : ℕ) (more : List ℕ) → IsRate r → breaks more ≡ true → RateOf (at line ((decimal r.limit ++ 47 ∷ decimal r.seconds) ++ more)) r (at line more)
rate_says r line more h b =
    let limit_small : r.limit < 2 ^ 64 = omega (arith, h.1) in
    let seconds_small : r.seconds < 2 ^ 64 = omega (arith, h.3) in
    let w = decimal r.limit ++ 47 ∷ decimal r.seconds in
    let is_text : is_word_text w ≡ true = text_append (decimal r.limit) (47 ∷ decimal r.seconds) (decimal_text r.limit limit_small) (decimal_all r.seconds seconds_small) in (
      token line (key_of_text w) w,
      word_then true line w more is_text b,
      key_of_decimal r.limit (47 ∷ decimal r.seconds) limit_small,
      record {
        before = decimal r.limit;
        behind = decimal r.seconds;
        slash = split_around_append 47 (decimal r.limit) (decimal r.seconds) (decimal_lacks 47 r.limit (omega arith) limit_small);
        limit = number_of-decimal r.limit (omega (arith, h.1));
        seconds = number_of-decimal r.seconds (omega (arith, h.3));
        bounds = h;
      },
    )

flush_reads : (f : Option Scope) (line : ℕ) (more : List ℕ) → breaks more ≡ true → FlushOf (at line (flush_text f ++ more)) f (at line more)
flush_reads None line more b = nothing
flush_reads (Some scope.Rule) line more b = own (word line (codes "flush") more refl b key_of_Flush)
flush_reads (Some scope.Global) line more b = all (word_between line (codes "flush") (codes "global" ++ more) refl key_of_Flush) (word_first true line (codes "global") more refl b key_of_Global)

overload_reads : (tables : List TableDef) (v : Overload) (line : ℕ) (more : List ℕ) → All IsTable tables → IsTableNo (length tables) v.table → breaks more ≡ true
    → OverloadOf (at line ((table_ref tables v.table ++ flush_text v.flush) ++ more)) (overload_said tables v) (at line more)
overload_reads tables v line more t h b =
    let n = table_said tables v.table in
    let named : is_name 31 n ≡ true = table_named tables v.table t h in
    let left = flush_text v.flush ++ more in
    let P : List ℕ → Type 0 = λ z. OverloadOf (at line z) (overload_said tables v) (at line more) in
    subst P (sym (append_assoc (angled_name n) (flush_text v.flush) more)) (record {
      mid = at line left;
      table = record {
        inner = at line (n ++ 62 ∷ left);
        behind = at line (62 ∷ left);
        opens = angle_opens true line n left;
        named = (token line (key_of_text n) n, angle_names line n left named, key_of_word n, name_again 31 n named);
        closes = angle_closes line left;
      };
      flush = flush_reads v.flush line more b;
    })

-- ---- the options that are given

-- options of which the first few are given
abbrev with_parts : Option ℕ → Option Track → Option ℕ → Option ℕ → Option ℕ → Option Rate → Option OverloadText → Bool → List (Option ℕ) → Options
with_parts m t n s c r v b timeouts = record {
  max = m;
  track = t;
  max_src_nodes = n;
  max_src_states = s;
  max_src_conn = c;
  max_src_conn_rate = r;
  overload = v;
  sloppy = b;
  floating = false;
  no_sync = false;
  synproxy = false;
  timeouts = timeouts;
}

give_max : (m : Option ℕ) → IfSome m IsCount → OptionChain (text_if_given (word_and_number (codes "max")) m) none_given (with_parts m None None None None None None false no_timeouts)
give_max None h = done
give_max (Some n) h = next (λ line more b. max n (word_number line (codes "max") n more refl key_of_Max) refl (count_number line n more h b)) done

give_track : (m : Option ℕ) (s : Option Scope)
    → OptionChain (text_if_given scope_text s) (with_parts m None None None None None None false no_timeouts) (with_parts m (option_map track_said s) None None None None None false no_timeouts)
give_track m None = done
give_track m (Some s) = next (λ line more b. track_reads s line more b (with_parts m None None None None None None false no_timeouts) refl) done

give_nodes : (m : Option ℕ) (t : Option Track) (c : Option ℕ) → IfSome c IsCount
    → OptionChain (text_if_given (word_and_number (codes "max-src-nodes")) c) (with_parts m t None None None None None false no_timeouts) (with_parts m t c None None None None false no_timeouts)
give_nodes m t None h = done
give_nodes m t (Some n) h = next (λ line more b. max_src_nodes n (word_number line (codes "max-src-nodes") n more refl key_of_MaxSrcNodes) refl (count_number line n more h b)) done

give_states : (m : Option ℕ) (t : Option Track) (n c : Option ℕ) → IfSome c IsCount
    → OptionChain (text_if_given (word_and_number (codes "max-src-states")) c) (with_parts m t n None None None None false no_timeouts) (with_parts m t n c None None None false no_timeouts)
give_states m t k None h = done
give_states m t k (Some n) h = next (λ line more b. max_src_states n (word_number line (codes "max-src-states") n more refl key_of_MaxSrcStates) refl (count_number line n more h b)) done

give_conn : (m : Option ℕ) (t : Option Track) (n s c : Option ℕ) → IfSome c IsCount
    → OptionChain (text_if_given (word_and_number (codes "max-src-conn")) c) (with_parts m t n s None None None false no_timeouts) (with_parts m t n s c None None false no_timeouts)
give_conn m t k s None h = done
give_conn m t k s (Some n) h = next (λ line more b. max_src_conn n (word_number line (codes "max-src-conn") n more refl key_of_MaxSrcConn) refl (count_number line n more h b)) done

give_rate : (m : Option ℕ) (t : Option Track) (n s c : Option ℕ) (r : Option Rate) → IfSome r IsRate
    → OptionChain (text_if_given rate_text r) (with_parts m t n s c None None false no_timeouts) (with_parts m t n s c r None false no_timeouts)
give_rate m t n s c None h = done
give_rate m t n s c (Some r) h =
    next (λ line more b. max_src_conn_rate r (word_space true line (codes "max-src-conn-rate") ((decimal r.limit ++ 47 ∷ decimal r.seconds) ++ more) refl key_of_MaxSrcConnRate) refl (rate_says r line more h b)) done

give_overload : (tables : List TableDef) (m : Option ℕ) (t : Option Track) (n s c : Option ℕ) (r : Option Rate) (v : Option Overload) → All IsTable tables
    → IfSome v (λ x. IsTableNo (length tables) x.table)
    → OptionChain (text_if_given (overload_text tables) v) (with_parts m t n s c r None false no_timeouts) (with_parts m t n s c r (option_map (overload_said tables) v) false no_timeouts)
give_overload tables m t n s c r None g h = done
give_overload tables m t n s c r (Some v) g h =
    next (λ line more b. overload (overload_said tables v) (word_space true line (codes "overload") ((table_ref tables v.table ++ flush_text v.flush) ++ more) refl key_of_Overload) refl
    (overload_reads tables v line more g h b)) done

-- a timeout of the rule
give_timeout : (w : List ℕ) (k : Key) (place : ℕ) (o : Options) (c : Option ℕ) → is_word_text w ≡ true → key_of_text w ≡ k → rule_place k ≡ Some place
    → slice_index_or o.timeouts place None ≡ None → slice_set o.timeouts place None ≡ o.timeouts → greatest_timeout place ≤ 4294967295 → IfSome c (IsTimeout place)
    → OptionChain (text_if_given (word_and_number w) c) o (record o { timeouts = slice_set o.timeouts place c })
give_timeout w k place o None is_text key at_place fresh same high h =
    let P : List (Option ℕ) → Type 0 = λ z. OptionChain [] o (record o { timeouts = z }) in
    subst P (sym same) done
give_timeout w k place o (Some n) is_text key at_place fresh same high h =
    next (λ line more b. timeout k place n (word_number line w n more is_text key) at_place fresh (number true line 0 (greatest_timeout place) n more (omega arith) h.1 (omega (arith, h.1, high)) b)) done

-- `interval` is no timeout of rules
give_interval : (o : Options) (c : Option ℕ) → slice_set o.timeouts 13 None ≡ o.timeouts → c ≡ None
    → OptionChain (text_if_given (word_and_number (codes "interval")) c) o (record o { timeouts = slice_set o.timeouts 13 c })
give_interval o None same h =
    let P : List (Option ℕ) → Type 0 = λ z. OptionChain [] o (record o { timeouts = z }) in
    subst P (sym same) done
give_interval o (Some n) same h = absurd (cc h)

give_sloppy : (m : Option ℕ) (t : Option Track) (n s c : Option ℕ) (r : Option Rate) (v : Option OverloadText) (b : Bool)
    → OptionChain (sloppy_texts b) (with_parts m t n s c r v false no_timeouts) (with_parts m t n s c r v b no_timeouts)
give_sloppy m t n s c r v false = done
give_sloppy m t n s c r v true = next (λ line more h. sloppy (word_first true line (codes "sloppy") more refl h key_of_Sloppy) refl) done

-- the timeouts that are given, by their places
give_timeouts : (m : Option ℕ) (t : Option Track) (n s c : Option ℕ) (r : Option Rate) (v : Option OverloadText) (b : Bool) (ts : List (Option ℕ)) → length ts ≡ 16
    → ((place : ℕ) → IfSome (slice_index_or ts place None) (IsTimeout place)) → slice_index_or ts 13 None ≡ None
    → OptionChain (flat_map (rule_timeout_text ts) timeout_names) (with_parts m t n s c r v b no_timeouts) (with_parts m t n s c r v b ts)
give_timeouts m t n s c r v b (t0 ∷ t1 ∷ t2 ∷ t3 ∷ t4 ∷ t5 ∷ t6 ∷ t7 ∷ t8 ∷ t9 ∷ t10 ∷ t11 ∷ t12 ∷ t13 ∷ t14 ∷ t15 ∷ []) size h no_interval =
    (both (give_timeout (codes "tcp.first") key.TcpFirst 0 _ t0 refl key_of_TcpFirst refl refl refl (omega arith) (h 0))
    (both (give_timeout (codes "tcp.opening") key.TcpOpening 1 _ t1 refl key_of_TcpOpening refl refl refl (omega arith) (h 1))
    (both (give_timeout (codes "tcp.established") key.TcpEstablished 2 _ t2 refl key_of_TcpEstablished refl refl refl (omega arith) (h 2))
    (both (give_timeout (codes "tcp.closing") key.TcpClosing 3 _ t3 refl key_of_TcpClosing refl refl refl (omega arith) (h 3))
    (both (give_timeout (codes "tcp.finwait") key.TcpFinwait 4 _ t4 refl key_of_TcpFinwait refl refl refl (omega arith) (h 4))
    (both (give_timeout (codes "tcp.closed") key.TcpClosed 5 _ t5 refl key_of_TcpClosed refl refl refl (omega arith) (h 5))
    (both (give_timeout (codes "udp.first") key.UdpFirst 6 _ t6 refl key_of_UdpFirst refl refl refl (omega arith) (h 6))
    (both (give_timeout (codes "udp.single") key.UdpSingle 7 _ t7 refl key_of_UdpSingle refl refl refl (omega arith) (h 7))
    (both (give_timeout (codes "udp.multiple") key.UdpMultiple 8 _ t8 refl key_of_UdpMultiple refl refl refl (omega arith) (h 8))
    (both (give_timeout (codes "other.first") key.OtherFirst 9 _ t9 refl key_of_OtherFirst refl refl refl (omega arith) (h 9))
    (both (give_timeout (codes "other.single") key.OtherSingle 10 _ t10 refl key_of_OtherSingle refl refl refl (omega arith) (h 10))
    (both (give_timeout (codes "other.multiple") key.OtherMultiple 11 _ t11 refl key_of_OtherMultiple refl refl refl (omega arith) (h 11))
    (both (give_timeout (codes "src.track") key.SrcTrack 12 _ t12 refl key_of_SrcTrack refl refl refl (omega arith) (h 12))
    (both (give_interval _ t13 refl no_interval)
    (both (give_timeout (codes "adaptive.start") key.AdaptiveStart 14 _ t14 refl key_of_AdaptiveStart refl refl refl (omega arith) (h 14))
    (both (give_timeout (codes "adaptive.end") key.AdaptiveEnd 15 _ t15 refl key_of_AdaptiveEnd refl refl refl (omega arith) (h 15))
    done))))))))))))))))
give_timeouts m t n s c r v b _ size h no_interval = absurd (omega arith)

-- ---- the state clause

-- the options of a rule, which do not say by themselves whether they are those of `synproxy state`
abbrev pub options_alone : List TableDef → StateOptions → Options
options_alone tables o = record (options_said tables o) { synproxy = false }

-- they are written one after another
pub options_chain : (tables : List TableDef) (o : StateOptions) → All IsTable tables → AreOptions (length tables) o → OptionChain (option_texts tables o) none_given (options_alone tables o)
options_chain tables o g h =
    both (give_max o.max h.max)
    (both (give_track o.max o.scope)
    (both (give_nodes o.max _ o.max_src_nodes h.max_src_nodes)
    (both (give_states o.max _ o.max_src_nodes o.max_src_states h.max_src_states)
    (both (give_conn o.max _ o.max_src_nodes o.max_src_states o.max_src_conn h.max_src_conn)
    (both (give_rate o.max _ o.max_src_nodes o.max_src_states o.max_src_conn o.max_src_conn_rate h.max_src_conn_rate)
    (both (give_overload tables o.max _ o.max_src_nodes o.max_src_states o.max_src_conn o.max_src_conn_rate o.overload g h.overload)
    (both (give_sloppy o.max _ o.max_src_nodes o.max_src_states o.max_src_conn o.max_src_conn_rate _ o.sloppy)
    (give_timeouts o.max _ o.max_src_nodes o.max_src_states o.max_src_conn o.max_src_conn_rate _ o.sloppy o.timeouts h.size h.timeouts h.no_interval))))))))

kept_by : (xs : List (List ℕ)) (a : Options) (line : ℕ) (more : List ℕ) → OptionChain xs none_given a → KeptOf (at line (bracketed_list (codes " (") (codes ")") xs ++ more)) a (at line more)
kept_by [] a line more done = plainly
kept_by (x ∷ xs) a line more p =
    let P : List ℕ → Type 0 = λ z. KeptOf (at line z) a (at line more) in
    subst P (sym (bracketed_more (codes " (") (codes ")") x xs more))
    (listed (mark_behind line 40 _ refl) (listed_again OptionOf Fits key.CloseParen (codes " (") (codes ")") closing x xs none_given a line more p))

options_break : (xs : List (List ℕ)) (more : List ℕ) → breaks more ≡ true → breaks (bracketed_list (codes " (") (codes ")") xs ++ more) ≡ true
options_break [] more b = b
options_break (x ∷ xs) more b = refl

-- ` no state`
pub no_state_reads : (line : ℕ) (more : List ℕ) → breaks more ≡ true → StateOf (at line (codes " no state" ++ more)) clause.No (at line more)
no_state_reads line more b =
    no (word_between line (codes "no") (codes "state" ++ more) refl key_of_No) (word_first true line (codes "state") more refl b key_of_State)

-- ` keep state` or ` synproxy state` with the options that are given
pub keep_state_reads : (tables : List TableDef) (o : StateOptions) (line : ℕ) (more : List ℕ) → All IsTable tables → AreOptions (length tables) o → breaks more ≡ true
    → StateOf (at line (kept_text o.synproxy ++ (options_text tables o ++ more))) (clause.Keep (options_said tables o)) (at line more)
keep_state_reads tables o line more g h b = by o.synproxy
  where
    left : List ℕ
    left = options_text tables o ++ more

    state_word : Word key.State (at line (codes "state" ++ left)) (at line left)
    state_word = word_first true line (codes "state") left refl (options_break (option_texts tables o) more b) key_of_State

    options : KeptOf (at line left) (options_alone tables o) (at line more)
    options = kept_by (option_texts tables o) (options_alone tables o) line more (options_chain tables o g h)

    by : (s : Bool) → StateOf (at line (kept_text s ++ left)) (clause.Keep (record (options_said tables o) { synproxy = s })) (at line more)
    by false = keep (word_between line (codes "keep") (codes "state" ++ left) refl key_of_Keep) state_word options
    by true = proxy (word_between line (codes "synproxy") (codes "state" ++ left) refl key_of_Synproxy) state_word options
