-- The lines of `set limit`, `set timeout` and `set profile` are read again.
use Rattle.std.proofs.Common.{◌≡◌, ◌≤◌, ◌<◌, ◌^◌, ℕ, suc, true, false, List, [], ◌∷◌, ◌++◌, map, Some, refl, sym, ap, subst, ◌∙◌, arith, append_assoc}
use Rattle.std.specs.Prelude.{codes, decimal, slice_index}
use Rattle.std.proofs.lemmas.Bool.{cond-false}
use Rattle.pfs_conf_tokens.specs.declared.keys.Key.{Key}
use Rattle.pfs_conf_tokens.specs.declared.keys.Key.TheVariants as key
use Rattle.pfs_conf_tokens.specs.Grammar.{Word, skip_lines}
use Rattle.pfs_conf_tokens.specs.Keys.{ends_line}
use Rattle.pfs_conf_tokens.specs.Lexis.{tokens}
use Rattle.pfs_conf_tokens.specs.Tokens.{Tok, token}
use Rattle.pfs_conf_tokens.specs.Words.{key_of_text}
use Rattle.pfs_conf_tokens.proofs.ShownLaws.{breaks, is_word_text, mark_then, space_then}
use Rattle.pfs_conf_tokens.proofs.WordKeys.{key_of_Limit, key_of_OpenBsd74, key_of_Profile, key_of_Set, key_of_SrcNodes, key_of_States, key_of_TableEntries, key_of_Tables, key_of_Timeout, key_of_TcpFirst, key_of_TcpOpening, key_of_TcpEstablished, key_of_TcpClosing, key_of_TcpFinwait, key_of_TcpClosed, key_of_UdpFirst, key_of_UdpSingle, key_of_UdpMultiple, key_of_OtherFirst, key_of_OtherSingle, key_of_OtherMultiple, key_of_SrcTrack, key_of_Interval, key_of_AdaptiveStart, key_of_AdaptiveEnd}
use Rattle.pfs_conf_values.specs.Invariants.{AreLimits}
use Rattle.pfs_conf_settings.specs.Drafts.{Drafted, with_limit, with_profile, with_timeout}
use Rattle.pfs_conf_values.specs.LoadRules.{IsCount}
use Rattle.pfs_conf_values.specs.Timeouts.{place_of, timeout_names}
use Rattle.pfs_conf_values.specs.declared.limits.LimitName.TheVariants as limit_name
use Rattle.pfs_conf_values.specs.declared.limits.Limits.{Limits}
use Rattle.pfs_conf_values.specs.declared.profiles.Profile.TheVariants as profile_name
use Rattle.pfs_conf_values.specs.declared.timeouts.TimeoutName.{TimeoutName}
use Rattle.pfs_conf_values.specs.declared.timeouts.TimeoutName.TheVariants as name
use Rattle.pfs_conf_settings.proofs.TimeoutKeys.{placed}
use Rattle.pfs_conf_settings.specs.SettingGrammar.{AmongLines, LimitOf, SettingOf, TimeOf, ValueOf, kept, limits, lined, profile, src_nodes, states, table_entries, tables, timeouts}
use Rattle.pfs_conf_settings.specs.Settings.{greatest_value, least_value, timeout_named}
use Rattle.pfs_conf_show.specs.Pieces.{begun_after, bracketed_list, word_and_number}
use Rattle.pfs_conf_show.specs.Settings.{limit_texts, limits_text, timeout_text, timeout_word, timeouts_text}
use Rattle.pfs_conf_round_trip.proofs.Lists.{Chain, Closing, bracketed_more, done, listed_again, next}
use Rattle.pfs_conf_round_trip.proofs.Pieces.{at, line_end, mark_behind, mark_between, number, word_first, word_number, word_space}

-- ---- what may be among line ends

-- no line end is in front
pub stays : (ts : List Tok) (t : Tok) (left : List Tok) → ts ≡ t ∷ left → ends_line t.key ≡ false → skip_lines ts ≡ ts
unfolding skip_lines
stays ts t left e h = ap skip_lines e ∙ (cond-false (ends_line t.key) (skip_lines left) (t ∷ left) h ∙ sym e)

-- what may follow an item in braces
abbrev pub Lined : ℕ → List ℕ → Type 0
Lined line more = (breaks more ≡ true) × (skip_lines (at line more) ≡ at line more)

comma_lined : (line : ℕ) (more : List ℕ) → Lined line (44 ∷ 32 ∷ more)
comma_lined line more = (refl, stays (at line (44 ∷ 32 ∷ more)) (token line key.Comma (44 ∷ [])) (at line (32 ∷ more)) (mark_then true line 44 (32 ∷ more) refl) refl)

brace_lined : (line : ℕ) (more : List ℕ) → Lined line (codes " }" ++ more)
brace_lined line more =
    (refl, stays (at line (codes " }" ++ more)) (token line key.CloseBrace (125 ∷ [])) (at line more) (space_then true line (125 ∷ more) ∙ mark_then true line 125 more refl) refl)

pub braces : {A : Type 0} (Item : A → List Tok → A → List Tok → Type 0) → Closing Item Lined key.CloseBrace (codes " }")
braces Item = record { comma_fits = comma_lined; closing_fits = brace_lined; closes = λ line more. mark_behind line 125 more refl }

-- a word, where line ends in front of it are passed over
skip_word : {k : Key} {ts left : List Tok} → Word k ts left → ends_line k ≡ false → Word k (skip_lines ts) left
skip_word {ts = ts} {left = left} w h = (w.0, stays ts w.0 left w.1 (ap ends_line w.2 ∙ h) ∙ w.1, w.2)

-- a number in braces
value_reads : (line low high n : ℕ) (more : List ℕ) → low ≤ n → n ≤ high → n < 10 ^ 10 → breaks more ≡ true → ValueOf low high true (at line (decimal n ++ more)) n (at line more)
value_reads line low high n more l h lt b =
    let p = number true line low high n more l h lt b in
    lined (p.0, stays (at line (decimal n ++ more)) p.0 (at line more) p.1 (ap ends_line p.2) ∙ p.1, p.2, p.3, p.4, p.5)

-- ---- limits

count_reads : (line n : ℕ) (more : List ℕ) → IsCount n → breaks more ≡ true → ValueOf 1 4294967295 true (at line (decimal n ++ more)) n (at line more)
count_reads line n more h b = value_reads line 1 4294967295 n more h.0 h.1 (omega (arith, h.1)) b

give_states : (d : Drafted) (n : ℕ) → IsCount n → (line : ℕ) (more : List ℕ) → Lined line more → (AmongLines (LimitOf true)) d (at line (word_and_number (codes "states") n ++ more)) (with_limit limit_name.States n d) (at line more)
give_states d n h line more f =
    record { mid = at line more; item = states (skip_word (word_number line (codes "states") n more refl key_of_States) refl) (count_reads line n more h f.0); behind = sym f.1 }

give_src_nodes : (d : Drafted) (n : ℕ) → IsCount n → (line : ℕ) (more : List ℕ) → Lined line more → (AmongLines (LimitOf true)) d (at line (word_and_number (codes "src-nodes") n ++ more)) (with_limit limit_name.SrcNodes n d) (at line more)
give_src_nodes d n h line more f =
    record { mid = at line more; item = src_nodes (skip_word (word_number line (codes "src-nodes") n more refl key_of_SrcNodes) refl) (count_reads line n more h f.0); behind = sym f.1 }

give_tables : (d : Drafted) (n : ℕ) → IsCount n → (line : ℕ) (more : List ℕ) → Lined line more → (AmongLines (LimitOf true)) d (at line (word_and_number (codes "tables") n ++ more)) (with_limit limit_name.Tables n d) (at line more)
give_tables d n h line more f =
    record { mid = at line more; item = tables (skip_word (word_number line (codes "tables") n more refl key_of_Tables) refl) (count_reads line n more h f.0); behind = sym f.1 }

give_table_entries : (d : Drafted) (n : ℕ) → IsCount n → (line : ℕ) (more : List ℕ) → Lined line more
    → (AmongLines (LimitOf true)) d (at line (word_and_number (codes "table-entries") n ++ more)) (with_limit limit_name.TableEntries n d) (at line more)
give_table_entries d n h line more f =
    record { mid = at line more; item = table_entries (skip_word (word_number line (codes "table-entries") n more refl key_of_TableEntries) refl) (count_reads line n more h f.0); behind = sym f.1 }

limits_chain : (d : Drafted) (l : Limits) → AreLimits l → Chain (AmongLines (LimitOf true)) Lined (limit_texts l) d (record d { limits = l })
limits_chain d l h =
    next (give_states d l.states h.states)
    (next (give_src_nodes (with_limit limit_name.States l.states d) l.src_nodes h.src_nodes)
    (next (give_tables (with_limit limit_name.SrcNodes l.src_nodes (with_limit limit_name.States l.states d)) l.tables h.tables)
    (next (give_table_entries (with_limit limit_name.Tables l.tables (with_limit limit_name.SrcNodes l.src_nodes (with_limit limit_name.States l.states d))) l.table_entries h.table_entries)
    done)))

-- ---- lines of settings

-- a statement of settings, with its line end
pub record SettingLine (d : Drafted) (ts : List Tok) (e : Drafted) (left : List Tok) : Type 0 where
  pub behind_set : List Tok
  pub before_end : List Tok
  pub set : Word key.Set ts behind_set
  pub setting : SettingOf d behind_set e before_end
  pub ended : Word key.LineEnd before_end left

-- the text of a list that is followed by the line end
pub ended_text : (x : List ℕ) (xs : List (List ℕ)) (more : List ℕ)
    → (bracketed_list (codes " { ") (codes " }") (x ∷ xs) ++ codes "\n") ++ more ≡ bracketed_list (codes " { ") (codes " }") (x ∷ xs) ++ 10 ∷ more
ended_text x xs more = append_assoc (bracketed_list (codes " { ") (codes " }") (x ∷ xs)) (codes "\n") more

pub limits_line : (d : Drafted) (l : Limits) (line : ℕ) (more : List ℕ) → AreLimits l
    → SettingLine d (tokens 0 false line (limits_text l ++ more)) (record d { limits = l }) (tokens 0 false (suc line) more)
limits_line d l line more h =
    let x = word_and_number (codes "states") l.states in
    let xs = word_and_number (codes "src-nodes") l.src_nodes ∷ word_and_number (codes "tables") l.tables ∷ word_and_number (codes "table-entries") l.table_entries ∷ [] in
    let P : List ℕ → Type 0 = λ z. SettingLine d (tokens 0 false line (codes "set limit" ++ z)) (record d { limits = l }) (tokens 0 false (suc line) more) in
    subst P (sym (ended_text x xs more ∙ bracketed_more (codes " { ") (codes " }") x xs (10 ∷ more))) (record {
      behind_set = _;
      before_end = at line (10 ∷ more);
      set = word_space false line (codes "set") _ refl key_of_Set;
      setting = limits (word_first true line (codes "limit") _ refl refl key_of_Limit) (mark_between line 123 _ refl)
          (listed_again (AmongLines (LimitOf true)) Lined key.CloseBrace (codes " { ") (codes " }") (braces (AmongLines (LimitOf true))) x xs d (record d { limits = l }) line (10 ∷ more) (limits_chain d l h));
      ended = line_end true line more;
    })

-- ---- timeouts

-- the word of a timeout names it
word_key : (n : TimeoutName) → timeout_named (key_of_text (timeout_word n)) ≡ Some n
word_key name.TcpFirst = ap timeout_named key_of_TcpFirst
word_key name.TcpOpening = ap timeout_named key_of_TcpOpening
word_key name.TcpEstablished = ap timeout_named key_of_TcpEstablished
word_key name.TcpClosing = ap timeout_named key_of_TcpClosing
word_key name.TcpFinwait = ap timeout_named key_of_TcpFinwait
word_key name.TcpClosed = ap timeout_named key_of_TcpClosed
word_key name.UdpFirst = ap timeout_named key_of_UdpFirst
word_key name.UdpSingle = ap timeout_named key_of_UdpSingle
word_key name.UdpMultiple = ap timeout_named key_of_UdpMultiple
word_key name.OtherFirst = ap timeout_named key_of_OtherFirst
word_key name.OtherSingle = ap timeout_named key_of_OtherSingle
word_key name.OtherMultiple = ap timeout_named key_of_OtherMultiple
word_key name.SrcTrack = ap timeout_named key_of_SrcTrack
word_key name.Interval = ap timeout_named key_of_Interval
word_key name.AdaptiveStart = ap timeout_named key_of_AdaptiveStart
word_key name.AdaptiveEnd = ap timeout_named key_of_AdaptiveEnd

word_is : (n : TimeoutName) → is_word_text (timeout_word n) ≡ true
word_is name.TcpFirst = refl
word_is name.TcpOpening = refl
word_is name.TcpEstablished = refl
word_is name.TcpClosing = refl
word_is name.TcpFinwait = refl
word_is name.TcpClosed = refl
word_is name.UdpFirst = refl
word_is name.UdpSingle = refl
word_is name.UdpMultiple = refl
word_is name.OtherFirst = refl
word_is name.OtherSingle = refl
word_is name.OtherMultiple = refl
word_is name.SrcTrack = refl
word_is name.Interval = refl
word_is name.AdaptiveStart = refl
word_is name.AdaptiveEnd = refl

-- a key that names a timeout is no line end
no_line_end : (k : Key) (n : TimeoutName) → timeout_named k ≡ Some n → ends_line k ≡ false
no_line_end key.LineEnd n h = absurd (cc h)
no_line_end _ n h = refl

greatest_small : (n : TimeoutName) → greatest_value n < 10 ^ 10
greatest_small name.AdaptiveStart = omega arith
greatest_small name.AdaptiveEnd = omega arith
greatest_small _ = omega arith

give_time : (d : Drafted) (n : TimeoutName) (v : ℕ) → least_value n ≤ v → v ≤ greatest_value n → (line : ℕ) (more : List ℕ) → Lined line more
    → (AmongLines (TimeOf true)) d (at line (word_and_number (timeout_word n) v ++ more)) (with_timeout n v d) (at line more)
give_time d n v low high line more f =
    let w = timeout_word n in
    let p = word_number line w v more (word_is n) refl in
    let named : timeout_named p.0.key ≡ Some n = ap timeout_named p.2 ∙ word_key n in
    let front : skip_lines (at line (word_and_number w v ++ more)) ≡ p.0 ∷ at line (decimal v ++ more) =
    stays (at line (word_and_number w v ++ more)) p.0 (at line (decimal v ++ more)) p.1 (no_line_end p.0.key n named) ∙ p.1 in
    let small : greatest_value n < 10 ^ 10 = greatest_small n in
    let P : List Tok → Type 0 = λ z. TimeOf true d z (with_timeout n v d) (at line more) in
    record {
      mid = at line more;
      item = subst P (sym front) (kept n (placed p.0.key n named) (value_reads line (least_value n) (greatest_value n) v more low high (omega (arith, high, small)) f.0));
      behind = sym f.1;
    }

-- timeouts set one after another
abbrev pub set_all : List TimeoutName → (TimeoutName → ℕ) → Drafted → Drafted
set_all [] v d = d
set_all (n ∷ names) v d = set_all names v (with_timeout n (v n) d)

-- values that can be given
pub record AreGiven (v : TimeoutName → ℕ) : Type 0 where
  pub low : (n : TimeoutName) → least_value n ≤ v n
  pub high : (n : TimeoutName) → v n ≤ greatest_value n

times_chain : (names : List TimeoutName) (v : TimeoutName → ℕ) (d : Drafted) → AreGiven v
    → Chain (AmongLines (TimeOf true)) Lined (map (λ (n : TimeoutName). word_and_number (timeout_word n) (v n)) names) d (set_all names v d)
times_chain [] v d h = done
times_chain (n ∷ names) v d h = next (give_time d n (v n) (h.low n) (h.high n)) (times_chain names v (with_timeout n (v n) d) h)

-- the value of a timeout
abbrev pub value_in : List ℕ → TimeoutName → ℕ
value_in ts n = slice_index ts (place_of n)

pub timeouts_line : (d : Drafted) (ts : List ℕ) (line : ℕ) (more : List ℕ) → AreGiven (value_in ts)
    → SettingLine d (tokens 0 false line (timeouts_text ts ++ more)) (set_all timeout_names (value_in ts) d) (tokens 0 false (suc line) more)
timeouts_line d ts line more h = go (map (timeout_text ts) timeout_names) refl (times_chain timeout_names (value_in ts) d h)
  where
    e : Drafted
    e = set_all timeout_names (value_in ts) d

    go : (xs : List (List ℕ)) → begun_after false xs ≡ true → Chain (AmongLines (TimeOf true)) Lined xs d e
        → SettingLine d (tokens 0 false line ((codes "set timeout" ++ (bracketed_list (codes " { ") (codes " }") xs ++ codes "\n")) ++ more)) e (tokens 0 false (suc line) more)
    go [] some p = absurd (cc some)
    go (x ∷ xs) some p =
        let P : List ℕ → Type 0 = λ z. SettingLine d (tokens 0 false line (codes "set timeout" ++ z)) e (tokens 0 false (suc line) more) in
        subst P (sym (ended_text x xs more ∙ bracketed_more (codes " { ") (codes " }") x xs (10 ∷ more))) (record {
          behind_set = _;
          before_end = at line (10 ∷ more);
          set = word_space false line (codes "set") _ refl key_of_Set;
          setting = timeouts (word_first true line (codes "timeout") _ refl refl key_of_Timeout) (mark_between line 123 _ refl)
              (listed_again (AmongLines (TimeOf true)) Lined key.CloseBrace (codes " { ") (codes " }") (braces (AmongLines (TimeOf true))) x xs d e line (10 ∷ more) p);
          ended = line_end true line more;
        })

-- ---- the profile

pub profile_line : (d : Drafted) (line : ℕ) (more : List ℕ)
    → SettingLine d (tokens 0 false line (codes "set profile openbsd-7.4\n" ++ more)) (with_profile profile_name.OpenBsd74 d) (tokens 0 false (suc line) more)
profile_line d line more = record {
  behind_set = at line (codes "profile openbsd-7.4\n" ++ more);
  before_end = at line (10 ∷ more);
  set = word_space false line (codes "set") (codes "profile openbsd-7.4\n" ++ more) refl key_of_Set;
  setting = profile (word_space true line (codes "profile") (codes "openbsd-7.4\n" ++ more) refl key_of_Profile)
      (word_first true line (codes "openbsd-7.4") (10 ∷ more) refl refl key_of_OpenBsd74);
  ended = line_end true line more;
}
