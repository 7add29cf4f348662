-- What is read as a state clause is one, and each state clause is read: so tokens have at most one value.
--
-- For each phrase: `x_is`, what is read is a phrase of the grammar; `x_reads`, each phrase is read. Where a phrase ends in a
-- part that may be absent, it is read before every key of `ends_x`.
use Rattle.std.proofs.Common.{◌≡◌, ℕ, ◌≤◌, Bool, true, false, cond, List, [], ◌∷◌, Option, Some, None, Result, Ok, refl, sym, ap, subst, ◌∙◌, leb, ◌&&◌, slice_index_or, slice_set}
use Rattle.std.proofs.lemmas.Bool.{and_parts, leb-true, le-leb}
use Rattle.pfs_conf_tokens.specs.Tokens.{Tok, head}
use Rattle.pfs_conf_tokens.specs.Reading.{rest, closes_parens, Refused, Reader, Act, take, stay, act, done, chain, once, number_at}
use Rattle.pfs_conf_tokens.specs.declared.keys.Key.{Key}
use Rattle.pfs_conf_tokens.specs.declared.keys.Key.TheVariants as key
use Rattle.pfs_conf_tokens.specs.declared.refusals.Why.TheVariants as why
use Rattle.pfs_conf_tokens.specs.Keys.{is_word_key}
use Rattle.pfs_conf_tokens.specs.Numbers.{number_written, split_around}
use Rattle.pfs_conf_tokens.specs.Grammar.{WordOf, Word, Number, ListOf}
use Rattle.pfs_conf_tokens.proofs.Laws.{ok_parts, chain_ok, not_refused}
use Rattle.pfs_conf_tokens.proofs.ReaderLaws.{closes_parens_key, word_head, word_is, number_is, number_reads, list_is, list_reads, ReadsList, no_comma}
use Rattle.pfs_addr_values.specs.Names.{name_of}
use Rattle.pfs_conf_values.specs.Bounds.{greatest_timeout}
use Rattle.pfs_conf_values.specs.declared.actions.Rate.{Rate}
use Rattle.pfs_conf_values.specs.declared.actions.Scope.{Scope}
use Rattle.pfs_conf_values.specs.declared.actions.Scope.TheVariants as scope
use Rattle.pfs_conf_options.specs.declared.clauses.Track.{Track}
use Rattle.pfs_conf_options.specs.declared.clauses.Track.TheVariants as track
use Rattle.pfs_conf_options.specs.declared.clauses.OverloadText.{OverloadText}
use Rattle.pfs_conf_options.specs.declared.clauses.Options.{Options}
use Rattle.pfs_conf_options.specs.declared.clauses.StateClause.{StateClause}
use Rattle.pfs_conf_options.specs.declared.clauses.StateClause.TheVariants as clause
use Rattle.pfs_conf_options.specs.Options.{none_given, proxied, rule_place}
use Rattle.pfs_conf_options.specs.Grammar.{TrackOf, bare, rule, global, IsRateText, RateOf, TableOf, FlushOf, nothing, own, all, OverloadOf, OptionOf, max, source_track, max_src_nodes, max_src_states, max_src_conn, max_src_conn_rate, overload, sloppy, floating, no_sync, timeout, KeptOf, plainly, listed, StateOf, no, keep, proxy}
use Rattle.pfs_conf_options.specs.Reading.{track_by, track_at, count_in, count_written, rate_with, rate_parts, rate_of, rate_found, rate_by, rate_at, name_closed_by, name_closed, table_by, table_at, flushed_by, flush_by, flush_at, overload_text_at, mark_once, timeout_by, mark_by, connection_by, option_by, option_at, state_options_at, kept_by, kept_at, kept_clause, proxied_clause, behind_state, state_word, state_by, state_at}
use Rattle.pfs_conf_tokens.specs.Values.{table_name_at, valued}
use Rattle.pfs_conf_options.proofs.OptionLaws.{option_shrinks}

-- ---- readers of one part and then a value that holds it

-- what is read by one reader, and then put into a value
read_then : {A B : Type 0} (f : Reader A) (P : List Tok → A → List Tok → Type 0) → ((ts : List Tok) (x : A) (left : List Tok) → f ts ≡ Ok (x, left) → P ts x left)
    → (put : A → B) (ts : List Tok) (y : B) (left : List Tok) → chain f (λ x. done (put x)) ts ≡ Ok (y, left) → (x : A) × P ts x left × (put x ≡ y)
read_then f P is put ts y left e =
    let c = chain_ok f (λ x. done (put x)) ts y left e in
    let p = ok_parts (put c.0) y c.1 left c.3 in
    (c.0, subst (λ (z : List Tok). P ts c.0 z) p.1 (is ts c.0 c.1 c.2), p.0)

once_ok : {A B : Type 0} (o : Option A) (b : Act B) (ts : List Tok) (x : B) (left : List Tok) → act (once o b) ts ≡ Ok (x, left) → (o ≡ None) × (act b ts ≡ Ok (x, left))
once_ok None b ts x left e = (refl, e)
once_ok (Some y) b ts x left e = absurd cc

mark_ok : (b : Bool) (a : Act Options) (ts : List Tok) (x : Options) (left : List Tok) → act (mark_once b a) ts ≡ Ok (x, left) → (b ≡ false) × (act a ts ≡ Ok (x, left))
mark_ok false a ts x left e = (refl, e)
mark_ok true a ts x left e = absurd cc

-- ---- source-track

pub track_is : (ts : List Tok) (s : Track) (left : List Tok) → track_at ts ≡ Ok (s, left) → TrackOf ts s left
unfolding track_at
track_is ts s left e = by_key (head ts).key refl e
  where
    not_there : act (stay (done track.Bare)) ts ≡ Ok (s, left) → TrackOf ts s left
    not_there h = let p = ok_parts track.Bare s ts left h in rw (← p.0, ← p.1) bare

    by_key : (k : Key) → (head ts).key ≡ k → act (track_by k) ts ≡ Ok (s, left) → TrackOf ts s left
    by_key key.Rule g h = let p = ok_parts track.Rule s (rest ts) left h in rw (← p.0, ← p.1) (rule (word_is key.Rule ts g (λ q. cc)))
    by_key key.Global g h = let p = ok_parts track.Global s (rest ts) left h in rw (← p.0, ← p.1) (global (word_is key.Global ts g (λ q. cc)))
    by_key _ g h = not_there h

-- the keys before which `source-track` may come
abbrev pub ends_track : Key → Bool
ends_track key.Rule = false
ends_track key.Global = false
ends_track _ = true

track_stays : (k : Key) → ends_track k ≡ true → track_by k ≡ stay (done track.Bare)
track_stays key.Rule e = absurd cc
track_stays key.Global e = absurd cc
track_stays _ e = refl

pub track_reads : {ts : List Tok} {s : Track} {left : List Tok} → TrackOf ts s left → ends_track (head left).key ≡ true → track_at ts ≡ Ok (s, left)
unfolding track_at
track_reads {ts = ts} bare f = rw (track_stays (head ts).key f) refl
track_reads (rule w) f = let h = word_head w in rw (h.0, h.1) refl
track_reads (global w) f = let h = word_head w in rw (h.0, h.1) refl

-- ---- a rate

count_is : (high : ℕ) (o : Option ℕ) (n : ℕ) → count_in high o ≡ Some n → (o ≡ Some n) × (1 ≤ n) × (n ≤ high)
count_is high None n e = absurd cc
count_is high (Some m) n e = choose (leb 1 m && leb m high) refl e
  where
    choose : (b : Bool) → leb 1 m && leb m high ≡ b → cond b (Some m) None ≡ Some n → (Some m ≡ Some n) × (1 ≤ n) × (n ≤ high)
    choose true g h =
        let same : m ≡ n = cc in
        let q = and_parts (leb 1 m) (leb m high) g in
        (h, subst (λ (z : ℕ). 1 ≤ z) same (leb-true 1 m q.0), subst (λ (z : ℕ). z ≤ high) same (leb-true m high q.1))
    choose false g h = absurd cc

count_reads : (high n : ℕ) → 1 ≤ n → n ≤ high → count_in high (Some n) ≡ Some n
count_reads high n low up =
    let a : leb 1 n ≡ true = le-leb 1 n low in
    let b : leb n high ≡ true = le-leb n high up in
    rw (a, b) refl

pub rate_text_is : (text : List ℕ) (r : Rate) → rate_of text ≡ Some r → IsRateText text r
unfolding rate_of
rate_text_is text r e = by_parts (split_around 47 text) refl e
  where
    by_numbers : (parts : List ℕ × List ℕ) → split_around 47 text ≡ Some parts → (n s : Option ℕ) → count_written 4294967 parts.0 ≡ n → count_written 2147483647 parts.1 ≡ s → rate_with n s ≡ Some r → IsRateText text r
    by_numbers parts g None s a b h = absurd cc
    by_numbers parts g (Some n) None a b h = absurd cc
    by_numbers parts g (Some n) (Some s) a b h =
        let same : ◌≡◌ {A = Rate} (record { limit = n; seconds = s }) r = cc in
        let p = count_is 4294967 (number_written parts.0) n a in
        let q = count_is 2147483647 (number_written parts.1) s b in
        subst (λ (z : Rate). IsRateText text z) same (record { before = parts.0; behind = parts.1; slash = g; limit = p.0; seconds = q.0; bounds = (p.1, p.2, q.1, q.2) })

    by_parts : (o : Option (List ℕ × List ℕ)) → split_around 47 text ≡ o → rate_parts o ≡ Some r → IsRateText text r
    by_parts None g h = absurd cc
    by_parts (Some parts) g h = by_numbers parts g (count_written 4294967 parts.0) (count_written 2147483647 parts.1) refl refl h

pub rate_text_reads : (text : List ℕ) (r : Rate) → IsRateText text r → rate_of text ≡ Some r
unfolding rate_of
rate_text_reads text r w =
    rw (w.slash, w.limit, w.seconds, count_reads 4294967 r.limit w.bounds.0 w.bounds.1, count_reads 2147483647 r.seconds w.bounds.2 w.bounds.3) refl

pub rate_is : (ts : List Tok) (r : Rate) (left : List Tok) → rate_at ts ≡ Ok (r, left) → RateOf ts r left
unfolding rate_at
rate_is ts r left e = by_key (head ts).key refl e
  where
    found : (head ts).key ≡ key.Number → (o : Option Rate) → rate_of (head ts).text ≡ o → act (rate_found o) ts ≡ Ok (r, left) → RateOf ts r left
    found g None e h = absurd cc
    found g (Some x) e h =
        let p = ok_parts x r (rest ts) left h in
        let w = word_is key.Number ts g (λ q. cc) in
        let t : w.0 ≡ head ts = sym (ap (λ z. head z) w.1) in
        (w.0, w.1 ∙ ap (λ z. w.0 ∷ z) p.1, w.2, rate_text_is w.0.text r (ap (λ z. rate_of z.text) t ∙ (e ∙ ap (λ z. Some z) p.0)))

    by_key : (k : Key) → (head ts).key ≡ k → act (rate_by (head ts).text k) ts ≡ Ok (r, left) → RateOf ts r left
    by_key key.Number g h = found g (rate_of (head ts).text) refl h
    by_key _ g h = absurd (not_refused _ _ _ h)

pub rate_reads : {ts : List Tok} {r : Rate} {left : List Tok} → RateOf ts r left → rate_at ts ≡ Ok (r, left)
unfolding rate_at
rate_reads {r = r} w = rw (w.1, w.2, rate_text_reads w.0.text r w.3) refl

-- ---- a table's name

pub table_name_is : (ts : List Tok) (name : List ℕ) (left : List Tok) → table_name_at ts ≡ Ok (name, left) → WordOf (name_of 31) ts name left
unfolding table_name_at
table_name_is [] name left e = absurd cc
table_name_is (t ∷ ts) name left e = choose (is_word_key t.key) refl (name_of 31 t.text) refl e
  where
    choose : (b : Bool) → is_word_key t.key ≡ b → (o : Option (List ℕ)) → name_of 31 t.text ≡ o → act (valued why.Plain (cond b o None)) (t ∷ ts) ≡ Ok (name, left) → WordOf (name_of 31) (t ∷ ts) name left
    choose true g None e h = absurd cc
    choose true g (Some x) e h = let p = ok_parts x name ts left h in (t, ap (λ z. t ∷ z) p.1, g, e ∙ ap (λ z. Some z) p.0)
    choose false g o e h = absurd cc

pub table_name_reads : {ts : List Tok} {name : List ℕ} {left : List Tok} → WordOf (name_of 31) ts name left → table_name_at ts ≡ Ok (name, left)
unfolding table_name_at
table_name_reads w = rw (w.1, w.2, w.3) refl

closed_is : (name : List ℕ) (ts : List Tok) (x : List ℕ) (left : List Tok) → name_closed name ts ≡ Ok (x, left) → (name ≡ x) × Word key.CloseAngle ts left
closed_is name ts x left e = by_key (head ts).key refl e
  where
    by_key : (k : Key) → (head ts).key ≡ k → act (name_closed_by name k) ts ≡ Ok (x, left) → (name ≡ x) × Word key.CloseAngle ts left
    by_key key.CloseAngle g h = let p = ok_parts name x (rest ts) left h in (p.0, subst (λ (z : List Tok). Word key.CloseAngle ts z) p.1 (word_is key.CloseAngle ts g (λ q. cc)))
    by_key _ g h = absurd (not_refused _ _ _ h)

pub table_is : (ts : List Tok) (name : List ℕ) (left : List Tok) → table_at ts ≡ Ok (name, left) → TableOf ts name left
unfolding table_at
table_is ts name left e = by_key (head ts).key refl e
  where
    by_key : (k : Key) → (head ts).key ≡ k → act (table_by k) ts ≡ Ok (name, left) → TableOf ts name left
    by_key key.OpenAngle g h =
        let c = chain_ok table_name_at name_closed (rest ts) name left h in
        let d = closed_is c.0 c.1 name left c.3 in
        record { inner = rest ts; behind = c.1; opens = word_is key.OpenAngle ts g (λ q. cc); named = table_name_is (rest ts) name c.1 (c.2 ∙ ap (λ z. Ok (z, c.1)) d.0); closes = d.1 }
    by_key _ g h = absurd (not_refused _ _ _ h)

pub table_reads : {ts : List Tok} {name : List ℕ} {left : List Tok} → TableOf ts name left → table_at ts ≡ Ok (name, left)
unfolding table_at
table_reads w = let a = word_head w.opens in let b = word_head w.closes in rw (a.0, a.1, table_name_reads w.named, b.0, b.1) refl

-- ---- overload

pub flush_is : (ts : List Tok) (f : Option Scope) (left : List Tok) → flush_at ts ≡ Ok (f, left) → FlushOf ts f left
unfolding flush_at
flush_is ts f left e = by_key (head ts).key refl e
  where
    not_there : act (stay (done None)) ts ≡ Ok (f, left) → FlushOf ts f left
    not_there h = let p = ok_parts None f ts left h in rw (← p.0, ← p.1) nothing

    alone : (mid : List Tok) → Word key.Flush ts mid → act (stay (done (Some scope.Rule))) mid ≡ Ok (f, left) → FlushOf ts f left
    alone mid w h = let p = ok_parts (Some scope.Rule) f mid left h in rw (← p.0, ← p.1) (own w)

    behind : (mid : List Tok) → Word key.Flush ts mid → (k : Key) → (head mid).key ≡ k → act (flushed_by k) mid ≡ Ok (f, left) → FlushOf ts f left
    behind mid w key.Global g h = let p = ok_parts (Some scope.Global) f (rest mid) left h in rw (← p.0, ← p.1) (all w (word_is key.Global mid g (λ q. cc)))
    behind mid w _ g h = alone mid w h

    by_key : (k : Key) → (head ts).key ≡ k → act (flush_by k) ts ≡ Ok (f, left) → FlushOf ts f left
    by_key key.Flush g h = behind (rest ts) (word_is key.Flush ts g (λ q. cc)) (head (rest ts)).key refl h
    by_key _ g h = not_there h

-- the keys before which `overload <t>` may come
abbrev pub ends_overload : Key → Bool
ends_overload key.Flush = false
ends_overload key.Global = false
ends_overload _ = true

flush_stays : (k : Key) → ends_overload k ≡ true → flush_by k ≡ stay (done None)
flush_stays key.Flush e = absurd cc
flush_stays key.Global e = refl
flush_stays _ e = refl

flushed_stays : (k : Key) → ends_overload k ≡ true → flushed_by k ≡ stay (done (Some scope.Rule))
flushed_stays key.Flush e = absurd cc
flushed_stays key.Global e = absurd cc
flushed_stays _ e = refl

pub flush_reads : {ts : List Tok} {f : Option Scope} {left : List Tok} → FlushOf ts f left → ends_overload (head left).key ≡ true → flush_at ts ≡ Ok (f, left)
unfolding flush_at
flush_reads {ts = ts} nothing e = rw (flush_stays (head ts).key e) refl
flush_reads {left = left} (own w) e = let h = word_head w in rw (h.0, h.1, flushed_stays (head left).key e) refl
flush_reads (all w v) e = let h = word_head w in let i = word_head v in rw (h.0, h.1, i.0, i.1) refl

pub overload_is : (ts : List Tok) (v : OverloadText) (left : List Tok) → overload_text_at ts ≡ Ok (v, left) → OverloadOf ts v left
unfolding overload_text_at
overload_is ts v left e =
    let c = chain_ok table_at (λ name. chain flush_at (λ f. done (record { table = name; flush = f }))) ts v left e in
    let d = read_then flush_at FlushOf flush_is (λ f. record { table = c.0; flush = f }) c.1 v left c.3 in
    subst (λ (z : OverloadText). OverloadOf ts z left) d.2 (record { mid = c.1; table = table_is ts c.0 c.1 c.2; flush = d.1 })

pub overload_reads : {ts : List Tok} {v : OverloadText} {left : List Tok} → OverloadOf ts v left → ends_overload (head left).key ≡ true → overload_text_at ts ≡ Ok (v, left)
unfolding overload_text_at
overload_reads w e = rw (table_reads w.table, flush_reads w.flush e) refl

-- ---- options

-- the end of the text is no timeout
place_not_end : (k : Key) (place : ℕ) → rule_place k ≡ Some place → key.End ≡ k → ⊥
place_not_end k place e g = let f : rule_place key.End ≡ Some place = subst (λ (z : Key). rule_place z ≡ Some place) (sym g) e in cc

timeout_is : (o : Options) (ts : List Tok) (p : Options) (left : List Tok) (k : Key) → (head ts).key ≡ k → (place : Option ℕ) → rule_place k ≡ place → act (timeout_by place o) ts ≡ Ok (p, left) → OptionOf o ts p left
timeout_is o ts p left k g None e h = absurd cc
timeout_is o ts p left k g (Some place) e h =
    let q = once_ok (slice_index_or o.timeouts place None) (take (chain (number_at 0 (greatest_timeout place)) (λ n. done (record o { timeouts = slice_set o.timeouts place (Some n) })))) ts p left h in
    let n = read_then (number_at 0 (greatest_timeout place)) (Number 0 (greatest_timeout place)) (number_is 0 (greatest_timeout place)) (λ n. record o { timeouts = slice_set o.timeouts place (Some n) }) (rest ts) p left q.1 in
    subst (λ (z : Options). OptionOf o ts z left) n.2 (timeout k place n.0 (word_is k ts g (place_not_end k place e)) e q.0 n.1)

mark_is : (o : Options) (ts : List Tok) (p : Options) (left : List Tok) (k : Key) → (head ts).key ≡ k → act (mark_by k o) ts ≡ Ok (p, left) → OptionOf o ts p left
mark_is o ts p left key.Sloppy g h =
    let q = mark_ok o.sloppy (take (done (record o { sloppy = true }))) ts p left h in
    let r = ok_parts (record o { sloppy = true }) p (rest ts) left q.1 in
    rw (← r.0, ← r.1) (sloppy (word_is key.Sloppy ts g (λ r. cc)) q.0)
mark_is o ts p left key.Floating g h =
    let q = mark_ok o.floating (take (done (record o { floating = true }))) ts p left h in
    let r = ok_parts (record o { floating = true }) p (rest ts) left q.1 in
    rw (← r.0, ← r.1) (floating (word_is key.Floating ts g (λ r. cc)) q.0)
mark_is o ts p left key.NoSync g h =
    let q = mark_ok o.no_sync (take (done (record o { no_sync = true }))) ts p left h in
    let r = ok_parts (record o { no_sync = true }) p (rest ts) left q.1 in
    rw (← r.0, ← r.1) (no_sync (word_is key.NoSync ts g (λ r. cc)) q.0)
mark_is o ts p left k g h = timeout_is o ts p left k g (rule_place k) refl h

-- an option's value after its word
option_value_is : {A : Type 0} (o : Options) (had : Option A) (f : Reader A) (P : List Tok → A → List Tok → Type 0) → ((ts : List Tok) (x : A) (left : List Tok) → f ts ≡ Ok (x, left) → P ts x left)
    → (put : A → Options) (ts : List Tok) (p : Options) (left : List Tok) → act (once had (take (chain f (λ x. done (put x))))) ts ≡ Ok (p, left)
    → (had ≡ None) × ((x : A) × P (rest ts) x left × (put x ≡ p))
option_value_is o had f P is put ts p left h =
    let q = once_ok had (take (chain f (λ x. done (put x)))) ts p left h in
    (q.0, read_then f P is put (rest ts) p left q.1)

abbrev Counted : List Tok → ℕ → List Tok → Type 0
Counted = Number 1 4294967295

connection_is : (o : Options) (ts : List Tok) (p : Options) (left : List Tok) (k : Key) → (head ts).key ≡ k → act (connection_by k o) ts ≡ Ok (p, left) → OptionOf o ts p left
connection_is o ts p left key.MaxSrcConn g h =
    let q = option_value_is o o.max_src_conn (number_at 1 4294967295) Counted (number_is 1 4294967295) (λ n. record o { max_src_conn = Some n }) ts p left h in
    subst (λ (z : Options). OptionOf o ts z left) q.1.2 (max_src_conn q.1.0 (word_is key.MaxSrcConn ts g (λ r. cc)) q.0 q.1.1)
connection_is o ts p left key.MaxSrcConnRate g h =
    let q = option_value_is o o.max_src_conn_rate rate_at RateOf rate_is (λ r. record o { max_src_conn_rate = Some r }) ts p left h in
    subst (λ (z : Options). OptionOf o ts z left) q.1.2 (max_src_conn_rate q.1.0 (word_is key.MaxSrcConnRate ts g (λ r. cc)) q.0 q.1.1)
connection_is o ts p left key.Overload g h =
    let q = option_value_is o o.overload overload_text_at OverloadOf overload_is (λ v. record o { overload = Some v }) ts p left h in
    subst (λ (z : Options). OptionOf o ts z left) q.1.2 (overload q.1.0 (word_is key.Overload ts g (λ r. cc)) q.0 q.1.1)
connection_is o ts p left k g h = mark_is o ts p left k g h

pub option_is : (o : Options) (ts : List Tok) (p : Options) (left : List Tok) → option_at o ts ≡ Ok (p, left) → OptionOf o ts p left
unfolding option_at
option_is o ts p left e = by_key (head ts).key refl e
  where
    by_key : (k : Key) → (head ts).key ≡ k → act (option_by k o) ts ≡ Ok (p, left) → OptionOf o ts p left
    by_key key.Max g h =
        let q = option_value_is o o.max (number_at 1 4294967295) Counted (number_is 1 4294967295) (λ n. record o { max = Some n }) ts p left h in
        subst (λ (z : Options). OptionOf o ts z left) q.1.2 (max q.1.0 (word_is key.Max ts g (λ r. cc)) q.0 q.1.1)
    by_key key.SourceTrack g h =
        let q = option_value_is o o.track track_at TrackOf track_is (λ s. record o { track = Some s }) ts p left h in
        subst (λ (z : Options). OptionOf o ts z left) q.1.2 (source_track q.1.0 (word_is key.SourceTrack ts g (λ r. cc)) q.0 q.1.1)
    by_key key.MaxSrcNodes g h =
        let q = option_value_is o o.max_src_nodes (number_at 1 4294967295) Counted (number_is 1 4294967295) (λ n. record o { max_src_nodes = Some n }) ts p left h in
        subst (λ (z : Options). OptionOf o ts z left) q.1.2 (max_src_nodes q.1.0 (word_is key.MaxSrcNodes ts g (λ r. cc)) q.0 q.1.1)
    by_key key.MaxSrcStates g h =
        let q = option_value_is o o.max_src_states (number_at 1 4294967295) Counted (number_is 1 4294967295) (λ n. record o { max_src_states = Some n }) ts p left h in
        subst (λ (z : Options). OptionOf o ts z left) q.1.2 (max_src_states q.1.0 (word_is key.MaxSrcStates ts g (λ r. cc)) q.0 q.1.1)
    by_key k g h = connection_is o ts p left k g h

-- the keys before which an option may come
abbrev pub ends_option : Key → Bool
ends_option key.Rule = false
ends_option key.Global = false
ends_option key.Flush = false
ends_option _ = true

option_track : (k : Key) → ends_option k ≡ true → ends_track k ≡ true
option_track key.Rule e = e
option_track key.Global e = e
option_track _ e = refl

option_overload : (k : Key) → ends_option k ≡ true → ends_overload k ≡ true
option_overload key.Flush e = e
option_overload key.Global e = e
option_overload _ e = refl

mark_timed : (k : Key) (place : ℕ) (o : Options) → rule_place k ≡ Some place → mark_by k o ≡ timeout_by (Some place) o
mark_timed key.Sloppy place o e = absurd cc
mark_timed key.Floating place o e = absurd cc
mark_timed key.NoSync place o e = absurd cc
mark_timed k place o e = ap (λ z. timeout_by z o) e

connection_timed : (k : Key) (place : ℕ) (o : Options) → rule_place k ≡ Some place → connection_by k o ≡ timeout_by (Some place) o
connection_timed key.MaxSrcConn place o e = absurd cc
connection_timed key.MaxSrcConnRate place o e = absurd cc
connection_timed key.Overload place o e = absurd cc
connection_timed k place o e = mark_timed k place o e

option_timed : (k : Key) (place : ℕ) (o : Options) → rule_place k ≡ Some place → option_by k o ≡ timeout_by (Some place) o
option_timed key.Max place o e = absurd cc
option_timed key.SourceTrack place o e = absurd cc
option_timed key.MaxSrcNodes place o e = absurd cc
option_timed key.MaxSrcStates place o e = absurd cc
option_timed k place o e = connection_timed k place o e

pub option_reads : {o p : Options} {ts left : List Tok} → OptionOf o ts p left → ends_option (head left).key ≡ true → option_at o ts ≡ Ok (p, left)
unfolding option_at
option_reads (max n w fresh number) f = let h = word_head w in rw (h.0, fresh, h.1, number_reads 1 4294967295 number) refl
option_reads {left = left} (source_track s w fresh tracked) f = let h = word_head w in rw (h.0, fresh, h.1, track_reads tracked (option_track (head left).key f)) refl
option_reads (max_src_nodes n w fresh number) f = let h = word_head w in rw (h.0, fresh, h.1, number_reads 1 4294967295 number) refl
option_reads (max_src_states n w fresh number) f = let h = word_head w in rw (h.0, fresh, h.1, number_reads 1 4294967295 number) refl
option_reads (max_src_conn n w fresh number) f = let h = word_head w in rw (h.0, fresh, h.1, number_reads 1 4294967295 number) refl
option_reads (max_src_conn_rate r w fresh rate) f = let h = word_head w in rw (h.0, fresh, h.1, rate_reads rate) refl
option_reads {left = left} (overload v w fresh table) f = let h = word_head w in rw (h.0, fresh, h.1, overload_reads table (option_overload (head left).key f)) refl
option_reads (sloppy w fresh) f = let h = word_head w in rw (h.0, fresh, h.1) refl
option_reads (floating w fresh) f = let h = word_head w in rw (h.0, fresh, h.1) refl
option_reads (no_sync w fresh) f = let h = word_head w in rw (h.0, fresh, h.1) refl
option_reads {o = o} (timeout k place n w e fresh number) f = let h = word_head w in rw (h.0, option_timed k place o e, fresh, h.1, number_reads 0 (greatest_timeout place) number) refl

-- what an option may begin with
abbrev Begins : Key → Type 0
Begins k = (closes_parens k ≡ false) × (ends_option k ≡ true) × (no_comma k ≡ true)

place_begins : (k : Key) (place : ℕ) → rule_place k ≡ Some place → Begins k
place_begins key.CloseParen place e = absurd cc
place_begins key.Rule place e = absurd cc
place_begins key.Global place e = absurd cc
place_begins key.Flush place e = absurd cc
place_begins key.Comma place e = absurd cc
place_begins _ place e = (refl, refl, refl)

option_begins : {o p : Options} {ts left : List Tok} → OptionOf o ts p left → Begins (head ts).key
option_begins (max n w fresh number) = rw (word_head w).0 (refl, refl, refl)
option_begins (source_track s w fresh tracked) = rw (word_head w).0 (refl, refl, refl)
option_begins (max_src_nodes n w fresh number) = rw (word_head w).0 (refl, refl, refl)
option_begins (max_src_states n w fresh number) = rw (word_head w).0 (refl, refl, refl)
option_begins (max_src_conn n w fresh number) = rw (word_head w).0 (refl, refl, refl)
option_begins (max_src_conn_rate r w fresh rate) = rw (word_head w).0 (refl, refl, refl)
option_begins (overload v w fresh table) = rw (word_head w).0 (refl, refl, refl)
option_begins (sloppy w fresh) = rw (word_head w).0 (refl, refl, refl)
option_begins (floating w fresh) = rw (word_head w).0 (refl, refl, refl)
option_begins (no_sync w fresh) = rw (word_head w).0 (refl, refl, refl)
option_begins (timeout k place n w e fresh number) = rw (word_head w).0 (place_begins k place e)

-- ---- the clause

pub options_are : (ts : List Tok) (o : Options) (left : List Tok) → state_options_at ts ≡ Ok (o, left) → ListOf key.CloseParen OptionOf none_given ts o left
unfolding state_options_at
options_are ts o left e = list_is key.CloseParen closes_parens OptionOf option_at closes_parens_key (λ r. cc) option_is none_given ts o left e

listed_options : ReadsList key.CloseParen closes_parens ends_option OptionOf option_at
listed_options = record { closes = refl; close_follows = refl; comma_goes = refl; comma_follows = refl; begins = λ q. option_begins q; reads = λ q f. option_reads q f; shrinks = option_shrinks }

pub options_read : {ts : List Tok} {o : Options} {left : List Tok} → ListOf key.CloseParen OptionOf none_given ts o left → state_options_at ts ≡ Ok (o, left)
unfolding state_options_at
options_read q = list_reads listed_options q

pub kept_is : (ts : List Tok) (o : Options) (left : List Tok) → kept_at ts ≡ Ok (o, left) → KeptOf ts o left
unfolding kept_at
kept_is ts o left e = by_key (head ts).key refl e
  where
    not_there : act (stay (done none_given)) ts ≡ Ok (o, left) → KeptOf ts o left
    not_there h = let p = ok_parts none_given o ts left h in rw (← p.0, ← p.1) plainly

    by_key : (k : Key) → (head ts).key ≡ k → act (kept_by k) ts ≡ Ok (o, left) → KeptOf ts o left
    by_key key.OpenParen g h = listed (word_is key.OpenParen ts g (λ q. cc)) (options_are (rest ts) o left h)
    by_key _ g h = not_there h

-- the keys before which a state clause may come
abbrev pub ends_state : Key → Bool
ends_state key.OpenParen = false
ends_state _ = true

kept_stays : (k : Key) → ends_state k ≡ true → kept_by k ≡ stay (done none_given)
kept_stays key.OpenParen e = absurd cc
kept_stays _ e = refl

pub kept_reads : {ts : List Tok} {o : Options} {left : List Tok} → KeptOf ts o left → ends_state (head left).key ≡ true → kept_at ts ≡ Ok (o, left)
unfolding kept_at
kept_reads {ts = ts} plainly f = rw (kept_stays (head ts).key f) refl
kept_reads (listed w q) f = let h = word_head w in rw (h.0, h.1) (options_read q)

state_word_is : (f : List Tok → Result (StateClause × List Tok) Refused) (ts : List Tok) (x : StateClause) (left : List Tok) → state_word f ts ≡ Ok (x, left) → Word key.State ts (rest ts) × (f (rest ts) ≡ Ok (x, left))
state_word_is f ts x left e = by_key (head ts).key refl e
  where
    by_key : (k : Key) → (head ts).key ≡ k → act (behind_state f k) ts ≡ Ok (x, left) → Word key.State ts (rest ts) × (f (rest ts) ≡ Ok (x, left))
    by_key key.State g h = (word_is key.State ts g (λ q. cc), h)
    by_key _ g h = absurd (not_refused _ _ _ h)

pub state_is : (ts : List Tok) (x : StateClause) (left : List Tok) → state_at ts ≡ Ok (x, left) → StateOf ts x left
unfolding state_at
state_is ts x left e = by_key (head ts).key refl e
  where
    by_key : (k : Key) → (head ts).key ≡ k → act (state_by k) ts ≡ Ok (x, left) → StateOf ts x left
    by_key key.No g h =
        let s = state_word_is (done clause.No) (rest ts) x left h in
        let p = ok_parts clause.No x (rest (rest ts)) left s.1 in
        rw (← p.0, ← p.1) (no (word_is key.No ts g (λ q. cc)) s.0)
    by_key key.Keep g h =
        let s = state_word_is kept_clause (rest ts) x left h in
        let k = read_then kept_at KeptOf kept_is (λ o. clause.Keep o) (rest (rest ts)) x left s.1 in
        subst (λ (z : StateClause). StateOf ts z left) k.2 (keep (word_is key.Keep ts g (λ q. cc)) s.0 k.1)
    by_key key.Synproxy g h =
        let s = state_word_is proxied_clause (rest ts) x left h in
        let k = read_then kept_at KeptOf kept_is (λ o. clause.Keep (proxied o)) (rest (rest ts)) x left s.1 in
        subst (λ (z : StateClause). StateOf ts z left) k.2 (proxy (word_is key.Synproxy ts g (λ q. cc)) s.0 k.1)
    by_key _ g h = absurd (not_refused _ _ _ h)

pub state_reads : {ts : List Tok} {x : StateClause} {left : List Tok} → StateOf ts x left → ends_state (head left).key ≡ true → state_at ts ≡ Ok (x, left)
unfolding state_at
state_reads (no w v) f = let h = word_head w in let i = word_head v in rw (h.0, h.1, i.0, i.1) refl
state_reads (keep w v k) f = let h = word_head w in let i = word_head v in rw (h.0, h.1, i.0, i.1, kept_reads k f) refl
state_reads (proxy w v k) f = let h = word_head w in let i = word_head v in rw (h.0, h.1, i.0, i.1, kept_reads k f) refl

-- a state clause begins with `no`, `keep` or `synproxy`
abbrev pub starts_state : Key → Bool
starts_state key.No = true
starts_state key.Keep = true
starts_state key.Synproxy = true
starts_state _ = false

pub state_begins : {ts : List Tok} {x : StateClause} {left : List Tok} → StateOf ts x left → starts_state (head ts).key ≡ true
state_begins (no w v) = rw (word_head w).0 refl
state_begins (keep w v k) = rw (word_head w).0 refl
state_begins (proxy w v k) = rw (word_head w).0 refl

-- and not with a key that is none of them
pub state_avoids : (g : Key → Bool) → g key.No ≡ false → g key.Keep ≡ false → g key.Synproxy ≡ false → {ts : List Tok} {x : StateClause} {left : List Tok} → StateOf ts x left → g (head ts).key ≡ false
state_avoids g a b c (no w v) = rw (word_head w).0 a
state_avoids g a b c (keep w v k) = rw (word_head w).0 b
state_avoids g a b c (proxy w v k) = rw (word_head w).0 c
