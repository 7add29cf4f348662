-- What is read after `set syncookies` is a phrase of the grammar, and each is read, before a token that begins no shares.
use Rattle.std.proofs.Common.{◌≡◌, ◌∙◌, ℕ, ◌≤◌, ◌<◌, Bool, true, false, not, cond, leb, ltb, List, [], ◌∷◌, Option, Some, None, Result, Ok, Err, IfOk, refl, sym, ap, subst, arith}
use Rattle.std.proofs.lemmas.Bool.{leb-true, le-leb, ltb-true}
use Rattle.pfs_conf_tokens.specs.declared.keys.Key.{Key}
use Rattle.pfs_conf_tokens.specs.declared.keys.Key.TheVariants as key
use Rattle.pfs_conf_tokens.specs.declared.refusals.Refusal.{Refusal}
use Rattle.pfs_conf_tokens.specs.TokenResults.{Gives}
use Rattle.pfs_conf_tokens.specs.Tokens.{Tok, head}
use Rattle.pfs_conf_tokens.specs.Reading.{rest, act, chain, comma_at, comma_by, done, stay}
use Rattle.pfs_conf_tokens.specs.Numbers.{number_written, split_around}
use Rattle.pfs_conf_tokens.specs.Grammar.{Word}
use Rattle.pfs_conf_tokens.proofs.Laws.{ok_parts, chain_ok, not_refused}
use Rattle.pfs_conf_tokens.proofs.ReaderLaws.{word_head, word_is}
use Rattle.pfs_conf_values.specs.Syncookies.{AreSyncookies}
use Rattle.pfs_conf_values.specs.declared.syncookies.Syncookies.{Syncookies}
use Rattle.pfs_conf_values.specs.declared.syncookies.Syncookies.TheVariants as cookies
use Rattle.pfs_conf_settings.specs.Drafts.{has_broken_shares, usual_shares}
use Rattle.pfs_conf_settings.specs.Syncookies.{shares_closed_at, shares_closed_by, end_share_at, end_share_by, share_at, share_before, share_by, share_found, share_in, share_of, share_parts, shares_at, shares_by, start_share_at, start_share_by, start_within, syncookies_at, syncookies_by}
use Rattle.pfs_conf_settings.specs.SyncookieGrammar.{CommaOf, comma, none, IsShareText, ShareOf, SharesOf, SyncookiesOf, adaptive, always, never, shared}

-- ---- a share

within : (o : Option ℕ) (n : ℕ) → share_in o ≡ Some n → (o ≡ Some n) × (n ≤ 100)
within None n e = absurd cc
within (Some m) n e = choose (leb m 100) refl e
  where
    choose : (b : Bool) → leb m 100 ≡ b → cond b (Some m) None ≡ Some n → (Some m ≡ Some n) × (n ≤ 100)
    choose true g h = let same : m ≡ n = cc in (h, subst (λ (z : ℕ). z ≤ 100) same (leb-true m 100 g))
    choose false g h = absurd cc

share_text_is : (text : List ℕ) (n : ℕ) → share_of text ≡ Some n → IsShareText text n
unfolding share_of
share_text_is text n e = by_parts (split_around 37 text) refl e
  where
    by_end : (before behind : List ℕ) → split_around 37 text ≡ Some (before, behind) → share_before before behind ≡ Some n → IsShareText text n
    by_end before [] g h = let p = within (number_written before) n h in record { digits = before; percent = g; number = p.0; bound = p.1 }
    by_end before (b ∷ bs) g h = absurd cc

    by_parts : (o : Option (List ℕ × List ℕ)) → split_around 37 text ≡ o → share_parts o ≡ Some n → IsShareText text n
    by_parts None g h = absurd cc
    by_parts (Some parts) g h = by_end parts.0 parts.1 g h

pub share_text_reads : (text : List ℕ) (n : ℕ) → IsShareText text n → share_of text ≡ Some n
unfolding share_of
share_text_reads text n w = let few : leb n 100 ≡ true = le-leb n 100 w.bound in rw (w.percent, w.number, few) refl

share_is : (ts : List Tok) (n : ℕ) (left : List Tok) → share_at ts ≡ Ok (n, left) → ShareOf ts n left
unfolding share_at
share_is ts n left e = by_key (head ts).key refl e
  where
    found : (head ts).key ≡ key.Number → (o : Option ℕ) → share_of (head ts).text ≡ o → act (share_found o) ts ≡ Ok (n, left) → ShareOf ts n left
    found g None e h = absurd cc
    found g (Some x) e h =
        let p = ok_parts x n (rest ts) left h in
        let w = word_is key.Number ts g (λ q. cc) in
        let t : w.0 ≡ head ts = sym (ap (λ z. head z) w.1) in
        (w.0, w.1 ∙ ap (λ z. w.0 ∷ z) p.1, w.2, share_text_is w.0.text n (ap (λ z. share_of z.text) t ∙ (e ∙ ap (λ z. Some z) p.0)))

    by_key : (k : Key) → (head ts).key ≡ k → act (share_by (head ts).text k) ts ≡ Ok (n, left) → ShareOf ts n left
    by_key key.Number g h = found g (share_of (head ts).text) refl h
    by_key _ g h = absurd (not_refused _ _ _ h)

share_reads : {ts : List Tok} {n : ℕ} {left : List Tok} → ShareOf ts n left → share_at ts ≡ Ok (n, left)
unfolding share_at
share_reads {n = n} w = rw (w.1, w.2, share_text_reads w.0.text n w.3) refl

-- ---- a comma

comma_is : (ts : List Tok) (c : Bool) (left : List Tok) → comma_at ts ≡ Ok (c, left) → CommaOf ts left
comma_is ts c left e = by_key (head ts).key refl e
  where
    by_key : (k : Key) → (head ts).key ≡ k → act (comma_by k) ts ≡ Ok (c, left) → CommaOf ts left
    by_key key.Comma g h = subst (λ (z : List Tok). CommaOf ts z) (ok_parts true c (rest ts) left h).1 (comma (word_is key.Comma ts g (λ q. cc)))
    by_key _ g h = subst (λ (z : List Tok). CommaOf ts z) (ok_parts false c ts left h).1 none

-- ---- both shares

closed_is : (s : Syncookies) (ts : List Tok) (x : Syncookies) (left : List Tok) → shares_closed_at s ts ≡ Ok (x, left) → Word key.CloseParen ts left × (s ≡ x)
closed_is s ts x left e = by_key (head ts).key refl e
  where
    by_key : (k : Key) → (head ts).key ≡ k → act (shares_closed_by s k) ts ≡ Ok (x, left) → Word key.CloseParen ts left × (s ≡ x)
    by_key key.CloseParen g h = let p = ok_parts s x (rest ts) left h in (subst (λ (z : List Tok). Word key.CloseParen ts z) p.1 (word_is key.CloseParen ts g (λ q. cc)), p.0)
    by_key _ g h = absurd (not_refused _ _ _ h)

-- from the word `end` on
record Ending (start : ℕ) (ts : List Tok) (x : Syncookies) (left : List Tok) : Type 0 where
  end : ℕ
  e : List Tok
  f : List Tok
  word : Word key.EndWord ts e
  share : ShareOf e end f
  closes : Word key.CloseParen f left
  says : cookies.Adaptive start end ≡ x

end_is : (start : ℕ) (ts : List Tok) (x : Syncookies) (left : List Tok) → end_share_at start ts ≡ Ok (x, left) → Ending start ts x left
unfolding end_share_at
end_is start ts x left e = by_key (head ts).key refl e
  where
    by_key : (k : Key) → (head ts).key ≡ k → act (end_share_by start k) ts ≡ Ok (x, left) → Ending start ts x left
    by_key key.EndWord g h =
        let c = chain_ok share_at (λ end. shares_closed_at (cookies.Adaptive start end)) (rest ts) x left h in
        let p = closed_is (cookies.Adaptive start c.0) c.1 x left c.3 in
        record { end = c.0; e = rest ts; f = c.1; word = word_is key.EndWord ts g (λ q. cc); share = share_is (rest ts) c.0 c.1 c.2; closes = p.0; says = p.1 }
    by_key _ g h = absurd (not_refused _ _ _ h)

-- what is read after `adaptive` and `(`
start_is : (ts : List Tok) (x : Syncookies) (left : List Tok) → start_share_at (rest ts) ≡ Ok (x, left) → Word key.OpenParen ts (rest ts)
    → (start : ℕ) × (end : ℕ) × SharesOf ts start end left × (cookies.Adaptive start end ≡ x)
unfolding start_share_at
start_is ts x left e opens = by_key (head (rest ts)).key refl e
  where
    by_key : (k : Key) → (head (rest ts)).key ≡ k → act (start_share_by k) (rest ts) ≡ Ok (x, left) → (start : ℕ) × (end : ℕ) × SharesOf ts start end left × (cookies.Adaptive start end ≡ x)
    by_key key.Start g h =
        let c = chain_ok share_at (λ start. chain comma_at (λ c. end_share_at start)) (rest (rest ts)) x left h in
        let d = chain_ok comma_at (λ b. end_share_at c.0) c.1 x left c.3 in
        let p = end_is c.0 d.1 x left d.3 in (
          c.0,
          p.end,
          record {
            a = rest ts;
            b = rest (rest ts);
            c = c.1;
            d = d.1;
            e = p.e;
            f = p.f;
            opens = opens;
            start_word = word_is key.Start (rest ts) g (λ q. cc);
            start_share = share_is (rest (rest ts)) c.0 c.1 c.2;
            between = comma_is c.1 d.0 d.1 d.2;
            end_word = p.word;
            end_share = p.share;
            closes = p.closes;
          },
          p.says,
        )
    by_key _ g h = absurd (not_refused _ _ _ h)

comma_reads : {ts left : List Tok} {end : List Tok} (start : ℕ) (x : Syncookies) (behind : List Tok) → CommaOf ts left → Word key.EndWord left end → end_share_at start left ≡ Ok (x, behind)
    → chain comma_at (λ c. end_share_at start) ts ≡ Ok (x, behind)
comma_reads {ts} start x behind none w e = let h = (word_head w).0 in rw (h, e) refl
comma_reads start x behind (comma v) w e = let h = word_head v in rw (h.0, h.1, e) refl

end_reads : {start end : ℕ} {ts e f left : List Tok} → Word key.EndWord ts e → ShareOf e end f → Word key.CloseParen f left → end_share_at start ts ≡ Ok (cookies.Adaptive start end, left)
unfolding end_share_at
end_reads w s v = let h = word_head w in let k = word_head v in rw (h.0, h.1, share_reads s, k.0, k.1) refl

start_reads : {ts left : List Tok} {start end : ℕ} → SharesOf ts start end left → start_share_at (rest ts) ≡ Ok (cookies.Adaptive start end, left)
unfolding start_share_at
start_reads {left = left} {start = start} {end = end} w =
    let o = word_head w.opens in
    let s = word_head w.start_word in
    let behind = comma_reads start (cookies.Adaptive start end) left w.between w.end_word (end_reads w.end_word w.end_share w.closes) in
    rw (o.1, s.0, s.1, share_reads w.start_share, behind) refl

-- ---- what follows `set syncookies`

pub syncookies_is : (ts : List Tok) (x : Syncookies) (left : List Tok) → syncookies_at ts ≡ Ok (x, left) → SyncookiesOf ts x left
unfolding syncookies_at shares_at
syncookies_is ts x left e = by_key (head ts).key refl e
  where
    no_shares : Word key.Adaptive ts (rest ts) → act (stay (done usual_shares)) (rest ts) ≡ Ok (x, left) → SyncookiesOf ts x left
    no_shares w h = let p = ok_parts usual_shares x (rest ts) left h in rw (← p.0, ← p.1) (adaptive w)

    with_shares : Word key.Adaptive ts (rest ts) → (k : Key) → (head (rest ts)).key ≡ k → act (shares_by k) (rest ts) ≡ Ok (x, left) → SyncookiesOf ts x left
    with_shares w key.OpenParen g h =
        let p = start_is (rest ts) x left h (word_is key.OpenParen (rest ts) g (λ q. cc)) in
        subst (λ (z : Syncookies). SyncookiesOf ts z left) p.3 (shared w p.2)
    with_shares w _ g h = no_shares w h

    by_key : (k : Key) → (head ts).key ≡ k → act (syncookies_by k) ts ≡ Ok (x, left) → SyncookiesOf ts x left
    by_key key.Never g h = let p = ok_parts cookies.Never x (rest ts) left h in rw (← p.0, ← p.1) (never (word_is key.Never ts g (λ q. cc)))
    by_key key.Always g h = let p = ok_parts cookies.Always x (rest ts) left h in rw (← p.0, ← p.1) (always (word_is key.Always ts g (λ q. cc)))
    by_key key.Adaptive g h = with_shares (word_is key.Adaptive ts g (λ q. cc)) (head (rest ts)).key refl h
    by_key _ g h = absurd (not_refused _ _ _ h)

-- the keys before which `adaptive` may stand alone
abbrev pub no_shares : Key → Bool
no_shares key.OpenParen = false
no_shares _ = true

shares_stay : (k : Key) → no_shares k ≡ true → shares_by k ≡ stay (done usual_shares)
shares_stay key.OpenParen e = absurd cc
shares_stay _ e = refl

pub syncookies_reads : {ts left : List Tok} {x : Syncookies} → SyncookiesOf ts x left → no_shares (head left).key ≡ true → syncookies_at ts ≡ Ok (x, left)
unfolding syncookies_at shares_at
syncookies_reads (never w) f = let h = word_head w in rw (h.0, h.1) refl
syncookies_reads (always w) f = let h = word_head w in rw (h.0, h.1) refl
syncookies_reads {left = left} (adaptive w) f = let h = word_head w in rw (h.0, h.1, shares_stay (head left).key f) refl
syncookies_reads (shared w v) f = let h = word_head w in let o = word_head v.opens in rw (h.0, h.1, o.0, start_reads v) refl

-- ---- what is read has a share for its start

phrase_within : {ts left : List Tok} {x : Syncookies} → SyncookiesOf ts x left → start_within x
phrase_within (never w) = tt
phrase_within (always w) = tt
phrase_within (adaptive w) = omega arith
phrase_within (shared w v) = v.start_share.3.bound

pub gives_within : (r : Result Syncookies Refusal) (left ts : List Tok) → Gives r left (syncookies_at ts) → IfOk r start_within
gives_within (Ok x) left ts e = phrase_within (syncookies_is ts x left e)
gives_within (Err d) left ts e = tt

-- with an end below it, these are shares
pub are_syncookies : (s : Syncookies) → start_within s → has_broken_shares s ≡ false → AreSyncookies s
are_syncookies cookies.Never h e = tt
are_syncookies cookies.Always h e = tt
are_syncookies (cookies.Adaptive start end) h e = (below (ltb end start) refl e, h)
  where
    below : (b : Bool) → ltb end start ≡ b → not b ≡ false → end < start
    below true g k = ltb-true end start g
    below false g k = absurd cc
