-- Tokens from bytes.
use Rattle.std.proofs.Common.{◌≡◌, ℕ, zero, suc, ◌+◌, ◌≤◌, ◌<◌, Bool, true, false, cond, List, [], ◌∷◌, length, take, drop, refl, ap, ◌∙◌, arith, add-one, ◌&&◌, ◌==◌, not}
use Rattle.std.proofs.lemmas.Bool.{cond-false}
use Rattle.pfs_conf_tokens.specs.Tokens.{Tok, token}
use Rattle.pfs_conf_tokens.specs.declared.keys.Key.{Key}
use Rattle.pfs_conf_tokens.specs.declared.keys.Key.TheVariants as key
use Rattle.pfs_conf_tokens.specs.declared.lexer.Run.TheVariants as run
use Rattle.pfs_conf_tokens.specs.Words.{key_of_text}
use Rattle.pfs_conf_tokens.specs.Lexis.{is_word_byte, mark_key, run_of, is_closed, piece, bytes_behind, tokens, in_front, is_space}

pub word_piece : (line b : ℕ) (bs text word : List ℕ) (k : Key) (n : ℕ) → text ≡ b ∷ bs → is_word_byte b ≡ true → n ≡ run_of run.Word bs → word ≡ take (n + 1) text → k ≡ key_of_text word → token line k word ≡ piece line b bs
word_piece line b bs text word k n ht hb hn hw hk =
    let w : word ≡ b ∷ take (run_of run.Word bs) bs = rw (hw, ht, hn, add-one) refl in
    rw (hb, hk, w) refl

pub quote_piece : (line b : ℕ) (bs inside : List ℕ) (n : ℕ) → is_word_byte b ≡ false → b ≡ 34 → is_closed bs ≡ true → n ≡ run_of run.Quote bs → inside ≡ take n bs → token line key.Quoted inside ≡ piece line b bs
quote_piece line b bs inside n hb hq hc hn hi = rw (hi, hn, hb, hq, hc) refl

pub mark_piece : (line b : ℕ) (bs text mark : List ℕ) → text ≡ b ∷ bs → is_word_byte b ≡ false → (b == 34 && is_closed bs) ≡ false → mark ≡ take 1 text → token line (mark_key b) mark ≡ piece line b bs
mark_piece line b bs text mark ht hb hq hm = let m : mark ≡ b ∷ [] = rw (hm, ht) refl in rw (hb, hq, m) refl

-- ---- how tokens go on, by the byte in front

pub tokens_skip : (n : ℕ) (busy : Bool) (line : ℕ) (bs : List ℕ) → n ≤ length bs → tokens n busy line bs ≡ tokens 0 busy line (drop n bs)
unfolding tokens
tokens_skip zero busy line [] le = refl
tokens_skip (suc n) busy line [] le = absurd (omega arith)
tokens_skip zero busy line (b ∷ bs) le = refl
tokens_skip (suc n) busy line (b ∷ bs) le = tokens_skip n busy line bs (omega arith)

pub tokens_space : (busy : Bool) (line b : ℕ) (bytes bs : List ℕ) → bytes ≡ b ∷ bs → is_space b ≡ true → tokens 0 busy line bytes ≡ tokens 0 busy line bs
unfolding tokens
tokens_space busy line b bytes bs e s = rw (e, s) refl

pub tokens_line : (busy : Bool) (line b : ℕ) (bytes bs : List ℕ) → bytes ≡ b ∷ bs → is_space b ≡ false → b ≡ 10 → tokens 0 busy line bytes ≡ token line key.LineEnd [] ∷ tokens 0 false (suc line) bs
unfolding tokens
tokens_line busy line b bytes bs e s h = rw (e, s, h) refl

pub tokens_comment : (busy : Bool) (line b : ℕ) (bytes bs : List ℕ) → bytes ≡ b ∷ bs → is_space b ≡ false → b ≡ 35 → run_of run.Comment bs ≤ length bs → tokens 0 busy line bytes ≡ tokens 0 busy line (drop (run_of run.Comment bs) bs)
unfolding tokens
tokens_comment busy line b bytes bs e s h le = rw (e, s, h) (tokens_skip (run_of run.Comment bs) busy line bs le)

pub tokens_joined : (busy : Bool) (line b : ℕ) (bytes bs : List ℕ) → bytes ≡ b ∷ bs → is_space b ≡ false → b ≡ 92 → in_front 10 bs ≡ true → 0 < length bs → tokens 0 busy line bytes ≡ tokens 0 busy (suc line) (drop 1 bs)
unfolding tokens
tokens_joined busy line b bytes bs e s h f lt = rw (e, s, h, f) (tokens_skip 1 busy (suc line) bs lt)

pub tokens_piece : (busy : Bool) (line b : ℕ) (bytes bs : List ℕ) → bytes ≡ b ∷ bs → is_space b ≡ false → (b == 10) ≡ false → (b == 35) ≡ false → (b == 92 && in_front 10 bs) ≡ false → bytes_behind b bs ≤ length bs → tokens 0 busy line bytes ≡ piece line b bs ∷ tokens 0 true line (drop (bytes_behind b bs) bs)
unfolding tokens
tokens_piece busy line b bytes bs e s h1 h2 h3 le = rw e (cond-false (is_space b) _ _ s ∙ (cond-false (b == 10) _ _ h1 ∙ (cond-false (b == 35) _ _ h2 ∙ (cond-false (b == 92 && in_front 10 bs) _ _ h3 ∙ ap (λ (z : List Tok). piece line b bs ∷ z) (tokens_skip (bytes_behind b bs) true line bs le)))))

pub tokens_none : (busy : Bool) (line : ℕ) (bytes : List ℕ) → bytes ≡ [] → tokens 0 busy line bytes ≡ cond busy (token line key.LineEnd [] ∷ token line key.End [] ∷ []) (token line key.End [] ∷ [])
unfolding tokens
tokens_none busy line bytes e = rw e refl

pub scan_ends : (busy b : Bool) (line : ℕ) (k : Key) (bytes : List ℕ) → bytes ≡ [] → busy ≡ b → k ≡ cond b key.LineEnd key.End → token line k [] ∷ cond (not busy) [] (tokens 0 false line bytes) ≡ tokens 0 busy line bytes
unfolding tokens
scan_ends busy true line k bytes e h g = rw (h, e, g) refl
scan_ends busy false line k bytes e h g = rw (h, e, g) refl
