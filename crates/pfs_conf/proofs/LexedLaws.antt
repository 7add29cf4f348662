-- The tokens of a text have the keys of their words, and so have those that a reader leaves.
use Rattle.std.proofs.Common.{◌≡◌, ℕ, zero, suc, ◌==◌, ◌&&◌, Bool, true, false, cond, List, [], ◌∷◌, Ok, refl}
use Rattle.pfs_conf_tokens.specs.declared.keys.Key.{Key}
use Rattle.pfs_conf_tokens.specs.declared.lexer.Run.TheVariants as run
use Rattle.pfs_conf_tokens.specs.Tokens.{Tok, token}
use Rattle.pfs_conf_tokens.specs.Keys.{is_word_key}
use Rattle.pfs_conf_tokens.specs.Lexis.{is_word_byte, is_space, mark_key, run_of, is_closed, in_front, piece, bytes_behind, tokens, tokens_of}
use Rattle.pfs_conf_tokens.specs.Grammar.{Passes, stays, over}
use Rattle.pfs_conf_tokens.specs.Reading.{Reader}
use Rattle.pfs_conf_tokens.proofs.Laws.{Reach, Online}
use Rattle.pfs_conf.specs.PhraseBounds.{IsLexed, AreLexed, none, more}

mark_lexed : (line b : ℕ) → IsLexed (token line (mark_key b) (b ∷ []))
mark_lexed line b = by_key (mark_key b) (marks b)
  where
    no_word : Key → Bool
    no_word k = is_word_key k

    by_key : (k : Key) → is_word_key k ≡ false → IsLexed (token line k (b ∷ []))
    by_key k e = λ h. absurd (let c : true ≡ false = cc in cc)

    pick : (c : Bool) (x y : Key) → is_word_key x ≡ false → is_word_key y ≡ false → is_word_key (cond c x y) ≡ false
    pick true x y p q = p
    pick false x y p q = q

    marks : (b : ℕ) → is_word_key (mark_key b) ≡ false
    marks b = pick (b == 123) _ _ refl (pick (b == 125) _ _ refl (pick (b == 40) _ _ refl (pick (b == 41) _ _ refl (pick (b == 60) _ _ refl (pick (b == 62) _ _ refl
        (pick (b == 44) _ _ refl (pick (b == 33) _ _ refl (pick (b == 61) _ _ refl refl))))))))

pick_lexed : (c : Bool) (x y : Tok) → IsLexed x → IsLexed y → IsLexed (cond c x y)
pick_lexed true x y p q = p
pick_lexed false x y p q = q

piece_lexed : (line b : ℕ) (bs : List ℕ) → IsLexed (piece line b bs)
piece_lexed line b bs = pick_lexed (is_word_byte b) _ _ (λ h. refl) (pick_lexed (b == 34 && is_closed bs) _ _ (λ h. absurd cc) (mark_lexed line b))

pick_all : (c : Bool) (x y : List Tok) → AreLexed x → AreLexed y → AreLexed (cond c x y)
pick_all true x y p q = p
pick_all false x y p q = q

no_word_more : {k : Key} {line : ℕ} {ts : List Tok} → is_word_key k ≡ false → AreLexed ts → AreLexed (token line k [] ∷ ts)
no_word_more e l = more (λ h. absurd cc) l

lexed_from : (n : ℕ) (busy : Bool) (line : ℕ) (bytes : List ℕ) → AreLexed (tokens n busy line bytes)
unfolding tokens
lexed_from n busy line [] = pick_all busy _ _ (no_word_more refl (no_word_more refl none)) (no_word_more refl none)
lexed_from (suc n) busy line (b ∷ bs) = lexed_from n busy line bs
lexed_from zero busy line (b ∷ bs) =
    pick_all (is_space b) _ _ (lexed_from 0 busy line bs) (
    pick_all (b == 10) _ _ (no_word_more refl (lexed_from 0 false (suc line) bs)) (
    pick_all (b == 35) _ _ (lexed_from (run_of run.Comment bs) busy line bs) (
    pick_all (b == 92 && in_front 10 bs) _ _ (lexed_from 1 busy (suc line) bs) (more (piece_lexed line b bs) (lexed_from (bytes_behind b bs) true line bs)))))

pub tokens_lexed : (text : List ℕ) → AreLexed (tokens_of text)
tokens_lexed text = lexed_from 0 false 1 text

pub passes_lexed : {p : Key → Bool} {ts left : List Tok} → Passes p ts left → AreLexed ts → AreLexed left
passes_lexed stays l = l
passes_lexed (over e h) (more x l) = passes_lexed h l

-- what a reader leaves
pub left_lexed : {A : Type 0} {r : Reach} {f : Reader A} → Online r f → (ts : List Tok) (x : A) (left : List Tok) → f ts ≡ Ok (x, left) → AreLexed ts → AreLexed left
left_lexed h ts x left e l = passes_lexed (h.took ts x left e) l
