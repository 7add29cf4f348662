-- The tokens of a rules text. (pf.conf(5), "DESCRIPTION" and "GRAMMAR"; what becomes of bytes that pf has no rule for is own)
use Rattle.std.specs.Prelude.{ℕ, zero, suc, Bool, true, false, List, [], ◌∷◌, take, drop, nat_le, ◌==◌, ◌&&◌, ◌||◌, not, if◌then◌else◌}
use Rattle.pfs_conf_tokens.specs.declared.keys.Key.{Key}
use Rattle.pfs_conf_tokens.specs.declared.keys.Key.TheVariants as key
use Rattle.pfs_conf_tokens.specs.declared.lexer.Run.{Run}
use Rattle.pfs_conf_tokens.specs.declared.lexer.Run.TheVariants as run
use Rattle.pfs_conf_tokens.specs.declared.lexer.TheConstants.{TEXT_LIMIT}
use Rattle.pfs_conf_tokens.specs.Tokens.{Tok, token}
use Rattle.pfs_conf_tokens.specs.Words.{key_of_text}

-- a rules text has at most 1,048,576 bytes (own)
abbrev pub text_limit : ℕ
text_limit = TEXT_LIMIT

-- space, tab and carriage return separate tokens
abbrev pub is_space : ℕ → Bool
is_space b = b == 32 || b == 9 || b == 13

-- the bytes that are tokens by themselves: { } ( ) < > , ! =
abbrev pub is_mark : ℕ → Bool
is_mark b = b == 123 || b == 125 || b == 40 || b == 41 || b == 60 || b == 62 || b == 44 || b == 33 || b == 61

-- the bytes of words: printable, no mark, none of # " and backslash
abbrev pub is_word_byte : ℕ → Bool
is_word_byte b = nat_le 33 b && nat_le b 126 && not (is_mark b || b == 35 || b == 34 || b == 92)

-- the key of a byte that is a token by itself; one that nothing accepts is bad
abbrev pub mark_key : ℕ → Key
mark_key b =
    if b == 123 then key.OpenBrace else if b == 125 then key.CloseBrace
    else if b == 40 then key.OpenParen else if b == 41 then key.CloseParen
    else if b == 60 then key.OpenAngle else if b == 62 then key.CloseAngle
    else if b == 44 then key.Comma else if b == 33 then key.Not else if b == 61 then key.Equals
    else key.Bad

-- the bytes that go on a run: a word, a comment up to its line feed, a quoted string up to its quote on the same line
abbrev pub goes_on : Run → ℕ → Bool
goes_on run.Word b = is_word_byte b
goes_on run.Comment b = not (b == 10)
goes_on run.Quote b = not (b == 10 || b == 34)

-- how many bytes in front belong to a run
unfoldable pub run_of : Run → List ℕ → ℕ
run_of r [] = 0
run_of r (b ∷ bs) = if goes_on r b then suc (run_of r bs) else 0

-- a byte is in front
abbrev pub in_front : ℕ → List ℕ → Bool
in_front b [] = false
in_front b (c ∷ cs) = c == b

-- the quoted string that begins in front of these bytes is closed on its line
abbrev pub is_closed : List ℕ → Bool
is_closed bs = in_front 34 (drop (run_of run.Quote bs) bs)

-- the token that begins with b: a word, a quoted string, or b alone
abbrev pub piece : ℕ → ℕ → List ℕ → Tok
piece line b bs =
    if is_word_byte b then (let w = b ∷ take (run_of run.Word bs) bs in token line (key_of_text w) w)
    else if b == 34 && is_closed bs then token line key.Quoted (take (run_of run.Quote bs) bs)
    else token line (mark_key b) (b ∷ [])

-- how many bytes after b belong to it
abbrev pub bytes_behind : ℕ → List ℕ → ℕ
bytes_behind b bs =
    if is_word_byte b then run_of run.Word bs
    else if b == 34 && is_closed bs then suc (run_of run.Quote bs)
    else 0

-- the tokens of the bytes after the first n, which are part of something already; busy: the line has tokens.
-- The end of the text ends a line that has tokens. A backslash directly before a line feed counts as a space. A comment
-- goes up to the line feed. A line feed ends the line.
unfoldable pub tokens : ℕ → Bool → ℕ → List ℕ → List Tok
tokens n busy line [] = if busy then token line key.LineEnd [] ∷ token line key.End [] ∷ [] else token line key.End [] ∷ []
tokens (suc n) busy line (b ∷ bs) = tokens n busy line bs
tokens zero busy line (b ∷ bs) =
    if is_space b then tokens 0 busy line bs
    else if b == 10 then token line key.LineEnd [] ∷ tokens 0 false (suc line) bs
    else if b == 35 then tokens (run_of run.Comment bs) busy line bs
    else if b == 92 && in_front 10 bs then tokens 1 busy (suc line) bs
    else piece line b bs ∷ tokens (bytes_behind b bs) true line bs

-- the tokens of a text, from line 1 on
abbrev pub tokens_of : List ℕ → List Tok
tokens_of text = tokens 0 false 1 text
