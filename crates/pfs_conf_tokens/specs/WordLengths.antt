-- The words of a length, among which a word is looked up. (not promised)
use Rattle.std.specs.Prelude.{ℕ, List, ◌++◌, ◌==◌, filter, length}
use Rattle.pfs_conf_tokens.specs.Words.{foreign_words, named_words, option_words, statement_words}
use Rattle.pfs_conf_tokens.specs.declared.keys.Key.{Key}

-- all words
abbrev pub all_words : List (List ℕ × Key)
all_words = statement_words ++ option_words ++ named_words ++ foreign_words

-- those of a length
abbrev pub words_of_length : ℕ → List (List ℕ × Key)
words_of_length n = filter (λ (e : List ℕ × Key). length e.0 == n) all_words
