-- Answers of key_of: a word that begins with no digit has the key that is found among the words of its length.
use Rattle.std.proofs.Common.{sym, ◌∙◌, rules}
use Rattle.pfs_conf_tokens.specs.Words.{key_of_text}
use Rattle.pfs_conf_tokens.proofs.WordLaws.{key-told}
use Rattle.pfs_conf_tokens.proofs.words.key_of.Goals as goal

pub returns-then-starts_with_digit : goal.returns-then-starts_with_digit
unfolding key_of_text
returns-then-starts_with_digit c = search rules

pub returns-in-Some : goal.returns-in-Some
returns-in-Some c = key-told c.args.word.now _ _ (sym c.starts_with_digit.ensures ∙ c.if-starts_with_digit.false) c.words_of_length.ensures (sym c.in-Some.is ∙ c.find_word.ensures)

pub returns-in-None : goal.returns-in-None
returns-in-None c = key-told c.args.word.now _ _ (sym c.starts_with_digit.ensures ∙ c.if-starts_with_digit.false) c.words_of_length.ensures (sym c.in-None.is ∙ c.find_word.ensures)
