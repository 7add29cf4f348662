-- Answer of piece: a run of word bytes is the word that the definition takes (`token`).
use Rattle.std.proofs.Common.{sym, ◌∙◌}
use Rattle.pfs_conf_tokens.proofs.LexisLaws.{word_piece}
use Rattle.pfs_conf_tokens.proofs.lexer.piece.Goals as goal

pub returns-then-is_word_byte-clause-token : goal.returns-then-is_word_byte-clause-token
returns-then-is_word_byte-clause-token c = c.new.ensures ∙ word_piece c.args.line c.args.b c.args.behind.now c.args.text.now c.split_at.result.0.now c.key_of.result c.run_of-n.result c.requires (sym c.is_word_byte.ensures ∙ c.if-is_word_byte.true) c.run_of-n.ensures.value c.split_at.ensures.front c.key_of.ensures
