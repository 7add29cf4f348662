-- Answer of Cursor::take: where it says yes, the token in front had this key and is gone over.
use denote.Enum.Bare.{same_true}
use Rattle.std.proofs.Common.{rules, sym, ◌∙◌}
use Rattle.pfs_conf_tokens.specs.contracts.keys.Key.{the_type}
use Rattle.pfs_conf_tokens.proofs.cursors.Cursor.take.Goals as goal

pub returns-then-eq : goal.returns-then-eq
returns-then-eq c = (sym c.key.ensures ∙ same_true the_type (search rules) c.key.result c.args.key (sym c.eq.ensures ∙ c.if-eq.true), c.advance.ensures)
