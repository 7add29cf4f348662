-- Which tokens are those of a statement that is begun: worked examples.
use Rattle.std.proofs.Common.{List, [], ◌∷◌, refl}
use Rattle.pfs_conf_tokens.specs.Tokens.{Tok, token}
use Rattle.pfs_conf_tokens.specs.Grammar.{stays, over as past}
use Rattle.pfs_conf_tokens.specs.declared.keys.Key.TheVariants as key
use Rattle.pfs_conf_tokens.specs.declared.keys.Key.{Key}
use Rattle.pfs_conf.specs.Places.{IsBegun, in_a_line, with_braces, so_far, over}

abbrev of_key : Key → Tok
of_key k = token 1 k []

-- `pass foo`, up to `foo`
of_a_rule : (left : List Tok) → IsBegun (of_key key.Pass ∷ of_key key.Name ∷ left) (of_key key.Name ∷ left)
of_a_rule left = in_a_line (past refl stays)

-- `table <a> {`, a line end and an entry, up to the entry: a line end in the braces of a table ends no line
of_a_table : (left : List Tok) → IsBegun (of_key key.Table ∷ of_key key.OpenAngle ∷ of_key key.Name ∷ of_key key.CloseAngle ∷ of_key key.OpenBrace ∷ of_key key.LineEnd ∷ of_key key.Number ∷ left) (of_key key.Number ∷ left)
of_a_table left = with_braces refl (over refl (over refl (over refl (over refl (over refl so_far)))))

-- `pass` and a line end, up to what follows: the statement is ended
not_behind_a_rule : IsBegun (of_key key.Pass ∷ of_key key.LineEnd ∷ of_key key.Name ∷ []) (of_key key.Name ∷ []) → ⊥
not_behind_a_rule (in_a_line (past e (past f p))) = cc
not_behind_a_rule (with_braces e p) = cc

-- `anchor {` and a line end, up to what follows: the braces of an anchor are none of those
not_behind_a_head : IsBegun (of_key key.Anchor ∷ of_key key.OpenBrace ∷ of_key key.LineEnd ∷ of_key key.Pass ∷ []) (of_key key.Pass ∷ []) → ⊥
not_behind_a_head (in_a_line (past e (past f (past g p)))) = cc
not_behind_a_head (with_braces e p) = cc

-- `table <a> { }` and a line end, up to what follows
not_behind_a_table : IsBegun (of_key key.Table ∷ of_key key.OpenBrace ∷ of_key key.CloseBrace ∷ of_key key.LineEnd ∷ of_key key.Pass ∷ []) (of_key key.Pass ∷ []) → ⊥
not_behind_a_table (in_a_line (past e (past f (past g (past h p))))) = cc
not_behind_a_table (with_braces e (over f (over g (over h p)))) = cc
