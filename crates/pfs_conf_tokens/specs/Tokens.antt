-- A token: its line, its key, and its bytes (of a quoted string those between the quotes; of an end none).
use Rattle.std.specs.Prelude.{ℕ, List, [], ◌∷◌}
use Rattle.pfs_conf_tokens.specs.declared.keys.Key.{Key}
use Rattle.pfs_conf_tokens.specs.declared.keys.Key.TheVariants as key

pub record Tok : Type 0 where
  pub line : ℕ
  pub key : Key
  pub text : List ℕ

abbrev pub token : ℕ → Key → List ℕ → Tok
token line k text = record { line = line; key = k; text = text }

-- the token in front; after all tokens, an end
abbrev pub head : List Tok → Tok
head [] = token 0 key.End []
head (t ∷ ts) = t
