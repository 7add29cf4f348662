-- What a word says where a value is asked for, and the names of tables among such values. (own) (not promised)
use Rattle.std.specs.Prelude.{ℕ, List, Option, Some, None, if◌then◌else◌}
use Rattle.pfs_addr_values.specs.Names.{name_of}
use Rattle.pfs_conf_tokens.specs.declared.refusals.Why.{Why}
use Rattle.pfs_conf_tokens.specs.declared.refusals.Why.TheVariants as why
use Rattle.pfs_conf_tokens.specs.Tokens.{Tok}
use Rattle.pfs_conf_tokens.specs.Keys.{is_word_key}
use Rattle.pfs_conf_tokens.specs.Reading.{Act, Reader, done, on_front, refuse, take}

-- what a token says to those who ask for a word: a quoted string, a mark and an end say nothing
abbrev pub in_word : {A : Type 0} → (List ℕ → Option A) → Tok → Option A
in_word value t = if is_word_key t.key then value t.text else None

-- a word that says a value is taken; at another token, this was wanted
abbrev pub valued : {A : Type 0} → Why → Option A → Act A
valued w None = refuse w
valued w (Some x) = take (done x)

abbrev pub value_at : {A : Type 0} → Why → (Tok → Option A) → Reader A
value_at w value ts = on_front (λ t. valued w (value t)) ts

-- the name of a table, of 1 to 31 bytes
abbrev pub table_name : Tok → Option (List ℕ)
table_name t = in_word (name_of 31) t

unfoldable pub table_name_at : Reader (List ℕ)
table_name_at ts = value_at why.Plain table_name ts
