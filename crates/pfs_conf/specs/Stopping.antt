-- The kind of the fault at the token at which reading stops, by what was wanted there. (own) (not promised)
use Rattle.std.specs.Prelude.{ℕ, Bool, true, false, ◌&&◌, ◌||◌, nat_le, if◌then◌else◌, List, [], ◌∷◌}
use Rattle.pfs_conf_tokens.specs.Tokens.{Tok, head}
use Rattle.pfs_conf_tokens.specs.Reading.{rest}
use Rattle.pfs_conf_tokens.specs.Keys.{is_word_key, ends_line}
use Rattle.pfs_conf_tokens.specs.declared.keys.Key.{Key}
use Rattle.pfs_conf_tokens.specs.declared.keys.Key.TheVariants as key
use Rattle.pfs_conf_tokens.specs.declared.refusals.Why.{Why}
use Rattle.pfs_conf_tokens.specs.declared.refusals.Why.TheVariants as why
use Rattle.pfs_conf_tokens.specs.declared.refusals.ReadError.{ReadError}
use Rattle.pfs_conf_tokens.specs.declared.refusals.ReadError.TheVariants as error
use Rattle.pfs_conf_tokens.specs.declared.refusals.Refusal.TheVariants as refusal
use Rattle.pfs_conf.specs.declared.kinds.Kind.{Kind}
use Rattle.pfs_conf.specs.declared.kinds.Kind.TheVariants as kind
use Rattle.pfs_conf.specs.declared.faults.LoadFault.{LoadFault}
use Rattle.pfs_conf.specs.Kinds.{kind_of_rule, is_number_key, has_byte, is_foreign, fault, no_memory}

-- what was there already is wanted no more
abbrev pub is_again : Why → Bool
is_again why.Again = true
is_again _ = false

-- a number, a rate, a port or a protocol is wanted
abbrev pub wants_number : Why → Bool
wants_number why.Number = true
wants_number why.Service = true
wants_number _ = false

abbrev pub is_equals : Key → Bool
is_equals key.Equals = true
is_equals _ = false

abbrev pub is_letter : ℕ → Bool
is_letter b = (nat_le 65 b && nat_le b 90) || (nat_le 97 b && nat_le b 122)

abbrev pub begins_with_letter : List ℕ → Bool
begins_with_letter [] = false
begins_with_letter (b ∷ bs) = is_letter b

-- a word that begins with a letter or has a `:`, as a host's name, a service and an IPv6 address with a zone
abbrev pub is_named_value : Tok → Bool
is_named_value t = is_word_key t.key && (begins_with_letter t.text || has_byte 58 t.text)

-- tokens that are reported as `Unsupported` because of what was wanted there: the word after `set`; `set` and `table`
-- in an anchor's body; a name where a host, a port or a protocol is wanted; the first token of a statement whose second
-- is `=`, as a macro's definition; the line end of an anchor before its `{`, as a call of an anchor that is loaded from
-- elsewhere; a path where an anchor's name is wanted
abbrev pub is_left_out : Why → Tok → Key → Bool
is_left_out why.Setting t next = is_word_key t.key
is_left_out why.Inner t next = true
is_left_out why.Service t next = is_named_value t
is_left_out why.Host t next = is_named_value t
is_left_out why.Statement t next = is_equals next
is_left_out why.AnchorHead t next = ends_line t.key
is_left_out why.AnchorName t next = has_byte 47 t.text || has_byte 42 t.text
is_left_out _ t next = false

-- the kind of a fault at a token, by the key of the next one: the first of Duplicate, Number, Unsupported and Syntax that applies
abbrev pub kind_at : Why → Tok → Key → Kind
kind_at w t next =
    if is_again w then kind.Duplicate
    else if wants_number w && is_number_key t.key then kind.Number
    else if is_foreign t || is_left_out w t next then kind.Unsupported
    else kind.Syntax

-- where reading stops at the first of these tokens
abbrev pub kind_of : Why → List Tok → Kind
kind_of w ts = kind_at w (head ts) (head (rest ts)).key

-- the fault of a refusal, where reading stopped at these tokens
abbrev pub fault_told : ReadError → List Tok → LoadFault
fault_told error.Memory ts = no_memory
fault_told (error.Refused (refusal.Broken rule line)) ts = fault line (kind_of_rule rule)
fault_told (error.Refused (refusal.Stop w)) ts = fault (head ts).line (kind_of w ts)
