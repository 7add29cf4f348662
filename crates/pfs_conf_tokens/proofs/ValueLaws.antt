-- The readers of words that say a value look no further than the token in front of what they leave.
use Rattle.std.proofs.Common.{◌≡◌, ℕ, Bool, true, false, cond, List, Option, Some, None, refl}
use Rattle.pfs_conf_tokens.specs.Tokens.{Tok}
use Rattle.pfs_conf_tokens.specs.Keys.{in_line, is_word_key}
use Rattle.pfs_conf_tokens.specs.declared.keys.Key.{Key}
use Rattle.pfs_conf_tokens.specs.declared.refusals.Why.{Why}
use Rattle.pfs_conf_tokens.specs.declared.refusals.Why.TheVariants as why
use Rattle.pfs_conf_tokens.specs.Values.{in_word, valued, value_at, table_name, table_name_at}
use Rattle.pfs_conf_tokens.proofs.Laws.{Online, Taking, Shrinks, inside, online_done, online_taking, front_shrinks}
use Rattle.pfs_conf_tokens.proofs.ReaderLaws.{word_in_line}

-- a test that lets a value through holds
pub passed : {A : Type 0} (b : Bool) (o : Option A) (x : A) → cond b o None ≡ Some x → b ≡ true
passed true o x e = refl
passed false o x e = absurd cc

pub in_word_in_line : {A : Type 0} (value : List ℕ → Option A) (t : Tok) (x : A) → in_word value t ≡ Some x → in_line t.key ≡ true
in_word_in_line value t x e = word_in_line t.key (passed (is_word_key t.key) (value t.text) x e)

valued_taking : {A : Type 0} (w : Why) (k : Key) (o : Option A) → ((x : A) → o ≡ Some x → in_line k ≡ true) → Taking inside k (valued w o)
valued_taking w k None h = tt
valued_taking w k (Some x) h = (h x refl, online_done x)

pub online_value : {A : Type 0} (w : Why) (value : Tok → Option A) → ((t : Tok) (x : A) → value t ≡ Some x → in_line t.key ≡ true) → Online inside (value_at w value)
online_value w value h = online_taking (λ t. valued w (value t)) (λ t. valued_taking w t.key (value t) (h t))

pub value_shrinks : {A : Type 0} (w : Why) (value : Tok → Option A) → ((t : Tok) (x : A) → value t ≡ Some x → in_line t.key ≡ true) → Shrinks (value_at w value)
value_shrinks w value h = front_shrinks inside (λ t. valued w (value t)) (λ t. valued_taking w t.key (value t) (h t))

pub online_table_name : Online inside table_name_at
unfolding table_name_at
online_table_name = online_value why.Plain table_name (in_word_in_line _)
