-- The grammar's own forms: a phrase begins these tokens, has a value, and leaves the tokens after it. (own)
use Rattle.std.specs.Prelude.{◌≡◌, ℕ, ◌≤◌, Bool, true, List, [], ◌∷◌, Option, Some, None, if◌then◌else◌}
use Rattle.pfs_conf_tokens.specs.declared.keys.Key.{Key}
use Rattle.pfs_conf_tokens.specs.declared.keys.Key.TheVariants as key
use Rattle.pfs_conf_tokens.specs.Tokens.{Tok, head}
use Rattle.pfs_conf_tokens.specs.Numbers.{number_written}
use Rattle.pfs_conf_tokens.specs.Keys.{is_word_key, ends_line}

-- one token of a key
abbrev pub Word : Key → List Tok → List Tok → Type 0
Word k ts left = (t : Tok) × (ts ≡ t ∷ left) × (t.key ≡ k)

-- a number within bounds
abbrev pub Number : ℕ → ℕ → List Tok → ℕ → List Tok → Type 0
Number low high ts n left = (t : Tok) × (ts ≡ t ∷ left) × (t.key ≡ key.Number) × (number_written t.text ≡ Some n) × (low ≤ n) × (n ≤ high)

-- a word that says a value
abbrev pub WordOf : {A : Type 0} → (List ℕ → Option A) → List Tok → A → List Tok → Type 0
WordOf value ts x left = (t : Tok) × (ts ≡ t ∷ left) × (is_word_key t.key ≡ true) × (value t.text ≡ Some x)

-- a phrase that may be absent
pub data Perhaps {A : Type 0} (P : List Tok → A → List Tok → Type 0) : List Tok → Option A → List Tok → Type 0 where
  absent : {ts : List Tok} → Perhaps P ts None ts
  present : {ts left : List Tok} {x : A} → P ts x left → Perhaps P ts (Some x) left

-- steps up to a token that closes them
pub data Until {A : Type 0} (closer : Key) (Step : A → List Tok → A → List Tok → Type 0) : A → List Tok → A → List Tok → Type 0 where
  ends : {a : A} {ts left : List Tok} → Word closer ts left → Until closer Step a ts a left
  goes : {a b c : A} {ts mid left : List Tok} → Step a ts b mid → Until closer Step b mid c left → Until closer Step a ts c left

-- steps up to a token that stays, as the end of the text
pub data UpTo {A : Type 0} (closer : Key) (Step : A → List Tok → A → List Tok → Type 0) : A → List Tok → A → List Tok → Type 0 where
  stands : {a : A} {ts : List Tok} → (head ts).key ≡ closer → UpTo closer Step a ts a ts
  steps : {a b c : A} {ts mid left : List Tok} → Step a ts b mid → UpTo closer Step b mid c left → UpTo closer Step a ts c left

-- a further item of a list: a comma may come before it
pub data NextOf {A : Type 0} (Item : A → List Tok → A → List Tok → Type 0) : A → List Tok → A → List Tok → Type 0 where
  plain : {a b : A} {ts left : List Tok} → Item a ts b left → NextOf Item a ts b left
  comma : {a b : A} {ts mid left : List Tok} → Word key.Comma ts mid → Item a mid b left → NextOf Item a ts b left

-- one item or more, with an optional comma between two, up to what closes the list
pub record ListOf {A : Type 0} (closer : Key) (Item : A → List Tok → A → List Tok → Type 0) (a : A) (ts : List Tok) (c : A) (left : List Tok) : Type 0 where
  pub first : A
  pub mid : List Tok
  pub begins : Item a ts first mid
  pub others : Until closer (NextOf Item) first mid c left

-- from these tokens on, up to where these are left, each key passes
pub data Passes (p : Key → Bool) : List Tok → List Tok → Type 0 where
  stays : {ts : List Tok} → Passes p ts ts
  over : {t : Tok} {ts left : List Tok} → p t.key ≡ true → Passes p ts left → Passes p (t ∷ ts) left

-- the tokens after the line ends in front
unfoldable pub skip_lines : List Tok → List Tok
skip_lines [] = []
skip_lines (t ∷ ts) = if ends_line t.key then skip_lines ts else t ∷ ts
