-- Reading from left to right: the parts from which the definition of each reader is built. (own) (not promised)
--
-- A reader takes the tokens that are left and gives a value with the tokens after it, or says why not. The definition
-- of each reader of the code is `unfoldable` and is made of these parts alone. So what holds of all of them, that
-- reading looks no further than the token in front of what it leaves, holds of it (proofs/Laws.antt).
--
--     done x                     reads nothing and gives x
--     chain f g                  reads f, then g of what f gave
--     on_front (λ t. by t.key)   goes by the token in front: `take f` reads f after it, `stay f` reads f at it, `refuse w` stops
--     perhaps starts f           reads f if the key in front starts it, and gives Some of its value, else None
--     once o a                   does a if o is None; what is there already is refused with `Again`
--     until_all stops step x     steps from x on, up to a token that stops them, which is taken too
--     up_to_all stops step x     the same, and that token stays: for the end of the text, which is never taken
--     list_all stops item x      one item or more, with at most a comma between two, up to a token that stops them, which is taken
--     ended x                    the end of the line
--     skipping f                 reads f after any line ends
--     judged rule broken line x  gives x unless the load rule is broken; else the rule and the line
use Rattle.std.specs.Prelude.{ℕ, zero, suc, Bool, true, false, List, length, Option, Some, None, Result, Ok, Err, nat_le, ◌&&◌, if◌then◌else◌, [], ◌∷◌}
use Rattle.pfs_conf_tokens.specs.declared.keys.Key.{Key}
use Rattle.pfs_conf_tokens.specs.declared.keys.Key.TheVariants as key
use Rattle.pfs_conf_tokens.specs.declared.refusals.Why.{Why}
use Rattle.pfs_conf_tokens.specs.declared.refusals.Why.TheVariants as why
use Rattle.pfs_conf_tokens.specs.declared.refusals.LoadRule.{LoadRule}
use Rattle.pfs_conf_tokens.specs.Tokens.{Tok, head}
use Rattle.pfs_conf_tokens.specs.Numbers.{number_written}
use Rattle.pfs_conf_tokens.specs.Grammar.{skip_lines}

-- why nothing is read: no accepted statement continues with the first of these tokens, or a load rule is broken, by the
-- line of its statement
pub data Refused : Type 0 where
  stop : List Tok → Why → Refused
  broken : LoadRule → ℕ → Refused

-- the tokens after the one in front
abbrev pub rest : List Tok → List Tok
rest [] = []
rest (t ∷ ts) = ts

-- what ends a text, and what is in braces and in parentheses
abbrev pub ends_text : Key → Bool
ends_text key.End = true
ends_text _ = false

abbrev pub closes_braces : Key → Bool
closes_braces key.CloseBrace = true
closes_braces _ = false

abbrev pub closes_parens : Key → Bool
closes_parens key.CloseParen = true
closes_parens _ = false

-- what reads a value from the tokens that are left
abbrev pub Reader : Type 0 → Type 0
Reader A = List Tok → Result (A × List Tok) Refused

infixl 10 ◌>>=◌
abbrev pub ◌>>=◌ : {A B : Type 0} → Result A Refused → (A → Result B Refused) → Result B Refused
(Ok x) >>= f = f x
(Err e) >>= f = Err e

-- what the token in front leads to: it is taken and reading goes on after it, or reading goes on at it, or it is refused
pub data Act (A : Type 0) : Type 0 where
  take : (List Tok → Result (A × List Tok) Refused) → Act A
  stay : (List Tok → Result (A × List Tok) Refused) → Act A
  refuse : Why → Act A

abbrev pub act : {A : Type 0} → Act A → Reader A
act (take f) ts = f (rest ts)
act (stay f) ts = f ts
act (refuse w) ts = Err (stop ts w)

abbrev pub on_front : {A : Type 0} → (Tok → Act A) → Reader A
on_front d ts = act (d (head ts)) ts

abbrev pub done : {A : Type 0} → A → Reader A
done x ts = Ok (x, ts)

-- one reader after another
abbrev pub chain : {A B : Type 0} → Reader A → (A → Reader B) → Reader B
chain f g ts = f ts >>= λ x. g x.0 x.1

-- a phrase that may be absent, by the keys that begin it
abbrev pub perhaps : {A : Type 0} → (Key → Bool) → Reader A → Reader (Option A)
perhaps starts f ts = on_front (λ t. if starts t.key then stay (chain f (λ x. done (Some x))) else stay (done None)) ts

-- what is given once
abbrev pub once : {A B : Type 0} → Option A → Act B → Act B
once None a = a
once (Some x) a = refuse why.Again

-- steps up to a token that stops them, and there the last act; fuel is above the number of tokens
unfoldable pub turns : {A : Type 0} → (Key → Bool) → (A → Act A) → (A → Reader A) → ℕ → A → Reader A
turns stops last step zero a ts = Err (stop ts why.Plain)
turns stops last step (suc n) a ts = on_front (λ t. if stops t.key then last a else stay (chain (step a) (turns stops last step n))) ts

abbrev pub taken : {A : Type 0} → A → Act A
taken a = take (done a)

abbrev pub left_there : {A : Type 0} → A → Act A
left_there a = stay (done a)

-- steps up to a token that stops them, which is taken; with as many turns as tokens
abbrev pub until_all : {A : Type 0} → (Key → Bool) → (A → Reader A) → A → Reader A
until_all stops step a ts = turns stops taken step (suc (length ts)) a ts

-- steps up to a token that stops them, which stays
abbrev pub up_to_all : {A : Type 0} → (Key → Bool) → (A → Reader A) → A → Reader A
up_to_all stops step a ts = turns stops left_there step (suc (length ts)) a ts

-- an optional comma
abbrev pub comma_by : Key → Act Bool
comma_by key.Comma = take (done true)
comma_by _ = stay (done false)

abbrev pub comma_at : Reader Bool
comma_at ts = on_front (λ t. comma_by t.key) ts

-- a further item of a list
abbrev pub next_of : {A : Type 0} → (A → Reader A) → A → Reader A
next_of item a ts = chain comma_at (λ c. item a) ts

-- one item or more, an optional comma between two and none after the last, up to what closes the list
abbrev pub list_all : {A : Type 0} → (Key → Bool) → (A → Reader A) → A → Reader A
list_all stops item a ts = chain (item a) (until_all stops (next_of item)) ts

-- the end of the line, with what it ends
abbrev pub ended_by : {A : Type 0} → A → Key → Act A
ended_by x key.LineEnd = take (done x)
ended_by x _ = refuse why.Plain

abbrev pub ended : {A : Type 0} → A → Reader A
ended x ts = on_front (λ t. ended_by x t.key) ts

abbrev pub skipping : {A : Type 0} → Reader A → Reader A
skipping f ts = f (skip_lines ts)

-- a load rule of what was read
abbrev pub load_rule_reader : {A : Type 0} → LoadRule → Bool → ℕ → A → Reader A
load_rule_reader rule true line x ts = Err (broken rule line)
load_rule_reader rule false line x ts = Ok (x, ts)

-- a number within bounds
abbrev pub number_between : ℕ → ℕ → Option ℕ → Act ℕ
number_between low high None = refuse why.Number
number_between low high (Some n) = if nat_le low n && nat_le n high then take (done n) else refuse why.Number

abbrev pub number_by : ℕ → ℕ → List ℕ → Key → Act ℕ
number_by low high text key.Number = number_between low high (number_written text)
number_by low high text _ = refuse why.Number

unfoldable pub number_at : ℕ → ℕ → Reader ℕ
number_at low high ts = on_front (λ t. number_by low high t.text t.key) ts
