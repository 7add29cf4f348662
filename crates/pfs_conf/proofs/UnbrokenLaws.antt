-- Readers that check no load rule: what they refuse, they refuse at a token.
use Rattle.std.proofs.Common.{◌≡◌, ℕ, zero, suc, ◌&&◌, Bool, true, false, cond, leb, List, length, Option, Some, None, Result, Err, inl, inr}
use Rattle.pfs_conf_tokens.specs.Tokens.{Tok, head}
use Rattle.pfs_conf_tokens.specs.Reading.{rest, Refused, broken, Reader, Act, take, stay, refuse, act, on_front, done, chain, perhaps, once, turns, taken, left_there, until_all, up_to_all, comma_by, comma_at, next_of, list_all, ended_by, ended, skipping, number_between, number_by, number_at}
use Rattle.pfs_conf_tokens.specs.declared.keys.Key.{Key}
use Rattle.pfs_conf_tokens.specs.declared.keys.Key.TheVariants as key
use Rattle.pfs_conf_tokens.specs.declared.refusals.LoadRule.{LoadRule}
use Rattle.pfs_conf_tokens.specs.declared.refusals.Why.{Why}
use Rattle.pfs_conf_tokens.specs.declared.refusals.Why.TheVariants as why
use Rattle.pfs_conf_tokens.specs.Numbers.{number_written}
use Rattle.pfs_conf_tokens.specs.Grammar.{skip_lines}
use Rattle.pfs_conf_tokens.proofs.Laws.{bind_err}

pub record Unbroken {A : Type 0} (f : List Tok → Result (A × List Tok) Refused) : Type 0 where
  pub never : (ts : List Tok) (rule : LoadRule) (n : ℕ) → f ts ≡ Err (broken rule n) → ⊥

pub unbroken_done : {A : Type 0} (x : A) → Unbroken (done x)
unbroken_done x = record { never = λ ts rule n e. cc }

pub unbroken_chain : {A B : Type 0} (f : Reader A) (g : A → Reader B) → Unbroken f → ((a : A) → Unbroken (g a)) → Unbroken (chain f g)
unbroken_chain f g hf hg = record {
  never = λ ts rule n e. elim (bind_err (f ts) (λ p. g p.0 p.1) (broken rule n) e) [
    | inl h ↦ hf.never ts rule n h
    | inr b ↦ (hg b.0.0).never b.0.1 rule n b.2
  ];
}

abbrev pub UnbrokenAct : {A : Type 0} → Act A → Type 0
UnbrokenAct (take f) = Unbroken f
UnbrokenAct (stay f) = Unbroken f
UnbrokenAct (refuse w) = Unit {0}

-- where a token is refused no load rule is reported. (In a case for all other keys this replaces a search for each.)
pub refused_unbroken : {A : Type 0} (w : Why) (ts : List Tok) (rule : LoadRule) (n : ℕ) → act {A = A} (refuse w) ts ≡ Err (broken rule n) → ⊥
refused_unbroken w ts rule n e = cc

unbroken_act : {A : Type 0} (b : Act A) → UnbrokenAct b → (ts : List Tok) (rule : LoadRule) (n : ℕ) → act b ts ≡ Err (broken rule n) → ⊥
unbroken_act (take f) h ts rule n e = h.never (rest ts) rule n e
unbroken_act (stay f) h ts rule n e = h.never ts rule n e
unbroken_act (refuse w) h ts rule n e = refused_unbroken w ts rule n e

pub unbroken_front : {A : Type 0} (d : Tok → Act A) → ((t : Tok) → UnbrokenAct (d t)) → Unbroken (on_front d)
unbroken_front d h = record { never = λ ts rule n e. unbroken_act (d (head ts)) (h (head ts)) ts rule n e }

pub unbroken_if : {A : Type 0} (b : Bool) (x y : Act A) → UnbrokenAct x → UnbrokenAct y → UnbrokenAct (cond b x y)
unbroken_if true x y p q = p
unbroken_if false x y p q = q

pub unbroken_once : {A B : Type 0} (o : Option A) (b : Act B) → UnbrokenAct b → UnbrokenAct (once o b)
unbroken_once None b h = h
unbroken_once (Some x) b h = tt

pub unbroken_perhaps : {A : Type 0} (starts : Key → Bool) (f : Reader A) → Unbroken f → Unbroken (perhaps starts f)
unbroken_perhaps starts f h = unbroken_front (λ t. cond (starts t.key) (stay (chain f (λ x. done (Some x)))) (stay (done None)))
    (λ t. unbroken_if (starts t.key) (stay (chain f (λ x. done (Some x)))) (stay (done None)) (unbroken_chain f (λ x. done (Some x)) h (λ x. unbroken_done (Some x))) (unbroken_done None))

unbroken_turns : {A : Type 0} (stops : Key → Bool) (last : A → Act A) (step : A → Reader A) → ((a : A) → UnbrokenAct (last a)) → ((a : A) → Unbroken (step a)) → (n : ℕ) (a : A) → Unbroken (turns stops last step n a)
unfolding turns
unbroken_turns stops last step l h zero a = record { never = λ ts rule n e. cc }
unbroken_turns stops last step l h (suc n) a = unbroken_front (λ t. cond (stops t.key) (last a) (stay (chain (step a) (turns stops last step n))))
    (λ t. unbroken_if (stops t.key) (last a) (stay (chain (step a) (turns stops last step n))) (l a) (unbroken_chain (step a) (turns stops last step n) (h a) (λ b. unbroken_turns stops last step l h n b)))

pub unbroken_until : {A : Type 0} (stops : Key → Bool) (step : A → Reader A) → ((a : A) → Unbroken (step a)) → (a : A) → Unbroken (until_all stops step a)
unbroken_until stops step h a = record { never = λ ts rule n e. (unbroken_turns stops taken step (λ b. unbroken_done b) h (suc (length ts)) a).never ts rule n e }

pub unbroken_up_to : {A : Type 0} (stops : Key → Bool) (step : A → Reader A) → ((a : A) → Unbroken (step a)) → (a : A) → Unbroken (up_to_all stops step a)
unbroken_up_to stops step h a = record { never = λ ts rule n e. (unbroken_turns stops left_there step (λ b. unbroken_done b) h (suc (length ts)) a).never ts rule n e }

comma_acts : (k : Key) → UnbrokenAct (comma_by k)
comma_acts key.Comma = unbroken_done true
comma_acts _ = unbroken_done false

pub unbroken_comma : Unbroken comma_at
unbroken_comma = unbroken_front (λ t. comma_by t.key) (λ t. comma_acts t.key)

unbroken_next : {A : Type 0} (item : A → Reader A) → ((a : A) → Unbroken (item a)) → (a : A) → Unbroken (next_of item a)
unbroken_next item h a = unbroken_chain comma_at (λ c. item a) unbroken_comma (λ c. h a)

pub unbroken_list : {A : Type 0} (stops : Key → Bool) (item : A → Reader A) → ((a : A) → Unbroken (item a)) → (a : A) → Unbroken (list_all stops item a)
unbroken_list stops item h a = unbroken_chain (item a) (until_all stops (next_of item)) (h a) (λ b. unbroken_until stops (next_of item) (unbroken_next item h) b)

pub unbroken_skipping : {A : Type 0} (f : Reader A) → Unbroken f → Unbroken (skipping f)
unbroken_skipping f h = record { never = λ ts rule n e. h.never (skip_lines ts) rule n e }

ended_acts : {A : Type 0} (x : A) (k : Key) → UnbrokenAct (ended_by x k)
ended_acts x key.LineEnd = unbroken_done x
ended_acts x _ = tt

pub unbroken_ended : {A : Type 0} (x : A) → Unbroken (ended x)
unbroken_ended x = unbroken_front (λ t. ended_by x t.key) (λ t. ended_acts x t.key)

number_in_acts : (low high : ℕ) (o : Option ℕ) → UnbrokenAct (number_between low high o)
number_in_acts low high None = tt
number_in_acts low high (Some n) = unbroken_if (leb low n && leb n high) (take (done n)) (refuse why.Number) (unbroken_done n) tt

number_acts : (low high : ℕ) (text : List ℕ) (k : Key) → UnbrokenAct (number_by low high text k)
number_acts low high text key.Number = number_in_acts low high (number_written text)
number_acts low high text _ = tt

pub unbroken_number : (low high : ℕ) → Unbroken (number_at low high)
unfolding number_at
unbroken_number low high = unbroken_front (λ t. number_by low high t.text t.key) (λ t. number_acts low high t.text t.key)
