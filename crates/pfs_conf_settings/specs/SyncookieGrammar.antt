-- The grammar of what follows `set syncookies`. (pf.conf(5), GRAMMAR and OPTIONS, "set syncookies")
use Rattle.std.specs.Prelude.{◌≡◌, ℕ, ◌≤◌, List, [], ◌∷◌, Some}
use Rattle.pfs_conf_tokens.specs.declared.keys.Key.TheVariants as key
use Rattle.pfs_conf_tokens.specs.Tokens.{Tok}
use Rattle.pfs_conf_tokens.specs.Numbers.{number_written, split_around}
use Rattle.pfs_conf_tokens.specs.Grammar.{Word}
use Rattle.pfs_conf_values.specs.declared.syncookies.Syncookies.{Syncookies}
use Rattle.pfs_conf_values.specs.declared.syncookies.Syncookies.TheVariants as cookies
use Rattle.pfs_conf_settings.specs.Drafts.{usual_shares}

-- P%: a number from 0 to 100 before the first `%` of a word, which ends it
pub record IsShareText (text : List ℕ) (n : ℕ) : Type 0 where
  pub digits : List ℕ
  pub percent : split_around 37 text ≡ Some (digits, [])
  pub number : number_written digits ≡ Some n
  pub bound : n ≤ 100

-- a share is one word
abbrev pub ShareOf : List Tok → ℕ → List Tok → Type 0
ShareOf ts n left = (t : Tok) × (ts ≡ t ∷ left) × (t.key ≡ key.Number) × IsShareText t.text n

-- a comma, or none
pub data CommaOf : List Tok → List Tok → Type 0 where
  none : {ts : List Tok} → CommaOf ts ts
  comma : {ts left : List Tok} → Word key.Comma ts left → CommaOf ts left

-- shares := "(" "start" SHARE [","] "end" SHARE ")"
pub record SharesOf (ts : List Tok) (start end : ℕ) (left : List Tok) : Type 0 where
  pub a : List Tok
  pub b : List Tok
  pub c : List Tok
  pub d : List Tok
  pub e : List Tok
  pub f : List Tok
  pub opens : Word key.OpenParen ts a
  pub start_word : Word key.Start a b
  pub start_share : ShareOf b start c
  pub between : CommaOf c d
  pub end_word : Word key.EndWord d e
  pub end_share : ShareOf e end f
  pub closes : Word key.CloseParen f left

-- "never" | "always" | "adaptive" [shares]
pub data SyncookiesOf : List Tok → Syncookies → List Tok → Type 0 where
  never : {ts left : List Tok} → Word key.Never ts left → SyncookiesOf ts cookies.Never left
  always : {ts left : List Tok} → Word key.Always ts left → SyncookiesOf ts cookies.Always left
  adaptive : {ts left : List Tok} → Word key.Adaptive ts left → SyncookiesOf ts usual_shares left
  shared : {ts mid left : List Tok} {start end : ℕ} → Word key.Adaptive ts mid → SharesOf mid start end left → SyncookiesOf ts (cookies.Adaptive start end) left
