-- How what follows `set syncookies` is read; made of the parts of pfs_conf_tokens' specs/Reading.antt alone. (not promised)
use Rattle.std.specs.Prelude.{ℕ, ◌≤◌, nat_le, List, [], ◌∷◌, Option, Some, None, if◌then◌else◌}
use Rattle.pfs_conf_tokens.specs.declared.keys.Key.{Key}
use Rattle.pfs_conf_tokens.specs.declared.keys.Key.TheVariants as key
use Rattle.pfs_conf_tokens.specs.declared.refusals.Why.TheVariants as why
use Rattle.pfs_conf_tokens.specs.Reading.{Reader, Act, take, stay, refuse, on_front, done, chain, comma_at}
use Rattle.pfs_conf_tokens.specs.Numbers.{number_written, split_around}
use Rattle.pfs_conf_values.specs.declared.syncookies.Syncookies.{Syncookies}
use Rattle.pfs_conf_values.specs.declared.syncookies.Syncookies.TheVariants as cookies
use Rattle.pfs_conf_settings.specs.Drafts.{usual_shares}

-- the start of `adaptive` is a share
abbrev pub start_within : Syncookies → Type 0
start_within cookies.Never = Unit {0}
start_within cookies.Always = Unit {0}
start_within (cookies.Adaptive start end) = start ≤ 100

-- ---- a share

abbrev pub share_in : Option ℕ → Option ℕ
share_in None = None
share_in (Some n) = if nat_le n 100 then Some n else None

-- 0 to 100
abbrev pub share_written : List ℕ → Option ℕ
share_written text = share_in (number_written text)

-- nothing stands behind the `%`
abbrev pub share_before : List ℕ → List ℕ → Option ℕ
share_before digits [] = share_written digits
share_before digits (b ∷ bs) = None

abbrev pub share_parts : Option (List ℕ × List ℕ) → Option ℕ
share_parts None = None
share_parts (Some parts) = share_before parts.0 parts.1

unfoldable pub share_of : List ℕ → Option ℕ
share_of text = share_parts (split_around 37 text)

abbrev pub share_found : Option ℕ → Act ℕ
share_found None = refuse why.Number
share_found (Some n) = take (done n)

abbrev pub share_by : List ℕ → Key → Act ℕ
share_by text key.Number = share_found (share_of text)
share_by text _ = refuse why.Number

unfoldable pub share_at : Reader ℕ
share_at ts = on_front (λ t. share_by t.text t.key) ts

-- ---- both shares

abbrev pub shares_closed_by : Syncookies → Key → Act Syncookies
shares_closed_by s key.CloseParen = take (done s)
shares_closed_by s _ = refuse why.Plain

abbrev pub shares_closed_at : Syncookies → Reader Syncookies
shares_closed_at s ts = on_front (λ t. shares_closed_by s t.key) ts

abbrev pub end_share_by : ℕ → Key → Act Syncookies
end_share_by start key.EndWord = take (chain share_at (λ end. shares_closed_at (cookies.Adaptive start end)))
end_share_by start _ = refuse why.Plain

unfoldable pub end_share_at : ℕ → Reader Syncookies
end_share_at start ts = on_front (λ t. end_share_by start t.key) ts

abbrev pub start_share_by : Key → Act Syncookies
start_share_by key.Start = take (chain share_at (λ start. chain comma_at (λ c. end_share_at start)))
start_share_by _ = refuse why.Plain

unfoldable pub start_share_at : Reader Syncookies
start_share_at ts = on_front (λ t. start_share_by t.key) ts

abbrev pub shares_by : Key → Act Syncookies
shares_by key.OpenParen = take start_share_at
shares_by _ = stay (done usual_shares)

unfoldable pub shares_at : Reader Syncookies
shares_at ts = on_front (λ t. shares_by t.key) ts

-- ---- what follows `set syncookies`

abbrev pub syncookies_by : Key → Act Syncookies
syncookies_by key.Never = take (done cookies.Never)
syncookies_by key.Always = take (done cookies.Always)
syncookies_by key.Adaptive = take shares_at
syncookies_by _ = refuse why.Plain

unfoldable pub syncookies_at : Reader Syncookies
syncookies_at ts = on_front (λ t. syncookies_by t.key) ts
