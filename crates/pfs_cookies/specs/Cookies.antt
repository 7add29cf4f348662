-- The SYN cookies that are out: which keys have one, and under which secret. (pf.conf(5), OPTIONS, "set syncookies"; that a
-- key has one cookie: own)
use Rattle.std.specs.Prelude.{◌≡◌, ℕ, ◌+◌, Bool, true, false, ◌||◌, List, refl}
use Rattle.std.specs.Coded.{Coded, code_by, coded×}
use Rattle.std.specs.FinSet as set
use Rattle.pfs_addr_values.specs.declared.packets.FlowKey.{FlowKey}
use Rattle.pfs_cookies.specs.KeyOrders.{key_cmp, key_code}

-- a finite set of keys
abbrev pub Keys : Type 0
Keys = set.FinSet key_cmp

-- the keys that have a cookie out: under the secret in use, and under the one before
pub record CookiesOut : Type 0 where
  pub fresh : Keys
  pub former : Keys

-- none is out
abbrev pub no_cookies : CookiesOut
no_cookies = record { fresh = set.empty; former = set.empty }

-- a key has a cookie out, under either secret
abbrev pub has_cookie : CookiesOut → FlowKey → Bool
has_cookie c key = set.contains c.fresh key || set.contains c.former key

-- a key gets a cookie under the secret in use, in place of the one that it had
abbrev pub cookies_given : CookiesOut → FlowKey → CookiesOut
cookies_given c key = record { fresh = set.insert c.fresh key; former = set.remove c.former key }

-- a key's cookie is taken
abbrev pub cookies_taken : CookiesOut → FlowKey → CookiesOut
cookies_taken c key = record { fresh = set.remove c.fresh key; former = set.remove c.former key }

-- the other secret is used from now on, and what was out under it is forgotten
abbrev pub cookies_turned : CookiesOut → CookiesOut
cookies_turned c = record { fresh = set.empty; former = c.fresh }

-- how many cookies are out, under both secrets
abbrev pub out_count : CookiesOut → ℕ
out_count c = set.len c.fresh + set.len c.former

-- no key has a cookie under both secrets
abbrev pub IsApart : CookiesOut → Type 0
IsApart c = (key : FlowKey) → set.contains c.fresh key ≡ true → set.contains c.former key ≡ false

-- ---- as contracts see them

-- the set of the keys of a list
abbrev pub keys_in : List FlowKey → Keys
keys_in = set.from_list

abbrev pub cookies_code : Coded CookiesOut
cookies_code =
    code_by (Keys × Keys) (coded× (set.code key_code) (set.code key_code)) (λ c. (c.fresh, c.former)) (λ p. record { fresh = p.0; former = p.1 }) (λ _. refl)
