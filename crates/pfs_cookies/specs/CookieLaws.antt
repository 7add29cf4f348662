-- Laws of cookies: a key has one at most; what each call does to a key's cookie, and to the count. (not promised)
use Rattle.std.proofs.Common.{◌≡◌, ◌≢◌, ℕ, ◌+◌, ◌-◌, ◌≤◌, Bool, true, false, ◌||◌, ◌&&◌, not, cond, if◌then◌else◌, refl, sym, ap, ◌∙◌, arith, true≢false}
use Rattle.std.specs.Cmp.{Equal-is, both_ways, tied_itself, eq_by_cmp_equiv}
use Rattle.std.specs.FinSet as set
use Rattle.std.specs.FinSet.{contains-empty, contains-insert, contains-remove, len-empty, len-insert, len-remove, empty_of_len, same_set}
use Rattle.std.specs.Ordering.{eq_by_cmp, is_eq}
use Rattle.pfs_addr_values.proofs.SameLaws.{same_key_true, same_key_self}
use Rattle.pfs_addr_values.specs.Sameness.{same_key}
use Rattle.pfs_addr_values.specs.declared.packets.FlowKey.{FlowKey}
use Rattle.pfs_cookies.specs.Cookies.{CookiesOut, IsApart, Keys, cookies_given, cookies_taken, cookies_turned, has_cookie, no_cookies, out_count}
use Rattle.pfs_cookies.specs.KeyOrders.{key_cmp, key_cmp-antisymmetric, key_cmp-total}

-- ---- keys that are the same

-- two keys tie in their order exactly where `==` holds of them
pub ties : (x y : FlowKey) → eq_by_cmp key_cmp x y ≡ same_key x y
ties x y =
    both_ways _ _
    (λ t. sym (ap (same_key x) (key_cmp-antisymmetric x y ((Equal-is (key_cmp x y)).0 t))) ∙ same_key_self x)
    (λ s. sym (ap (eq_by_cmp key_cmp x) (same_key_true x y s)) ∙ ap is_eq (tied_itself key_cmp-total x))

pub same_key_back : (x y : FlowKey) → same_key x y ≡ same_key y x
same_key_back x y = sym (ties x y) ∙ (eq_by_cmp_equiv key_cmp-total).symm x y ∙ ties y x

-- ---- a key has one cookie at most

kept_by_giving : (t a b : Bool) → (a ≡ true → b ≡ false) → (t || a) ≡ true → (not t && b) ≡ false
kept_by_giving true a b f h = refl
kept_by_giving false a b f h = f h

kept_by_taking : (t a b : Bool) → (a ≡ true → b ≡ false) → (not t && a) ≡ true → (not t && b) ≡ false
kept_by_taking true a b f h = refl
kept_by_taking false a b f h = f h

pub apart-none : IsApart no_cookies
apart-none q h = contains-empty key_cmp q

pub apart-given : (c : CookiesOut) (k : FlowKey) → IsApart c → IsApart (cookies_given c k)
apart-given c k apart q h =
    contains-remove key_cmp-total c.former k q
    ∙ kept_by_giving (eq_by_cmp key_cmp q k) _ _ (apart q) (sym (contains-insert key_cmp-total c.fresh k q) ∙ h)

pub apart-taken : (c : CookiesOut) (k : FlowKey) → IsApart c → IsApart (cookies_taken c k)
apart-taken c k apart q h =
    contains-remove key_cmp-total c.former k q
    ∙ kept_by_taking (eq_by_cmp key_cmp q k) _ _ (apart q) (sym (contains-remove key_cmp-total c.fresh k q) ∙ h)

pub apart-turned : (c : CookiesOut) → IsApart (cookies_turned c)
apart-turned c q h = absurd (true≢false (sym h ∙ contains-empty key_cmp q))

-- ---- under which secret a key has a cookie

same_or_tied : (k q : FlowKey) → eq_by_cmp key_cmp q k ≡ same_key k q
same_or_tied k q = ties q k ∙ same_key_back q k

module _ (c : CookiesOut) (k q : FlowKey) where
  -- a key that gets a cookie has it under the secret in use; each other key has what it had
  pub given-fresh : set.contains (cookies_given c k).fresh q ≡ (same_key k q || set.contains c.fresh q)
  given-fresh = contains-insert key_cmp-total c.fresh k q ∙ ap (λ b. b || set.contains c.fresh q) (same_or_tied k q)

  pub given-former : set.contains (cookies_given c k).former q ≡ (not (same_key k q) && set.contains c.former q)
  given-former = contains-remove key_cmp-total c.former k q ∙ ap (λ b. not b && set.contains c.former q) (same_or_tied k q)

  -- a key whose cookie is taken has none; each other key has what it had
  pub taken-fresh : set.contains (cookies_taken c k).fresh q ≡ (not (same_key k q) && set.contains c.fresh q)
  taken-fresh = contains-remove key_cmp-total c.fresh k q ∙ ap (λ b. not b && set.contains c.fresh q) (same_or_tied k q)

  pub taken-former : set.contains (cookies_taken c k).former q ≡ (not (same_key k q) && set.contains c.former q)
  taken-former = given-former

either_given : (t a b : Bool) → ((t || a) || (not t && b)) ≡ (t || (a || b))
either_given true a b = refl
either_given false a b = refl

either_taken : (t a b : Bool) → ((not t && a) || (not t && b)) ≡ (not t && (a || b))
either_taken true a b = refl
either_taken false a b = refl

module _ (c : CookiesOut) (k q : FlowKey) where
  -- and under either secret
  pub has_cookie-given : has_cookie (cookies_given c k) q ≡ (same_key k q || has_cookie c q)
  has_cookie-given = (λ i. given-fresh c k q i || given-former c k q i) ∙ either_given (same_key k q) _ _

  pub has_cookie-taken : has_cookie (cookies_taken c k) q ≡ (not (same_key k q) && has_cookie c q)
  has_cookie-taken = (λ i. taken-fresh c k q i || taken-former c k q i) ∙ either_taken (same_key k q) _ _

pub has_cookie-none : (q : FlowKey) → has_cookie no_cookies q ≡ false
has_cookie-none q = λ i. contains-empty key_cmp q i || contains-empty key_cmp q i

-- ---- turns

-- what is out under the secret in use stays out for one turn, and nothing else does
pub has_cookie-turned : (c : CookiesOut) (q : FlowKey) → has_cookie (cookies_turned c) q ≡ set.contains c.fresh q
has_cookie-turned c q = ap (λ b. b || set.contains c.fresh q) (contains-empty key_cmp q)

-- after two turns nothing is out
pub turned-twice : (c : CookiesOut) → cookies_turned (cookies_turned c) ≡ no_cookies
turned-twice c = refl

-- also where cookies were taken between them: a turn leaves nothing if nothing is out under the secret in use
pub turned-none : (c : CookiesOut) → c.fresh ≡ set.empty → cookies_turned c ≡ no_cookies
turned-none c e = λ i. record { fresh = set.empty; former = e i }

not_here : (t : Bool) → (not t && false) ≡ false
not_here true = refl
not_here false = refl

pub fresh-taken : (c : CookiesOut) (k : FlowKey) → c.fresh ≡ set.empty → (cookies_taken c k).fresh ≡ set.empty
fresh-taken c k e =
    ap (λ s. set.remove s k) e
    ∙ same_set key_cmp-total key_cmp-antisymmetric _ _ (λ q.
    contains-remove key_cmp-total set.empty k q
    ∙ ap (λ b. not (eq_by_cmp key_cmp q k) && b) (contains-empty key_cmp q)
    ∙ not_here (eq_by_cmp key_cmp q k) ∙ sym (contains-empty key_cmp q))

-- ---- how many are out

-- a set with a key is not empty
some_key : (s : Keys) (q : FlowKey) → set.contains s q ≡ true → set.len s ≢ 0
some_key s q h none =
    true≢false (sym h ∙ ap (λ t. set.contains t q) (empty_of_len s none) ∙ contains-empty key_cmp q)

-- a is the number under the secret in use, b under the other
one_more : (f m : Bool) (a b : ℕ) → (f ≡ true → m ≡ false) → (m ≡ true → b ≢ 0)
    → cond f a (a + 1) + cond m (b - 1) b ≡ a + b + (if f || m then 0 else 1)
one_more true true a b apart some = absurd (true≢false (apart refl))
one_more true false a b apart some = omega arith
one_more false true a b apart some = let here = some refl in omega arith
one_more false false a b apart some = omega arith

one_less : (f m : Bool) (a b : ℕ) → (f ≡ true → m ≡ false) → (f ≡ true → a ≢ 0) → (m ≡ true → b ≢ 0)
    → cond f (a - 1) a + cond m (b - 1) b + (if f || m then 1 else 0) ≡ a + b
one_less true true a b apart some_a some_b = absurd (true≢false (apart refl))
one_less true false a b apart some_a some_b = let here = some_a refl in omega arith
one_less false true a b apart some_a some_b = let here = some_b refl in omega arith
one_less false false a b apart some_a some_b = omega arith

pub out_count-none : out_count no_cookies ≡ 0
out_count-none = λ i. len-empty key_cmp i + len-empty key_cmp i

module _ (c : CookiesOut) (k : FlowKey) (apart : IsApart c) where
  -- a key that had a cookie is counted once
  pub out_count-given : out_count (cookies_given c k) ≡ out_count c + (if has_cookie c k then 0 else 1)
  out_count-given =
      (λ i. len-insert key_cmp-total c.fresh k i + len-remove key_cmp-total c.former k i)
      ∙ one_more (set.contains c.fresh k) (set.contains c.former k) (set.len c.fresh) (set.len c.former) (apart k) (some_key c.former k)

  pub out_count-taken : out_count (cookies_taken c k) + (if has_cookie c k then 1 else 0) ≡ out_count c
  out_count-taken =
      ap (λ n. n + (if has_cookie c k then 1 else 0)) (λ i. len-remove key_cmp-total c.fresh k i + len-remove key_cmp-total c.former k i)
      ∙ one_less (set.contains c.fresh k) (set.contains c.former k) (set.len c.fresh) (set.len c.former) (apart k) (some_key c.fresh k) (some_key c.former k)

pub out_count-turned : (c : CookiesOut) → out_count (cookies_turned c) ≡ set.len c.fresh
out_count-turned c = let none = len-empty key_cmp in omega (arith, none)

-- so a turn leaves no more than were out
pub out_count-turned_bound : (c : CookiesOut) → out_count (cookies_turned c) ≤ out_count c
out_count-turned_bound c = omega (arith, out_count-turned c)
