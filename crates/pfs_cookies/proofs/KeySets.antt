-- The set of the keys of a list: which keys it has, how it changes with the list, and how many keys it has.
use Rattle.std.proofs.Common.{◌≡◌, ◌+◌, Bool, true, false, cond, not, ◌||◌, ◌&&◌, List, [], ◌∷◌, length, refl, sym, ap, ◌∙◌, arith}
use Rattle.std.specs.FinSet as set
use Rattle.std.specs.FinSet.{same_set, contains-from_list, contains-insert, contains-remove, len-insert, len-empty}
use Rattle.std.specs.List.{list_any, AllByRecursion, IsDistinct}
use Rattle.pfs_addr_values.specs.Sameness.{same_key}
use Rattle.pfs_addr_values.specs.declared.packets.FlowKey.{FlowKey}
use Rattle.pfs_cookies.specs.Cookies.{keys_in}
use Rattle.pfs_cookies.specs.CookieLaws.{ties, same_key_back}
use Rattle.pfs_cookies.specs.KeyOrders.{key_cmp, key_cmp-total, key_cmp-antisymmetric}

pub contains-keys : (ks : List FlowKey) (q : FlowKey) → set.contains (keys_in ks) q ≡ list_any (same_key q) ks
contains-keys ks q = contains-from_list key_cmp-total ks q ∙ (λ i. list_any (λ x. ties q x i) ks)

cond-or : (b x : Bool) → cond b true x ≡ (b || x)
cond-or true x = refl
cond-or false x = refl

cond-and : (b x : Bool) → cond b false x ≡ (not b && x)
cond-and true x = refl
cond-and false x = refl

module _ (old new : List FlowKey) (k : FlowKey) where
  -- the new list has the key k, and of the others those of the old one
  pub keys-inserted : ((q : FlowKey) → list_any (same_key q) new ≡ cond (same_key k q) true (list_any (same_key q) old))
      → keys_in new ≡ set.insert (keys_in old) k
  keys-inserted has =
      same_set key_cmp-total key_cmp-antisymmetric _ _ (λ q.
      contains-keys new q ∙ has q ∙ cond-or (same_key k q) (list_any (same_key q) old)
      ∙ sym (contains-insert key_cmp-total (keys_in old) k q ∙ (λ i. (ties q k ∙ same_key_back q k) i || contains-keys old q i)))

  -- the new list lacks the key k, and of the others has those of the old one
  pub keys-removed : ((q : FlowKey) → list_any (same_key q) new ≡ cond (same_key k q) false (list_any (same_key q) old))
      → keys_in new ≡ set.remove (keys_in old) k
  keys-removed has =
      same_set key_cmp-total key_cmp-antisymmetric _ _ (λ q.
      contains-keys new q ∙ has q ∙ cond-and (same_key k q) (list_any (same_key q) old)
      ∙ sym (contains-remove key_cmp-total (keys_in old) k q ∙ (λ i. not ((ties q k ∙ same_key_back q k) i) && contains-keys old q i)))

none_same : (k : FlowKey) (ks : List FlowKey) → AllByRecursion (λ y. same_key k y ≡ false) ks → list_any (same_key k) ks ≡ false
none_same k [] h = refl
none_same k (x ∷ xs) h = λ i. h.0 i || none_same k xs h.1 i

-- no key of a list without repeats is lost
pub len-keys : (ks : List FlowKey) → IsDistinct same_key ks → set.len (keys_in ks) ≡ length ks
unfolding IsDistinct
len-keys [] d = len-empty key_cmp
len-keys (k ∷ ks) d =
    let more : set.len (keys_in (k ∷ ks)) ≡ set.len (keys_in ks) + 1 =
    len-insert key_cmp-total (keys_in ks) k
    ∙ ap (λ b. cond b (set.len (keys_in ks)) (set.len (keys_in ks) + 1)) (contains-keys ks k ∙ none_same k ks d.0) in
    omega (arith, more, len-keys ks d.1)
