-- A draft that keeps the load rules of the whole text is a configuration.
use Rattle.std.proofs.Common.{◌≡◌, ◌∙◌, ◌≤◌, ◌<◌, ◌+◌, ◌*◌, ◌/◌, ◌^◌, ◌||◌, ◌&&◌, ◌==◌, ℕ, Bool, true, false, not, nat_lt, All, List, [], ◌∷◌, length, zero, suc, refl, ap, sym, arith, Option, Some, None, IfSome, unwrap_or}
use Rattle.std.specs.Prelude.{position, slice_index_or}
use Rattle.std.specs.List.{IsDistinct, list_any, position_or_len}
use Rattle.std.specs.Str.{bytes_eq}
use Rattle.std.proofs.lemmas.Bool.{cond-false, cond-true, false≢true, lt-ltb, ltb-false, not-false}
use Rattle.std.proofs.lemmas.List.{length-map}
use Rattle.pfs_conf_values.specs.Configs.{is_adaptive, needs_profile, overloads_const, table_names, timeout_of}
use Rattle.pfs_conf_values.specs.Invariants.{IsConfig, IsTable, is_seconds}
use Rattle.pfs_conf_settings.specs.Invariants.{IsDraft}
use Rattle.pfs_conf_settings.specs.Drafts.{Drafted, broken_pair, const_overload, conf_of_draft, has_broken_pair, has_too_many_entries, has_too_many_tables, has_unprofiled_cookies, has_unprofiled_routes, unprofiled}
use Rattle.pfs_conf_values.specs.LoadRules.{IsTimeout}
use Rattle.pfs_conf_values.specs.Bounds.{greatest_timeout, least_timeout}
use Rattle.pfs_conf_values.specs.Settled.{settled_item}
use Rattle.pfs_conf_values.specs.Timeouts.{place_of, tenths_of}
use Rattle.pfs_conf_values.proofs.SettledLaws.{overloads_settled_items, profile_needed_items, settled_AreNamedOnce, settled_IsPreorder, settled_items_IsItem, settled_items_again}
use Rattle.pfs_conf_values.specs.declared.profiles.Profile.{Profile}
use Rattle.pfs_conf_values.specs.declared.profiles.Profile.TheVariants as profile
use Rattle.pfs_conf_values.specs.declared.items.Item.{Item}
use Rattle.pfs_conf_values.specs.declared.timeouts.TimeoutName.{TimeoutName}
use Rattle.pfs_conf_values.specs.declared.timeouts.TimeoutName.TheVariants as timeout

-- no item is found where none passes
none_passes : (p : Item → Bool) (items : List Item) → position p items ≡ None → list_any p items ≡ false
none_passes p items h = go (list_any p items) refl
  where
    within : (items : List Item) → list_any p items ≡ true → position_or_len p items < length items
    within [] h = absurd (false≢true h)
    within (i ∷ items) h = here (p i) refl (within items)
      where
        here : (b : Bool) → p i ≡ b → (list_any p items ≡ true → position_or_len p items < length items) → position_or_len p (i ∷ items) < length (i ∷ items)
        here true e rest = let at = cond-false (not (p i)) (1 + position_or_len p items) 0 (ap not e) in omega arith
        here false e rest =
            let at = cond-true (not (p i)) (1 + position_or_len p items) 0 (ap not e) in
            let less = rest (sym (ap (λ b. b || list_any p items) e) ∙ h) in
            omega arith

    go : (b : Bool) → list_any p items ≡ b → list_any p items ≡ false
    go false e = e
    go true e = absurd (let some = sym (cond-true (nat_lt (position_or_len p items) (length items)) _ _ (lt-ltb _ _ (within items e))) ∙ h in cc)

-- a timeout that is set, or a default, is within what can be given
resolved_most : (place default : ℕ) (given : Option ℕ) → IfSome given (IsTimeout place) → default ≤ greatest_timeout place → unwrap_or given default ≤ greatest_timeout place
resolved_most place default None h le = le
resolved_most place default (Some n) h le = h.1

resolved_least : (place default : ℕ) (given : Option ℕ) → IfSome given (IsTimeout place) → least_timeout place ≤ default → least_timeout place ≤ unwrap_or given default
resolved_least place default None h le = le
resolved_least place default (Some n) h le = h.0

seconds : (d : Drafted) → IsDraft d → (name : TimeoutName) → is_seconds name ≡ true → timeout_of (conf_of_draft d) name ≤ 2147483647
seconds d k timeout.TcpFirst s = resolved_most 0 120 _ (k.timeouts 0) (omega arith)
seconds d k timeout.TcpOpening s = resolved_most 1 30 _ (k.timeouts 1) (omega arith)
seconds d k timeout.TcpEstablished s = resolved_most 2 86400 _ (k.timeouts 2) (omega arith)
seconds d k timeout.TcpClosing s = resolved_most 3 900 _ (k.timeouts 3) (omega arith)
seconds d k timeout.TcpFinwait s = resolved_most 4 45 _ (k.timeouts 4) (omega arith)
seconds d k timeout.TcpClosed s = resolved_most 5 90 _ (k.timeouts 5) (omega arith)
seconds d k timeout.UdpFirst s = resolved_most 6 60 _ (k.timeouts 6) (omega arith)
seconds d k timeout.UdpSingle s = resolved_most 7 30 _ (k.timeouts 7) (omega arith)
seconds d k timeout.UdpMultiple s = resolved_most 8 60 _ (k.timeouts 8) (omega arith)
seconds d k timeout.OtherFirst s = resolved_most 9 60 _ (k.timeouts 9) (omega arith)
seconds d k timeout.OtherSingle s = resolved_most 10 30 _ (k.timeouts 10) (omega arith)
seconds d k timeout.OtherMultiple s = resolved_most 11 60 _ (k.timeouts 11) (omega arith)
seconds d k timeout.SrcTrack s = resolved_most 12 0 _ (k.timeouts 12) (omega arith)
seconds d k timeout.Interval s = resolved_most 13 10 _ (k.timeouts 13) (omega arith)
seconds d k timeout.AdaptiveStart s = absurd (false≢true s)
seconds d k timeout.AdaptiveEnd s = absurd (false≢true s)

or_true : (b : Bool) → (b || true) ≡ true
or_true true = refl
or_true false = refl

-- in order, or both 0
in_order_is : (start end : ℕ) → start < end → is_adaptive start end ≡ true
in_order_is start end h = ap (λ b. ((start == 0) && (end == 0)) || b) (lt-ltb start end h) ∙ or_true _

-- the default pair is one
default_adaptive : (p : Profile) (states : ℕ) → 1 ≤ states → is_adaptive (tenths_of p 6 states) (tenths_of p 12 states) ≡ true
default_adaptive profile.Own states h = in_order_is (6 * states / 10) (12 * states / 10) (omega arith)
default_adaptive profile.OpenBsd74 states h = by (states / 10)
  where
    by : (n : ℕ) → is_adaptive (n * 6) (n * 12) ≡ true
    by zero = refl
    by (suc n) = in_order_is (suc n * 6) (suc n * 12) (omega arith)

-- a pair that is not broken
adaptive : (p : Profile) (states : ℕ) (start end : Option ℕ) → 1 ≤ states → broken_pair start end ≡ false
    → is_adaptive (unwrap_or start (tenths_of p 6 states)) (unwrap_or end (tenths_of p 12 states)) ≡ true
adaptive p states None None h whole = default_adaptive p states h
adaptive p states (Some s) (Some e) h whole = not-false _ whole
adaptive p states None (Some e) h whole = absurd (false≢true (sym whole))
adaptive p states (Some s) None h whole = absurd (false≢true (sym whole))

adaptive_end_is : (p : Profile) (states : ℕ) (end : Option ℕ) → states ≤ 4294967295 → IfSome end (IsTimeout 15) → unwrap_or end (tenths_of p 12 states) < 2 ^ 33
adaptive_end_is profile.Own states None h k = omega arith
adaptive_end_is profile.OpenBsd74 states None h k = omega arith
adaptive_end_is p states (Some n) h k = omega arith

-- a draft that keeps the rules of the whole text is a configuration
pub IsConfig_finished : (d : Drafted) → IsDraft d → All IsTable d.tables → IsDistinct bytes_eq (table_names d.tables)
    → has_broken_pair d ≡ false → const_overload d ≡ None → has_too_many_tables d ≡ false → has_unprofiled_cookies d ≡ false → has_unprofiled_routes d ≡ false → unprofiled d ≡ None → has_too_many_entries d ≡ false → IsConfig (conf_of_draft d)
IsConfig_finished d k tables names pair overloads few cookies routes profiled entries = record {
  syncookies = k.syncookies;
  cookies_profiled = cookies;
  routes = k.routes;
  routes_profiled = routes;
  limits = k.limits;
  size = refl;
  seconds = seconds d k;
  interval = resolved_least 13 10 _ (k.timeouts 13) (omega arith);
  adaptive =
      adaptive d.profile d.limits.states (slice_index_or d.timeouts (place_of timeout.AdaptiveStart) None)
      (slice_index_or d.timeouts (place_of timeout.AdaptiveEnd) None) k.limits.states.0 pair;
  adaptive_end = adaptive_end_is d.profile d.limits.states _ k.limits.states.1 (k.timeouts 15);
  tables = tables;
  names = names;
  few_tables = ltb-false _ _ few;
  few_entries = ltb-false _ _ entries;
  items = settled_items_IsItem d.profile (length d.tables) d.items k.items;
  few_items = let same = length-map d.items (settled_item d.profile) in let few = k.few_items in omega (arith, same, few);
  preorder = settled_IsPreorder d.profile 0 d.items k.preorder;
  anchors = settled_AreNamedOnce d.profile d.items k.anchors;
  overloads = overloads_settled_items d.profile d.tables d.items ∙ none_passes (overloads_const d.tables) d.items overloads;
  profiled = profile_needed_items d.profile d.profile d.items ∙ none_passes (needs_profile d.profile) d.items profiled;
  settled = settled_items_again d.profile (length d.tables) d.items k.items;
}
