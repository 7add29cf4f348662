-- What the profile makes of the rules of a text keeps the load rules, and changes nothing a second time.
use Rattle.std.proofs.Common.{◌≡◌, ◌≢◌, ◌∙◌, ◌<◌, ◌≤◌, ◌+◌, ◌*◌, ◌/◌, ◌==◌, ◌||◌, ◌&&◌, ◌⊎◌, inl, inr, ℕ, Bool, true, false, cond, nat_lt, nat_le, min, Option, Some, None, IfSome, is_some, All, List, [], ◌∷◌, ◌++◌, length, set, reverse, refl, ap, sym, subst, arith, length-set, get_or-set_other}
use Rattle.std.specs.Prelude.{if◌then◌else◌, slice_index_or}
use Rattle.std.specs.List.{list_any, take_while}
use Rattle.std.specs.Option.{option_and_then}
use Rattle.std.proofs.lemmas.Bool.{cases_lt, lt-ltb, le-leb}
use Rattle.std.proofs.lemmas.List.{get_or-set_same, map-append, reverse-append}
use Rattle.std.proofs.lemmas.List.Elements.{All-head, All-map, All-tail, All-weaker}
use Rattle.std.proofs.lemmas.List.Sums.{take_while-cons}
use Rattle.pfs_conf_values.specs.Bounds.{broken_rule_pair, is_global}
use Rattle.pfs_conf_values.specs.Configs.{adds_to_const, has_synproxy, is_match, marks_in, needs_profile, options_in, overloads_const, proxies, rule_in}
use Rattle.pfs_conf_values.specs.Depths.{is_rule}
use Rattle.pfs_conf_values.specs.LoadRules.{AreOptions, IsAction, IsCount, IsItem, IsItemAt, IsQuick, IsTimeout, MayTranslate}
use Rattle.pfs_conf_values.specs.Order.{AreNamedOnce, IsPreorder, next_depth, repeats_by, repeats_name}
use Rattle.pfs_conf_values.specs.Settled.{gives_adaptive, paired, settled_action, settled_item, settled_items, settled_kind, settled_options, with_pair_of_max}
use Rattle.pfs_conf_values.specs.Translations.{translates_by}
use Rattle.pfs_conf_values.specs.Siblings.{has_sibling, is_anchor_named, is_this_name, name_of_item}
use Rattle.pfs_conf_values.specs.declared.actions.Action.{Action}
use Rattle.pfs_conf_values.specs.declared.actions.Action.TheVariants as action
use Rattle.pfs_conf_values.specs.declared.actions.StateOptions.{StateOptions}
use Rattle.pfs_conf_values.specs.declared.items.Item.{Item}
use Rattle.pfs_conf_values.specs.declared.items.Rule.{Rule}
use Rattle.pfs_conf_values.specs.declared.items.ItemKind.{ItemKind}
use Rattle.pfs_conf_values.specs.declared.items.ItemKind.TheVariants as what
use Rattle.pfs_conf_values.specs.declared.profiles.Profile.{Profile}
use Rattle.pfs_conf_values.specs.declared.profiles.Profile.TheVariants as profile
use Rattle.pfs_conf_values.specs.declared.tables.TableDef.{TableDef}
use Rattle.pfs_conf_values.specs.declared.translations.Translation.{Translation}

-- ---- the pair of `max`

abbrev start_of : ℕ → ℕ
start_of n = n / 10 * 6

abbrev end_of : ℕ → ℕ
end_of n = min (n / 10 * 12) 4294967295

at_other : (n : ℕ) (ts : List (Option ℕ)) (place : ℕ) → place ≢ 14 → place ≢ 15 → slice_index_or (with_pair_of_max n ts) place None ≡ slice_index_or ts place None
at_other n ts place h k =
    get_or-set_other (set ts 14 (Some (start_of n))) 15 place (Some (end_of n)) None k ∙ get_or-set_other ts 14 place (Some (start_of n)) None h

at_start : (n : ℕ) (ts : List (Option ℕ)) → length ts ≡ 16 → slice_index_or (with_pair_of_max n ts) 14 None ≡ Some (start_of n)
at_start n ts size =
    get_or-set_other (set ts 14 (Some (start_of n))) 15 14 (Some (end_of n)) None (omega arith) ∙ get_or-set_same ts 14 (Some (start_of n)) None (omega (arith, size))

at_end : (n : ℕ) (ts : List (Option ℕ)) → length ts ≡ 16 → slice_index_or (with_pair_of_max n ts) 15 None ≡ Some (end_of n)
at_end n ts size =
    get_or-set_same (set ts 14 (Some (start_of n))) 15 (Some (end_of n)) None (omega (arith, size, length-set ts 14 (Some (start_of n))))

pair_size : (n : ℕ) (ts : List (Option ℕ)) → length (with_pair_of_max n ts) ≡ length ts
pair_size n ts = length-set (set ts 14 (Some (start_of n))) 15 (Some (end_of n)) ∙ length-set ts 14 (Some (start_of n))

-- it is a pair that a rule may give
pair_kept : (n : ℕ) → 10 ≤ n → n ≤ 4294967295 → broken_rule_pair (Some (start_of n)) (Some (end_of n)) ≡ false
pair_kept n low high =
    let least = le-leb 1 (start_of n) (omega arith) in
    let less = lt-ltb (start_of n) (end_of n) (omega arith) in
    rw (least, less) refl

abbrev with_timeouts : StateOptions → List (Option ℕ) → StateOptions
with_timeouts o ts = record o { timeouts = ts }

-- options with other timeouts, `sloppy` or not, keep the load rules where these timeouts do
others_AreOptions : (tables : ℕ) (o : StateOptions) (b : Bool) (ts : List (Option ℕ)) → AreOptions tables o
    → (is_global o.scope && is_some (slice_index_or ts 12 None)) ≡ false → broken_rule_pair (slice_index_or ts 14 None) (slice_index_or ts 15 None) ≡ false
    → slice_index_or ts 13 None ≡ None → ((place : ℕ) → IfSome (slice_index_or ts place None) (IsTimeout place)) → length ts ≡ 16
    → AreOptions tables (record o { sloppy = b; timeouts = ts })
others_AreOptions tables o b ts h retention pair interval within size = record {
  max = h.max;
  max_src_nodes = h.max_src_nodes;
  max_src_states = h.max_src_states;
  max_src_conn = h.max_src_conn;
  max_src_conn_rate = h.max_src_conn_rate;
  overload = h.overload;
  tracked = h.tracked;
  connections = h.connections;
  rule_connections = h.rule_connections;
  rule_retention = retention;
  adaptive = pair;
  no_interval = interval;
  timeouts = within;
  size = size;
}

pair_AreOptions : (tables : ℕ) (o : StateOptions) (n : ℕ) → AreOptions tables o → 10 ≤ n → n ≤ 4294967295 → AreOptions tables (with_timeouts o (with_pair_of_max n o.timeouts))
pair_AreOptions tables o n h low high =
    others_AreOptions tables o o.sloppy (with_pair_of_max n o.timeouts) h
    (ap (λ (v : Option ℕ). is_global o.scope && is_some v) (at_other n o.timeouts 12 (omega arith) (omega arith)) ∙ h.rule_retention)
    (ap (λ (v : Option ℕ). broken_rule_pair v (slice_index_or (with_pair_of_max n o.timeouts) 15 None)) (at_start n o.timeouts h.size)
    ∙ (ap (broken_rule_pair (Some (start_of n))) (at_end n o.timeouts h.size) ∙ pair_kept n low high))
    (at_other n o.timeouts 13 (omega arith) (omega arith) ∙ h.no_interval) within (pair_size n o.timeouts ∙ h.size)
  where
    others : (place : ℕ) → place ≢ 14 → place ≢ 15 → IfSome (slice_index_or (with_pair_of_max n o.timeouts) place None) (IsTimeout place)
    others place a b = subst (λ (v : Option ℕ). IfSome v (IsTimeout place)) (sym (at_other n o.timeouts place a b)) (h.timeouts place)

    start_within : IfSome (slice_index_or (with_pair_of_max n o.timeouts) 14 None) (IsTimeout 14)
    start_within = subst (λ (v : Option ℕ). IfSome v (IsTimeout 14)) (sym (at_start n o.timeouts h.size)) (omega arith, omega arith)

    end_within : IfSome (slice_index_or (with_pair_of_max n o.timeouts) 15 None) (IsTimeout 15)
    end_within = subst (λ (v : Option ℕ). IfSome v (IsTimeout 15)) (sym (at_end n o.timeouts h.size)) (omega arith, omega arith)

    from_15 : (place : ℕ) → 15 ≤ place → ((place < 16) ⊎ (16 ≤ place)) → IfSome (slice_index_or (with_pair_of_max n o.timeouts) place None) (IsTimeout place)
    from_15 place a (inl b) = subst (λ (p : ℕ). IfSome (slice_index_or (with_pair_of_max n o.timeouts) p None) (IsTimeout p)) (omega arith) end_within
    from_15 place a (inr b) = others place (omega arith) (omega arith)

    from_14 : (place : ℕ) → 14 ≤ place → ((place < 15) ⊎ (15 ≤ place)) → IfSome (slice_index_or (with_pair_of_max n o.timeouts) place None) (IsTimeout place)
    from_14 place a (inl b) = subst (λ (p : ℕ). IfSome (slice_index_or (with_pair_of_max n o.timeouts) p None) (IsTimeout p)) (omega arith) start_within
    from_14 place a (inr b) = from_15 place b (cases_lt place 16)

    by_place : (place : ℕ) → ((place < 14) ⊎ (14 ≤ place)) → IfSome (slice_index_or (with_pair_of_max n o.timeouts) place None) (IsTimeout place)
    by_place place (inl a) = others place (omega arith) (omega arith)
    by_place place (inr a) = from_14 place a (cases_lt place 15)

    within : (place : ℕ) → IfSome (slice_index_or (with_pair_of_max n o.timeouts) place None) (IsTimeout place)
    within place = by_place place (cases_lt place 14)

-- ---- options

paired_AreOptions : (tables : ℕ) (o : StateOptions) → AreOptions tables o → AreOptions tables (with_timeouts o (paired o.max o.timeouts))
paired_AreOptions tables o h = by o.max h.max
  where
    at_least : (m : ℕ) (b : Bool) → (nat_lt m 10 || b) ≡ false → 10 ≤ m
    at_least m b e = grind arith

    go : (n : ℕ) (b : Bool) → IsCount n → (nat_lt n 10 || gives_adaptive o.timeouts) ≡ b
        → AreOptions tables (with_timeouts o (if b then o.timeouts else with_pair_of_max n o.timeouts))
    go n true k e = h
    go n false k e = pair_AreOptions tables o n h (at_least n (gives_adaptive o.timeouts) e) k.1

    by : (max : Option ℕ) → IfSome max IsCount → AreOptions tables (with_timeouts o (paired max o.timeouts))
    by None k = h
    by (Some n) k = go n (nat_lt n 10 || gives_adaptive o.timeouts) k refl

-- options that keep the load rules do so when they are settled
pub settled_AreOptions : (p : Profile) (tables : ℕ) (o : StateOptions) → AreOptions tables o → AreOptions tables (settled_options p o)
settled_AreOptions profile.Own tables o h = others_AreOptions tables o false o.timeouts h h.rule_retention h.adaptive h.no_interval h.timeouts h.size
settled_AreOptions profile.OpenBsd74 tables o h = paired_AreOptions tables o h

-- what is paired has a pair, and so is paired no more
paired_again : (max : Option ℕ) (ts : List (Option ℕ)) → length ts ≡ 16 → paired max (paired max ts) ≡ paired max ts
paired_again None ts size = refl
paired_again (Some n) ts size = go (nat_lt n 10 || gives_adaptive ts) refl
  where
    given : gives_adaptive (with_pair_of_max n ts) ≡ true
    given = ap (λ (v : Option ℕ). is_some v || is_some (slice_index_or (with_pair_of_max n ts) 15 None)) (at_start n ts size)

    or_true : (b : Bool) → (b || true) ≡ true
    or_true true = refl
    or_true false = refl

    go : (b : Bool) → (nat_lt n 10 || gives_adaptive ts) ≡ b
        → paired (Some n) (if b then ts else with_pair_of_max n ts) ≡ (if b then ts else with_pair_of_max n ts)
    go true e = ap (λ (b : Bool). if b then ts else with_pair_of_max n ts) e
    go false e =
        ap (λ (b : Bool). if b then with_pair_of_max n ts else with_pair_of_max n (with_pair_of_max n ts)) (ap (λ (b : Bool). nat_lt n 10 || b) given ∙ or_true (nat_lt n 10))

settled_options_again : (p : Profile) (o : StateOptions) → length o.timeouts ≡ 16 → settled_options p (settled_options p o) ≡ settled_options p o
settled_options_again profile.Own o size = refl
settled_options_again profile.OpenBsd74 o size = ap (with_timeouts o) (paired_again o.max o.timeouts size)

-- ---- items

settled_IsAction : (p : Profile) (tables : ℕ) (a : Action) → IsAction tables a → IsAction tables (settled_action p a)
settled_IsAction p tables action.Match h = h
settled_IsAction p tables action.Block h = h
settled_IsAction p tables action.Pass h = h
settled_IsAction p tables (action.Keep o) h = settled_AreOptions p tables o h

settled_IsQuick : (p : Profile) (a : Action) (quick : Bool) → IsQuick a quick → IsQuick (settled_action p a) quick
settled_IsQuick p action.Match quick h = h
settled_IsQuick p action.Block quick h = tt
settled_IsQuick p action.Pass quick h = tt
settled_IsQuick p (action.Keep o) quick h = tt

settled_MayTranslate : (p : Profile) (a : Action) (t : Translation) → MayTranslate a t → MayTranslate (settled_action p a) t
settled_MayTranslate p action.Match t h = tt
settled_MayTranslate p action.Block t h = h
settled_MayTranslate p action.Pass t h = tt
settled_MayTranslate p (action.Keep o) t h = tt

settled_IsItem : (p : Profile) (tables : ℕ) (i : Item) → IsItem tables i → IsItem tables (settled_item p i)
settled_IsItem p tables i h = by i.what h
  where
    by : (w : ItemKind) → IsItemAt tables i.depth w → IsItemAt tables i.depth (settled_kind p w)
    by (what.Rule r) k = (
      k.0,
      record {
        filter = k.1.filter;
        came = k.1.came;
        tag = k.1.tag;
        translating = record {
          translation = k.1.translating.translation;
          may = settled_MayTranslate p r.action r.translation k.1.translating.may;
          way = k.1.translating.way;
          given = k.1.translating.given;
          families = k.1.translating.families;
        };
        action = settled_IsAction p tables r.action k.1.action;
        quick = settled_IsQuick p r.action r.quick k.1.quick;
      },
    )
    by (what.Anchor a) k = k

-- an item that is settled is so a second time
settled_item_again : (p : Profile) (tables : ℕ) (i : Item) → IsItem tables i → settled_item p (settled_item p i) ≡ settled_item p i
settled_item_again p tables i h = by i.what h
  where
    item : ItemKind → Item
    item w = record { depth = i.depth; what = w }

    act : (a : Action) → IsAction tables a → settled_action p (settled_action p a) ≡ settled_action p a
    act action.Match k = refl
    act action.Block k = refl
    act action.Pass k = refl
    act (action.Keep o) k = ap (λ (x : StateOptions). action.Keep x) (settled_options_again p o k.size)

    by : (w : ItemKind) → IsItemAt tables i.depth w → item (settled_kind p (settled_kind p w)) ≡ item (settled_kind p w)
    by (what.Rule r) k = ap (λ (a : Action). item (what.Rule (record r { action = a }))) (act r.action k.1.action)
    by (what.Anchor a) k = refl

-- ---- all items of a text

-- they keep the load rules
pub settled_items_IsItem : (p : Profile) (tables : ℕ) (items : List Item) → All (IsItem tables) items → All (IsItem tables) (settled_items p items)
settled_items_IsItem p tables items h =
    All-map (IsItem tables) (settled_item p) items (All-weaker (IsItem tables) (λ (i : Item). IsItem tables (settled_item p i)) (settled_IsItem p tables) items h)

-- they are settled
pub settled_items_again : (p : Profile) (tables : ℕ) (items : List Item) → All (IsItem tables) items → settled_items p (settled_items p items) ≡ settled_items p items
settled_items_again p tables [] h = refl
settled_items_again p tables (i ∷ items) h =
    ap (λ (x : Item). x ∷ settled_items p (settled_items p items)) (settled_item_again p tables i (All-head (IsItem tables) i items h))
    ∙ ap (λ (xs : List Item). settled_item p i ∷ xs) (settled_items_again p tables items (All-tail (IsItem tables) i items h))

-- they are as deep as before
next_depth_settled : (p : Profile) (i : Item) → next_depth (settled_item p i) ≡ next_depth i
next_depth_settled p i = by i.what
  where
    by : (w : ItemKind) → (if is_rule (settled_kind p w) then i.depth else i.depth + 1) ≡ (if is_rule w then i.depth else i.depth + 1)
    by (what.Rule r) = refl
    by (what.Anchor a) = refl

pub settled_IsPreorder : (p : Profile) (most : ℕ) (items : List Item) → IsPreorder most items → IsPreorder most (settled_items p items)
settled_IsPreorder p most [] h = tt
settled_IsPreorder p most (i ∷ items) h =
    (h.0, subst (λ (d : ℕ). IsPreorder d (settled_items p items)) (sym (next_depth_settled p i)) (settled_IsPreorder p (next_depth i) items h.1))

-- and have the same names
name_settled : (p : Profile) (w : ItemKind) → name_of_item (settled_kind p w) ≡ name_of_item w
name_settled p (what.Rule r) = refl
name_settled p (what.Anchor a) = refl

reverse_settled : (p : Profile) (items : List Item) → reverse (settled_items p items) ≡ settled_items p (reverse items)
reverse_settled p [] = refl
reverse_settled p (i ∷ items) =
    reverse-append (settled_item p i ∷ []) (settled_items p items)
    ∙ (ap (λ (xs : List Item). xs ++ settled_item p i ∷ []) (reverse_settled p items)
    ∙ (sym (map-append (settled_item p) (reverse items) (i ∷ [])) ∙ ap (settled_items p) (sym (reverse-append (i ∷ []) items))))

body_settled : (p : Profile) (depth : ℕ) (items : List Item)
    → take_while (λ (i : Item). nat_le depth i.depth) (settled_items p items) ≡ settled_items p (take_while (λ (i : Item). nat_le depth i.depth) items)
body_settled p depth [] = refl
body_settled p depth (i ∷ items) =
    take_while-cons q (settled_item p i) (settled_items p items)
    ∙ (ap (λ (xs : List Item). cond (q i) (settled_item p i ∷ xs) []) (body_settled p depth items)
    ∙ (by (q i) ∙ ap (settled_items p) (sym (take_while-cons q i items))))
  where
    q : Item → Bool
    q x = nat_le depth x.depth

    by : (b : Bool) → cond b (settled_item p i ∷ settled_items p (take_while q items)) [] ≡ settled_items p (cond b (i ∷ take_while q items) [])
    by true = refl
    by false = refl

named_settled : (p : Profile) (depth : ℕ) (name : List ℕ) (items : List Item) → list_any (is_anchor_named depth name) (settled_items p items) ≡ list_any (is_anchor_named depth name) items
named_settled p depth name [] = refl
named_settled p depth name (i ∷ items) =
    ap (λ (n : Option (List ℕ)). ((i.depth == depth) && is_this_name name n) || list_any (is_anchor_named depth name) (settled_items p items)) (name_settled p i.what)
    ∙ ap (λ (b : Bool). is_anchor_named depth name i || b) (named_settled p depth name items)

has_sibling_settled : (p : Profile) (depth : ℕ) (name : List ℕ) (items : List Item) → has_sibling depth name (settled_items p items) ≡ has_sibling depth name items
has_sibling_settled p depth name items =
    ap (λ (xs : List Item). list_any (is_anchor_named depth name) (take_while (λ (i : Item). nat_le depth i.depth) xs)) (reverse_settled p items)
    ∙ (ap (list_any (is_anchor_named depth name)) (body_settled p depth (reverse items)) ∙ named_settled p depth name (take_while (λ (i : Item). nat_le depth i.depth) (reverse items)))

repeats_settled : (p : Profile) (i : Item) (before : List Item) → repeats_name (settled_item p i) (settled_items p before) ≡ repeats_name i before
repeats_settled p i before = ap (λ (n : Option (List ℕ)). repeats_by i.depth n (settled_items p before)) (name_settled p i.what) ∙ by (name_of_item i.what)
  where
    by : (n : Option (List ℕ)) → repeats_by i.depth n (settled_items p before) ≡ repeats_by i.depth n before
    by None = refl
    by (Some name) = has_sibling_settled p i.depth name before

named_once : (p : Profile) (before items : List Item) → AreNamedOnce before items → AreNamedOnce (settled_items p before) (settled_items p items)
named_once p before [] h = tt
named_once p before (i ∷ items) h = (
  repeats_settled p i before ∙ h.0,
  subst (λ (xs : List Item). AreNamedOnce xs (settled_items p items)) (map-append (settled_item p) before (i ∷ [])) (named_once p (before ++ i ∷ []) items h.1),
)

pub settled_AreNamedOnce : (p : Profile) (items : List Item) → AreNamedOnce [] items → AreNamedOnce [] (settled_items p items)
settled_AreNamedOnce p items h = named_once p [] items h

-- and add to the same tables
overloads_settled : (p : Profile) (tables : List TableDef) (i : Item) → overloads_const tables (settled_item p i) ≡ overloads_const tables i
overloads_settled p tables i = by i.what
  where
    act : (p : Profile) (a : Action) → adds_to_const tables (options_in (settled_action p a)) ≡ adds_to_const tables (options_in a)
    act p action.Match = refl
    act p action.Block = refl
    act p action.Pass = refl
    act profile.Own (action.Keep o) = refl
    act profile.OpenBsd74 (action.Keep o) = refl

    by : (w : ItemKind) → adds_to_const tables (option_and_then (λ (r : Rule). options_in r.action) (rule_in (settled_kind p w))) ≡ adds_to_const tables (option_and_then (λ (r : Rule). options_in r.action) (rule_in w))
    by (what.Rule r) = act p r.action
    by (what.Anchor a) = refl

pub overloads_settled_items : (p : Profile) (tables : List TableDef) (items : List Item)
    → list_any (overloads_const tables) (settled_items p items) ≡ list_any (overloads_const tables) items
overloads_settled_items p tables [] = refl
overloads_settled_items p tables (i ∷ items) =
    ap (λ (b : Bool). b || list_any (overloads_const tables) (settled_items p items)) (overloads_settled p tables i)
    ∙ ap (λ (b : Bool). overloads_const tables i || b) (overloads_settled_items p tables items)

-- and need the same profile
proxies_settled : (p : Profile) (i : Item) → has_synproxy (settled_item p i) ≡ has_synproxy i
proxies_settled p i = by i.what
  where
    act : (p : Profile) (a : Action) → proxies (options_in (settled_action p a)) ≡ proxies (options_in a)
    act p action.Match = refl
    act p action.Block = refl
    act p action.Pass = refl
    act profile.Own (action.Keep o) = refl
    act profile.OpenBsd74 (action.Keep o) = refl

    by : (w : ItemKind) → proxies (option_and_then (λ (r : Rule). options_in r.action) (rule_in (settled_kind p w))) ≡ proxies (option_and_then (λ (r : Rule). options_in r.action) (rule_in w))
    by (what.Rule r) = act p r.action
    by (what.Anchor a) = refl

match_settled : (p : Profile) (a : Action) → is_match (settled_action p a) ≡ is_match a
match_settled p action.Match = refl
match_settled p action.Block = refl
match_settled p action.Pass = refl
match_settled p (action.Keep o) = refl

marks_settled : (p : Profile) (i : Item) → marks_in (rule_in (settled_item p i).what) ≡ marks_in (rule_in i.what)
marks_settled p i = by i.what
  where
    by : (w : ItemKind) → marks_in (rule_in (settled_kind p w)) ≡ marks_in (rule_in w)
    by (what.Rule r) = ap (λ (b : Bool). b || is_some r.tag || is_some r.came.tagged || is_some r.came.received_on || translates_by r.translation) (match_settled p r.action)
    by (what.Anchor a) = refl

profile_needed : (p q : Profile) (i : Item) → needs_profile q (settled_item p i) ≡ needs_profile q i
profile_needed p profile.Own i = ap (λ (b : Bool). b || marks_in (rule_in (settled_item p i).what)) (proxies_settled p i) ∙ ap (λ (b : Bool). has_synproxy i || b) (marks_settled p i)
profile_needed p profile.OpenBsd74 i = refl

pub profile_needed_items : (p q : Profile) (items : List Item) → list_any (needs_profile q) (settled_items p items) ≡ list_any (needs_profile q) items
profile_needed_items p q [] = refl
profile_needed_items p q (i ∷ items) =
    ap (λ (b : Bool). b || list_any (needs_profile q) (settled_items p items)) (profile_needed p q i)
    ∙ ap (λ (b : Bool). needs_profile q i || b) (profile_needed_items p q items)
