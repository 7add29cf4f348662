-- Tables by their names: a new one after the others, the number of each, and one put in another's place.
use Rattle.std.proofs.Common.{◌≡◌, ◌∙◌, ◌<◌, ◌+◌, ◌||◌, ℕ, suc, Bool, true, false, not, nat_lt, subst, List, [], ◌∷◌, ◌++◌, length, get_or, set, refl, ap, sym, arith, length-append, None}
use Rattle.std.specs.List.{IsDistinct, list_any, position_or_len}
use Rattle.std.specs.Prelude.{position}
use Rattle.std.specs.Str.{bytes_eq}
use Rattle.std.proofs.lemmas.Bool.{cond-false, cond-true, false≢true, lt-ltb}
use Rattle.std.proofs.lemmas.List.{get_or_push, length-map, length-set, map-set, map_push, set-get_or}
use Rattle.std.proofs.lemmas.List.Elements.{All-push, All-set}
use Rattle.std.proofs.lemmas.Slice.Eq.{bytes_eq-Decides}
use Rattle.indexmap.specs.IndexSet.{insert_key}
use Rattle.pfs_addr_values.specs.Names.{is_name}
use Rattle.pfs_conf_values.specs.Configs.{table_names}
use Rattle.pfs_conf_values.specs.Invariants.{IsTable}
use Rattle.pfs_conf_settings.specs.Invariants.{IsNaming}
use Rattle.pfs_conf_settings.specs.Namings.{Named, is_named, naming, place_in, undefined_table}
use Rattle.pfs_conf_values.specs.declared.tables.TableDef.{TableDef}

-- a table without entries
pub undefined_table_IsTable : (name : List ℕ) → is_name 31 name ≡ true → IsTable (undefined_table name)
unfolding IsDistinct
undefined_table_IsTable name h = record { name = h; networks = λ k d l. absurd (omega arith); distinct = tt }

-- a table of a new name after the others
pub IsNaming_push : (keys : List (List ℕ)) (tables : List TableDef) (defined : List Bool) (name : List ℕ)
    → IsNaming keys tables defined → is_named name tables ≡ false → is_name 31 name ≡ true
    → IsNaming (insert_key bytes_eq keys name) (tables ++ undefined_table name ∷ []) (defined ++ false ∷ [])
IsNaming_push keys tables defined name k fresh good = record {
  names =
      cond-false (list_any (bytes_eq name) keys) _ _ (ap (λ ks. list_any (bytes_eq name) ks) k.names ∙ fresh)
      ∙ ap (λ ks. ks ++ name ∷ []) k.names ∙ sym (map_push (λ (t : TableDef). t.name) tables (undefined_table name));
  sizes = let s = k.sizes in omega (arith, length-append defined (false ∷ []), length-append tables (undefined_table name ∷ []));
  each = All-push IsTable tables (undefined_table name) k.each (undefined_table_IsTable name good);
}

-- where a name is among others, its first place is one of it
place_found : (name : List ℕ) (ks : List (List ℕ)) → list_any (bytes_eq name) ks ≡ true
    → (position_or_len (bytes_eq name) ks < length ks) × (get_or ks (position_or_len (bytes_eq name) ks) [] ≡ name)
place_found name [] h = absurd (false≢true h)
place_found name (k ∷ ks) h = go (bytes_eq name k) refl (place_found name ks)
  where
    Is : ℕ → Type 0
    Is n = (n < length (k ∷ ks)) × (get_or (k ∷ ks) n [] ≡ name)

    go : (b : Bool) → bytes_eq name k ≡ b
        → (list_any (bytes_eq name) ks ≡ true → (position_or_len (bytes_eq name) ks < length ks) × (get_or ks (position_or_len (bytes_eq name) ks) [] ≡ name))
        → (position_or_len (bytes_eq name) (k ∷ ks) < length (k ∷ ks)) × (get_or (k ∷ ks) (position_or_len (bytes_eq name) (k ∷ ks)) [] ≡ name)
    go true e rest =
        let at : 0 ≡ position_or_len (bytes_eq name) (k ∷ ks) = sym (cond-false (not (bytes_eq name k)) (1 + position_or_len (bytes_eq name) ks) 0 (ap not e)) in
        subst (λ n. (n < length (k ∷ ks)) × (get_or (k ∷ ks) n [] ≡ name)) at (omega arith, sym ((bytes_eq-Decides name k).0 e))
    go false e rest =
        let found = rest (sym (ap (λ b. b || list_any (bytes_eq name) ks) e) ∙ h) in
        let at : suc (position_or_len (bytes_eq name) ks) ≡ position_or_len (bytes_eq name) (k ∷ ks) =
        (omega arith) ∙ sym (cond-true (not (bytes_eq name k)) (1 + position_or_len (bytes_eq name) ks) 0 (ap not e)) in
        subst (λ n. (n < length (k ∷ ks)) × (get_or (k ∷ ks) n [] ≡ name)) at (omega arith, found.1)

-- else it is after them
place_fresh : (name : List ℕ) (ks : List (List ℕ)) → list_any (bytes_eq name) ks ≡ false → position_or_len (bytes_eq name) ks ≡ length ks
place_fresh name [] h = refl
place_fresh name (k ∷ ks) h = go (bytes_eq name k) refl (place_fresh name ks)
  where
    go : (b : Bool) → bytes_eq name k ≡ b → (list_any (bytes_eq name) ks ≡ false → position_or_len (bytes_eq name) ks ≡ length ks)
        → position_or_len (bytes_eq name) (k ∷ ks) ≡ length (k ∷ ks)
    go true e rest = absurd (false≢true (sym h ∙ ap (λ b. b || list_any (bytes_eq name) ks) e))
    go false e rest =
        let behind = rest (sym (ap (λ b. b || list_any (bytes_eq name) ks) e) ∙ h) in
        cond-true (not (bytes_eq name k)) (1 + position_or_len (bytes_eq name) ks) 0 (ap not e) ∙ (omega arith)

-- a name that no key is, is not found
pub fresh_None : (name : List ℕ) (ks : List (List ℕ)) → position (bytes_eq name) ks ≡ None → list_any (bytes_eq name) ks ≡ false
fresh_None name ks h = go (list_any (bytes_eq name) ks) refl
  where
    go : (b : Bool) → list_any (bytes_eq name) ks ≡ b → list_any (bytes_eq name) ks ≡ false
    go false e = e
    go true e =
        let found = place_found name ks e in
        absurd (let some = sym (cond-true (nat_lt (position_or_len (bytes_eq name) ks) (length ks)) _ _ (lt-ltb _ _ found.0)) ∙ h in cc)

-- the number of a new name
pub place_in_fresh : (name : List ℕ) (tables : List TableDef) → is_named name tables ≡ false → place_in name tables ≡ length tables
place_in_fresh name tables h = place_fresh name (table_names tables) h ∙ length-map tables (λ (t : TableDef). t.name)

-- once a name is used, its number is that of a table of this name
pub record IsPlaced (name : List ℕ) (number : ℕ) (tables : List TableDef) : Type 0 where
  pub within : number < length tables
  pub named : get_or (table_names tables) number [] ≡ name

pub naming_IsPlaced : (name : List ℕ) (n : Named) → IsPlaced name (place_in name n.tables) (naming name n).tables
naming_IsPlaced name n = go (is_named name n.tables) refl
  where
    Placed : Named → Type 0
    Placed m = IsPlaced name (place_in name n.tables) m.tables

    go : (b : Bool) → is_named name n.tables ≡ b → IsPlaced name (place_in name n.tables) (naming name n).tables
    go true e =
        let found = place_found name (table_names n.tables) e in
        subst (λ (m : Named). IsPlaced name (place_in name n.tables) m.tables) (sym (cond-true (is_named name n.tables) n _ e))
        (record { within = omega (arith, found.0, length-map n.tables (λ (t : TableDef). t.name)); named = found.1 })
    go false e =
        let at = place_in_fresh name n.tables e in
        subst (λ (m : Named). IsPlaced name (place_in name n.tables) m.tables) (sym (cond-false (is_named name n.tables) n _ e))
        (record {
          within = omega (arith, at, length-append n.tables (undefined_table name ∷ []));
          named =
              ap (λ ks. get_or ks (place_in name n.tables) []) (map_push (λ (t : TableDef). t.name) n.tables (undefined_table name))
              ∙ get_or_push (table_names n.tables) name [] (place_in name n.tables) (length-map n.tables (λ (t : TableDef). t.name) ∙ sym at);
        })

-- a table takes the place of one of its name
pub IsNaming_set : (keys : List (List ℕ)) (tables : List TableDef) (defined : List Bool) (number : ℕ) (t : TableDef)
    → IsNaming keys tables defined → IsTable t → IsPlaced t.name number tables → IsNaming keys (set tables number t) (set defined number true)
IsNaming_set keys tables defined number t k good placed = record {
  names =
      k.names
      ∙ sym (map-set (λ (x : TableDef). x.name) tables number t
      ∙ ap (set (table_names tables) number) (sym placed.named)
      ∙ set-get_or (table_names tables) number []);
  sizes = length-set defined number true ∙ k.sizes ∙ sym (length-set tables number t);
  each = All-set IsTable tables number t good k.each;
}
