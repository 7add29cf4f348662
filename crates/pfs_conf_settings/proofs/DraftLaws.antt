-- A draft stays one where an item is pushed that keeps the load rules, and where there are more tables.
use Rattle.std.proofs.Common.{◌≡◌, ◌≤◌, ◌<◌, false, List, [], ◌∷◌, ◌++◌, length, arith, length-append, subst, sym, Ok, Err, OnOk, OnErr}
use Rattle.std.specs.Prelude.{Result}
use Rattle.std.proofs.lemmas.List.Elements.{All-push}
use Rattle.pfs_conf_values.specs.Order.{depth_after, repeats_name}
use Rattle.pfs_conf_settings.specs.Drafts.{Drafted, with_item, with_tables}
use Rattle.pfs_conf_settings.specs.Invariants.{IsDraft}
use Rattle.pfs_conf_values.specs.LoadRules.{IsItem}
use Rattle.pfs_conf_settings.specs.Namings.{Named}
use Rattle.pfs_conf_values.specs.declared.items.Item.{Item}
use Rattle.pfs_conf_settings.proofs.MoreTables.{items-more}
use Rattle.pfs_conf_settings.proofs.OrderLaws.{AreNamedOnce_push, IsPreorder_push}

-- an item that keeps the load rules leaves a draft
pub IsDraft_with_item : (d : Drafted) (i : Item) → IsDraft d → length d.items < 10000 → i.depth ≤ depth_after 0 d.items → IsItem (length d.tables) i
    → repeats_name i d.items ≡ false → IsDraft (with_item i d)
IsDraft_with_item d i k few order item fresh = record {
  syncookies = k.syncookies;
  routes = k.routes;
  limits = k.limits;
  timeouts = k.timeouts;
  items = All-push (IsItem (length d.tables)) d.items i k.items item;
  few_items = omega (arith, length-append d.items (i ∷ []));
  preorder = IsPreorder_push 0 d.items i k.preorder order;
  anchors = AreNamedOnce_push [] d.items i k.anchors fresh;
}

-- and so do more tables
pub IsDraft_with_tables : (d : Drafted) (n : Named) → IsDraft d → length d.tables ≤ length n.tables → IsDraft (with_tables n d)
IsDraft_with_tables d n k more = record {
  syncookies = k.syncookies;
  routes = k.routes;
  limits = k.limits;
  timeouts = k.timeouts;
  items = items-more (length d.tables) (length n.tables) more d.items k.items;
  few_items = k.few_items;
  preorder = k.preorder;
  anchors = k.anchors;
}

-- a draft with other items
abbrev pub with_items : List Item → Drafted → Drafted
with_items items d = record { profile = d.profile; syncookies = d.syncookies; routes = d.routes; limits = d.limits; timeouts = d.timeouts; tables = d.tables; defined = d.defined; items = items }

-- so the items after a push leave a draft, whether it was refused or not
pub IsDraft_pushed : {E : Type 0} (d e : Drafted) (i : Item) (after : List Item) (r : Result (Unit {0}) E) → d ≡ e → IsDraft d
    → length e.items < 10000 → i.depth ≤ depth_after 0 e.items → IsItem (length e.tables) i → repeats_name i e.items ≡ false
    → OnOk r (after ≡ d.items ++ i ∷ []) → OnErr r (after ≡ d.items) → IsDraft (with_items after d)
IsDraft_pushed d e i after (Ok x) same k few order item fresh put kept =
    subst (λ items. IsDraft (with_items items d)) (sym put) (IsDraft_with_item d i k (rw same few) (rw same order) (rw same item) (rw same fresh))
IsDraft_pushed d e i after (Err x) same k few order item fresh put kept = subst (λ items. IsDraft (with_items items d)) (sym kept) k
