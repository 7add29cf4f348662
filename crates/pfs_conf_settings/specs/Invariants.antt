-- What the statements of a text that have been read keep: the load rules of each. (not promised)
use Rattle.std.specs.Prelude.{ℕ, ◌≡◌, ◌≤◌, Bool, IfSome, None, List, [], length, All, slice_index_or}
use Rattle.pfs_conf_values.specs.Configs.{table_names}
use Rattle.pfs_conf_values.specs.Invariants.{AreLimits, IsTable}
use Rattle.pfs_conf_values.specs.LoadRules.{IsItem, IsTimeout}
use Rattle.pfs_conf_values.specs.Order.{AreNamedOnce, IsPreorder}
use Rattle.pfs_conf_values.specs.Routes.{AreRoutes}
use Rattle.pfs_conf_values.specs.Syncookies.{AreSyncookies}
use Rattle.pfs_conf_values.specs.declared.tables.TableDef.{TableDef}
use Rattle.pfs_conf_settings.specs.Drafts.{Drafted}

-- tables and the list of their names, by which they are found
pub record IsNaming (keys : List (List ℕ)) (tables : List TableDef) (defined : List Bool) : Type 0 where
  pub names : keys ≡ table_names tables
  pub sizes : length defined ≡ length tables
  pub each : All IsTable tables

-- what holds of a draft after each statement
pub record IsDraft (d : Drafted) : Type 0 where
  pub syncookies : AreSyncookies d.syncookies
  pub routes : AreRoutes d.routes
  pub limits : AreLimits d.limits
  pub timeouts : (place : ℕ) → IfSome (slice_index_or d.timeouts place None) (IsTimeout place)
  pub items : All (IsItem (length d.tables)) d.items
  pub few_items : length d.items ≤ 10000
  pub preorder : IsPreorder 0 d.items
  pub anchors : AreNamedOnce [] d.items
