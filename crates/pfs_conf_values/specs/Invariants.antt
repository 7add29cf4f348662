-- What every configuration keeps: the load rules.
use Rattle.std.specs.Prelude.{ℕ, ◌≡◌, ◌<◌, ◌≤◌, ◌^◌, Bool, true, false, [], length, map, All}
use Rattle.std.specs.List.{IsDistinct, list_any}
use Rattle.std.specs.Str.{bytes_eq}
use Rattle.pfs_addr_values.specs.Names.{is_name}
use Rattle.pfs_addr_values.specs.Prefixes.{IsNetwork}
use Rattle.pfs_conf_values.specs.Configs.{Conf, entries_in, entry_count_of, is_adaptive, needs_profile, overloads_const, table_names, timeout_of, translates}
use Rattle.pfs_conf_values.specs.Entries.{TextEntry, same_network}
use Rattle.pfs_conf_values.specs.Hashing.{hasher_of}
use Rattle.pfs_conf_values.specs.LoadRules.{IsCount, IsItem}
use Rattle.pfs_conf_values.specs.Order.{AreNamedOnce, IsPreorder}
use Rattle.pfs_conf_values.specs.Routes.{AreRoutes, routes_need_profile}
use Rattle.pfs_conf_values.specs.Settled.{settled_items}
use Rattle.pfs_conf_values.specs.Syncookies.{AreSyncookies, need_profile}
use Rattle.pfs_conf_values.specs.declared.hashing.RulesHasher.{RulesHasher}
use Rattle.pfs_conf_values.specs.declared.limits.Limits.{Limits}
use Rattle.pfs_conf_values.specs.declared.tables.TableDef.{TableDef}
use Rattle.pfs_conf_values.specs.declared.timeouts.TimeoutName.{TimeoutName}
use Rattle.pfs_conf_values.specs.declared.timeouts.TimeoutName.TheVariants as timeout

-- the limits of a text
pub record AreLimits (limits : Limits) : Type 0 where
  pub states : IsCount limits.states
  pub src_nodes : IsCount limits.src_nodes
  pub tables : IsCount limits.tables
  pub table_entries : IsCount limits.table_entries

-- whether a timeout is a number of seconds; the adaptive two are numbers of states
abbrev pub is_seconds : TimeoutName → Bool
is_seconds timeout.AdaptiveStart = false
is_seconds timeout.AdaptiveEnd = false
is_seconds _ = true

-- a table: a name, and entries of which no two have the same prefix
pub record IsTable (t : TableDef) : Type 0 where
  pub name : is_name 31 t.name ≡ true
  pub networks : All (λ (e : TextEntry). IsNetwork e.0) t.entries
  pub distinct : IsDistinct same_network (map (λ (e : TextEntry). e.0) t.entries)

-- what every configuration keeps (the load rules)
pub record IsConfig (conf : Conf) : Type 0 where
  pub syncookies : AreSyncookies conf.syncookies
  pub routes : AreRoutes conf.routes
  pub limits : AreLimits conf.limits
  pub size : length conf.timeouts ≡ 16
  pub seconds : (name : TimeoutName) → is_seconds name ≡ true → timeout_of conf name ≤ 2147483647
  pub interval : 1 ≤ timeout_of conf timeout.Interval
  pub adaptive : is_adaptive (timeout_of conf timeout.AdaptiveStart) (timeout_of conf timeout.AdaptiveEnd) ≡ true
  pub adaptive_end : timeout_of conf timeout.AdaptiveEnd < 2 ^ 33
  pub tables : All IsTable conf.tables
  pub names : IsDistinct bytes_eq (table_names conf.tables)
  pub few_tables : length conf.tables ≤ conf.limits.tables
  pub few_entries : entries_in conf.tables ≤ conf.limits.table_entries
  pub items : All (IsItem (length conf.tables)) conf.items
  pub few_items : length conf.items ≤ 10000
  pub preorder : IsPreorder 0 conf.items
  pub anchors : AreNamedOnce [] conf.items
  pub overloads : list_any (overloads_const conf.tables) conf.items ≡ false
  pub cookies_profiled : need_profile conf.profile conf.syncookies ≡ false
  pub routes_profiled : routes_need_profile conf.profile conf.routes ≡ false
  pub profiled : list_any (needs_profile conf.profile) conf.items ≡ false
  pub settled : settled_items conf.profile conf.items ≡ conf.items

-- a configuration, beside which are the count of its entries, whether it translates, and its hasher
pub record IsConfigKept (entries : ℕ) (translating : Bool) (hasher : RulesHasher) (conf : Conf) : Type 0 where
  pub config : IsConfig conf
  pub count : entries ≡ entry_count_of conf
  pub translates : translating ≡ translates conf
  pub begun : hasher.begun ≡ hasher_of conf
