-- What keeps the load rules, from a host to all items, keeps them where there are more tables.
use Rattle.std.proofs.Common.{◌≤◌, ℕ, Option, Some, None, IfSome, All, List, arith}
use Rattle.std.proofs.lemmas.List.Elements.{All-weaker}
use Rattle.pfs_conf_values.specs.LoadRules.{AreOptions, IsAction, IsFilter, IsHost, IsItem, IsItemAt, IsSide, IsTableNo}
use Rattle.pfs_conf_values.specs.declared.actions.Action.{Action}
use Rattle.pfs_conf_values.specs.declared.actions.Action.TheVariants as action
use Rattle.pfs_conf_values.specs.declared.actions.Overload.{Overload}
use Rattle.pfs_conf_values.specs.declared.actions.StateOptions.{StateOptions}
use Rattle.pfs_conf_values.specs.declared.filters.Filter.{Filter}
use Rattle.pfs_conf_values.specs.declared.filters.Host.{Host}
use Rattle.pfs_conf_values.specs.declared.filters.Host.TheVariants as host
use Rattle.pfs_conf_values.specs.declared.filters.Side.{Side}
use Rattle.pfs_conf_values.specs.declared.filters.TableNo.{TableNo}
use Rattle.pfs_conf_values.specs.declared.items.Item.{Item}
use Rattle.pfs_conf_values.specs.declared.items.ItemKind.{ItemKind}
use Rattle.pfs_conf_values.specs.declared.items.ItemKind.TheVariants as what

-- Where there are more tables, what names one of the first still does.
module _ (m n : ℕ) (more : m ≤ n) where
  pub host-more : (h : Host TableNo) → IsHost (IsTableNo m) h → IsHost (IsTableNo n) h
  host-more host.Any k = tt
  host-more (host.Prefix p negated) k = k
  host-more (host.Table t negated) k = omega arith

  pub side-more : (s : Side TableNo) → IsSide (IsTableNo m) s → IsSide (IsTableNo n) s
  side-more s k = record { host = host-more s.host k.host; ports = k.ports }

  pub filter-more : (f : Filter) → IsFilter m f → IsFilter n f
  filter-more f k = record {
    on = k.on;
    proto = k.proto;
    source = side-more f.from k.source;
    destination = side-more f.to k.destination;
    flags = k.flags;
    ports = k.ports;
  }

  pub overload-more : (o : Option Overload) → IfSome o (λ v. IsTableNo m v.table) → IfSome o (λ v. IsTableNo n v.table)
  overload-more None k = k
  overload-more (Some v) k = omega arith

  pub options-more : (o : StateOptions) → AreOptions m o → AreOptions n o
  options-more o k = record {
    max = k.max;
    max_src_nodes = k.max_src_nodes;
    max_src_states = k.max_src_states;
    max_src_conn = k.max_src_conn;
    max_src_conn_rate = k.max_src_conn_rate;
    overload = overload-more o.overload k.overload;
    tracked = k.tracked;
    connections = k.connections;
    rule_connections = k.rule_connections;
    rule_retention = k.rule_retention;
    adaptive = k.adaptive;
    no_interval = k.no_interval;
    timeouts = k.timeouts;
    size = k.size;
  }

  pub action-more : (a : Action) → IsAction m a → IsAction n a
  action-more action.Match k = k
  action-more action.Block k = k
  action-more action.Pass k = k
  action-more (action.Keep o) k = options-more o k

  pub what-more : (depth : ℕ) (w : ItemKind) → IsItemAt m depth w → IsItemAt n depth w
  what-more depth (what.Rule r) k = (k.0, record { filter = filter-more r.filter k.1.filter; came = k.1.came; tag = k.1.tag; translating = k.1.translating; action = action-more r.action k.1.action; quick = k.1.quick })
  what-more depth (what.Anchor a) k = (k.0, record { filter = filter-more a.filter k.1.filter; name = k.1.name })

  pub items-more : (items : List Item) → All (IsItem m) items → All (IsItem n) items
  items-more items k = All-weaker (IsItem m) (IsItem n) (λ i. what-more i.depth i.what) items k
