-- What every state clause that is read keeps: each option is within its bounds. (own) (not promised)
use Rattle.std.specs.Prelude.{◌≡◌, ℕ, true, None, IfSome, length, slice_index_or}
use Rattle.pfs_conf_values.specs.LoadRules.{IsCount, IsTimeout}
use Rattle.pfs_conf_values.specs.Bounds.{IsRate}
use Rattle.pfs_addr_values.specs.Names.{is_name}
use Rattle.pfs_conf_values.specs.declared.timeouts.TimeoutName.TheVariants as timeout
use Rattle.pfs_conf_options.specs.declared.clauses.Options.{Options}
use Rattle.pfs_conf_options.specs.Options.{given_for}

-- options within their bounds, without `interval`: what every state clause that is read has
pub record AreRead (o : Options) : Type 0 where
  pub max : IfSome o.max IsCount
  pub max_src_nodes : IfSome o.max_src_nodes IsCount
  pub max_src_states : IfSome o.max_src_states IsCount
  pub max_src_conn : IfSome o.max_src_conn IsCount
  pub max_src_conn_rate : IfSome o.max_src_conn_rate IsRate
  pub overload : IfSome o.overload (λ v. is_name 31 v.table ≡ true)
  pub no_interval : given_for timeout.Interval o ≡ None
  pub timeouts : (place : ℕ) → IfSome (slice_index_or o.timeouts place None) (IsTimeout place)
  pub size : length o.timeouts ≡ 16
