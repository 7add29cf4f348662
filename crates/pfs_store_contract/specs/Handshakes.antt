-- What a completed handshake hits, and which states are killed then. (pf.conf(5), STATEFUL TRACKING OPTIONS, "max-src-conn",
-- "max-src-conn-rate" and "overload"; that the state itself is killed in any case is own)
use Rattle.std.specs.Prelude.{ℕ, ◌*◌, ◌==◌, ◌||◌, not, nat_lt, Bool, false, Option, Some, None}
use Rattle.pfs_addr_values.specs.declared.addresses.Addr.{Addr}
use Rattle.pfs_addr_values.specs.declared.packets.Dir.{Dir}
use Rattle.pfs_conf_values.specs.Configs.{Conf, options_of}
use Rattle.pfs_conf_values.specs.declared.actions.Overload.{Overload}
use Rattle.pfs_conf_values.specs.declared.actions.Rate.{Rate}
use Rattle.pfs_conf_values.specs.declared.actions.Scope.{Scope}
use Rattle.pfs_conf_values.specs.declared.actions.Scope.TheVariants as scope
use Rattle.pfs_conf_values.specs.declared.items.RuleNo.{RuleNo}
use Rattle.pfs_conf_values.specs.declared.profiles.Profile.{Profile}
use Rattle.pfs_store_contract.specs.Counts.{exceeds_maximum, node_scope_of}
use Rattle.pfs_store_contract.specs.Leaving.{is_flushed}
use Rattle.pfs_store_contract.specs.Touching.{connections_in, score_in}
use Rattle.pfs_store_contract.specs.Worlds.{World}
use Rattle.pfs_store_contract.specs.declared.records.State.{State}

-- the connections of a state's source exceed `max-src-conn` of its rule
abbrev pub hits_connections : Conf → World → State → Bool
hits_connections conf w s =
    exceeds_maximum (options_of conf s.rule.0).max_src_conn (connections_in conf s.source w.states (node_scope_of conf s.rule.0))

-- its score exceeds 1000 for each handshake of the rule's rate
abbrev pub over_rate : Option Rate → ℕ → Bool
over_rate None value = false
over_rate (Some rate) value = nat_lt (1000 * rate.limit) value

abbrev pub hits_rate : Conf → World → State → Bool
hits_rate conf w s = over_rate (options_of conf s.rule.0).max_src_conn_rate (score_in s.source w.nodes (node_scope_of conf s.rule.0)).value

-- what a rule flushes
abbrev pub flush_of : Option Overload → Option Scope
flush_of None = None
flush_of (Some o) = o.flush

-- what a rule flushes is flushed with a state of this direction, rule and source: with `flush` the states of its source and rule; with
-- `flush global` those of its source
abbrev pub goes_beside : Profile → Option Scope → Dir → RuleNo → Addr → State → Bool
goes_beside profile None dir rule source s = false
goes_beside profile (Some scope.Rule) dir rule source s = is_flushed profile dir source (Some rule) s
goes_beside profile (Some scope.Global) dir rule source s = is_flushed profile dir source None s

-- a state is killed with that of this number, direction, rule and source: that one itself, and what is flushed with it
abbrev pub goes_with : Profile → Option Scope → ℕ → Dir → RuleNo → Addr → State → Bool
goes_with profile flush number dir rule source s = (s.number == number) || goes_beside profile flush dir rule source s

abbrev pub stays_at_kill : Profile → Option Scope → ℕ → Dir → RuleNo → Addr → State → Bool
stays_at_kill profile flush number dir rule source s = not (goes_with profile flush number dir rule source s)
