-- The bounds of a rule's numbers: timeouts, rates and adaptive pairs; where ports may be asked for; and whose sources
-- are shared. (pf.conf(5), OPTIONS and STATEFUL TRACKING OPTIONS)
use Rattle.std.specs.Prelude.{ℕ, ◌≤◌, ◌&&◌, ◌==◌, not, nat_le, nat_lt, Bool, true, false, if◌then◌else◌, Option, Some, None}
use Rattle.pfs_addr_values.specs.Protocols.{has_ports}
use Rattle.pfs_addr_values.specs.declared.protocols.Proto.{Proto}
use Rattle.pfs_conf_values.specs.declared.actions.Rate.{Rate}
use Rattle.pfs_conf_values.specs.declared.actions.Scope.{Scope}
use Rattle.pfs_conf_values.specs.declared.actions.Scope.TheVariants as scope

-- the least value that can be given for the timeout at this place: 1 for `interval`
abbrev pub least_timeout : ℕ → ℕ
least_timeout place = if place == 13 then 1 else 0

-- the greatest: the last two count states, the others are seconds
abbrev pub greatest_timeout : ℕ → ℕ
greatest_timeout place = if nat_lt place 14 then 2147483647 else 4294967295

-- `max-src-conn-rate N/S`: N 1 to 4294967, S 1 to 2147483647
abbrev pub IsRate : Rate → Type 0
IsRate r = (1 ≤ r.limit) × (r.limit ≤ 4294967) × (1 ≤ r.seconds) × (r.seconds ≤ 2147483647)

-- whether a protocol is asked for, and has ports: `proto tcp` or `proto udp`, by name or by number
abbrev pub asks_ports : Option Proto → Bool
asks_ports None = false
asks_ports (Some p) = has_ports p

-- whether the rule's source nodes are shared with other rules
abbrev pub is_global : Option Scope → Bool
is_global (Some scope.Global) = true
is_global _ = false

-- one adaptive value of a rule without the other, or not 1 <= start < end
abbrev pub broken_rule_pair : Option ℕ → Option ℕ → Bool
broken_rule_pair None None = false
broken_rule_pair (Some start) (Some end) = not (nat_le 1 start && nat_lt start end)
broken_rule_pair _ _ = true
