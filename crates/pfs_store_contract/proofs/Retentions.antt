-- No retention is past the greatest number of seconds, so none goes past what a moment can be.
use Rattle.std.proofs.Common.{◌≤◌, ◌==◌, ℕ, Bool, true, false, Option, Some, None, IfSome, length, max, unwrap_or, if◌then◌else◌, refl, arith}
use Rattle.pfs_conf_values.proofs.RuleLaws.{options_of-AreOptions}
use Rattle.pfs_conf_values.specs.Bounds.{IsRate}
use Rattle.pfs_conf_values.specs.Configs.{Conf, options_of, rate_seconds, rule_retention, src_track_or, timeout_of}
use Rattle.pfs_conf_values.specs.Invariants.{IsConfig}
use Rattle.pfs_conf_values.specs.LoadRules.{AreOptions, IsTimeout}
use Rattle.pfs_conf_values.specs.Timeouts.{place_of}
use Rattle.pfs_conf_values.specs.declared.actions.Rate.{Rate}
use Rattle.pfs_conf_values.specs.declared.actions.StateOptions.{StateOptions}
use Rattle.pfs_conf_values.specs.declared.profiles.Profile.{Profile}
use Rattle.pfs_conf_values.specs.declared.profiles.Profile.TheVariants as profile
use Rattle.pfs_conf_values.specs.declared.timeouts.TimeoutName.TheVariants as timeout
use Rattle.pfs_store_contract.specs.Leaving.{node_retention}
use Rattle.pfs_store_contract.specs.declared.records.NodeScope.{NodeScope}
use Rattle.pfs_store_contract.specs.declared.records.NodeScope.TheVariants as node_scope

-- by the greater of two numbers, neither of which is past a third
greater : (a b most : ℕ) → a ≤ most → b ≤ most → max a b ≤ most
greater a b most h k = omega (arith, h, k)

given : (o : Option ℕ) (value : ℕ) → value ≤ 2147483647 → IfSome o (IsTimeout (place_of timeout.SrcTrack)) → unwrap_or o value ≤ 2147483647
given None value h k = h
given (Some n) value h k = k.1

rated : (rate : Option Rate) → IfSome rate IsRate → rate_seconds rate ≤ 2147483647
rated None k = omega arith
rated (Some r) (h, i, j, k) = k

of_rule : (p : Profile) (global : ℕ) (o : StateOptions) (tables : ℕ) → global ≤ 2147483647 → AreOptions tables o → rule_retention p global o ≤ 2147483647
of_rule p global o tables h kept = by p
  where
    own : (value : ℕ) → value ≤ 2147483647 → max (src_track_or value o) (rate_seconds o.max_src_conn_rate) ≤ 2147483647
    own value k =
        greater (src_track_or value o) (rate_seconds o.max_src_conn_rate) 2147483647
        (given _ value k (kept.timeouts (place_of timeout.SrcTrack))) (rated o.max_src_conn_rate kept.max_src_conn_rate)

    chosen : (b : Bool) (value : ℕ) → value ≤ 2147483647 → (if b then global else value) ≤ 2147483647
    chosen true value k = h
    chosen false value k = k

    by : (p : Profile) → rule_retention p global o ≤ 2147483647
    by profile.Own = own global h
    by profile.OpenBsd74 =
        let most : ℕ = max (src_track_or 0 o) (rate_seconds o.max_src_conn_rate) in
        chosen (most == 0) most (own 0 (omega arith))

pub retention-most : (conf : Conf) → IsConfig conf → (scope : NodeScope) → node_retention conf scope ≤ 2147483647
retention-most conf sound (node_scope.Rule rule) =
    of_rule conf.profile (timeout_of conf timeout.SrcTrack) (options_of conf rule.0) (length conf.tables)
    (sound.seconds timeout.SrcTrack refl) (options_of-AreOptions conf sound rule.0)
retention-most conf sound node_scope.Global = sound.seconds timeout.SrcTrack refl
