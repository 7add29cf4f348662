-- What the meters of a packet show where no held state has its key, so that the rules decide.
use Rattle.std.proofs.Common.{◌≡◌, ◌∙◌, ◌-◌, ℕ, Bool, Option, None, Some, Result, Ok, Err, IfOk, OnErr, ap, arith, refl, subst, sym}
use Rattle.std.specs.Prelude.{option_map}
use Rattle.pfs_addr_values.specs.Packets.{PacketView}
use Rattle.pfs_conf_values.specs.Configs.{Conf}
use Rattle.pfs_store_contract.specs.Calls.{state_number}
use Rattle.pfs_store_contract.specs.declared.records.State.{State}
use Rattle.pfs_engine_machine.specs.Looks.{AreLooks, AreLooksBehind, states_beside}
use Rattle.pfs_engine_machine.specs.Machine.{MachineContents}
use Rattle.pfs_engine_machine.specs.Visits.{AreVisits}
use Rattle.pfs_engine_machine.specs.declared.events.Outcome.{Outcome}
use Rattle.pfs_engine.specs.Meters.{AreFirstLooks, AreMetersOf}
use Rattle.pfs_engine_machine.specs.Sides.{state_for}

-- where no number was found, there is no state
pub none_found : (o : Option State) → option_map state_number o ≡ None → o ≡ None
none_found None e = refl
none_found (Some s) e = cc

-- the looks are the first ones, and none behind them
behind_first : {E : Type 0} (r : Result Outcome E) (conf : Conf) (beside : Option State → ℕ) (s : Option State) (first : ℕ) → beside None ≡ 0 → s ≡ None
    → IfOk r (λ o. AreLooks conf 0 o 0) → IfOk r (λ o. AreLooksBehind first (AreLooks conf (beside s) o) first)
behind_first (Err x) conf beside s first at_none none looks = tt
behind_first (Ok o) conf beside s first at_none none looks =
    let left : 0 ≡ first - first = omega arith in
    record {
      first = omega arith;
      others = subst (AreLooks conf (beside s) o) left (subst (λ (n : ℕ). AreLooks conf n o 0) (sym (ap beside none ∙ at_none)) looks);
    }

where_refused : {E : Type 0} (r : Result Outcome E) (first : ℕ) → OnErr r (first ≡ first)
where_refused (Ok o) first = tt
where_refused (Err x) first = refl

pub meters_by_rules : {E : Type 0} (counts : Bool) (conf : Conf) (h met : MachineContents) (p : PacketView) (cookie : Bool) (answer : Result Outcome E) (first compared : ℕ)
    → state_for met.world p ≡ None → AreVisits conf met p cookie None compared → AreFirstLooks counts conf h.world p first
    → IfOk answer (λ o. AreLooks conf 0 o 0) → AreMetersOf counts conf h met p cookie answer compared first
meters_by_rules counts conf h met p cookie answer first compared none visits firsts no_looks = record {
  visits = subst (λ (s : Option State). AreVisits conf met p cookie s compared) (sym none) visits;
  first = first;
  first_looks = firsts;
  looks = record {
    counted = λ on. behind_first answer conf (states_beside conf.profile met.world) (state_for met.world p) first refl none no_looks;
    refused = λ on. where_refused answer first;
    uncounted = λ off. refl;
  };
}
