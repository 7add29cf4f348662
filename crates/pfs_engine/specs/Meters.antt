-- What meters show of a packet, and the work of purges, while they are done. (own) (not promised)
use Rattle.std.specs.Prelude.{ℕ, ◌≡◌, ◌≤◌, ◌+◌, ◌-◌, not, Bool, true, false, Some, Result, IfOk, OnErr}
use Rattle.pfs_addr_values.specs.Packets.{PacketView}
use Rattle.pfs_addr_values.specs.declared.addresses.Addr.{Addr}
use Rattle.pfs_addr_values.specs.declared.packets.Dir.{Dir}
use Rattle.pfs_conf_values.specs.Configs.{Conf}
use Rattle.pfs_conf_values.specs.declared.actions.Scope.{Scope}
use Rattle.pfs_conf_values.specs.declared.items.RuleNo.{RuleNo}
use Rattle.pfs_conf_values.specs.declared.profiles.Profile.{Profile}
use Rattle.pfs_store_contract.specs.Handshakes.{goes_beside}
use Rattle.pfs_store_contract.specs.Worlds.{World}
use Rattle.pfs_store_contract.specs.declared.records.State.{State}
use Rattle.pfs_engine_machine.specs.Guards.{Guard}
use Rattle.pfs_engine_machine.specs.Looks.{AreLooks, AreLooksBehind, first_looks, looks_before, states_beside}
use Rattle.pfs_engine_machine.specs.Machine.{MachineContents, held_behind_guard}
use Rattle.pfs_engine_machine.specs.Visits.{AreVisits, AreVisitsBehindGuard}
use Rattle.pfs_engine_machine.specs.Sides.{state_for}
use Rattle.pfs_engine_machine.specs.declared.events.Outcome.{Outcome}

-- the looks of a packet behind the guard, by what came of it
abbrev pub AreLooksBehindGuard : Conf → Guard → MachineContents → PacketView → ℕ → ℕ → Outcome → Type 0
AreLooksBehindGuard conf g h p now looks o =
    let met = held_behind_guard conf g h p now in
    AreLooksBehind (looks_before conf g h.world p) (AreLooks conf (states_beside conf.profile met.world (state_for met.world p)) o) looks

-- the looks of a packet behind the first ones, where the store counts them, by what came of it, and none where memory was refused
pub record AreLooksOf {E : Type 0} (counts : Bool) (conf : Conf) (w : World) (p : PacketView) (answer : Result Outcome E) (first looks : ℕ)
    : Type 0 where
  pub counted : counts ≡ true → IfOk answer (λ o. AreLooksBehind first (AreLooks conf (states_beside conf.profile w (state_for w p)) o) looks)
  pub refused : counts ≡ true → OnErr answer (looks ≡ first)
  pub uncounted : counts ≡ false → looks ≡ first

-- the first looks of a packet, where the store counts them
pub record AreFirstLooks (counts : Bool) (conf : Conf) (w : World) (p : PacketView) (looks : ℕ) : Type 0 where
  pub counted : counts ≡ true → looks ≡ first_looks conf p (state_for w p)
  pub uncounted : counts ≡ false → looks ≡ 0

-- what the meters show of a packet that finds this held and meets that, and brings a cookie, or not: the items that it is compared
-- with, and the looks
pub record AreMetersOf {E : Type 0} (counts : Bool) (conf : Conf) (h met : MachineContents) (p : PacketView) (cookie : Bool) (answer : Result Outcome E) (compared looked : ℕ)
    : Type 0 where
  pub visits : AreVisits conf met p cookie (state_for met.world p) compared
  pub first : ℕ
  pub first_looks : AreFirstLooks counts conf h.world p first
  pub looks : AreLooksOf counts conf met.world p answer first looked

-- and of a packet behind the guard
pub record AreMetersBehindGuard {E : Type 0} (counts : Bool) (conf : Conf) (g : Guard) (h : MachineContents) (p : PacketView) (now : ℕ) (answer : Result Outcome E) (compared looked : ℕ)
    : Type 0 where
  pub visits : AreVisitsBehindGuard conf g h p now compared
  pub looks : counts ≡ true → IfOk answer (AreLooksBehindGuard conf g h p now looked)
  pub no_looks : counts ≡ true → OnErr answer (looked ≡ looks_before conf g h.world p)
  pub uncounted : counts ≡ false → looked ≡ 0

-- the looks after those up to the one at the packet's own state, where the store counts them
pub record AreFurtherLooks (counts : Bool) (before after : ℕ) (AreLooksNow : ℕ → Type 0) : Type 0 where
  pub counted : counts ≡ true → 1 ≤ before → AreLooksBehind (before - 1) AreLooksNow after
  pub uncounted : counts ≡ false → after ≡ before

-- those stay which are not flushed with a state of this direction, rule and source
abbrev pub stays_beside : Profile → Scope → Dir → RuleNo → Addr → State → Bool
stays_beside profile scope dir rule source s = not (goes_beside profile (Some scope) dir rule source s)

-- the looks of a flush that leaves so many states of so many: at least one for each that it takes out, and at most one for each of those of
-- the source, where the store counts them
pub record AreLooksOfFlush (counts : Bool) (before after held left of_source : ℕ) : Type 0 where
  pub least : counts ≡ true → before + (held - left) ≤ after
  pub most : counts ≡ true → after ≤ before + of_source
  pub uncounted : counts ≡ false → after ≡ before
