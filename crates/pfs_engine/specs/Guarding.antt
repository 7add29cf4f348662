-- The guard while an engine works with it: where cookies go on, and which second its secret turns next. (own) (not promised)
use Rattle.std.specs.Prelude.{ℕ, ◌≡◌, ◌≤◌, ◌<◌, ◌-◌, ◌⊎◌, not, true, false, if◌then◌else◌, Option}
use Rattle.pfs_conf_values.specs.Configs.{Conf}
use Rattle.pfs_cookies.specs.Cookies.{out_count}
use Rattle.pfs_engine_machine.specs.Guards.{Guard, are_on, guard_begun, is_turn}

-- cookies are on: they were, or `adaptive` goes on at this moment
abbrev pub guard_on : Conf → Guard → ℕ → Guard
guard_on conf g now = if not (are_on conf.syncookies g.on) then guard_begun g now else g

-- the secret turns at no second after one moment and up to another
abbrev pub HasNoTurn : Option ℕ → ℕ → ℕ → Type 0
HasNoTurn since from to = (second : ℕ) → from < second → second ≤ to → is_turn since second ≡ false

-- it turns at this second after one moment and up to another, and at none before it, unless no cookie is out
pub record IsNextTurn (g : Guard) (from to turn : ℕ) : Type 0 where
  pub later : from < turn
  pub within : turn ≤ to
  pub turns : is_turn g.since turn ≡ true
  pub first : (out_count g.out ≡ 0) ⊎ HasNoTurn g.since from (turn - 1)
