-- How many items a packet is compared with. (own)
use Rattle.std.specs.Prelude.{ℕ, ◌≡◌, ◌≤◌, Bool, true, false, Option, Some, None}
use Rattle.pfs_addr_values.specs.Packets.{PacketView}
use Rattle.pfs_eval.specs.Visits.{visit_bound, visit_floor}
use Rattle.pfs_conf_values.specs.Configs.{Conf}
use Rattle.pfs_store_contract.specs.declared.records.State.{State}
use Rattle.pfs_engine_machine.specs.Guards.{Guard, asked, brings_cookie, gets_cookie}
use Rattle.pfs_engine_machine.specs.Machine.{MachineContents, asking_of, held_for}
use Rattle.pfs_engine_machine.specs.Sides.{state_for}

-- with none where it is one of a held state; else, as the packet that rules are asked for, between the floor and the bound
abbrev pub AreVisits : Conf → MachineContents → PacketView → Bool → Option State → ℕ → Type 0
AreVisits conf h p cookie (Some s) visits = visits ≡ 0
AreVisits conf h p cookie None visits =
    (visit_floor (asking_of conf h) (asked p cookie) conf.items ≤ visits) × (visits ≤ visit_bound (asking_of conf h) (asked p cookie) conf.items)

-- with none where it gets a cookie, by whether it does; else by what it meets
abbrev pub AreVisitsUnless : Bool → Conf → MachineContents → PacketView → Bool → ℕ → Type 0
AreVisitsUnless true conf met p cookie visits = visits ≡ 0
AreVisitsUnless false conf met p cookie visits = AreVisits conf met p cookie (state_for met.world p) visits

-- behind the guard
abbrev pub AreVisitsBehindGuard : Conf → Guard → MachineContents → PacketView → ℕ → ℕ → Type 0
AreVisitsBehindGuard conf g h p now visits =
    AreVisitsUnless (gets_cookie conf g h.world p) conf (held_for conf h p now) p (brings_cookie g h.world p) visits
