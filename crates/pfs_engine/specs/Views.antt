-- What an engine is to its callers, and what it keeps.
use Rattle.std.specs.Prelude.{ℕ, ◌≤◌, ◌<◌, ◌^◌, Option}
use Rattle.pfs_addr_values.specs.Packets.{PacketView, run_limit}
use Rattle.pfs_conf_values.specs.Configs.{Conf}
use Rattle.pfs_conf_values.specs.Invariants.{IsConfig}
use Rattle.pfs_engine_machine.specs.Guards.{Guard}
use Rattle.pfs_engine_machine.specs.MachineInvariants.{IsKept, moment_of}
use Rattle.pfs_engine_machine.specs.Machine.{MachineContents, Machine}
use Rattle.pfs_engine.specs.declared.works.Work.{Work}

-- the machine of what is held, of the guard before it, and of a first and a last moment
abbrev pub machine_at : MachineContents → Guard → Option ℕ → Option ℕ → Machine
machine_at held guard first last = record { held = held; guard = guard; first = first; last = last }

-- the configuration, the machine, how many packets were answered, the packet of the latest event as it goes on, and the work of the latest
-- call
pub record View : Type 0 where
  pub config : Conf
  pub machine : Machine
  pub taken : ℕ
  pub going : Option PacketView
  pub work : Work

-- the configuration keeps the load rules, and the machine what it is to keep; moments are those of a trace
pub record IsWhole (conf : Conf) (machine : Machine) (taken : ℕ) : Type 0 where
  pub kept : IsKept conf machine.held (moment_of machine.last)
  pub made : machine.held.world.made ≤ taken
  pub few : taken ≤ run_limit
  pub moments : moment_of machine.first ≤ moment_of machine.last
  pub early : moment_of machine.last < 2 ^ 32
  pub config : IsConfig conf
