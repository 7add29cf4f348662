-- A run as the single things that happen in it, one after another. (own)
use Rattle.std.specs.Prelude.{◌≡◌, ℕ, suc, Bool, if◌then◌else◌, List, [], ◌∷◌, ◌++◌, map}
use Rattle.pfs_addr_values.specs.Packets.{PacketView}
use Rattle.pfs_conf_values.specs.Configs.{Conf}
use Rattle.pfs_store_contract.specs.Purging.{purge}
use Rattle.pfs_store_contract.specs.declared.kills.FromTo.{FromTo}
use Rattle.pfs_engine_machine.specs.Guards.{Guard, brings_cookie, gets_cookie}
use Rattle.pfs_engine_machine.specs.MachineInvariants.{IsWithinLimits}
use Rattle.pfs_engine_machine.specs.Machine.{MachineContents, Machine, answer_to_command, answer_to_kill, answer_to_packet, due, first_moment, held_of, machine_at_moment, start, step}
use Rattle.pfs_engine_machine.specs.declared.events.Command.{Command}
use Rattle.pfs_engine_machine.specs.declared.events.Event.{Event}
use Rattle.pfs_engine_machine.specs.declared.events.Arrival.{Arrival}
use Rattle.pfs_engine_machine.specs.declared.events.Arrival.TheVariants as arrival

-- the purge of a second, a packet that arrives at a moment and brings a cookie, or not, what is done to a table of this number, in
-- a run that began at the first of these moments, at the second, or that the states leave at a moment which go from hosts to hosts
pub data RunAct : Type 0 where
  Purge : ℕ → RunAct
  Arrive : ℕ → PacketView → Bool → RunAct
  Change : ℕ → ℕ → ℕ → Command → RunAct
  Kill : ℕ → FromTo → RunAct

-- what an arrival does to what is held, by the guard and what is held before it: a packet that gets a cookie does nothing to it
abbrev pub arrivals : Conf → Guard → MachineContents → ℕ → ℕ → Arrival → List RunAct
arrivals conf g h first now arrival.Skip = []
arrivals conf g h first now (arrival.Packet p) = if gets_cookie conf g h.world p then [] else Arrive now p (brings_cookie g h.world p) ∷ []
arrivals conf g h first now (arrival.Table table done) = Change first now table.0 done ∷ []
arrivals conf g h first now (arrival.Kill hosts) = Kill now hosts ∷ []
arrivals conf g h first now arrival.HeldQuery = []

-- at the moment of a machine
abbrev pub arrivals_at : Conf → Machine → ℕ → ℕ → Arrival → List RunAct
arrivals_at conf m first now what = arrivals conf m.guard m.held first now what

-- what these events do to what is held by a machine: before each event the purges due
abbrev pub acts_from : Conf → Machine → List Event → List RunAct
acts_from conf m [] = []
acts_from conf m (e ∷ es) =
    map (λ s. Purge s) (due m.last e.time)
    ++ (arrivals_at conf (machine_at_moment conf m e.time) (first_moment m.first e.time) e.time e.what ++ acts_from conf (step conf m e).1 es)

-- from the beginning
abbrev pub acts_of : Conf → List Event → List RunAct
acts_of conf es = acts_from conf (start conf) es

-- what is held after one of them, after all of them, and after the first of a run
abbrev pub act_done : Conf → MachineContents → RunAct → MachineContents
act_done conf h (Purge s) = held_of (purge conf h.world s) h.tables
act_done conf h (Arrive now p cookie) = (answer_to_packet conf h p cookie now).1
act_done conf h (Change first now table done) = (answer_to_command conf h first now table done).1
act_done conf h (Kill now hosts) = (answer_to_kill conf h now hosts).1

abbrev pub acts_done : Conf → MachineContents → List RunAct → MachineContents
acts_done conf h [] = h
acts_done conf h (a ∷ acts) = acts_done conf (act_done conf h a) acts

abbrev pub after : Conf → List RunAct → MachineContents
after conf acts = acts_done conf (start conf).held acts

-- how many purges are among them
abbrev pub purges : List RunAct → ℕ
purges [] = 0
purges (Purge s ∷ acts) = suc (purges acts)
purges (Arrive now p cookie ∷ acts) = purges acts
purges (Change first now table done ∷ acts) = purges acts
purges (Kill now hosts ∷ acts) = purges acts

-- after each purge, each packet that gets no cookie, each command and each kill of a run, what is held is within the limits
abbrev pub StaysWithinLimits : Conf → List Event → Type 0
StaysWithinLimits conf events =
    (earlier later : List RunAct) → acts_of conf events ≡ earlier ++ later → IsWithinLimits conf (after conf earlier)
