-- A run taken apart, by computation: a purge for each whole second after the first event, before what comes then.
use Rattle.std.proofs.Common.{◌≡◌, ℕ, false, None, List, [], ◌∷◌, refl}
use Rattle.pfs_addr_values.specs.Packets.{PacketView}
use Rattle.pfs_addr_values.specs.declared.packets.Dir.TheVariants.{In}
use Rattle.pfs_addr_values.specs.declared.packets.Endpoint.{Endpoint}
use Rattle.pfs_addr_values.specs.declared.protocols.Proto.TheVariants.{Udp}
use Rattle.pfs_conf_values.specs.Configs.{Conf}
use Rattle.pfs_engine_machine.specs.declared.events.Event.{Event}
use Rattle.pfs_engine_machine.specs.declared.events.Arrival.{Arrival}
use Rattle.pfs_engine_machine.specs.declared.events.Arrival.TheVariants as arrival
use Rattle.pfs_engine_machine.specs.Guards.{syn_alone}
use Rattle.pfs_engine_machine.specs.Machine.{step}
use Rattle.pfs_engine_machine.specs.Acts.{Arrive, Purge, acts_of, purges}

abbrev event : ℕ → Arrival → Event
event time comes = record { time = time; what = comes }

-- UDP, which gets no cookie and brings none
abbrev datagram : Endpoint → PacketView
datagram source = record { dir = In; ifname = []; proto = Udp; source = source; destination = source; flags = record syn_alone { syn = false }; tag = None; came_by = None }

-- a packet at 7, a record that is no packet at 9, and a packet at 10
abbrev three : PacketView → PacketView → List Event
three p q = event 7 (arrival.Packet p) ∷ event 9 arrival.Skip ∷ event 10 (arrival.Packet q) ∷ []

taken_apart : (conf : Conf) (a b : Endpoint) → acts_of conf (three (datagram a) (datagram b))
    ≡ Arrive 7 (datagram a) false ∷ Purge 8 ∷ Purge 9 ∷ Purge 10 ∷ Arrive 10 (datagram b) false ∷ []
unfolding step
taken_apart conf a b = refl

purges_counted : (conf : Conf) (a b : Endpoint) → purges (acts_of conf (three (datagram a) (datagram b))) ≡ 3
unfolding step
purges_counted conf a b = refl
