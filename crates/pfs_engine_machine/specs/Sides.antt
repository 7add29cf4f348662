-- On which side a packet meets what is held: on the wire, or inside, where addresses are translated. (pf.conf(5), TRANSLATION)
use Rattle.std.specs.Prelude.{Bool, if◌then◌else◌, ◌&&◌, Option, is_none, is_some}
use Rattle.pfs_addr_values.specs.Keys.{key_of}
use Rattle.pfs_addr_values.specs.Packets.{PacketView, is_from_inside}
use Rattle.pfs_addr_values.specs.declared.packets.Dir.{Dir}
use Rattle.pfs_addr_values.specs.declared.packets.Dir.TheVariants.{In, Out}
use Rattle.pfs_addr_values.specs.declared.packets.FlowKey.{FlowKey}
use Rattle.pfs_store_contract.specs.Admission.{key_inside, wire_key}
use Rattle.pfs_store_contract.specs.Worlds.{World, inner_key, state_inside, state_with}
use Rattle.pfs_store_contract.specs.declared.records.State.{State}

-- the key of a state that a packet has: the inner one, if it goes out from inside; else that on the wire
abbrev pub met_key : PacketView → State → FlowKey
met_key p s = if is_from_inside p then inner_key s else s.key

-- the state of a packet
abbrev pub state_for : World → PacketView → Option State
state_for w p = if is_from_inside p then state_inside (key_of p) w else state_with (key_of p) w

-- a key is taken on the side that a translation makes: inside of a packet that comes in, on the wire of one that goes out
abbrev pub is_taken_on : World → Dir → FlowKey → Bool
is_taken_on w In key = is_some (state_inside key w)
is_taken_on w Out key = is_some (state_with key w)

-- both keys of the state that a packet makes, which goes on as another, are free
abbrev pub are_free : World → PacketView → PacketView → Bool
are_free w p going = is_none (state_with (wire_key p going) w) && is_none (state_inside (key_inside p going) w)
