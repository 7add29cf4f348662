-- Laws of the guard: which packets get a cookie, and which bring one.
use Rattle.std.proofs.Common.{◌≡◌, ◌&&◌, ◌||◌, not, Bool, true, false, refl}
use Rattle.std.specs.Prelude.{is_none}
use Rattle.std.proofs.lemmas.Bool.{and_parts, false≢true}
use Rattle.pfs_addr_values.specs.Keys.{key_of}
use Rattle.pfs_addr_values.specs.Packets.{PacketView}
use Rattle.pfs_addr_values.specs.declared.flag_sets.Flags.{Flags}
use Rattle.pfs_addr_values.specs.declared.packets.Dir.{Dir}
use Rattle.pfs_addr_values.specs.declared.packets.Dir.TheVariants as dir
use Rattle.pfs_addr_values.specs.declared.protocols.Proto.{Proto}
use Rattle.pfs_addr_values.specs.declared.protocols.Proto.TheVariants as proto
use Rattle.pfs_conf_values.specs.Configs.{Conf}
use Rattle.pfs_cookies.specs.Cookies.{has_cookie}
use Rattle.pfs_store_contract.specs.Admission.{asks_in}
use Rattle.pfs_store_contract.specs.Worlds.{World, state_with}
use Rattle.pfs_engine_machine.specs.Guards.{Guard, answers_in, are_on, brings_cookie, gets_cookie, is_flooded}

-- a packet that brings a cookie is one of TCP
abbrev pub IsTcpWith : Bool → Proto → Type 0
IsTcpWith cookie protocol = cookie ≡ true → protocol ≡ proto.Tcp

answers-tcp : (d : Dir) (protocol : Proto) (flags : Flags) → answers_in d protocol flags ≡ true → protocol ≡ proto.Tcp
answers-tcp dir.In proto.Tcp flags e = refl
answers-tcp dir.Out proto.Tcp flags e = absurd (false≢true e)
answers-tcp dir.In proto.Udp flags e = absurd (false≢true e)
answers-tcp dir.Out proto.Udp flags e = absurd (false≢true e)
answers-tcp dir.In (proto.Other n) flags e = absurd (false≢true e)
answers-tcp dir.Out (proto.Other n) flags e = absurd (false≢true e)

brought-answers : (g : Guard) (w : World) (p : PacketView) → brings_cookie g w p ≡ true → answers_in p.dir p.proto p.flags ≡ true
brought-answers g w p e =
    let none = is_none (state_with (key_of p) w) in
    (and_parts (answers_in p.dir p.proto p.flags) none (and_parts (answers_in p.dir p.proto p.flags && none) (has_cookie g.out (key_of p)) e).0).0

pub brought-tcp : (g : Guard) (w : World) (p : PacketView) → IsTcpWith (brings_cookie g w p) p.proto
brought-tcp g w p e = answers-tcp p.dir p.proto p.flags (brought-answers g w p e)

answers-ack : (d : Dir) (protocol : Proto) (flags : Flags) → answers_in d protocol flags ≡ true → flags.ack ≡ true
answers-ack dir.In proto.Tcp flags e = (and_parts flags.ack (not (flags.syn || flags.rst)) e).0
answers-ack dir.Out proto.Tcp flags e = absurd (false≢true e)
answers-ack dir.In proto.Udp flags e = absurd (false≢true e)
answers-ack dir.Out proto.Udp flags e = absurd (false≢true e)
answers-ack dir.In (proto.Other n) flags e = absurd (false≢true e)
answers-ack dir.Out (proto.Other n) flags e = absurd (false≢true e)

pub brought-ack : (g : Guard) (w : World) (p : PacketView) → brings_cookie g w p ≡ true → p.flags.ack ≡ true
brought-ack g w p e = answers-ack p.dir p.proto p.flags (brought-answers g w p e)

-- one that asks for a connection has no ACK
asks-alone : (d : Dir) (protocol : Proto) (flags : Flags) → asks_in d protocol flags ≡ true → flags.ack ≡ false
asks-alone dir.In proto.Tcp flags e = unset flags.ack (and_parts flags.syn (not flags.ack) e).1
  where
    unset : (b : Bool) → not b ≡ true → b ≡ false
    unset true k = absurd (false≢true k)
    unset false k = refl
asks-alone dir.Out proto.Tcp flags e = absurd (false≢true e)
asks-alone dir.In proto.Udp flags e = absurd (false≢true e)
asks-alone dir.Out proto.Udp flags e = absurd (false≢true e)
asks-alone dir.In (proto.Other n) flags e = absurd (false≢true e)
asks-alone dir.Out (proto.Other n) flags e = absurd (false≢true e)

pub gets-asks : (conf : Conf) (g : Guard) (w : World) (p : PacketView) → gets_cookie conf g w p ≡ true → asks_in p.dir p.proto p.flags ≡ true
gets-asks conf g w p e = (and_parts (asks_in p.dir p.proto p.flags) (are_on conf.syncookies g.on || is_flooded conf w conf.syncookies) e).0

pub gets-alone : (conf : Conf) (g : Guard) (w : World) (p : PacketView) → gets_cookie conf g w p ≡ true → p.flags.ack ≡ false
gets-alone conf g w p e = asks-alone p.dir p.proto p.flags (gets-asks conf g w p e)
