-- The columns of a row are read as the packet of the row.
use Rattle.std.proofs.Common.{◌≡◌, ◌≤◌, ◌<◌, ◌^◌, ℕ, true, false, Option, Some, None, Ok, [], refl, sym, ap, ◌∙◌, arith}
use Rattle.std.specs.Prelude.{decimal, nat_le}
use Rattle.std.proofs.lemmas.Bool.{cond-true, le-leb}
use Rattle.std.proofs.lemmas.Map.Entries.{option_filter}
use Rattle.pfs_addr_values.specs.Addresses.{addr_text, same_family}
use Rattle.pfs_addr_values.specs.FlagSets.{flags_of, letters_text}
use Rattle.pfs_addr_values.specs.Names.{is_name}
use Rattle.pfs_addr_values.specs.Protocols.{proto_in}
use Rattle.pfs_addr_values.specs.declared.flag_sets.Flags.{Flags}
use Rattle.pfs_addr_values.specs.declared.packets.Dir.{Dir}
use Rattle.pfs_addr_values.specs.declared.packets.Dir.TheVariants.{In, Out}
use Rattle.pfs_addr_values.specs.declared.protocols.Proto.{Proto}
use Rattle.pfs_addr_values.specs.declared.protocols.Proto.TheVariants.{Tcp, Udp, Other}
use Rattle.pfs_addr.specs.Texts.{addr_of}
use Rattle.pfs_addr.proofs.LetterTexts.{flags_again}
use Rattle.pfs_addr.proofs.NumberLaws.{number_of-decimal}
use Rattle.pfs_addr.proofs.ProtocolLaws.{proto_again, proto_known}
use Rattle.pfs_conf_values.specs.Configs.{Conf}
use Rattle.csv.specs.Records.{field_at}
use Rattle.pfs_trace.specs.Events.{dir_of, event_at, falls, flags_for, number_to, port_for, verb_of}
use Rattle.pfs_trace.specs.declared.rows.Row.{Row}
use Rattle.pfs_trace.specs.Rows.{CanSay, IsSaid, dir_name, event_of, port_text, proto_name, row_fields}

number_again : (most n : ℕ) → n ≤ most → most < 10 ^ 10 → number_to most (decimal n) ≡ Some n
number_again most n h small =
    ap (option_filter (λ k. nat_le k most)) (number_of-decimal n (omega arith)) ∙ cond-true (nat_le n most) (Some n) None (le-leb n most h)

dir_again : (d : Dir) → dir_of (dir_name d) ≡ Some d
dir_again In = refl
dir_again Out = refl

no_verb : (d : Dir) → verb_of (dir_name d) ≡ None
no_verb In = refl
no_verb Out = refl

protocol_again : (p : Proto) (from to : ℕ) (flags : Flags) → CanSay p from to flags → proto_in (proto_name p) ≡ Some p
protocol_again Tcp from to flags h = proto_known.0
protocol_again Udp from to flags h = proto_known.1
protocol_again (Other n) from to flags h = proto_again n h.0 h.1 h.2

from_again : (p : Proto) (from to : ℕ) (flags : Flags) → CanSay p from to flags → port_for p (port_text p from) ≡ Some from
from_again Tcp from to flags h = number_again 65535 from h.0 (omega arith)
from_again Udp from to flags h = number_again 65535 from h.0 (omega arith)
from_again (Other n) from to flags h = ap Some (sym h.3)

to_again : (p : Proto) (from to : ℕ) (flags : Flags) → CanSay p from to flags → port_for p (port_text p to) ≡ Some to
to_again Tcp from to flags h = number_again 65535 to h.1 (omega arith)
to_again Udp from to flags h = number_again 65535 to h.1 (omega arith)
to_again (Other n) from to flags h = ap Some (sym h.4)

-- no letters are written where there are no flags
no_letters : (flags : Flags) → flags_of [] ≡ Some flags → letters_text flags ≡ []
no_letters flags e =
    let none : record { fin = false; syn = false; rst = false; psh = false; ack = false; urg = false; ece = false; cwr = false } ≡ flags = cc in
    rw (← none) refl

letters_again : (p : Proto) (from to : ℕ) (flags : Flags) → CanSay p from to flags → flags_for p (letters_text flags) ≡ Some flags
letters_again Tcp from to flags h = flags_again flags
letters_again Udp from to flags h = let none = no_letters flags h.2 in rw none h.2
letters_again (Other n) from to flags h = let none = no_letters flags h.5 in rw none h.5

pub row_again : (row : Row) → same_family row.packet.source.addr row.packet.destination.addr ≡ true → row.second ≤ 4294967295
    → is_name 15 row.packet.ifname ≡ true → IsSaid row.packet
    → addr_of (addr_text row.packet.source.addr) ≡ Some row.packet.source.addr → addr_of (addr_text row.packet.destination.addr) ≡ Some row.packet.destination.addr
    → (conf : Conf) (number : ℕ) (last : Option ℕ) → falls last row.second ≡ false → event_at conf number last (row_fields row) ≡ Ok (event_of row)
unfolding field_at
row_again row same late name said from to conf number last later =
    let p = row.packet.proto in
    let a = row.packet.source.port in
    let b = row.packet.destination.port in
    let f = row.packet.flags in
    rw (number_again 4294967295 row.second late (omega arith), no_verb row.packet.dir, dir_again row.packet.dir, name, protocol_again p a b f said, from, from_again p a b f said, to, same, to_again p a b f said, letters_again p a b f said, later) refl
