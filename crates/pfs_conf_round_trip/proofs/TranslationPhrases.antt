-- What a rule translates is read again.
use Rattle.std.proofs.Common.{◌≡◌, ◌<◌, ℕ, true, List, ◌++◌, Option, Some, None, IfSome, refl, sym, subst, arith, append_assoc}
use Rattle.std.specs.Prelude.{codes, decimal}
use Rattle.pfs_conf_tokens.specs.declared.keys.Key.TheVariants as key
use Rattle.pfs_conf_tokens.specs.Grammar.{Perhaps, absent, present}
use Rattle.pfs_conf_tokens.specs.Values.{in_word}
use Rattle.pfs_conf_tokens.proofs.ShownLaws.{breaks, decimal_text}
use Rattle.pfs_conf_tokens.proofs.WordKeys.{key_of_NatTo, key_of_Port, key_of_RdrTo, key_of_StaticPort}
use Rattle.pfs_addr_values.specs.Addresses.{addr_text}
use Rattle.pfs_conf_values.specs.LoadRules.{AreNatPorts, IsNatTo, IsRdrTo}
use Rattle.pfs_conf_values.specs.declared.translations.NatPorts.{NatPorts}
use Rattle.pfs_conf_values.specs.declared.translations.NatPorts.TheVariants as nat_ports
use Rattle.pfs_conf_values.specs.declared.translations.NatTo.{NatTo}
use Rattle.pfs_conf_values.specs.declared.translations.RdrTo.{RdrTo}
use Rattle.pfs_conf_values.specs.declared.translations.Translation.{Translation}
use Rattle.pfs_conf_filters.specs.Grammar.{Behind, NatPortsOf, NatToOf, RdrToOf, Says, TranslationOf, given, nat_to, rdr_to, same, usual}
use Rattle.pfs_conf_filters.specs.Values.{port_of, ports_of}
use Rattle.pfs_conf_show.specs.Filters.{nat_ports_text, nat_to_text, rdr_port_text, range_text, rdr_to_text}
use Rattle.pfs_conf_round_trip.proofs.FilterPhrases.{address_says, word_says}
use Rattle.pfs_conf_round_trip.proofs.Numbers.{port_again, ports_again, ports_word}
use Rattle.pfs_conf_round_trip.proofs.Pieces.{at, word, word_between}

nat_ports_read : (p : NatPorts) (line : ℕ) (more : List ℕ) → AreNatPorts p → breaks more ≡ true → NatPortsOf (at line (nat_ports_text p ++ more)) p (at line more)
nat_ports_read nat_ports.Usual line more h b = usual
nat_ports_read (nat_ports.Given p) line more h b =
    let w = decimal p.low ++ range_text p in
    given (word_between line (codes "port") (w ++ more) refl key_of_Port) (word_says ports_of line w more p (ports_word p h) b (ports_again p h))
nat_ports_read nat_ports.Static line more h b = same (word line (codes "static-port") more refl b key_of_StaticPort)

nat_ports_break : (p : NatPorts) (more : List ℕ) → breaks more ≡ true → breaks (nat_ports_text p ++ more) ≡ true
nat_ports_break nat_ports.Usual more b = b
nat_ports_break (nat_ports.Given p) more b = refl
nat_ports_break nat_ports.Static more b = refl

nat_to_behind : (n : NatTo) (line : ℕ) (more : List ℕ) → IsNatTo n → breaks more ≡ true → NatToOf (at line ((addr_text n.addr ++ nat_ports_text n.ports) ++ more)) n (at line more)
nat_to_behind n line more h b =
    let P : List ℕ → Type 0 = λ z. NatToOf (at line z) n (at line more) in
    subst P (sym (append_assoc (addr_text n.addr) (nat_ports_text n.ports) more)) (record {
      mid = at line (nat_ports_text n.ports ++ more);
      addr = address_says line n.addr (nat_ports_text n.ports ++ more) h.addr (nat_ports_break n.ports more b);
      ports = nat_ports_read n.ports line more h.ports b;
    })

pub nat_to_reads : (t : Translation) (n : NatTo) (line : ℕ) (more : List ℕ) → t.nat_to ≡ None → IsNatTo n → breaks more ≡ true
    → TranslationOf t (at line (nat_to_text (Some n) ++ more)) (record t { nat_to = Some n }) (at line more)
nat_to_reads t n line more f h b =
    nat_to f (word_between line (codes "nat-to") ((addr_text n.addr ++ nat_ports_text n.ports) ++ more) refl key_of_NatTo) (nat_to_behind n line more h b)

port_reads : (p : Option ℕ) (line : ℕ) (more : List ℕ) → IfSome p (λ n. n < 65536) → breaks more ≡ true → Perhaps (Behind key.Port (Says (in_word port_of))) (at line (rdr_port_text p ++ more)) p (at line more)
port_reads None line more h b = absent
port_reads (Some p) line more h b =
    present (at line (decimal p ++ more), word_between line (codes "port") (decimal p ++ more) refl key_of_Port, word_says port_of line (decimal p) more p (decimal_text p (omega (arith, h))) b (port_again p h))

port_break : (p : Option ℕ) (more : List ℕ) → breaks more ≡ true → breaks (rdr_port_text p ++ more) ≡ true
port_break None more b = b
port_break (Some p) more b = refl

rdr_to_behind : (r : RdrTo) (line : ℕ) (more : List ℕ) → IsRdrTo r → breaks more ≡ true → RdrToOf (at line ((addr_text r.addr ++ rdr_port_text r.port) ++ more)) r (at line more)
rdr_to_behind r line more h b =
    let P : List ℕ → Type 0 = λ z. RdrToOf (at line z) r (at line more) in
    subst P (sym (append_assoc (addr_text r.addr) (rdr_port_text r.port) more)) (record {
      mid = at line (rdr_port_text r.port ++ more);
      addr = address_says line r.addr (rdr_port_text r.port ++ more) h.addr (port_break r.port more b);
      port = port_reads r.port line more h.port b;
    })

pub rdr_to_reads : (t : Translation) (r : RdrTo) (line : ℕ) (more : List ℕ) → t.rdr_to ≡ None → IsRdrTo r → breaks more ≡ true
    → TranslationOf t (at line (rdr_to_text (Some r) ++ more)) (record t { rdr_to = Some r }) (at line more)
rdr_to_reads t r line more f h b =
    rdr_to f (word_between line (codes "rdr-to") ((addr_text r.addr ++ rdr_port_text r.port) ++ more) refl key_of_RdrTo) (rdr_to_behind r line more h b)

pub nat_to_break : (n : Option NatTo) (more : List ℕ) → breaks more ≡ true → breaks (nat_to_text n ++ more) ≡ true
nat_to_break None more b = b
nat_to_break (Some n) more b = refl

pub rdr_to_break : (r : Option RdrTo) (more : List ℕ) → breaks more ≡ true → breaks (rdr_to_text r ++ more) ≡ true
rdr_to_break None more b = b
rdr_to_break (Some r) more b = refl
