-- Which words begin once more what the parameters have already: these are reported as repeated. (own) (not promised)
use Rattle.std.specs.Prelude.{Bool, true, false, ◌||◌, Option, Some, None, is_some}
use Rattle.pfs_conf_tokens.specs.declared.keys.Key.{Key}
use Rattle.pfs_conf_tokens.specs.declared.keys.Key.TheVariants as key
use Rattle.pfs_conf_filters.specs.declared.phrases.Verb.{Verb}
use Rattle.pfs_conf_filters.specs.declared.phrases.Verb.TheVariants as verb
use Rattle.pfs_conf_filters.specs.declared.phrases.Parameters.{Parameters}
use Rattle.pfs_conf_filters.specs.Sides.{gives_ports}
use Rattle.pfs_conf_values.specs.declared.translations.NatPorts.{NatPorts}
use Rattle.pfs_conf_values.specs.declared.translations.NatPorts.TheVariants as nat_ports
use Rattle.pfs_conf_values.specs.declared.translations.NatTo.{NatTo}
use Rattle.pfs_conf_values.specs.declared.translations.RdrTo.{RdrTo}
use Rattle.pfs_conf_values.specs.declared.translations.Translation.{Translation}

-- whether a word begins a part that the parameters have already
abbrev pub repeats : Parameters → Key → Bool
repeats p key.In = is_some p.head.dir
repeats p key.Out = is_some p.head.dir
repeats p key.Log = p.head.marks.log
repeats p key.Quick = p.head.marks.quick
repeats p key.On = is_some p.head.on
repeats p key.Inet = is_some p.head.family
repeats p key.Inet6 = is_some p.head.family
repeats p key.Proto = is_some p.head.proto
repeats p key.All = p.hosts.all
repeats p key.From = is_some p.hosts.from
repeats p key.To = is_some p.hosts.to
repeats p key.Port = gives_ports p.hosts
repeats p _ = false

abbrev pub sends_policy : Verb → Bool
sends_policy verb.Pass = false
sends_policy (verb.Block p) = p
sends_policy verb.Match = false

-- whether a word says once more how a packet is blocked
abbrev pub repeats_policy : Verb → Key → Bool
repeats_policy v key.Drop = sends_policy v
repeats_policy v key.Return = sends_policy v
repeats_policy v key.ReturnRst = sends_policy v
repeats_policy v key.ReturnIcmp = sends_policy v
repeats_policy v key.ReturnIcmp6 = sends_policy v
repeats_policy v _ = false

-- whether `nat-to` has ports or `static-port`, and whether `rdr-to` has a port
abbrev pub gives_nat_ports : NatPorts → Bool
gives_nat_ports nat_ports.Usual = false
gives_nat_ports _ = true

abbrev pub says_nat_ports : Option NatTo → Bool
says_nat_ports None = false
says_nat_ports (Some n) = gives_nat_ports n.ports

abbrev pub says_rdr_port : Option RdrTo → Bool
says_rdr_port None = false
says_rdr_port (Some r) = is_some r.port

-- whether a word says once more to which ports a rule translates
abbrev pub repeats_translation : Translation → Key → Bool
repeats_translation t key.Port = says_nat_ports t.nat_to || says_rdr_port t.rdr_to
repeats_translation t key.StaticPort = says_nat_ports t.nat_to
repeats_translation t _ = false
