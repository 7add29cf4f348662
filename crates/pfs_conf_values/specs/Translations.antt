-- What a rule translates, and the family of its addresses. (pf.conf(5), TRANSLATION)
use Rattle.std.specs.Prelude.{◌&&◌, ◌||◌, Bool, true, false, Option, Some, None, is_some, is_none}
use Rattle.std.specs.Option.{option_or}
use Rattle.pfs_addr_values.specs.declared.addresses.Addr.{Addr}
use Rattle.pfs_addr_values.specs.declared.addresses.Addr.TheVariants.{V4, V6}
use Rattle.pfs_addr_values.specs.declared.packets.Dir.{Dir}
use Rattle.pfs_conf_values.specs.declared.filters.Family.{Family}
use Rattle.pfs_conf_values.specs.declared.filters.Family.TheVariants.{Inet, Inet6}
use Rattle.pfs_conf_values.specs.declared.filters.Host.{Host}
use Rattle.pfs_conf_values.specs.declared.filters.Host.TheVariants as host
use Rattle.pfs_conf_values.specs.declared.translations.NatTo.{NatTo}
use Rattle.pfs_conf_values.specs.declared.translations.RdrTo.{RdrTo}
use Rattle.pfs_conf_values.specs.declared.translations.Translation.{Translation}

-- nothing is translated
abbrev pub no_translation : Translation
no_translation = record { nat_to = None; rdr_to = None }

-- whether anything is
abbrev pub translates_by : Translation → Bool
translates_by t = is_some t.nat_to || is_some t.rdr_to

-- ---- families (pf.conf(5), PARAMETERS, "inet" and "inet6")

-- the family of an address
abbrev pub family_of : Addr → Family
family_of (V4 bytes) = Inet
family_of (V6 bytes) = Inet6

-- that of a host which is a prefix; another host may have addresses of both
abbrev pub family_of_host : {T : Type 0} → Host T → Option Family
family_of_host host.Any = None
family_of_host (host.Prefix prefix negated) = Some (family_of prefix.addr)
family_of_host (host.Table table negated) = None

-- that of the address that is put in place of a source, or of a destination
abbrev pub family_of_nat : Option NatTo → Option Family
family_of_nat None = None
family_of_nat (Some n) = Some (family_of n.addr)

abbrev pub family_of_rdr : Option RdrTo → Option Family
family_of_rdr None = None
family_of_rdr (Some r) = Some (family_of r.addr)

-- that of a translation
abbrev pub family_of_translation : Translation → Option Family
family_of_translation t = option_or (family_of_nat t.nat_to) (family_of_rdr t.rdr_to)

-- a translation gives its rule the family, as if it were written (own)
abbrev pub given_family : Option Family → Translation → Option Family
given_family written t = option_or (family_of_translation t) written

-- ---- the load rules of a translation (own)

-- it has neither `in` nor `out`
abbrev pub lacks_way : Option Dir → Translation → Bool
lacks_way dir t = translates_by t && is_none dir

-- a family is given, and is the other one
abbrev pub is_other : Family → Option Family → Bool
is_other Inet (Some Inet6) = true
is_other Inet6 (Some Inet) = true
is_other _ _ = false

-- one of these families, of the rule, its hosts and the address of its `rdr-to`, is another than that of its translation
abbrev pub is_mixed : Option Family → Option Family → Option Family → Option Family → Option Family → Bool
is_mixed None written source destination rdr = false
is_mixed (Some f) written source destination rdr = is_other f written || is_other f source || is_other f destination || is_other f rdr

abbrev pub mixes_families : Option Family → Option Family → Option Family → Translation → Bool
mixes_families written source destination t = is_mixed (family_of_translation t) written source destination (family_of_rdr t.rdr_to)
