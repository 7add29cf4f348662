-- `==` of addresses, protocols, keys and prefixes says yes of equal ones alone, and of each with itself.
use Rattle.std.proofs.Common.{true, ◌≡◌, rules}
use Rattle.pfs_addr_values.specs.Sameness.{same_addr, same_proto, same_key, same_prefix}
use Rattle.pfs_addr_values.specs.declared.addresses.Addr.{Addr}
use Rattle.pfs_addr_values.specs.declared.packets.FlowKey.{FlowKey}
use Rattle.pfs_addr_values.specs.declared.protocols.Proto.{Proto}
use Rattle.pfs_addr_values.specs.declared.prefixes.Prefix.{Prefix}

pub same_addr_true : (a b : Addr) → same_addr a b ≡ true → a ≡ b
same_addr_true a b h = search rules

pub same_addr_self : (a : Addr) → same_addr a a ≡ true
same_addr_self a = search rules

pub same_proto_true : (a b : Proto) → same_proto a b ≡ true → a ≡ b
same_proto_true a b h = search rules

pub same_proto_self : (a : Proto) → same_proto a a ≡ true
same_proto_self a = search rules

pub same_key_true : (a b : FlowKey) → same_key a b ≡ true → a ≡ b
same_key_true a b h = search rules

pub same_key_self : (a : FlowKey) → same_key a a ≡ true
same_key_self a = search rules

pub same_prefix_true : (a b : Prefix) → same_prefix a b ≡ true → a ≡ b
same_prefix_true a b h = search rules

pub same_prefix_self : (a : Prefix) → same_prefix a a ≡ true
same_prefix_self a = search rules
