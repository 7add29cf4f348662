-- What `==` says of two addresses, protocols, ends, keys or prefixes, as the code compares them.
use Rattle.std.specs.Prelude.{Bool}
use Rattle.pfs_addr_values.specs.declared.addresses.Addr.{Addr}
use Rattle.pfs_addr_values.specs.declared.protocols.Proto.{Proto}
use Rattle.pfs_addr_values.specs.declared.packets.Endpoint.{Endpoint}
use Rattle.pfs_addr_values.specs.declared.packets.FlowKey.{FlowKey}
use Rattle.pfs_addr_values.specs.declared.prefixes.Prefix.{Prefix}
use Rattle.pfs_addr_values.specs.contracts.addresses.AddrPartialEq.TheImpl as addr_eq
use Rattle.pfs_addr_values.specs.contracts.protocols.ProtoPartialEq.TheImpl as proto_eq
use Rattle.pfs_addr_values.specs.contracts.packets.EndpointPartialEq.TheImpl as endpoint_eq
use Rattle.pfs_addr_values.specs.contracts.packets.FlowKeyPartialEq.TheImpl as key_eq
use Rattle.pfs_addr_values.specs.contracts.prefixes.PrefixPartialEq.TheImpl as prefix_eq

-- what `==` says of two addresses
abbrev pub same_addr : Addr → Addr → Bool
same_addr = (addr_eq.ghosts).eq

-- what `==` says of two protocols
abbrev pub same_proto : Proto → Proto → Bool
same_proto = (proto_eq.ghosts).eq

-- what `==` says of two ends
abbrev pub same_end : Endpoint → Endpoint → Bool
same_end = (endpoint_eq.ghosts).eq

-- what `==` says of two keys
abbrev pub same_key : FlowKey → FlowKey → Bool
same_key = (key_eq.ghosts).eq

-- what `==` says of two prefixes
abbrev pub same_prefix : Prefix → Prefix → Bool
same_prefix = (prefix_eq.ghosts).eq
