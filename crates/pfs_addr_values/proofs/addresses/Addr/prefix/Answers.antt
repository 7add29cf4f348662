-- Answer of Addr::prefix: an address with the bits past a length cleared is a prefix of that length.
use Rattle.std.proofs.Common.{sym, subst}
use Rattle.pfs_addr_values.specs.Prefixes.{IsNetwork}
use Rattle.pfs_addr_values.proofs.PrefixLaws.{network_of_is_network}
use Rattle.pfs_addr_values.proofs.addresses.Addr.prefix.Goals as goal

pub invariant_of-result : goal.invariant_of-result
invariant_of-result c =
    subst (λ a. IsNetwork (record { addr = a; bits = c.args.bits })) (sym c.cleared.ensures.value)
    (network_of_is_network c.args.self c.args.bits c.cleared.ensures.addr c.requires)
