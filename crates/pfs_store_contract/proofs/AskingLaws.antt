-- What a source that asks for a state needs, where the state is refused.
use Rattle.std.specs.Prelude.{ℕ, Option, Some, None}
use Rattle.pfs_addr_values.specs.Packets.{PacketView}
use Rattle.pfs_conf_values.specs.Configs.{Conf}
use Rattle.pfs_store_contract.specs.Calls.{IsAskedFree, IsFreeRefusal}
use Rattle.pfs_store_contract.specs.Worlds.{World}
use Rattle.pfs_store_contract.specs.declared.records.Limit.{Limit}

-- a refusal that takes no memory takes none where it is asked for
pub refused_free : (conf : Conf) (w : World) (p : PacketView) (rule : ℕ) (l : Option Limit) → IsFreeRefusal conf w p rule l → IsAskedFree conf w p.source.addr rule l
refused_free conf w p rule None h = elim h [ ]
refused_free conf w p rule (Some l) h = h
