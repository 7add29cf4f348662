-- The source of a state, from its direction and the key of the packet that made it. (own) (not promised)
use Rattle.std.specs.Prelude.{◌≡◌, None}
use Rattle.pfs_addr_values.specs.declared.addresses.Addr.{Addr}
use Rattle.pfs_addr_values.specs.declared.packets.Dir.{Dir}
use Rattle.pfs_addr_values.specs.declared.packets.Dir.TheVariants.{In, Out}
use Rattle.pfs_addr_values.specs.declared.packets.FlowKey.{FlowKey}
use Rattle.pfs_store_contract.specs.Leaving.{sent_key}
use Rattle.pfs_store_contract.specs.declared.records.State.{State}

-- the address of the end from which packets of a direction come
abbrev pub source_at : Dir → FlowKey → Addr
source_at In key = key.a.addr
source_at Out key = key.b.addr

-- the source of the state is the end, from which packets of its direction come, of the key of the packet that made it, as it was sent
abbrev pub IsSourced : State → Type 0
IsSourced s = s.source ≡ source_at s.dir (sent_key s)

-- a state as its record keeps it, with that key alone
abbrev pub bare : State → State
bare s = record s { key = sent_key s; inner = None }
