-- Where a capture was taken, and which addresses are behind that interface. (own)
use Rattle.std.specs.Prelude.{ℕ, Bool, not, List, [], ◌∷◌, Option, Some, None, if◌then◌else◌, option_and_then}
use Rattle.std.specs.List.{list_any}
use Rattle.std.specs.Str.{bytes_eq}
use Rattle.pfs_addr_values.specs.Prefixes.{Network, covers}
use Rattle.pfs_addr_values.specs.declared.addresses.Addr.{Addr}
use Rattle.pfs_capture_packets.specs.declared.ways.Mac.{Mac}
use Rattle.pfs_capture.specs.declared.points.InterfaceSide.{InterfaceSide}
use Rattle.pfs_capture.specs.declared.points.InterfaceSide.TheVariants.{Behind, InFront}

-- an interface by its name, its addresses on its link, and the networks on one side of it
pub record Point : Type 0 where
  pub ifname : List ℕ
  pub macs : List Mac
  pub networks : List Network
  pub side : InterfaceSide

-- one of the networks covers an address
abbrev pub is_in_networks : List Network → Addr → Bool
is_in_networks networks addr = list_any (λ p. covers p addr) networks

-- on this side of the networks, whether what is in them is behind the interface
abbrev pub is_on_side : InterfaceSide → Bool → Bool
is_on_side Behind is_in = is_in
is_on_side InFront is_in = not is_in

-- whether an address is behind the interface: it is in the networks there, or in none of those in front
abbrev pub is_behind : Point → Addr → Bool
is_behind point addr = is_on_side point.side (is_in_networks point.networks addr)

-- the first interface of this name
abbrev pub point_named : List ℕ → List Point → Option Point
point_named name [] = None
point_named name (p ∷ ps) = if bytes_eq p.ifname name then Some p else point_named name ps

-- the interface of a frame, among those of its capture: the only one, or the first of the name that the frame's block tells
abbrev pub point_of : List Point → Option (List ℕ) → Option Point
point_of (p ∷ []) name = Some p
point_of points name = option_and_then (λ n. point_named n points) name
