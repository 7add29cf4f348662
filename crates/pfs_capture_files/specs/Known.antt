-- What is known of a section while its blocks are read.
use Rattle.std.specs.Prelude.{All, List}
use Rattle.pfs_capture_files.specs.declared.orders.Order.{Order}
use Rattle.pfs_capture_files.specs.declared.interfaces.InterfaceBlock.{InterfaceBlock}
use Rattle.pfs_capture_files.specs.Interfaces.{IsNamed}

-- the byte order of its numbers, and its interfaces, in the order of their blocks
pub record Known : Type 0 where
  pub order : Order
  pub interfaces : List InterfaceBlock

-- the name of each of these is one, if it has a name
abbrev pub AreNamed : List InterfaceBlock → Type 0
AreNamed interfaces = All (λ i. IsNamed i.name) interfaces
