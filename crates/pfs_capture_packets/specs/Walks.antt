-- The walk from header to header. Each takes bytes, so there are fewer headers than the frame has bytes. (own)
use Rattle.std.specs.Prelude.{ℕ, zero, suc, List, Result, Ok, Err}
use Rattle.pfs_capture_packets.specs.declared.walks.Layer.{Layer}
use Rattle.pfs_capture_packets.specs.declared.walks.HeaderPlace.{HeaderPlace}
use Rattle.pfs_capture_packets.specs.declared.walks.Next.{Next}
use Rattle.pfs_capture_packets.specs.declared.walks.Next.TheVariants.{On, Here, Stop}
use Rattle.pfs_capture_packets.specs.declared.packets.Reason.{Reason}
use Rattle.pfs_capture_packets.specs.declared.packets.Reason.TheVariants as reason
use Rattle.pfs_capture_packets.specs.Headers.{header_behind}

-- what follows where a walk goes on, where it has come to, or why it stops
abbrev pub at_next : {A : Type 0} → Next → (HeaderPlace → A) → A → (Reason → A) → A
at_next (On place) on here stop = on place
at_next Here on here stop = here
at_next (Stop r) on here stop = stop r

-- the header at which a walk ends, of at most so many
unfoldable pub walk_from : ℕ → Layer → List ℕ → HeaderPlace → Result HeaderPlace Reason
walk_from zero layer bytes place = Err reason.NotIp
walk_from (suc n) layer bytes place = at_next (header_behind layer bytes place) (λ next. walk_from n layer bytes next) (Ok place) Err
