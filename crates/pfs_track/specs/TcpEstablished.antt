-- Where a handshake has completed, both peers are at least at ESTABLISHED: what makes a phase of TCP after a packet a phase.
use Rattle.std.specs.Prelude.{Bool, true, false, ◌≡◌, ◌≤◌, ◌||◌, if◌then◌else◌}
use Rattle.std.proofs.Common.{arith, refl, lit≤}
use Rattle.pfs_addr_values.specs.declared.flag_sets.Flags.{Flags}
use Rattle.pfs_track.specs.declared.tcp_ranks.RanksAfter.{RanksAfter}
use Rattle.pfs_track.specs.declared.tcp_ranks.TcpRank.{TcpRank}
use Rattle.pfs_track.specs.declared.tcp_ranks.TcpRank.TheVariants.{SynSent, Closing, TimeWait}
use Rattle.pfs_track.specs.TcpRanks.{rank_number, raised_rank, IsEstablished, ends_after_ack, ends_after_packet, ends, peers_after}

-- once it has completed, now or before, both are there
abbrev IsShown : Bool → RanksAfter → Type 0
IsShown complete e = (complete || e.completes) ≡ true → IsEstablished e.sender × IsEstablished e.receiver

raised-keeps : (on : Bool) (rank least : TcpRank) → rank_number rank ≤ rank_number (if on then raised_rank rank least else rank)
raised-keeps true rank least = grind arith
raised-keeps false rank least = omega arith

ack-shows : (full complete ack forward : Bool) (s r : TcpRank) → (complete ≡ true → IsEstablished s × IsEstablished r)
    → IsShown complete (if ack then ends_after_ack full forward s r else ends s r false)
ack-shows true true true forward s r were = let b = were refl in let c = b.0 in let d = b.1 in λ h. (grind (arith, c, d), grind (arith, c, d))
ack-shows false true true forward s r were = let b = were refl in let c = b.0 in let d = b.1 in λ h. (grind (arith, c, d), grind (arith, c, d))
ack-shows full true false forward s r were = λ h. were refl
ack-shows true false true forward s r were = λ h. (grind (arith, h), grind (arith, h))
ack-shows false false true forward s r were = λ h. (grind (arith, h), grind (arith, h))
ack-shows full false false forward s r were = λ h. absurd cc

rst-shows : (complete rst : Bool) (e : RanksAfter) → IsShown complete e → IsShown complete (if rst then ends TimeWait TimeWait e.completes else e)
rst-shows complete true e shown = λ h. (lit≤ tt, lit≤ tt)
rst-shows complete false e shown = shown

acted-shows : (full complete forward : Bool) (flags : Flags) (s r : TcpRank) → (complete ≡ true → IsEstablished s × IsEstablished r)
    → IsShown complete (ends_after_packet full forward flags s r)
acted-shows full complete forward flags s r were =
    let syn = if full || flags.syn then raised_rank s SynSent else s in
    let fin = if flags.fin then raised_rank syn Closing else syn in
    let risen : complete ≡ true → IsEstablished fin × IsEstablished r = λ h. (omega (arith, raised-keeps (full || flags.syn) s SynSent, raised-keeps flags.fin syn Closing, (were h).0), (were h).1) in
    rst-shows complete flags.rst (if flags.ack then ends_after_ack full forward fin r else ends fin r false) (ack-shows full complete flags.ack forward fin r risen)

pub peers_established : (full complete forward : Bool) (flags : Flags) (maker other : TcpRank)
    → (complete ≡ true → IsEstablished maker × IsEstablished other)
    → (complete || (peers_after full forward flags maker other).completes) ≡ true
    → IsEstablished (peers_after full forward flags maker other).maker × IsEstablished (peers_after full forward flags maker other).other
peers_established full complete true flags maker other were h = acted-shows full complete true flags maker other were h
peers_established full complete false flags maker other were h =
    let q = acted-shows full complete false flags other maker (λ c. ((were c).1, (were c).0)) h in (q.1, q.0)
