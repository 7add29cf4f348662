-- What the rules of TCP ranks keep: no packet lowers a rank, and where the handshake completes both peers are at least at ESTABLISHED. (not promised)
use Rattle.std.specs.Prelude.{Bool, true, false, ◌≡◌, ◌≤◌, ◌||◌, if◌then◌else◌}
use Rattle.std.proofs.Common.{arith, lit≤}
use Rattle.std.proofs.lemmas.Bool.{false≢true}
use Rattle.pfs_addr_values.specs.declared.flag_sets.Flags.{Flags}
use Rattle.pfs_track.specs.declared.tcp_ranks.RanksAfter.{RanksAfter}
use Rattle.pfs_track.specs.declared.tcp_ranks.Peers.{Peers}
use Rattle.pfs_track.specs.declared.tcp_ranks.TcpRank.{TcpRank}
use Rattle.pfs_track.specs.declared.tcp_ranks.TcpRank.TheVariants.{Closed, SynSent, Closing, TimeWait}
use Rattle.pfs_track.specs.TcpRanks.{rank_number, raised_rank, IsEstablished, ends, ends_after_ack, ends_after_packet, peers_after}

-- ---- the acts of a packet, one by one

abbrev after_syn : Bool → TcpRank → TcpRank
after_syn begins sender = if begins then raised_rank sender SynSent else sender

abbrev after_fin : Bool → TcpRank → TcpRank
after_fin fin sender = if fin then raised_rank sender Closing else sender

abbrev after_ack : Bool → Bool → Bool → TcpRank → TcpRank → RanksAfter
after_ack full ack forward s r = if ack then ends_after_ack full forward s r else ends s r false

abbrev after_rst : Bool → RanksAfter → RanksAfter
after_rst rst e = if rst then ends TimeWait TimeWait e.completes else e

-- ---- none lowers a rank

-- no rank of these ends is below what it was
pub record IsRise (sender receiver : TcpRank) (after : RanksAfter) : Type 0 where
  pub from : rank_number sender ≤ rank_number after.sender
  pub to : rank_number receiver ≤ rank_number after.receiver

-- raising lowers no rank
raised-rises : (rank least : TcpRank) → rank_number rank ≤ rank_number (raised_rank rank least)
raised-rises rank least = grind arith

-- nor does any of the acts
after_syn-rises : (syn : Bool) (rank : TcpRank) → rank_number rank ≤ rank_number (after_syn syn rank)
after_syn-rises true rank = raised-rises rank SynSent
after_syn-rises false rank = omega arith

after_fin-rises : (fin : Bool) (rank : TcpRank) → rank_number rank ≤ rank_number (after_fin fin rank)
after_fin-rises true rank = raised-rises rank Closing
after_fin-rises false rank = omega arith

acknowledged-rises : (full forward : Bool) (s r : TcpRank) → IsRise s r (ends_after_ack full forward s r)
acknowledged-rises true forward s r = record { from = grind arith; to = grind arith }
acknowledged-rises false true s r = record { from = grind arith; to = grind arith }
acknowledged-rises false false s r = record { from = grind arith; to = grind arith }

-- TIME_WAIT is the last rank
rank-last : (rank : TcpRank) → rank_number rank ≤ rank_number TimeWait
rank-last Closed = lit≤ tt
rank-last _ = lit≤ tt

after_ack-rises : (full ack forward : Bool) (s r : TcpRank) → IsRise s r (after_ack full ack forward s r)
after_ack-rises full true forward s r = acknowledged-rises full forward s r
after_ack-rises full false forward s r = record { from = omega arith; to = omega arith }

after_rst-rises : (rst : Bool) (s r : TcpRank) (e : RanksAfter) → IsRise s r e → IsRise s r (after_rst rst e)
after_rst-rises true s r e rise = record { from = rank-last s; to = rank-last r }
after_rst-rises false s r e rise = rise

-- no packet lowers a rank
pub acted-rises : (full forward : Bool) (flags : Flags) (s r : TcpRank) → IsRise s r (ends_after_packet full forward flags s r)
acted-rises full forward flags s r =
    let syn = after_syn (full || flags.syn) s in
    let fin = after_fin flags.fin syn in
    let ack = after_ack-rises full flags.ack forward fin r in
    let first = after_syn-rises (full || flags.syn) s in
    let second = after_fin-rises flags.fin syn in
    let rise : IsRise s r (after_ack full flags.ack forward fin r) = record { from = omega (arith, first, second, ack.from); to = ack.to } in
    after_rst-rises flags.rst s r (after_ack full flags.ack forward fin r) rise

-- a handshake that completes leaves both ranks at least at ESTABLISHED, and before it one of them was not
pub record IsCompletion (sender receiver : TcpRank) (after : RanksAfter) : Type 0 where
  pub from : IsEstablished after.sender
  pub to : IsEstablished after.receiver
  pub first : IsEstablished sender → IsEstablished receiver → ⊥

acknowledged-completes : (full forward : Bool) (s r : TcpRank) → (ends_after_ack full forward s r).completes ≡ true
    → IsCompletion s r (ends_after_ack full forward s r)
acknowledged-completes true forward s r done = record { from = grind arith; to = grind arith; first = λ a b. grind arith }
acknowledged-completes false true s r done = record { from = grind arith; to = grind arith; first = λ a b. grind arith }
acknowledged-completes false false s r done = record { from = grind arith; to = grind arith; first = λ a b. grind arith }

after_ack-completes : (full ack forward : Bool) (s r : TcpRank) → (after_ack full ack forward s r).completes ≡ true
    → IsCompletion s r (after_ack full ack forward s r)
after_ack-completes full true forward s r done = acknowledged-completes full forward s r done
after_ack-completes full false forward s r done = absurd (false≢true done)

after_rst-completes : (rst : Bool) (s r : TcpRank) (e : RanksAfter) → (e.completes ≡ true → IsCompletion s r e)
    → (after_rst rst e).completes ≡ true → IsCompletion s r (after_rst rst e)
after_rst-completes true s r e completion done =
    record { from = lit≤ tt; to = lit≤ tt; first = (completion done).first }
after_rst-completes false s r e completion done = completion done

-- where the handshake completes, both ranks are at least at ESTABLISHED, and before the packet one was below
pub acted-completes : (full forward : Bool) (flags : Flags) (s r : TcpRank) → (ends_after_packet full forward flags s r).completes ≡ true
    → IsCompletion s r (ends_after_packet full forward flags s r)
acted-completes full forward flags s r done =
    let syn = after_syn (full || flags.syn) s in
    let fin = after_fin flags.fin syn in
    let ack = after_ack full flags.ack forward fin r in
    let first = after_syn-rises (full || flags.syn) s in
    let second = after_fin-rises flags.fin syn in
    let completion : ack.completes ≡ true → IsCompletion s r ack =
    λ h. let c = after_ack-completes full flags.ack forward fin r h in
    record { from = c.from; to = c.to; first = λ a b. c.first (omega (arith, first, second, a)) b } in
    after_rst-completes flags.rst s r ack completion done

-- no packet lowers a rank of a peer
pub record AreRaised (maker other : TcpRank) (after : Peers) : Type 0 where
  pub first : rank_number maker ≤ rank_number after.maker
  pub second : rank_number other ≤ rank_number after.other

pub peers-rise : (full forward : Bool) (flags : Flags) (maker other : TcpRank) → AreRaised maker other (peers_after full forward flags maker other)
peers-rise full true flags maker other = let rise = acted-rises full true flags maker other in record { first = rise.from; second = rise.to }
peers-rise full false flags maker other = let rise = acted-rises full false flags other maker in record { first = rise.to; second = rise.from }

-- where the handshake completes, not both ranks were at least at ESTABLISHED, and now they are
pub record AreIntroduced (maker other : TcpRank) (after : Peers) : Type 0 where
  pub both : IsEstablished after.maker × IsEstablished after.other
  pub first : IsEstablished maker × IsEstablished other → ⊥

pub peers-complete : (full forward : Bool) (flags : Flags) (maker other : TcpRank) → (peers_after full forward flags maker other).completes ≡ true
    → AreIntroduced maker other (peers_after full forward flags maker other)
peers-complete full true flags maker other h =
    let c = acted-completes full true flags maker other h in record { both = (c.from, c.to); first = λ b. c.first b.0 b.1 }
peers-complete full false flags maker other h =
    let c = acted-completes full false flags other maker h in record { both = (c.to, c.from); first = λ b. c.first b.1 b.0 }
