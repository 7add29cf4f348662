-- Phases of UDP and of the other protocols without handshakes: how far each peer has sent, and the timeouts.
use Rattle.std.specs.Prelude.{Bool, true, false}
use Rattle.pfs_conf_values.specs.declared.timeouts.TimeoutName.{TimeoutName}
use Rattle.pfs_conf_values.specs.declared.timeouts.TimeoutName.TheVariants.{UdpFirst, UdpSingle, UdpMultiple, OtherFirst, OtherSingle, OtherMultiple}
use Rattle.pfs_track.specs.declared.datagrams.DatagramPhase.{DatagramPhase}
use Rattle.pfs_track.specs.declared.datagrams.Stage.{Stage}
use Rattle.pfs_track.specs.declared.datagrams.Stage.TheVariants.{First as FirstStage, Single as SingleStage, Multiple as MultipleStage}
use Rattle.pfs_track.specs.declared.datagrams.Traffic.{Traffic}
use Rattle.pfs_track.specs.declared.datagrams.Traffic.TheVariants.{Silent, Single, Multiple}

-- a sender at NONE becomes SINGLE
abbrev pub once_sent : Traffic → Traffic
once_sent Silent = Single
once_sent other = other

-- a receiver at SINGLE becomes MULTIPLE
abbrev pub once_answered : Traffic → Traffic
once_answered Single = Multiple
once_answered other = other

-- both at MULTIPLE is the stage `multiple`, and else a later packet leaves the stage `single`
abbrev pub stage_of : Traffic → Traffic → Stage
stage_of Multiple Multiple = MultipleStage
stage_of _ _ = SingleStage

-- a new state: the maker at SINGLE, the other at NONE, and the timeout is `first` (own)
abbrev pub first_datagram : DatagramPhase
first_datagram = record { maker = Single; other = Silent; stage = FirstStage }

-- the phase after a later packet, whose sender is the maker where it goes forward
abbrev pub udp_step : DatagramPhase → Bool → DatagramPhase
udp_step p true = record { maker = once_sent p.maker; other = once_answered p.other; stage = stage_of (once_sent p.maker) (once_answered p.other) }
udp_step p false = record { maker = once_answered p.maker; other = once_sent p.other; stage = stage_of (once_answered p.maker) (once_sent p.other) }

-- the timeouts of UDP and of the other protocols by their stages (pf.conf(5), OPTIONS, "set timeout")
abbrev pub udp_slot : Stage → TimeoutName
udp_slot FirstStage = UdpFirst
udp_slot SingleStage = UdpSingle
udp_slot MultipleStage = UdpMultiple

abbrev pub other_slot : Stage → TimeoutName
other_slot FirstStage = OtherFirst
other_slot SingleStage = OtherSingle
other_slot MultipleStage = OtherMultiple
