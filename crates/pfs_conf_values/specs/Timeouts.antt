-- The 16 timeouts: their places, their defaults, and the value of each, set or not.
use Rattle.std.specs.Prelude.{ℕ, ◌*◌, ◌/◌, List, [], ◌∷◌, Option, None, map, replicate, slice_index_or, unwrap_or}
use Rattle.pfs_conf_values.specs.declared.profiles.Profile.{Profile}
use Rattle.pfs_conf_values.specs.declared.profiles.Profile.TheVariants as profile
use Rattle.pfs_conf_values.specs.declared.timeouts.TimeoutName.{TimeoutName}
use Rattle.pfs_conf_values.specs.declared.timeouts.TimeoutName.TheVariants.{TcpFirst, TcpOpening, TcpEstablished, TcpClosing, TcpFinwait, TcpClosed, UdpFirst, UdpSingle, UdpMultiple, OtherFirst, OtherSingle, OtherMultiple, SrcTrack, Interval, AdaptiveStart, AdaptiveEnd}

-- the place of a timeout in the order in which they are shown
abbrev pub place_of : TimeoutName → ℕ
place_of TcpFirst = 0
place_of TcpOpening = 1
place_of TcpEstablished = 2
place_of TcpClosing = 3
place_of TcpFinwait = 4
place_of TcpClosed = 5
place_of UdpFirst = 6
place_of UdpSingle = 7
place_of UdpMultiple = 8
place_of OtherFirst = 9
place_of OtherSingle = 10
place_of OtherMultiple = 11
place_of SrcTrack = 12
place_of Interval = 13
place_of AdaptiveStart = 14
place_of AdaptiveEnd = 15

-- no timeout is given
abbrev pub no_timeouts : List (Option ℕ)
no_timeouts = replicate 16 None

-- all of them, by their places
abbrev pub timeout_names : List TimeoutName
timeout_names =
    TcpFirst ∷ TcpOpening ∷ TcpEstablished ∷ TcpClosing ∷ TcpFinwait ∷ TcpClosed ∷ UdpFirst ∷ UdpSingle ∷ UdpMultiple
    ∷ OtherFirst ∷ OtherSingle ∷ OtherMultiple ∷ SrcTrack ∷ Interval ∷ AdaptiveStart ∷ AdaptiveEnd ∷ []

-- so many tenths of a number of states: of OpenBSD of its whole tens, so below ten states none (certain)
abbrev pub tenths_of : Profile → ℕ → ℕ → ℕ
tenths_of profile.Own n states = n * states / 10
tenths_of profile.OpenBsd74 n states = states / 10 * n

-- the value of a timeout that is not set, where so many states may be held (own; the adaptive two: pf.conf(5), OPTIONS)
abbrev pub default_timeout : Profile → ℕ → TimeoutName → ℕ
default_timeout profile states TcpFirst = 120
default_timeout profile states TcpOpening = 30
default_timeout profile states TcpEstablished = 86400
default_timeout profile states TcpClosing = 900
default_timeout profile states TcpFinwait = 45
default_timeout profile states TcpClosed = 90
default_timeout profile states UdpFirst = 60
default_timeout profile states UdpSingle = 30
default_timeout profile states UdpMultiple = 60
default_timeout profile states OtherFirst = 60
default_timeout profile states OtherSingle = 30
default_timeout profile states OtherMultiple = 60
default_timeout profile states SrcTrack = 0
default_timeout profile states Interval = 10
default_timeout profile states AdaptiveStart = tenths_of profile 6 states
default_timeout profile states AdaptiveEnd = tenths_of profile 12 states

-- the value of a timeout: what is set, else its default
abbrev pub resolved_timeout : Profile → ℕ → List (Option ℕ) → TimeoutName → ℕ
resolved_timeout profile states given name = unwrap_or (slice_index_or given (place_of name) None) (default_timeout profile states name)

-- all of them, by their places
abbrev pub resolved_timeouts : Profile → ℕ → List (Option ℕ) → List ℕ
resolved_timeouts profile states given = map (resolved_timeout profile states given) timeout_names
