-- The lines of `set limit`, `set timeout`, `set profile`, `set syncookies` and `set route`. (pf.conf(5), OPTIONS; their form is own)
use Rattle.std.specs.Prelude.{ℕ, List, [], ◌∷◌, ◌++◌, codes, decimal, map, slice_index}
use Rattle.pfs_conf_values.specs.Timeouts.{place_of, timeout_names}
use Rattle.pfs_conf_values.specs.declared.limits.Limits.{Limits}
use Rattle.pfs_conf_values.specs.declared.profiles.Profile.{Profile}
use Rattle.pfs_conf_values.specs.declared.profiles.Profile.TheVariants as profile
use Rattle.pfs_conf_values.specs.declared.routes.Route.{Route}
use Rattle.pfs_conf_values.specs.declared.syncookies.Syncookies.{Syncookies}
use Rattle.pfs_conf_values.specs.declared.syncookies.Syncookies.TheVariants as cookies
use Rattle.pfs_conf_values.specs.declared.timeouts.TimeoutName.{TimeoutName}
use Rattle.pfs_conf_values.specs.declared.timeouts.TimeoutName.TheVariants.{TcpFirst, TcpOpening, TcpEstablished, TcpClosing, TcpFinwait, TcpClosed, UdpFirst, UdpSingle, UdpMultiple, OtherFirst, OtherSingle, OtherMultiple, SrcTrack, Interval, AdaptiveStart, AdaptiveEnd}
use Rattle.pfs_conf_show.specs.Pieces.{bracketed_list, prefix_text, word_and_number}

-- the limits, each with its value
abbrev pub limit_texts : Limits → List (List ℕ)
limit_texts l =
    word_and_number (codes "states") l.states ∷ word_and_number (codes "src-nodes") l.src_nodes ∷ word_and_number (codes "tables") l.tables
    ∷ word_and_number (codes "table-entries") l.table_entries ∷ []

-- `set limit { states N, src-nodes N, tables N, table-entries N }`
abbrev pub limits_text : Limits → List ℕ
limits_text l = codes "set limit" ++ (bracketed_list (codes " { ") (codes " }") (limit_texts l) ++ codes "\n")

-- the word of a timeout
abbrev pub timeout_word : TimeoutName → List ℕ
timeout_word TcpFirst = codes "tcp.first"
timeout_word TcpOpening = codes "tcp.opening"
timeout_word TcpEstablished = codes "tcp.established"
timeout_word TcpClosing = codes "tcp.closing"
timeout_word TcpFinwait = codes "tcp.finwait"
timeout_word TcpClosed = codes "tcp.closed"
timeout_word UdpFirst = codes "udp.first"
timeout_word UdpSingle = codes "udp.single"
timeout_word UdpMultiple = codes "udp.multiple"
timeout_word OtherFirst = codes "other.first"
timeout_word OtherSingle = codes "other.single"
timeout_word OtherMultiple = codes "other.multiple"
timeout_word SrcTrack = codes "src.track"
timeout_word Interval = codes "interval"
timeout_word AdaptiveStart = codes "adaptive.start"
timeout_word AdaptiveEnd = codes "adaptive.end"

-- a timeout with its value
abbrev pub timeout_text : List ℕ → TimeoutName → List ℕ
timeout_text timeouts name = word_and_number (timeout_word name) (slice_index timeouts (place_of name))

-- `set timeout { tcp.first N, .. }`: all timeouts, by their places
abbrev pub timeouts_text : List ℕ → List ℕ
timeouts_text timeouts = codes "set timeout" ++ (bracketed_list (codes " { ") (codes " }") (map (timeout_text timeouts) timeout_names) ++ codes "\n")

-- `set profile openbsd-7.4`; a text without the profile has no line
abbrev pub profile_text : Profile → List ℕ
profile_text profile.Own = []
profile_text profile.OpenBsd74 = codes "set profile openbsd-7.4\n"

-- `set syncookies adaptive (start P%, end Q%)`
abbrev pub adaptive_text : ℕ → ℕ → List ℕ
adaptive_text start end = codes "set syncookies adaptive (start " ++ (decimal start ++ (codes "%, end " ++ (decimal end ++ codes "%)\n")))

-- `set syncookies always`, or the line of `adaptive`; a text without cookies has none
abbrev pub syncookies_text : Syncookies → List ℕ
syncookies_text cookies.Never = []
syncookies_text cookies.Always = codes "set syncookies always\n"
syncookies_text (cookies.Adaptive start end) = adaptive_text start end

-- a route: its prefix and its interface
abbrev pub route_text : Route → List ℕ
route_text r = prefix_text r.prefix ++ (codes " " ++ r.interface)

-- the items of a list in braces
abbrev pub routes_list : List Route → List ℕ
routes_list routes = bracketed_list (codes " { ") (codes " }") (map route_text routes)

-- `set route PREFIX IF`, or several in braces; a text without routes has no line
abbrev pub routes_text : List Route → List ℕ
routes_text [] = []
routes_text (r ∷ []) = codes "set route " ++ (route_text r ++ codes "\n")
routes_text (r ∷ s ∷ more) = codes "set route" ++ (routes_list (r ∷ s ∷ more) ++ codes "\n")
