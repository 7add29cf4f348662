-- Which word has which key. (pf.conf(5), GRAMMAR; which words this profile leaves out is own)
use Rattle.std.specs.Prelude.{ℕ, List, [], ◌∷◌, Bool, false, codes, nat_le, ◌&&◌, if◌then◌else◌, unwrap_or}
use Rattle.std.specs.Map.{lookup}
use Rattle.std.specs.Str.{bytes_eq}
use Rattle.pfs_conf_tokens.specs.declared.keys.Key.{Key}
use Rattle.pfs_conf_tokens.specs.declared.keys.Key.TheVariants as key

-- words of statements, tables and filters
abbrev pub statement_words : List (List ℕ × Key)
statement_words =
    (codes "pass", key.Pass) ∷ (codes "block", key.Block) ∷ (codes "in", key.In) ∷ (codes "out", key.Out)
    ∷ (codes "quick", key.Quick) ∷ (codes "on", key.On) ∷ (codes "inet", key.Inet) ∷ (codes "inet6", key.Inet6)
    ∷ (codes "proto", key.Proto) ∷ (codes "from", key.From) ∷ (codes "to", key.To) ∷ (codes "port", key.Port)
    ∷ (codes "any", key.Any) ∷ (codes "all", key.All) ∷ (codes "flags", key.Flags) ∷ (codes "log", key.Log)
    ∷ (codes "rdomain", key.Rdomain) ∷ (codes "set", key.Set) ∷ (codes "limit", key.Limit)
    ∷ (codes "timeout", key.Timeout) ∷ (codes "states", key.States) ∷ (codes "src-nodes", key.SrcNodes)
    ∷ (codes "tables", key.Tables) ∷ (codes "table-entries", key.TableEntries) ∷ (codes "frags", key.Frags)
    ∷ (codes "table", key.Table) ∷ (codes "persist", key.Persist) ∷ (codes "const", key.Const)
    ∷ (codes "counters", key.Counters) ∷ (codes "drop", key.Drop) ∷ (codes "return", key.Return)
    ∷ (codes "return-rst", key.ReturnRst) ∷ (codes "return-icmp", key.ReturnIcmp)
    ∷ (codes "return-icmp6", key.ReturnIcmp6) ∷ (codes "anchor", key.Anchor) ∷ (codes "matches", key.Matches)
    ∷ (codes "user", key.User) ∷ (codes "profile", key.Profile) ∷ (codes "openbsd-7.4", key.OpenBsd74)
    ∷ (codes "syncookies", key.Syncookies) ∷ (codes "never", key.Never) ∷ (codes "always", key.Always)
    ∷ (codes "adaptive", key.Adaptive) ∷ (codes "start", key.Start) ∷ (codes "end", key.EndWord)
    ∷ (codes "route", key.Route) ∷ (codes "match", key.Match) ∷ (codes "tag", key.Tag) ∷ (codes "tagged", key.Tagged)
    ∷ (codes "received-on", key.ReceivedOn) ∷ (codes "nat-to", key.NatTo) ∷ (codes "static-port", key.StaticPort)
    ∷ (codes "rdr-to", key.RdrTo) ∷ []

-- words of the state clause, and the names of timeouts
abbrev pub option_words : List (List ℕ × Key)
option_words =
    (codes "no", key.No) ∷ (codes "state", key.State) ∷ (codes "keep", key.Keep) ∷ (codes "synproxy", key.Synproxy)
    ∷ (codes "max", key.Max) ∷ (codes "source-track", key.SourceTrack) ∷ (codes "rule", key.Rule) ∷ (codes "global", key.Global)
    ∷ (codes "max-src-nodes", key.MaxSrcNodes) ∷ (codes "max-src-states", key.MaxSrcStates)
    ∷ (codes "max-src-conn", key.MaxSrcConn) ∷ (codes "max-src-conn-rate", key.MaxSrcConnRate)
    ∷ (codes "overload", key.Overload) ∷ (codes "flush", key.Flush) ∷ (codes "sloppy", key.Sloppy)
    ∷ (codes "floating", key.Floating) ∷ (codes "no-sync", key.NoSync) ∷ (codes "frag", key.Frag)
    ∷ (codes "tcp.tsdiff", key.TcpTsdiff) ∷ (codes "icmp.first", key.IcmpFirst)
    ∷ (codes "icmp.error", key.IcmpError) ∷ (codes "tcp.first", key.TcpFirst)
    ∷ (codes "tcp.opening", key.TcpOpening) ∷ (codes "tcp.established", key.TcpEstablished)
    ∷ (codes "tcp.closing", key.TcpClosing) ∷ (codes "tcp.finwait", key.TcpFinwait)
    ∷ (codes "tcp.closed", key.TcpClosed) ∷ (codes "udp.first", key.UdpFirst) ∷ (codes "udp.single", key.UdpSingle)
    ∷ (codes "udp.multiple", key.UdpMultiple) ∷ (codes "other.first", key.OtherFirst)
    ∷ (codes "other.single", key.OtherSingle) ∷ (codes "other.multiple", key.OtherMultiple)
    ∷ (codes "src.track", key.SrcTrack) ∷ (codes "interval", key.Interval)
    ∷ (codes "adaptive.start", key.AdaptiveStart) ∷ (codes "adaptive.end", key.AdaptiveEnd) ∷ []

-- names of protocols and of services
abbrev pub named_words : List (List ℕ × Key)
named_words =
    (codes "tcp", key.Tcp) ∷ (codes "udp", key.Udp) ∷ (codes "icmp", key.Icmp) ∷ (codes "icmp6", key.Icmp6)
    ∷ (codes "esp", key.Esp) ∷ (codes "ah", key.Ah) ∷ (codes "gre", key.Gre) ∷ (codes "ssh", key.Ssh)
    ∷ (codes "smtp", key.Smtp) ∷ (codes "domain", key.Domain) ∷ (codes "www", key.Www) ∷ (codes "http", key.Http)
    ∷ (codes "https", key.Https) ∷ []

-- words that only pf has
abbrev pub foreign_words : List (List ℕ × Key)
foreign_words =
    (codes "antispoof", key.Foreign) ∷ (codes "queue", key.Foreign) ∷ (codes "include", key.Foreign)
    ∷ (codes "load", key.Foreign) ∷ (codes "group", key.Foreign) ∷ (codes "icmp-type", key.Foreign)
    ∷ (codes "icmp6-type", key.Foreign) ∷ (codes "tos", key.Foreign) ∷ (codes "prio", key.Foreign)
    ∷ (codes "label", key.Foreign) ∷ (codes "allow-opts", key.Foreign) ∷ (codes "once", key.Foreign)
    ∷ (codes "probability", key.Foreign) ∷ (codes "rtable", key.Foreign) ∷ (codes "divert-to", key.Foreign)
    ∷ (codes "divert-reply", key.Foreign) ∷ (codes "divert-packet", key.Foreign) ∷ (codes "binat-to", key.Foreign) ∷ (codes "af-to", key.Foreign)
    ∷ (codes "route-to", key.Foreign) ∷ (codes "reply-to", key.Foreign) ∷ (codes "dup-to", key.Foreign)
    ∷ (codes "scrub", key.Foreign) ∷ (codes "fragment", key.Foreign) ∷ (codes "fragments", key.Foreign)
    ∷ (codes "os", key.Foreign) ∷ (codes "modulate", key.Foreign) ∷ (codes "file", key.Foreign)
    ∷ (codes "initializers", key.Foreign) ∷ (codes "if-bound", key.Foreign) ∷ (codes "pflow", key.Foreign) ∷ []

-- the key that a table gives a word; of a word that is not in it this one
abbrev pub key_among : List (List ℕ × Key) → List ℕ → Key → Key
key_among entries w other = unwrap_or (lookup (bytes_eq w) entries) other

-- the word begins with a digit
abbrev pub starts_with_digit : List ℕ → Bool
starts_with_digit [] = false
starts_with_digit (b ∷ bs) = nat_le 48 b && nat_le b 57

-- the key of a word: a number if it begins with a digit; a name if it is none of the words
unfoldable pub key_of_text : List ℕ → Key
key_of_text w =
    if starts_with_digit w then key.Number
    else key_among statement_words w (key_among option_words w (key_among named_words w (key_among foreign_words w key.Name)))
