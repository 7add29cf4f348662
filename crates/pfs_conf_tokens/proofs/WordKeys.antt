-- The key of each word that the grammar has, as written.
--
-- With `word_then` of ShownLaws: the token of a keyword that is written out. (The words of pf that this profile does not have
-- and names have no lemma here.)
use Rattle.std.proofs.Common.{◌≡◌, refl}
use Rattle.std.specs.Prelude.{codes}
use Rattle.pfs_conf_tokens.specs.declared.keys.Key.TheVariants as key
use Rattle.pfs_conf_tokens.specs.Words.{key_of_text}

pub key_of_Set : key_of_text (codes "set") ≡ key.Set
unfolding key_of_text
key_of_Set = refl

pub key_of_Limit : key_of_text (codes "limit") ≡ key.Limit
unfolding key_of_text
key_of_Limit = refl

pub key_of_Timeout : key_of_text (codes "timeout") ≡ key.Timeout
unfolding key_of_text
key_of_Timeout = refl

pub key_of_States : key_of_text (codes "states") ≡ key.States
unfolding key_of_text
key_of_States = refl

pub key_of_SrcNodes : key_of_text (codes "src-nodes") ≡ key.SrcNodes
unfolding key_of_text
key_of_SrcNodes = refl

pub key_of_Tables : key_of_text (codes "tables") ≡ key.Tables
unfolding key_of_text
key_of_Tables = refl

pub key_of_TableEntries : key_of_text (codes "table-entries") ≡ key.TableEntries
unfolding key_of_text
key_of_TableEntries = refl

pub key_of_Frags : key_of_text (codes "frags") ≡ key.Frags
unfolding key_of_text
key_of_Frags = refl

pub key_of_Profile : key_of_text (codes "profile") ≡ key.Profile
unfolding key_of_text
key_of_Profile = refl

pub key_of_OpenBsd74 : key_of_text (codes "openbsd-7.4") ≡ key.OpenBsd74
unfolding key_of_text
key_of_OpenBsd74 = refl

pub key_of_Syncookies : key_of_text (codes "syncookies") ≡ key.Syncookies
unfolding key_of_text
key_of_Syncookies = refl

pub key_of_Never : key_of_text (codes "never") ≡ key.Never
unfolding key_of_text
key_of_Never = refl

pub key_of_Always : key_of_text (codes "always") ≡ key.Always
unfolding key_of_text
key_of_Always = refl

pub key_of_Adaptive : key_of_text (codes "adaptive") ≡ key.Adaptive
unfolding key_of_text
key_of_Adaptive = refl

pub key_of_Start : key_of_text (codes "start") ≡ key.Start
unfolding key_of_text
key_of_Start = refl

pub key_of_EndWord : key_of_text (codes "end") ≡ key.EndWord
unfolding key_of_text
key_of_EndWord = refl

pub key_of_Route : key_of_text (codes "route") ≡ key.Route
unfolding key_of_text
key_of_Route = refl

pub key_of_Match : key_of_text (codes "match") ≡ key.Match
unfolding key_of_text
key_of_Match = refl

pub key_of_Tag : key_of_text (codes "tag") ≡ key.Tag
unfolding key_of_text
key_of_Tag = refl

pub key_of_Tagged : key_of_text (codes "tagged") ≡ key.Tagged
unfolding key_of_text
key_of_Tagged = refl

pub key_of_ReceivedOn : key_of_text (codes "received-on") ≡ key.ReceivedOn
unfolding key_of_text
key_of_ReceivedOn = refl

pub key_of_NatTo : key_of_text (codes "nat-to") ≡ key.NatTo
unfolding key_of_text
key_of_NatTo = refl

pub key_of_StaticPort : key_of_text (codes "static-port") ≡ key.StaticPort
unfolding key_of_text
key_of_StaticPort = refl

pub key_of_RdrTo : key_of_text (codes "rdr-to") ≡ key.RdrTo
unfolding key_of_text
key_of_RdrTo = refl

pub key_of_Table : key_of_text (codes "table") ≡ key.Table
unfolding key_of_text
key_of_Table = refl

pub key_of_Persist : key_of_text (codes "persist") ≡ key.Persist
unfolding key_of_text
key_of_Persist = refl

pub key_of_Const : key_of_text (codes "const") ≡ key.Const
unfolding key_of_text
key_of_Const = refl

pub key_of_Counters : key_of_text (codes "counters") ≡ key.Counters
unfolding key_of_text
key_of_Counters = refl

pub key_of_Pass : key_of_text (codes "pass") ≡ key.Pass
unfolding key_of_text
key_of_Pass = refl

pub key_of_Block : key_of_text (codes "block") ≡ key.Block
unfolding key_of_text
key_of_Block = refl

pub key_of_Drop : key_of_text (codes "drop") ≡ key.Drop
unfolding key_of_text
key_of_Drop = refl

pub key_of_Return : key_of_text (codes "return") ≡ key.Return
unfolding key_of_text
key_of_Return = refl

pub key_of_ReturnRst : key_of_text (codes "return-rst") ≡ key.ReturnRst
unfolding key_of_text
key_of_ReturnRst = refl

pub key_of_ReturnIcmp : key_of_text (codes "return-icmp") ≡ key.ReturnIcmp
unfolding key_of_text
key_of_ReturnIcmp = refl

pub key_of_ReturnIcmp6 : key_of_text (codes "return-icmp6") ≡ key.ReturnIcmp6
unfolding key_of_text
key_of_ReturnIcmp6 = refl

pub key_of_In : key_of_text (codes "in") ≡ key.In
unfolding key_of_text
key_of_In = refl

pub key_of_Out : key_of_text (codes "out") ≡ key.Out
unfolding key_of_text
key_of_Out = refl

pub key_of_Anchor : key_of_text (codes "anchor") ≡ key.Anchor
unfolding key_of_text
key_of_Anchor = refl

pub key_of_Inet6 : key_of_text (codes "inet6") ≡ key.Inet6
unfolding key_of_text
key_of_Inet6 = refl

pub key_of_Log : key_of_text (codes "log") ≡ key.Log
unfolding key_of_text
key_of_Log = refl

pub key_of_All : key_of_text (codes "all") ≡ key.All
unfolding key_of_text
key_of_All = refl

pub key_of_Matches : key_of_text (codes "matches") ≡ key.Matches
unfolding key_of_text
key_of_Matches = refl

pub key_of_User : key_of_text (codes "user") ≡ key.User
unfolding key_of_text
key_of_User = refl

pub key_of_To : key_of_text (codes "to") ≡ key.To
unfolding key_of_text
key_of_To = refl

pub key_of_Quick : key_of_text (codes "quick") ≡ key.Quick
unfolding key_of_text
key_of_Quick = refl

pub key_of_On : key_of_text (codes "on") ≡ key.On
unfolding key_of_text
key_of_On = refl

pub key_of_Inet : key_of_text (codes "inet") ≡ key.Inet
unfolding key_of_text
key_of_Inet = refl

pub key_of_Proto : key_of_text (codes "proto") ≡ key.Proto
unfolding key_of_text
key_of_Proto = refl

pub key_of_From : key_of_text (codes "from") ≡ key.From
unfolding key_of_text
key_of_From = refl

pub key_of_Port : key_of_text (codes "port") ≡ key.Port
unfolding key_of_text
key_of_Port = refl

pub key_of_Any : key_of_text (codes "any") ≡ key.Any
unfolding key_of_text
key_of_Any = refl

pub key_of_Flags : key_of_text (codes "flags") ≡ key.Flags
unfolding key_of_text
key_of_Flags = refl

pub key_of_No : key_of_text (codes "no") ≡ key.No
unfolding key_of_text
key_of_No = refl

pub key_of_State : key_of_text (codes "state") ≡ key.State
unfolding key_of_text
key_of_State = refl

pub key_of_Keep : key_of_text (codes "keep") ≡ key.Keep
unfolding key_of_text
key_of_Keep = refl

pub key_of_Synproxy : key_of_text (codes "synproxy") ≡ key.Synproxy
unfolding key_of_text
key_of_Synproxy = refl

pub key_of_Max : key_of_text (codes "max") ≡ key.Max
unfolding key_of_text
key_of_Max = refl

pub key_of_SourceTrack : key_of_text (codes "source-track") ≡ key.SourceTrack
unfolding key_of_text
key_of_SourceTrack = refl

pub key_of_Rule : key_of_text (codes "rule") ≡ key.Rule
unfolding key_of_text
key_of_Rule = refl

pub key_of_Global : key_of_text (codes "global") ≡ key.Global
unfolding key_of_text
key_of_Global = refl

pub key_of_MaxSrcNodes : key_of_text (codes "max-src-nodes") ≡ key.MaxSrcNodes
unfolding key_of_text
key_of_MaxSrcNodes = refl

pub key_of_MaxSrcStates : key_of_text (codes "max-src-states") ≡ key.MaxSrcStates
unfolding key_of_text
key_of_MaxSrcStates = refl

pub key_of_MaxSrcConn : key_of_text (codes "max-src-conn") ≡ key.MaxSrcConn
unfolding key_of_text
key_of_MaxSrcConn = refl

pub key_of_MaxSrcConnRate : key_of_text (codes "max-src-conn-rate") ≡ key.MaxSrcConnRate
unfolding key_of_text
key_of_MaxSrcConnRate = refl

pub key_of_Overload : key_of_text (codes "overload") ≡ key.Overload
unfolding key_of_text
key_of_Overload = refl

pub key_of_Flush : key_of_text (codes "flush") ≡ key.Flush
unfolding key_of_text
key_of_Flush = refl

pub key_of_Sloppy : key_of_text (codes "sloppy") ≡ key.Sloppy
unfolding key_of_text
key_of_Sloppy = refl

pub key_of_Floating : key_of_text (codes "floating") ≡ key.Floating
unfolding key_of_text
key_of_Floating = refl

pub key_of_NoSync : key_of_text (codes "no-sync") ≡ key.NoSync
unfolding key_of_text
key_of_NoSync = refl

pub key_of_Frag : key_of_text (codes "frag") ≡ key.Frag
unfolding key_of_text
key_of_Frag = refl

pub key_of_TcpTsdiff : key_of_text (codes "tcp.tsdiff") ≡ key.TcpTsdiff
unfolding key_of_text
key_of_TcpTsdiff = refl

pub key_of_IcmpFirst : key_of_text (codes "icmp.first") ≡ key.IcmpFirst
unfolding key_of_text
key_of_IcmpFirst = refl

pub key_of_IcmpError : key_of_text (codes "icmp.error") ≡ key.IcmpError
unfolding key_of_text
key_of_IcmpError = refl

pub key_of_TcpFirst : key_of_text (codes "tcp.first") ≡ key.TcpFirst
unfolding key_of_text
key_of_TcpFirst = refl

pub key_of_TcpOpening : key_of_text (codes "tcp.opening") ≡ key.TcpOpening
unfolding key_of_text
key_of_TcpOpening = refl

pub key_of_TcpEstablished : key_of_text (codes "tcp.established") ≡ key.TcpEstablished
unfolding key_of_text
key_of_TcpEstablished = refl

pub key_of_TcpClosing : key_of_text (codes "tcp.closing") ≡ key.TcpClosing
unfolding key_of_text
key_of_TcpClosing = refl

pub key_of_TcpFinwait : key_of_text (codes "tcp.finwait") ≡ key.TcpFinwait
unfolding key_of_text
key_of_TcpFinwait = refl

pub key_of_TcpClosed : key_of_text (codes "tcp.closed") ≡ key.TcpClosed
unfolding key_of_text
key_of_TcpClosed = refl

pub key_of_UdpFirst : key_of_text (codes "udp.first") ≡ key.UdpFirst
unfolding key_of_text
key_of_UdpFirst = refl

pub key_of_UdpSingle : key_of_text (codes "udp.single") ≡ key.UdpSingle
unfolding key_of_text
key_of_UdpSingle = refl

pub key_of_UdpMultiple : key_of_text (codes "udp.multiple") ≡ key.UdpMultiple
unfolding key_of_text
key_of_UdpMultiple = refl

pub key_of_OtherFirst : key_of_text (codes "other.first") ≡ key.OtherFirst
unfolding key_of_text
key_of_OtherFirst = refl

pub key_of_OtherSingle : key_of_text (codes "other.single") ≡ key.OtherSingle
unfolding key_of_text
key_of_OtherSingle = refl

pub key_of_OtherMultiple : key_of_text (codes "other.multiple") ≡ key.OtherMultiple
unfolding key_of_text
key_of_OtherMultiple = refl

pub key_of_SrcTrack : key_of_text (codes "src.track") ≡ key.SrcTrack
unfolding key_of_text
key_of_SrcTrack = refl

pub key_of_Interval : key_of_text (codes "interval") ≡ key.Interval
unfolding key_of_text
key_of_Interval = refl

pub key_of_AdaptiveStart : key_of_text (codes "adaptive.start") ≡ key.AdaptiveStart
unfolding key_of_text
key_of_AdaptiveStart = refl

pub key_of_AdaptiveEnd : key_of_text (codes "adaptive.end") ≡ key.AdaptiveEnd
unfolding key_of_text
key_of_AdaptiveEnd = refl

pub key_of_Rdomain : key_of_text (codes "rdomain") ≡ key.Rdomain
unfolding key_of_text
key_of_Rdomain = refl

pub key_of_Tcp : key_of_text (codes "tcp") ≡ key.Tcp
unfolding key_of_text
key_of_Tcp = refl

pub key_of_Udp : key_of_text (codes "udp") ≡ key.Udp
unfolding key_of_text
key_of_Udp = refl

pub key_of_Icmp : key_of_text (codes "icmp") ≡ key.Icmp
unfolding key_of_text
key_of_Icmp = refl

pub key_of_Icmp6 : key_of_text (codes "icmp6") ≡ key.Icmp6
unfolding key_of_text
key_of_Icmp6 = refl

pub key_of_Esp : key_of_text (codes "esp") ≡ key.Esp
unfolding key_of_text
key_of_Esp = refl

pub key_of_Ah : key_of_text (codes "ah") ≡ key.Ah
unfolding key_of_text
key_of_Ah = refl

pub key_of_Gre : key_of_text (codes "gre") ≡ key.Gre
unfolding key_of_text
key_of_Gre = refl

pub key_of_Ssh : key_of_text (codes "ssh") ≡ key.Ssh
unfolding key_of_text
key_of_Ssh = refl

pub key_of_Smtp : key_of_text (codes "smtp") ≡ key.Smtp
unfolding key_of_text
key_of_Smtp = refl

pub key_of_Domain : key_of_text (codes "domain") ≡ key.Domain
unfolding key_of_text
key_of_Domain = refl

pub key_of_Www : key_of_text (codes "www") ≡ key.Www
unfolding key_of_text
key_of_Www = refl

pub key_of_Http : key_of_text (codes "http") ≡ key.Http
unfolding key_of_text
key_of_Http = refl

pub key_of_Https : key_of_text (codes "https") ≡ key.Https
unfolding key_of_text
key_of_Https = refl
