-- Tests of keys.
use Rattle.std.specs.Prelude.{ℕ, Bool, true, false, Option, Some, None}
use Rattle.pfs_conf_tokens.specs.declared.keys.Key.{Key}
use Rattle.pfs_conf_tokens.specs.declared.keys.Key.TheVariants as key

-- words: all but quoted strings, marks, ends and bytes that nothing accepts
abbrev pub is_word_key : Key → Bool
is_word_key key.Quoted = false
is_word_key key.OpenBrace = false
is_word_key key.CloseBrace = false
is_word_key key.OpenParen = false
is_word_key key.CloseParen = false
is_word_key key.OpenAngle = false
is_word_key key.CloseAngle = false
is_word_key key.Comma = false
is_word_key key.Not = false
is_word_key key.Equals = false
is_word_key key.LineEnd = false
is_word_key key.End = false
is_word_key key.Bad = false
is_word_key _ = true

-- words that pf has and this profile does not, or not where they may be met
abbrev pub is_unsupported_key : Key → Bool
is_unsupported_key key.Foreign = true
is_unsupported_key key.Set = true
is_unsupported_key key.User = true
is_unsupported_key key.Any = true
is_unsupported_key key.Rdomain = true
is_unsupported_key key.Match = true
is_unsupported_key key.Tag = true
is_unsupported_key key.Tagged = true
is_unsupported_key key.ReceivedOn = true
is_unsupported_key key.NatTo = true
is_unsupported_key key.RdrTo = true
is_unsupported_key _ = false

-- the place of a timeout's name among the sixteen that are kept
abbrev pub timeout_place : Key → Option ℕ
timeout_place key.TcpFirst = Some 0
timeout_place key.TcpOpening = Some 1
timeout_place key.TcpEstablished = Some 2
timeout_place key.TcpClosing = Some 3
timeout_place key.TcpFinwait = Some 4
timeout_place key.TcpClosed = Some 5
timeout_place key.UdpFirst = Some 6
timeout_place key.UdpSingle = Some 7
timeout_place key.UdpMultiple = Some 8
timeout_place key.OtherFirst = Some 9
timeout_place key.OtherSingle = Some 10
timeout_place key.OtherMultiple = Some 11
timeout_place key.SrcTrack = Some 12
timeout_place key.Interval = Some 13
timeout_place key.AdaptiveStart = Some 14
timeout_place key.AdaptiveEnd = Some 15
timeout_place _ = None

-- tokens of one line: neither a line end nor the end of the text
abbrev pub in_line : Key → Bool
in_line key.LineEnd = false
in_line key.End = false
in_line _ = true

-- tokens before the end of the text
abbrev pub before_end : Key → Bool
before_end key.End = false
before_end _ = true

-- a line end
abbrev pub ends_line : Key → Bool
ends_line key.LineEnd = true
ends_line _ = false
