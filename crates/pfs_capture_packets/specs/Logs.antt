-- What the header of pflog(4) says of its packet: `struct pfloghdr` of OpenBSD's net/if_pflog.h, which other systems have up to its
-- direction.
use Rattle.std.specs.Prelude.{ℕ, ◌+◌, ◌==◌, ◌&&◌, not, Bool, true, false, List, length, take, nat_le, Option, Some, None, if◌then◌else◌, slice_index, position, unwrap_or}
use Rattle.pfs_addr_values.specs.Names.{name_of}
use Rattle.pfs_addr_values.specs.declared.packets.Dir.{Dir}
use Rattle.pfs_addr_values.specs.declared.packets.Dir.TheVariants.{In, Out}
use Rattle.pfs_capture_packets.specs.declared.links.Link.{Link}
use Rattle.pfs_capture_packets.specs.declared.links.Link.TheVariants as link
use Rattle.pfs_capture_packets.specs.declared.logs.TheConstants.{LOG_HEADER}
use Rattle.pfs_capture_packets.specs.declared.logs.LoggedAnswer.{LoggedAnswer}
use Rattle.pfs_capture_packets.specs.declared.logs.Logged.{Logged}
use Rattle.pfs_capture_packets.specs.Bytes.{octets_at, u32_at}

-- whether the frames of a link are those of a log
abbrev pub is_log : Link → Bool
is_log link.Log = true
is_log other = false

-- a log's header has 61 bytes at least, with those that fill it up to a word 64
abbrev pub log_header : ℕ
log_header = LOG_HEADER

-- how many bytes a text has that ends before the first zero
abbrev pub text_length : List ℕ → ℕ
text_length field = unwrap_or (position (λ b. b == 0) field) (length field)

-- the name of an interface that a field says, if it is one; zeros may fill the field up (own: the name is one of pf's, of at most
-- 15 bytes)
abbrev pub name_at : List ℕ → Option (List ℕ)
name_at field = name_of 15 (take (text_length field) field)

-- PF_IN is 1, PF_OUT is 2
abbrev pub logged_dir_at : ℕ → Option Dir
logged_dir_at byte = if byte == 1 then Some In else (if byte == 2 then Some Out else None)

-- what follows from something that is there
abbrev pub if_some : {A B : Type 0} → Option A → (A → Option B) → Option B
if_some None more = None
if_some (Some x) more = more x

-- the direction is the byte 60, the interface's name the sixteen bytes from 4 on
abbrev pub logged_of : List ℕ → Option Logged
logged_of frame =
    if nat_le (0 + log_header) (length frame)
    then if_some (logged_dir_at (slice_index frame 60)) (λ dir. if_some (name_at (octets_at frame 4 16)) (λ ifname. Some (record { dir = dir; ifname = ifname })))
    else None

-- whether the packet was translated is the byte 61, of a header that by its first byte has it
abbrev pub rewritten_in : List ℕ → Option Bool
rewritten_in frame =
    if nat_le (0 + 62) (length frame) && nat_le 62 (slice_index frame 0) then Some (not (slice_index frame 61 == 0)) else None

-- what pf did is the byte 2, and why the byte 3; the number of the rule is the four bytes from 36 on, the name of its anchor the sixteen
-- from 20 on, and the number of the rule in that anchor the four from 40 on
abbrev pub logged_answer : List ℕ → Option LoggedAnswer
logged_answer frame =
    if nat_le (0 + log_header) (length frame)
    then Some (record {
      action = slice_index frame 2;
      rule = u32_at frame 36;
      anchor = octets_at frame 20 16;
      subrule = u32_at frame 40;
      reason = slice_index frame 3;
      rewritten = rewritten_in frame;
    })
    else None

-- what pf answered for a frame of a link: only a log has it
abbrev pub answer_in : Link → List ℕ → Option LoggedAnswer
answer_in link frame = if is_log link then logged_answer frame else None

-- the name of the anchor whose rule it is
abbrev pub anchor_name : LoggedAnswer → List ℕ
anchor_name answer = take (text_length answer.anchor) answer.anchor
