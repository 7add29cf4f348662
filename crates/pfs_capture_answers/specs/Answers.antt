-- The row of what pf answered for a packet, beside the row of the packet in a trace. (own)
use Rattle.std.specs.Prelude.{ℕ, ◌+◌, ◌/◌, ◌%◌, ◌==◌, ◌||◌, ◌++◌, Bool, true, false, List, [], ◌∷◌, codes, flat_map, length, nat_lt, Option, Some, None, if◌then◌else◌}
use Rattle.std.specs.Fmt.{decimal}
use Rattle.pfs_addr_values.specs.Names.{is_name_byte}
use Rattle.pfs_capture_packets.specs.Logs.{anchor_name}
use Rattle.pfs_capture_packets.specs.declared.logs.LoggedAnswer.{LoggedAnswer}

-- what pf did, by the numbers of OpenBSD's net/pfvar.h: PF_PASS is 0, PF_DROP 1, PF_MATCH 12; any other in decimal
abbrev pub action_word : ℕ → List ℕ
action_word action =
    if action == 0 then codes "pass"
    else (if action == 1 then codes "block"
    else (if action == 12 then codes "match" else decimal action))

-- the number of a rule; nothing where there is none, for which the log has 4294967295
abbrev pub rule_column : ℕ → List ℕ
rule_column number = if number == 4294967295 then [] else decimal number

-- a digit in base 16
abbrev pub hex_digit : ℕ → ℕ
hex_digit n = if nat_lt n 10 then 48 + n else 55 + n

-- a letter, a digit, `_`, `-`, `.` or `/` is written as it is, any other byte as `%` and two digits in
-- base 16 (RFC 3986, section 2.1)
abbrev pub anchor_byte : ℕ → List ℕ
anchor_byte b = if is_name_byte b || (b == 47) then b ∷ [] else 37 ∷ hex_digit (b / 16) ∷ hex_digit (b % 16) ∷ []

-- the name of an anchor, without bytes that mean something to a reader of rows
abbrev pub anchor_column : List ℕ → List ℕ
anchor_column name = flat_map anchor_byte name

-- the columns in front of the rule
abbrev pub answer_start : ℕ → ℕ → List ℕ
answer_start number action = decimal number ++ (codes "," ++ (action_word action ++ codes ","))

-- the name of a reason, by PFRES_NAMES of OpenBSD's net/pfvar.h; none for any other number
abbrev pub reason_name : ℕ → List ℕ
reason_name reason =
    if reason == 0 then codes "match"
    else (if reason == 1 then codes "bad-offset"
    else (if reason == 2 then codes "fragment"
    else (if reason == 3 then codes "short"
    else (if reason == 4 then codes "normalize"
    else (if reason == 5 then codes "memory"
    else (if reason == 6 then codes "bad-timestamp"
    else (if reason == 7 then codes "congestion"
    else (if reason == 8 then codes "ip-option"
    else (if reason == 9 then codes "proto-cksum"
    else (if reason == 10 then codes "state-mismatch"
    else (if reason == 11 then codes "state-insert"
    else (if reason == 12 then codes "state-limit"
    else (if reason == 13 then codes "src-limit"
    else (if reason == 14 then codes "synproxy"
    else (if reason == 15 then codes "translate"
    else (if reason == 16 then codes "no-route"
    else []))))))))))))))))

-- why pf did so: the name of the reason, or its number in decimal where it has none
abbrev pub reason_column : ℕ → List ℕ
reason_column reason = if length (reason_name reason) == 0 then decimal reason else reason_name reason

-- whether the packet was translated; nothing where the log does not say
abbrev pub rewritten_word : Option Bool → List ℕ
rewritten_word (Some true) = codes "yes"
rewritten_word (Some false) = codes "no"
rewritten_word None = []

-- the columns behind the rule, up to the end of the line
abbrev pub why_columns : LoggedAnswer → List ℕ
why_columns answer = reason_column answer.reason ++ (codes "," ++ (rewritten_word answer.rewritten ++ codes "\n"))

-- the row of an answer, which belongs to the row of this number in the trace, up to the end of its line
abbrev pub answer_row : ℕ → LoggedAnswer → List ℕ
answer_row number answer =
    answer_start number answer.action
    ++ ((rule_column answer.rule ++ codes ",")
    ++ (anchor_column (anchor_name answer)
    ++ (codes ","
    ++ ((rule_column answer.subrule ++ codes ",")
    ++ why_columns answer))))
