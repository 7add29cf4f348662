-- The parts of a line, as the code writes them. (not promised)
use Rattle.std.specs.Prelude.{◌++◌, List, [], ℕ, codes, Option, Some, None}
use Rattle.std.specs.Fmt.{decimal}
use Rattle.pfs_conf_values.specs.declared.items.RuleNo.{RuleNo}
use Rattle.pfs_engine_machine.specs.declared.events.Outcome.{Outcome}
use Rattle.pfs_engine_machine.specs.declared.events.Outcome.TheVariants as outcome
use Rattle.pfs_cli_formats.specs.Lines.{amounts_text, entered_word, kill_word, limit_word, overload_word}

-- the word of a line
abbrev pub word_of : Outcome → List ℕ
word_of (outcome.State r) = codes "state"
word_of (outcome.New r) = codes "new"
word_of (outcome.Answered r) = codes "proxy"
word_of (outcome.Taken r) = codes "proxy"
word_of (outcome.Asking r) = codes "proxy"
word_of (outcome.Pass r) = codes "pass"
word_of outcome.Cookie = codes "cookie"
word_of (outcome.Stateless r) = codes "drop:cookie"
word_of (outcome.Block r) = codes "block"
word_of (outcome.Lost r) = codes "drop:translate"
word_of (outcome.Drop r l) = limit_word l
word_of (outcome.Conflict r) = codes "drop:state-insert"
word_of (outcome.Kill r limits overload killed) = kill_word limits
word_of outcome.Skip = codes "skip"
word_of (outcome.Expire removed) = codes "expire"
word_of (outcome.Add became) = codes "add"
word_of (outcome.Delete removed) = codes "delete"
word_of (outcome.Killed killed) = codes "kill"
word_of (outcome.HeldAnswer h) = codes "held"

-- the rule by which it came: none for a record that is no packet, and for a packet that no rule matched or was asked for
abbrev pub rule_by : Outcome → Option RuleNo
rule_by (outcome.State r) = Some r
rule_by (outcome.New r) = Some r
rule_by (outcome.Answered r) = Some r
rule_by (outcome.Taken r) = Some r
rule_by (outcome.Asking r) = Some r
rule_by (outcome.Pass r) = r
rule_by outcome.Cookie = None
rule_by (outcome.Stateless r) = r
rule_by (outcome.Block r) = Some r
rule_by (outcome.Lost r) = Some r
rule_by (outcome.Drop r l) = Some r
rule_by (outcome.Conflict r) = Some r
rule_by (outcome.Kill r limits overload killed) = Some r
rule_by outcome.Skip = None
rule_by (outcome.Expire removed) = None
rule_by (outcome.Add became) = None
rule_by (outcome.Delete removed) = None
rule_by (outcome.Killed killed) = None
rule_by (outcome.HeldAnswer h) = None

-- a line of killed states continues with the overload and how many were killed, one of a command with what
-- came of it, and one of a question with how much is held
abbrev pub note_text : Outcome → List ℕ
note_text (outcome.Kill r limits overload killed) = codes " overload=" ++ (overload_word overload ++ (codes " killed=" ++ decimal killed))
note_text (outcome.Expire removed) = codes " removed=" ++ decimal removed
note_text (outcome.Add became) = codes " " ++ entered_word became
note_text (outcome.Delete removed) = codes " removed=" ++ decimal removed
note_text (outcome.Killed killed) = codes " killed=" ++ decimal killed
note_text (outcome.HeldAnswer h) = codes " " ++ amounts_text h.states h.nodes h.entries
note_text _ = []

-- `@` comes before a rule's number; `-` is written where there is no rule
abbrev pub rule_sign : Option RuleNo → List ℕ
rule_sign (Some r) = codes "@"
rule_sign None = codes "-"

-- the number of a rule
abbrev pub number_text : Option RuleNo → List ℕ
number_text (Some r) = decimal r.0
number_text None = []

-- what is between the row of a line and the number of its rule
abbrev pub lead_of : Outcome → List ℕ
lead_of o = codes " " ++ (word_of o ++ (codes " " ++ rule_sign (rule_by o)))
