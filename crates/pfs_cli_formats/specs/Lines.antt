-- The lines of a report: `ROW WORD @RULE`, or `ROW WORD @RULE > WORD @RULE`, and `end rows=R states=S nodes=N entries=E`. (own)
use Rattle.std.specs.Prelude.{◌++◌, ℕ, List, [], codes, Option, Some, None}
use Rattle.std.specs.Fmt.{decimal}
use Rattle.pfs_conf_values.specs.declared.items.RuleNo.{RuleNo}
use Rattle.pfs_store_contract.specs.declared.records.Limit.{Limit}
use Rattle.pfs_store_contract.specs.declared.records.Limit.TheVariants as limit
use Rattle.pfs_eval.specs.declared.tables.Entered.{Entered}
use Rattle.pfs_eval.specs.declared.tables.Entered.TheVariants as entered
use Rattle.pfs_engine_machine.specs.Sources.{Addition, value_of_addition}
use Rattle.pfs_engine_machine.specs.declared.events.Exceeded.{Exceeded}
use Rattle.pfs_engine_machine.specs.declared.events.Exceeded.TheVariants as exceeded
use Rattle.pfs_engine_machine.specs.declared.events.Outcome.{Outcome}
use Rattle.pfs_engine_machine.specs.declared.events.Outcome.TheVariants as outcome
use Rattle.pfs_engine_machine.specs.declared.events.Way.{Way}

-- a refused state is reported by the limit that it met, in pf.conf(5)'s word for it
abbrev pub limit_word : Limit → List ℕ
limit_word limit.Max = codes "drop:max"
limit_word limit.MaxSrcNodes = codes "drop:max-src-nodes"
limit_word limit.SrcNodes = codes "drop:src-nodes"
limit_word limit.MaxSrcStates = codes "drop:max-src-states"
limit_word limit.States = codes "drop:states"

-- killed states are reported by the limits that were exceeded: `max-src-conn`, `max-src-conn-rate` or both
abbrev pub kill_word : Exceeded → List ℕ
kill_word exceeded.Connections = codes "kill:max-src-conn"
kill_word exceeded.Rate = codes "kill:max-src-conn-rate"
kill_word exceeded.Both = codes "kill:max-src-conn+max-src-conn-rate"

-- a rule is written by its number
abbrev pub mark_text : Option RuleNo → List ℕ
mark_text (Some r) = codes "@" ++ decimal r.0
mark_text None = codes "-"

-- what became of the source of killed states in the overload table of the rule
abbrev pub overload_word : Addition → List ℕ
overload_word a = value_of_addition (codes "added") (codes "held") (codes "full") (codes "none") a

-- what became of an entry that was to be added
abbrev pub entered_word : Entered → List ℕ
entered_word entered.New = codes "added"
entered_word entered.AlreadyThere = codes "held"
entered_word entered.Conflict = codes "conflict"
entered_word entered.Full = codes "full"

-- how much is held: states, source nodes and table entries
abbrev pub amounts_text : ℕ → ℕ → ℕ → List ℕ
amounts_text states nodes entries = codes "states=" ++ (decimal states ++ (codes " nodes=" ++ (decimal nodes ++ (codes " entries=" ++ decimal entries))))

-- what a line says: its word, and the rule by which it came, or `-`; of killed states also the overload and how many
-- were killed, of states and entries that were taken out how many left, of one that was to be added what became of it, and how much is held
abbrev pub outcome_text : Outcome → List ℕ
outcome_text (outcome.State r) = codes "state " ++ mark_text (Some r)
outcome_text (outcome.New r) = codes "new " ++ mark_text (Some r)
outcome_text (outcome.Answered r) = codes "proxy " ++ mark_text (Some r)
outcome_text (outcome.Taken r) = codes "proxy " ++ mark_text (Some r)
outcome_text (outcome.Asking r) = codes "proxy " ++ mark_text (Some r)
outcome_text (outcome.Pass r) = codes "pass " ++ mark_text r
outcome_text outcome.Cookie = codes "cookie -"
outcome_text (outcome.Stateless r) = codes "drop:cookie " ++ mark_text r
outcome_text (outcome.Block r) = codes "block " ++ mark_text (Some r)
outcome_text (outcome.Lost r) = codes "drop:translate " ++ mark_text (Some r)
outcome_text (outcome.Conflict r) = codes "drop:state-insert " ++ mark_text (Some r)
outcome_text (outcome.Drop r l) = limit_word l ++ (codes " " ++ mark_text (Some r))
outcome_text (outcome.Kill r limits overload killed) =
    kill_word limits ++ (codes " " ++ (mark_text (Some r) ++ (codes " overload=" ++ (overload_word overload ++ (codes " killed=" ++ decimal killed)))))
outcome_text outcome.Skip = codes "skip -"
outcome_text (outcome.Expire removed) = codes "expire - removed=" ++ decimal removed
outcome_text (outcome.Add became) = codes "add - " ++ entered_word became
outcome_text (outcome.Delete removed) = codes "delete - removed=" ++ decimal removed
outcome_text (outcome.Killed killed) = codes "kill - killed=" ++ decimal killed
outcome_text (outcome.HeldAnswer h) = codes "held - " ++ amounts_text h.states h.nodes h.entries

-- what came of a packet where it leaves, behind what came of it first
abbrev pub second_text : Option Outcome → List ℕ
second_text None = []
second_text (Some o) = codes " > " ++ outcome_text o

-- the line of a record
abbrev pub row_text : ℕ → Way → List ℕ
row_text row w = decimal row ++ (codes " " ++ (outcome_text w.first ++ (second_text w.second ++ codes "\n")))

-- the last line: how many records there were, and the states, source nodes and table entries that are held after them
abbrev pub end_text : ℕ → ℕ → ℕ → ℕ → List ℕ
end_text rows states nodes entries =
    codes "end rows=" ++ (decimal rows ++ (codes " " ++ (amounts_text states nodes entries ++ codes "\n")))
