-- What a job writes when it ends, by what it is. (own)
use Rattle.std.specs.Prelude.{◌≡◌, ℕ, List, [], Result}
use Rattle.pfs_cli_jobs.specs.declared.tasks.Job.{Job}
use Rattle.pfs_cli_jobs.specs.declared.tasks.Job.TheVariants as job
use Rattle.pfs_conf_show.specs.Texts.{text_of}
use Rattle.pfs_cli.specs.declared.faults.ReplayFault.{ReplayFault}
use Rattle.pfs_cli.specs.Checks.{Answers, counts_text}
use Rattle.pfs_streams.specs.Joined.{split_joined}
use Rattle.pfs_cli.specs.Replays.{Replays}
use Rattle.pfs_cli.specs.Tallies.{IsTallyOfReplay, tally_of}
use Rattle.pfs_cli.specs.declared.tallies.Tally.{Tally}

-- without words, rules and trace are in the one text that is read; `check` reports the counts of the rules, `show`
-- their canonical text; `replay` takes a text of each
abbrev pub Performs : Job → List ℕ → List ℕ → List ℕ → Result Unit ReplayFault → Type 0
Performs job.Joined rules trace text result = Replays (split_joined rules).0 (split_joined rules).1 text result
Performs (job.Check name) rules trace text result = Answers counts_text rules text result
Performs (job.Show name) rules trace text result = Answers text_of rules text result
Performs (job.Replay name other) rules trace text result = Replays rules trace text result

-- and its tally: that of a replay, else of no event
abbrev pub Tallies : Job → List ℕ → List ℕ → List ℕ → Result Unit ReplayFault → Tally → Type 0
Tallies job.Joined rules trace text result tally = IsTallyOfReplay (split_joined rules).0 (split_joined rules).1 text result tally
Tallies (job.Replay name other) rules trace text result tally = IsTallyOfReplay rules trace text result tally
Tallies _ rules trace text result tally = tally ≡ tally_of []

-- the rules text among the bytes that a job reads it from: without words what comes before the split line
abbrev pub rules_within : Job → List ℕ → List ℕ
rules_within job.Joined bytes = (split_joined bytes).0
rules_within _ bytes = bytes

-- a fact of a replay of two files, the one job that reads a trace of its own
abbrev pub OfReplay : Job → Type 0 → Type 0
OfReplay (job.Replay name other) P = P
OfReplay _ P = Unit {0}

-- a fact of the job that reads rules and trace from one text
abbrev pub OfJoined : Job → Type 0 → Type 0
OfJoined job.Joined P = P
OfJoined _ P = Unit {0}

-- a fact of the jobs that read a rules file
abbrev pub OfRulesFile : Job → Type 0 → Type 0
OfRulesFile job.Joined P = Unit {0}
OfRulesFile _ P = P

-- a fact of all jobs but a replay of two files
abbrev pub ReadsRulesAlone : Job → Type 0 → Type 0
ReadsRulesAlone (job.Replay name other) P = Unit {0}
ReadsRulesAlone _ P = P
