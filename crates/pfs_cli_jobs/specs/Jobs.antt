-- The jobs of a command line, by what clap finds in its words.
use Rattle.std.specs.Prelude.{◌≡◌, ◌&&◌, List, codes, Bool, true, false, Option, Some, None}
use Rattle.clap.specs.Words.{App, Row, Rule, Shape, Text, first_of, new_app, new_rule, with_rule, with_subcommand}
use Rattle.clap.specs.Simple.{on_top}
use Rattle.pfs_words.specs.Words.{ByLinesIn, file_of, flag_rule, is_standard, lines_flag}
use Rattle.pfs_cli_jobs.specs.declared.tasks.Request.{Request}
use Rattle.pfs_cli_jobs.specs.declared.tasks.Job.{Job}
use Rattle.pfs_cli_jobs.specs.declared.tasks.Job.TheVariants as job

-- a file's name, which has to be there
abbrev pub file_rule : Text → Rule
file_rule id = record (new_rule id) { required = true }

-- the subcommands
abbrev pub check_app : App
check_app = with_rule (new_app (codes "check")) (file_rule (codes "RULES"))

abbrev pub show_app : App
show_app = with_rule (new_app (codes "show")) (file_rule (codes "RULES"))

abbrev pub replay_app : App
replay_app = with_rule (with_rule (with_rule (new_app (codes "replay")) (flag_rule lines_flag)) (file_rule (codes "RULES"))) (file_rule (codes "TRACE"))

-- the program, which has a version, and the flag for a call without a subcommand
abbrev pub program_app : App
program_app = with_rule (on_top (λ (s : Shape). record s { has_version = true }) (new_app (codes "pfsrc"))) (flag_rule lines_flag)

-- its command line
abbrev pub pfsrc_app : App
pfsrc_app = with_subcommand (with_subcommand (with_subcommand program_app check_app.top) show_app.top) replay_app.top

-- a subcommand with its entries
abbrev pub SubcommandGiven : Type 0
SubcommandGiven = Option (Text × List Row)

-- the job that a subcommand names; standard input gives rules or a trace, not both
abbrev pub JobIs : SubcommandGiven → Job → Type 0
JobIs found job.Joined = found ≡ None
JobIs found (job.Check rules) = (rows : List Row) × (found ≡ Some (codes "check", rows)) × (first_of (codes "RULES") rows ≡ Some rules.now)
JobIs found (job.Show rules) = (rows : List Row) × (found ≡ Some (codes "show", rows)) × (first_of (codes "RULES") rows ≡ Some rules.now)
JobIs found (job.Replay rules trace) = (rows : List Row) × (found ≡ Some (codes "replay", rows)) × (first_of (codes "RULES") rows ≡ Some rules.now) × (first_of (codes "TRACE") rows ≡ Some trace.now)
    × (is_standard rules.now && is_standard trace.now ≡ false)

-- a job by lines, by the entries before a subcommand and by those after it: a replay alone can be one
abbrev pub ByLines : List Row → SubcommandGiven → Job → Bool → Type 0
ByLines rows found job.Joined given = ByLinesIn rows given
ByLines rows found (job.Check name) given = given ≡ false
ByLines rows found (job.Show name) given = given ≡ false
ByLines rows found (job.Replay name other) given = (name : Text) (inner : List Row) → found ≡ Some (name, inner) → ByLinesIn inner given

-- what a command line asks for
abbrev pub RequestIs : List Row → SubcommandGiven → Request → Type 0
RequestIs rows found r = JobIs found r.job × ByLines rows found r.job r.by_lines

-- the names of the files that a job reads, where it names them and they do not stand for standard input
abbrev pub rules_file : Job → Option Text
rules_file job.Joined = None
rules_file (job.Check rules) = file_of rules.now
rules_file (job.Show rules) = file_of rules.now
rules_file (job.Replay rules trace) = file_of rules.now

abbrev pub trace_file : Job → Option Text
trace_file job.Joined = None
trace_file (job.Check rules) = None
trace_file (job.Show rules) = None
trace_file (job.Replay rules trace) = file_of trace.now
