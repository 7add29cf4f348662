-- What is reported of a rules text alone: its counts, or its canonical text. (own)
use Rattle.std.specs.Prelude.{◌≡◌, ◌++◌, ◌<◌, ◌≤◌, ◌+◌, ℕ, List, [], codes, drop, length, Option, Some, Result, Ok, Err}
use Rattle.std.specs.Fmt.{decimal}
use Rattle.std.specs.Io.KnownBytes.{Appends}
use Rattle.pfs_streams.specs.Feeds.{FeedView, IsSound, IsSpent, bound_of, read_failures, unread}
use Rattle.pfs_streams.specs.RulesKept.{rules_limit}
use Rattle.pfs_streams.specs.Sinks.{SinkView, FlushedOnce, OwesNoFlush, bytes_held, write_failures}
use Rattle.pfs_conf_values.specs.Configs.{Conf, entry_count_of}
use Rattle.pfs_conf.specs.Reads.{Reads}
use Rattle.pfs_conf.specs.declared.faults.LoadFault.{LoadFault}
use Rattle.pfs_conf_show.specs.Texts.{text_of}
use Rattle.pfs_cli.specs.Replays.{ShowsLines}
use Rattle.pfs_cli.specs.Rules.{AreRefused}
use Rattle.pfs_cli.specs.declared.checks.Wanted.{Wanted}
use Rattle.pfs_cli.specs.declared.checks.Wanted.TheVariants as wanted
use Rattle.pfs_cli.specs.declared.faults.ReplayFault.{ReplayFault}
use Rattle.pfs_cli.specs.declared.faults.ReplayFault.TheVariants as fault

-- how many rules and anchors, tables and table entries a configuration has
abbrev pub counts_text : Conf → List ℕ
counts_text conf =
    codes "ok items=" ++ (decimal (length conf.items) ++ (codes " tables=" ++ (decimal (length conf.tables) ++ (codes " entries=" ++ (decimal (entry_count_of conf) ++ codes "\n")))))

-- what is written when such a call ends: the text of the configuration; of rules that are not accepted nothing; nothing
-- where reading stopped or memory was refused; a front of the text where writing failed
abbrev pub Answers : (Conf → List ℕ) → List ℕ → List ℕ → Result Unit ReplayFault → Type 0
Answers wanted_of rules text (Ok u) = (conf : Conf) × Reads rules conf × (text ≡ wanted_of conf)
Answers wanted_of rules text (Err (fault.Rules f)) = ((conf : Conf) → Reads rules conf → ⊥) × (text ≡ [])
Answers wanted_of rules text (Err fault.Read) = text ≡ []
Answers wanted_of rules text (Err fault.Endless) = text ≡ []
Answers wanted_of rules text (Err fault.Memory) = text ≡ []
Answers wanted_of rules text (Err fault.Write) = (conf : Conf) × Reads rules conf × ((rest : List ℕ) × (wanted_of conf ≡ text ++ rest))
Answers wanted_of rules text (Err _) = ⊥

-- what is wanted of a rules text, as a text of its configuration
abbrev pub wanted_text : Wanted → Conf → List ℕ
wanted_text wanted.Counts = counts_text
wanted_text wanted.CanonicalText = text_of

-- what a call that reports on a rules text alone leaves in its feed and its sink, and returns
pub record TellsRules {R W : Type 0} (remaining : R → Option (List ℕ)) (contents : W → Option (List ℕ)) (text : Conf → List ℕ)
    (before after : FeedView R) (held left : SinkView W) (result : Result Unit ReplayFault) : Type 0 where
  -- the text that is wanted, as far as the result says
  pub answers : (rs : List ℕ) → unread remaining before ≡ Some rs
      → (t : List ℕ) × Appends (bytes_held contents held) (bytes_held contents left) t × Answers text rs t result
  -- a fault of the rules is one that this text may have
  pub refused : (rs : List ℕ) (f : LoadFault) → unread remaining before ≡ Some rs → result ≡ Err (fault.Rules f) → AreRefused rs f
  -- no more is read than is needed
  pub few : (rs : List ℕ) → unread remaining before ≡ Some rs → (k : ℕ) × (k ≤ rules_limit + 1) × (unread remaining after ≡ Some (drop k rs))
  -- no fault is reported of a reader or a writer that did not have it
  pub read : result ≡ Err fault.Read → 0 < read_failures after
  pub endless : result ≡ Err fault.Endless → IsSpent after
  pub write : result ≡ Err fault.Write → 0 < write_failures left
  pub memory : result ≡ Err fault.Memory → IsSound after
  -- refused rules leave nothing written, the feed keeps its bound, by lines what was written is flushed, else there is at most one flush
  pub unwritten : (f : LoadFault) → result ≡ Err (fault.Rules f) → left ≡ held
  pub bound : bound_of after ≡ bound_of before
  pub flushes : FlushedOnce held left
  pub shows : OwesNoFlush held → ShowsLines left result
