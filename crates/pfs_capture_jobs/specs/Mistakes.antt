-- The texts of mistakes in words that clap understands. (own)
use Rattle.std.specs.Prelude.{ℕ, List, codes}
use Rattle.clap.specs.Words.{kind_of}
use Rattle.clap.specs.declared.error.kind.ErrorKind.{ErrorKind}
use Rattle.clap.specs.declared.error.kind.ErrorKind.TheVariants as kind
use Rattle.pfs_capture_jobs.specs.declared.refusals.Mistake.{Mistake}
use Rattle.pfs_capture_jobs.specs.declared.refusals.Mistake.TheVariants as mistake
use Rattle.pfs_capture_jobs.specs.declared.refusals.WordsRefusal.{WordsRefusal}
use Rattle.pfs_capture_jobs.specs.declared.refusals.WordsRefusal.TheVariants as refusal

-- the text of a mistake, without a line feed
abbrev pub mistake_text : Mistake → List ℕ
mistake_text mistake.Interface = codes "--interface: no name of an interface"
mistake_text mistake.Mac = codes "--mac: no address such as 00:00:5e:00:53:01"
mistake_text mistake.Inside = codes "--inside: no address and no prefix"
mistake_text mistake.Outside = codes "--outside: no address and no prefix"
mistake_text mistake.BothSides = codes "--inside and --outside: give one of them"
mistake_text mistake.AnswersTwice = codes "--answers: give it once"
mistake_text mistake.AnswersOut = codes "--answers: standard output has the trace"
mistake_text mistake.AnswersAreCapture = codes "--answers: this is the capture"
mistake_text mistake.Captures = codes "--interface: give one capture for all, or one for each"
mistake_text mistake.StandardTwice = codes "-: standard input is one capture"
mistake_text mistake.NotText = codes "a word is not UTF-8"

-- the exit status of what clap says of words: 0 for help and the version, 4 where memory was refused, else 2
abbrev pub kind_status : ErrorKind → ℕ
kind_status kind.OutOfMemory = 4
kind_status kind.DisplayHelp = 0
kind_status kind.DisplayVersion = 0
kind_status other = 2

-- the exit status of words that are refused
abbrev pub refusal_status : WordsRefusal → ℕ
refusal_status (refusal.Clap error) = kind_status (kind_of error)
refusal_status (refusal.Mistake m) = 2
refusal_status refusal.Memory = 4
