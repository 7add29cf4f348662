-- The first name among those of the groups from here on.
use Rattle.std.proofs.Common.{◌≡◌, ◌<◌, ◌+◌, ℕ, List, drop, get_or, length, ap}
use Rattle.pfs_capture_jobs.specs.Requests.{first_capture, first_answers, or_name}
use Rattle.pfs_capture_jobs.specs.declared.asking.InterfaceWords.{InterfaceWords}
use Rattle.pfs_capture_jobs.proofs.ReadingLaws.{drop-here}

pub answers_step : (asked : List InterfaceWords) (i : ℕ) (a : InterfaceWords) → a ≡ get_or asked i a → i < length asked → first_answers (drop i asked) ≡ or_name a.answers (first_answers (drop (i + 1) asked))
answers_step asked i a e lt = ap first_answers (drop-here asked i a a e lt)

pub capture_step : (asked : List InterfaceWords) (i : ℕ) (a : InterfaceWords) → a ≡ get_or asked i a → i < length asked → first_capture (drop i asked) ≡ or_name a.capture (first_capture (drop (i + 1) asked))
capture_step asked i a e lt = ap first_capture (drop-here asked i a a e lt)
