-- What the next frame of a capture makes of an account, and what a turn writes. (not promised)
use Rattle.std.specs.Prelude.{ℕ, ◌≡◌, ◌⊎◌, ◌<◌, ◌+◌, List, [], length, take, Result, Ok, Err}
use Rattle.pfs_capture.specs.Accounts.{frame_counted}
use Rattle.pfs_capture.specs.Runs.{Judged}
use Rattle.pfs_capture.specs.Traces.{answer_text, frame_text}
use Rattle.pfs_capture.specs.declared.accounts.Account.{Account}
use Rattle.pfs_capture.specs.declared.faults.TraceStop.{TraceStop}
use Rattle.pfs_capture.specs.declared.faults.TraceStop.TheVariants as stop

-- an account with a frame counted, the frame's row, and what pf answered
pub record Taken : Type 0 where
  pub account : Account
  pub row : List ℕ
  pub answer : List ℕ

-- what a frame makes
abbrev pub frame_taken : Account → Judged → Taken
frame_taken account j = record {
  account = frame_counted account j.is_late j.outcome;
  row = frame_text j.instant.second j.outcome;
  answer = answer_text (account.records + 1) j.outcome;
}

-- a call leaves what a frame makes, unless memory was refused
abbrev pub TakesFrame : Taken → Result Unit TraceStop → Account → List ℕ → List ℕ → Type 0
TakesFrame taken (Ok u) account row answer = taken ≡ record { account = account; row = row; answer = answer }
TakesFrame taken (Err f) account row answer = f ≡ stop.Memory

-- what a frame makes does not fit lines with room for so many bytes of a row, and of an answer
abbrev pub Overflows : Taken → ℕ → ℕ → Type 0
Overflows taken row answer = (row < length taken.row) ⊎ (answer < length taken.answer)

-- a text is written whole, or a front of it
abbrev pub IsFront : List ℕ → List ℕ → Type 0
IsFront text whole = (k : ℕ) × (text ≡ take k whole)

-- what is written of a row and an answer
abbrev pub Sends : List ℕ → List ℕ → List ℕ → List ℕ → Result Unit TraceStop → Type 0
Sends row answer t u (Ok x) = (t ≡ row) × (u ≡ answer)
Sends row answer t u (Err stop.Write) = IsFront t row × (u ≡ [])
Sends row answer t u (Err stop.Answers) = (t ≡ row) × IsFront u answer
Sends row answer t u (Err f) = ⊥
