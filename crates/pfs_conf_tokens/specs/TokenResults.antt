-- What a function of the code returned, and where it left the cursor, against what the definition of its reader gives. (not promised)
use Rattle.std.specs.Prelude.{◌≡◌, List, Result, Ok, Err}
use Rattle.pfs_conf_tokens.specs.Tokens.{Tok}
use Rattle.pfs_conf_tokens.specs.Reading.{Refused, stop, broken}
use Rattle.pfs_conf_tokens.specs.declared.refusals.Refusal.{Refusal}
use Rattle.pfs_conf_tokens.specs.declared.refusals.Refusal.TheVariants as refusal
use Rattle.pfs_conf_tokens.specs.declared.refusals.ReadError.{ReadError}
use Rattle.pfs_conf_tokens.specs.declared.refusals.ReadError.TheVariants as error

-- a refusal with the tokens at which reading stopped
abbrev pub refusal_at : Refusal → List Tok → Refused
refusal_at (refusal.Stop w) left = stop left w
refusal_at (refusal.Broken rule line) left = broken rule line

-- the same value with the cursor after it, or the same refusal with the cursor at the token that no statement accepts there
abbrev pub Gives : {X : Type 0} → Result X Refusal → List Tok → Result (X × List Tok) Refused → Type 0
Gives (Ok x) left read = read ≡ Ok (x, left)
Gives (Err e) left read = read ≡ Err (refusal_at e left)

-- the same of a function that takes memory, unless that is refused
abbrev pub GivesOrMemory : {X : Type 0} → Result X ReadError → List Tok → Result (X × List Tok) Refused → Type 0
GivesOrMemory (Ok x) left read = read ≡ Ok (x, left)
GivesOrMemory (Err error.Memory) left read = Unit {0}
GivesOrMemory (Err (error.Refused e)) left read = read ≡ Err (refusal_at e left)
