-- What a function that adds to what is read already returned, and where it left the cursor and what is read, against what
-- the definition of its reader gives. (not promised)
use Rattle.std.specs.Prelude.{◌≡◌, List, Result, Ok, Err}
use Rattle.pfs_conf_tokens.specs.Tokens.{Tok}
use Rattle.pfs_conf_tokens.specs.Reading.{Refused}
use Rattle.pfs_conf_tokens.specs.TokenResults.{refusal_at}
use Rattle.pfs_conf_tokens.specs.declared.refusals.ReadError.{ReadError}
use Rattle.pfs_conf_tokens.specs.declared.refusals.ReadError.TheVariants as error

-- the same value with the cursor after what was read, or the same refusal, unless memory was refused
abbrev pub Extends : {X : Type 0} → Result Unit ReadError → List Tok → X → Result (X × List Tok) Refused → Type 0
Extends (Ok u) left x read = read ≡ Ok (x, left)
Extends (Err error.Memory) left x read = Unit {0}
Extends (Err (error.Refused e)) left x read = read ≡ Err (refusal_at e left)
