-- What a function of the code returned, and how far it came, against what the definition of its reader gives. (not promised)
use Rattle.std.specs.Prelude.{◌≡◌, ◌≤◌, List, Result, Ok, Err}
use Rattle.pfs_conf_tokens.specs.Tokens.{Tok}
use Rattle.pfs_conf_tokens.specs.Reading.{Refused}
use Rattle.pfs_conf_tokens.specs.TokenResults.{refusal_at}
use Rattle.pfs_conf_tokens.specs.declared.refusals.ReadError.{ReadError}
use Rattle.pfs_conf_tokens.specs.declared.refusals.ReadError.TheVariants as error
use Rattle.pfs_conf_values.specs.Order.{depth_after}
use Rattle.pfs_conf.specs.declared.progress.Progress.{Progress}

-- the same progress with the cursor after what was read, or the same refusal, unless memory was refused
abbrev pub Comes : Result (Unit {0}) ReadError → List Tok → Progress → Result (Progress × List Tok) Refused → Type 0
Comes (Ok u) left p read = read ≡ Ok (p, left)
Comes (Err error.Memory) left p read = Unit {0}
Comes (Err (error.Refused e)) left p read = read ≡ Err (refusal_at e left)

-- the next item may be as deep as this
pub record IsAtDepth (p : Progress) : Type 0 where
  pub order : p.depth ≤ depth_after 0 p.draft.items
  pub shallow : p.depth ≤ 16
