-- What a function that adds to a draft returned, and where it left the cursor and the draft, against what the definition of
-- its reader gives. (not promised)
use Rattle.std.specs.Prelude.{◌≡◌, List, Result, Ok, Err}
use Rattle.pfs_conf_tokens.specs.Tokens.{Tok}
use Rattle.pfs_conf_tokens.specs.Reading.{Refused}
use Rattle.pfs_conf_tokens.specs.TokenResults.{refusal_at}
use Rattle.pfs_conf_tokens.specs.declared.refusals.Refusal.{Refusal}
use Rattle.pfs_conf_settings.specs.Drafts.{Drafted}

-- the same draft with the cursor after what was read, or the same refusal
abbrev pub Draws : Result Unit Refusal → List Tok → Drafted → Result (Drafted × List Tok) Refused → Type 0
Draws (Ok u) left d read = read ≡ Ok (d, left)
Draws (Err e) left d read = read ≡ Err (refusal_at e left)
