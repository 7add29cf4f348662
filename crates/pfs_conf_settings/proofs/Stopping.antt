-- A loop that a step refuses is refused as the step is, or had no memory.
use Rattle.std.proofs.Common.{◌≡◌, Bool, false, List, Err}
use Rattle.pfs_conf_tokens.specs.Tokens.{Tok, head}
use Rattle.pfs_conf_tokens.specs.declared.keys.Key.{Key}
use Rattle.pfs_conf_tokens.specs.declared.refusals.ReadError.{ReadError}
use Rattle.pfs_conf_tokens.specs.declared.refusals.ReadError.TheVariants as error
use Rattle.pfs_conf_tokens.specs.Reading.{Reader, until_all, up_to_all}
use Rattle.pfs_conf_tokens.specs.TokenResults.{refusal_at}
use Rattle.pfs_conf_tokens.proofs.Laws.{until_fails, up_to_fails}
use Rattle.pfs_conf_settings.specs.AdditionResults.{Extends}

pub extends_fails : {A : Type 0} (stops : Key → Bool) (step : A → Reader A) (a : A) (ts left : List Tok) (after : A) (e : ReadError)
    → stops (head ts).key ≡ false → Extends (Err e) left after (step a ts) → Extends (Err e) left after (until_all stops step a ts)
extends_fails stops step a ts left after error.Memory h g = tt
extends_fails stops step a ts left after (error.Refused e) h g = until_fails stops step a ts (refusal_at e left) h g

pub up_to_extends_fails : {A : Type 0} (stops : Key → Bool) (step : A → Reader A) (a : A) (ts left : List Tok) (after : A) (e : ReadError)
    → stops (head ts).key ≡ false → Extends (Err e) left after (step a ts) → Extends (Err e) left after (up_to_all stops step a ts)
up_to_extends_fails stops step a ts left after error.Memory h g = tt
up_to_extends_fails stops step a ts left after (error.Refused e) h g = up_to_fails stops step a ts (refusal_at e left) h g
