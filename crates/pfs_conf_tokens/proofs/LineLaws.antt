-- Going over line ends.
use Rattle.std.proofs.Common.{◌≡◌, true, false, List, [], ◌∷◌, refl}
use Rattle.pfs_conf_tokens.specs.Tokens.{Tok, head}
use Rattle.pfs_conf_tokens.specs.Reading.{rest}
use Rattle.pfs_conf_tokens.specs.Keys.{ends_line}
use Rattle.pfs_conf_tokens.specs.Grammar.{skip_lines}

-- a line end in front is gone over
pub skip_over : (ts : List Tok) → ends_line (head ts).key ≡ true → skip_lines (rest ts) ≡ skip_lines ts
unfolding skip_lines
skip_over [] e = refl
skip_over (t ∷ ts) e = rw e refl

-- any other token stays
pub skip_stays : (ts : List Tok) → ends_line (head ts).key ≡ false → ts ≡ skip_lines ts
unfolding skip_lines
skip_stays [] e = refl
skip_stays (t ∷ ts) e = rw e refl
