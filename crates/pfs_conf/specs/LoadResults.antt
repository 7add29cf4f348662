-- What is returned, against what reading the tokens gives. (not promised)
use Rattle.std.specs.Prelude.{◌≡◌, ◌≤◌, ◌<◌, ℕ, List, length, Result, Ok, Err}
use Rattle.pfs_conf_tokens.specs.Tokens.{Tok, head}
use Rattle.pfs_conf_tokens.specs.Lexis.{text_limit, tokens_of}
use Rattle.pfs_conf_tokens.specs.Reading.{stop, broken}
use Rattle.pfs_conf_tokens.specs.declared.refusals.LoadRule.{LoadRule}
use Rattle.pfs_conf_tokens.specs.declared.refusals.Why.{Why}
use Rattle.pfs_conf_values.specs.Configs.{Conf}
use Rattle.pfs_conf.specs.declared.faults.LoadFault.{LoadFault}
use Rattle.pfs_conf.specs.Kinds.{fault, too_long, no_memory, kind_of_rule}
use Rattle.pfs_conf.specs.Stopping.{kind_of}
use Rattle.pfs_conf.specs.Reading.{text_at}

-- a fault by what reading gives: the text is too long, memory was refused, a load rule is broken, or reading stops
pub data IsFaultRead (text : List ℕ) (e : LoadFault) : Type 0 where
  long : text_limit < length text → e ≡ too_long → IsFaultRead text e
  memory : length text ≤ text_limit → e ≡ no_memory → IsFaultRead text e
  breaks : {rule : LoadRule} {line : ℕ} → length text ≤ text_limit → text_at (tokens_of text) ≡ Err (broken rule line) → e ≡ fault line (kind_of_rule rule) → IsFaultRead text e
  stops : {w : Why} {left : List Tok} → length text ≤ text_limit → text_at (tokens_of text) ≡ Err (stop left w) → e ≡ fault (head left).line (kind_of w left) → IsFaultRead text e

-- a configuration by what reading gives
pub record IsConfRead (text : List ℕ) (conf : Conf) : Type 0 where
  pub short : length text ≤ text_limit
  pub left : List Tok
  pub reads : text_at (tokens_of text) ≡ Ok (conf, left)

abbrev pub IsLoad : Result Conf LoadFault → List ℕ → Type 0
IsLoad (Ok conf) text = IsConfRead text conf
IsLoad (Err e) text = IsFaultRead text e
