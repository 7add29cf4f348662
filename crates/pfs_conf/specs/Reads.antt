-- What it is that a rules text reads as a configuration. (own)
use Rattle.std.specs.Prelude.{◌≤◌, ℕ, List, length}
use Rattle.pfs_conf_tokens.specs.Lexis.{text_limit, tokens_of}
use Rattle.pfs_conf_values.specs.Configs.{Conf}
use Rattle.pfs_conf.specs.Grammar.{TextOf}

-- the text has at most 1,048,576 bytes; its tokens are statements of the grammar which keep the load rules; the configuration
-- holds what they say (pf.conf(5), GRAMMAR)
pub record Reads (text : List ℕ) (conf : Conf) : Type 0 where
  pub short : length text ≤ text_limit
  pub whole : TextOf (tokens_of text) conf
