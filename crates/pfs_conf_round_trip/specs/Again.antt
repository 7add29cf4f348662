-- Which configurations a rules text can say as they are shown. (own)
use Rattle.std.specs.Prelude.{◌≤◌, length}
use Rattle.pfs_conf_values.specs.Configs.{Conf, timeout_of}
use Rattle.pfs_conf_values.specs.declared.timeouts.TimeoutName.TheVariants.{AdaptiveEnd}
use Rattle.pfs_conf_tokens.specs.Lexis.{text_limit}
use Rattle.pfs_conf_show.specs.Texts.{text_of}

-- the canonical text is no longer than a rules text may be, and its `adaptive.end` is a value that can be given: twelve tenths
-- of a large limit on states can pass that, and many short entries can pass the length
pub record CanBeSaid (conf : Conf) : Type 0 where
  pub short : length (text_of conf) ≤ text_limit
  pub end : timeout_of conf AdaptiveEnd ≤ 4294967295
