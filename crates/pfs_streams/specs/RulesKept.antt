-- What is kept of a rules text as it is read. (own)
use Rattle.std.specs.Prelude.{◌≡◌, ◌<◌, ◌≤◌, ℕ, List, length}
use Rattle.pfs_conf_tokens.specs.Lexis.{text_limit}

-- the most bytes of a rules text
abbrev pub rules_limit : ℕ
rules_limit = text_limit

-- what is kept of the bytes before the end of a rules text: all, or enough to show that it is too long
abbrev pub KeepsEnough : List ℕ → List ℕ → Type 0
KeepsEnough kept text = (length text ≤ rules_limit → kept ≡ text) × (rules_limit < length text → rules_limit < length kept)
