-- What a scan leaves: the token, and after it, unless it is the last, those of the bytes that are left. (not promised)
use Rattle.std.specs.Prelude.{List, [], ◌∷◌, if◌then◌else◌}
use Rattle.pfs_conf_tokens.specs.Tokens.{Tok}
use Rattle.pfs_conf_tokens.specs.Lexis.{tokens}
use Rattle.pfs_conf_tokens.specs.declared.lexer.Scan.{Scan}

abbrev pub tokens_of_scan : Scan → List Tok
tokens_of_scan s = s.token ∷ (if s.is_last then [] else tokens 0 s.busy s.line s.rest.now)
