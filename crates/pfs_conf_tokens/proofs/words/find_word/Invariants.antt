-- Invariant of find_word: what is found in the words to come is found in all.
use Rattle.std.proofs.Common.{◌≡◌, map, drop}
use Rattle.std.specs.Map.{lookup}
use Rattle.std.specs.Str.{bytes_eq}
use Rattle.pfs_conf_tokens.proofs.words.find_word.Given as goal

abbrev pub invariant-loop-text : goal.invariant-loop-text
invariant-loop-text l = lookup (bytes_eq l.word) (map (λ e. (e.0.now, e.1)) (drop l.text-index l.words)) ≡ lookup (bytes_eq l.word) (map (λ e. (e.0.now, e.1)) l.words)
