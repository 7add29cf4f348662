-- Invariant of texts_of: the texts are those of the words so far.
use Rattle.std.proofs.Common.{◌≡◌, map, take}
use Rattle.pfs_words.proofs.given.texts_of.Given as goal

abbrev pub invariant-loop-word : goal.invariant-loop-word
invariant-loop-word l = map (λ t. t.now) l.texts.items ≡ map (λ w. w.bytes.items) (take l.word-index l.words)
