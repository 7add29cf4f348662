-- Answer of push_pieces: the pieces are those of the whole text.
use Rattle.std.proofs.Common.{rules, ◌∙◌, ◌++◌, ℕ, List, ap, map, lit<}
use Rattle.std.proofs.lemmas.Iterator.Consumers.{YieldsList-end}
use Rattle.std.proofs.lemmas.Iterator.Splits.{YieldsList-from_str_split}
use Rattle.pfs_capture_jobs.proofs.asking.push_pieces.Goals as goal

pub returns : goal.returns
returns c =
    let end = YieldsList-end (YieldsList-from_str_split 44 c.args.text.now (lit< tt) (search rules) (search rules) (search rules)) c.loop-piece.yielded _ c.loop-piece.yielded_by _ _ c.in-None.is c.next.ensures.steps in
    c.loop-piece.invariant ∙ ap (λ (xs : List (List ℕ)). map (λ t. t.now) c.args.pieces.now.items ++ xs) end.0
