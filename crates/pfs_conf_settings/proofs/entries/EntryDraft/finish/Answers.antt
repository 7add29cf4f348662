-- Answer of EntryDraft::finish: with the entry at the next place, the entries so far are one more.
use Rattle.std.proofs.Common.{◌≡◌, ◌∙◌, ◌++◌, [], ◌∷◌, ℕ, List, Some, ap, sym, take, ◌+◌}
use Rattle.std.specs.Prelude.{slice_get}
use Rattle.std.proofs.lemmas.List.{take_more}
use Rattle.std.proofs.lemmas.Option.{get_or_from_slice_get, slice_get_within}
use Rattle.pfs_conf_values.specs.Entries.{TextEntry}
use Rattle.pfs_conf_settings.proofs.entries.EntryDraft.finish.Goals as goal

one_more : (xs : List TextEntry) (n : ℕ) (x : TextEntry) → slice_get xs n ≡ Some x → take n xs ++ x ∷ [] ≡ take (n + 1) xs
one_more xs n x at =
    ap (λ y. take n xs ++ y ∷ []) (sym (get_or_from_slice_get xs n x x at)) ∙ sym (take_more xs n x (slice_get_within xs n x at))

pub loop-place-preserved : goal.loop-place-preserved
loop-place-preserved c =
    let at : slice_get c.args.self.now c.loop-place.place ≡ Some c.unwrap.result = sym c.at.ensures ∙ c.unwrap.ensures in
    c.in_ok-push.ensures.items ∙ ap (λ xs. xs ++ c.unwrap.result ∷ []) c.loop-place.invariant ∙ one_more c.args.self.now c.loop-place.place c.unwrap.result at
