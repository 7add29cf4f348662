-- Answers of Table::of: the next entry of a text is not in the table yet, and goes last.
use Rattle.std.proofs.Common.{◌≡◌, ◌++◌, [], ◌∷◌, None, Some, ap, sym, ◌∙◌, map, take}
use Rattle.std.specs.Prelude.{option_map, slice_get}
use Rattle.pfs_addr_values.specs.Prefixes.{network_of}
use Rattle.pfs_conf_values.specs.Entries.{TextEntry}
use Rattle.pfs_eval.specs.Entries.{entry_of_text}
use Rattle.pfs_eval.proofs.TextTables.{not-held, own_network, taken-more}
use Rattle.pfs_eval.proofs.entries.Table.of.Goals as goal

pub add-requires-clause-absent : goal.add-requires-clause-absent
add-requires-clause-absent c =
    let at : slice_get c.args.entries.now c.loop-place.place ≡ Some c.unwrap-prefix.result = sym c.at.ensures
    ∙ c.unwrap-prefix.ensures in
    rw (c.loop-place.invariant, c.addr.ensures.value, c.bits.ensures.value)
    (not-held c.args.entries.now c.loop-place.place c.unwrap-prefix.result c.len-place-end.ensures.networks c.len-place-end.ensures.distinct at)

pub loop-place-preserved : goal.loop-place-preserved
loop-place-preserved c =
    let e : TextEntry = c.unwrap-prefix.result in
    let at : slice_get c.args.entries.now c.loop-place.place ≡ Some e = sym c.at.ensures ∙ c.unwrap-prefix.ensures in
    c.in_ok-add.ensures.ok
    ∙ ap (λ es. es ++ (network_of c.addr.result c.bits.result, record { negated = e.1; moment = None }) ∷ []) c.loop-place.invariant
    ∙ ap (λ a. map entry_of_text (take c.loop-place.place c.args.entries.now) ++ (network_of a c.bits.result, record { negated = e.1; moment = None }) ∷ []) c.addr.ensures.value
    ∙ ap (λ n. map entry_of_text (take c.loop-place.place c.args.entries.now) ++ (network_of e.0.addr n, record { negated = e.1; moment = None }) ∷ []) c.bits.ensures.value
    ∙ ap (λ p. map entry_of_text (take c.loop-place.place c.args.entries.now) ++ (p, record { negated = e.1; moment = None }) ∷ [])
    (own_network e.0 c.addr.ensures.network)
    ∙ sym (taken-more entry_of_text c.args.entries.now c.loop-place.place (entry_of_text e) (ap (option_map entry_of_text) at))
