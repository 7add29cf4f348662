-- Answers of Table::add: an entry that is not there goes last (`ok`), and its length is marked.
use Rattle.std.proofs.Common.{◌++◌, ◌-◌, [], ◌∷◌, ap, ◌∙◌, rules}
use Rattle.pfs_addr_values.specs.Prefixes.{network_of}
use Rattle.pfs_eval.specs.Entries.{holds_prefix}
use Rattle.pfs_eval.specs.Holdings.{HeldEntries}
use Rattle.pfs_eval.proofs.Narrowest.{inserted-last, kept-added}
use Rattle.pfs_eval.proofs.Telling.{last-sign, still-true}
use Rattle.pfs_eval.proofs.entries.Table.add.Goals as goal

pub returns-clause-ok : goal.returns-clause-ok
returns-clause-ok c =
    let view = ap (λ (s : HeldEntries). s.entries) c.self.view_is ∙ c.reserve.ensures.entries in
    c.in_ok-insert.ensures.entries
    ∙ inserted-last _ c.prefix.result c.args.addr c.args.bits c.args.mark _ c.prefix.ensures.value c.prefix.ensures.addr c.self.invariant.networks (record { same = λ q h. search rules; self = search rules })
    (ap (λ es. holds_prefix es c.args.addr c.args.bits) view ∙ c.requires.absent)
    ∙ ap (λ es. es ++ (network_of c.args.addr c.args.bits, c.args.mark) ∷ []) view

pub invariant_of-self-2 : goal.invariant_of-self-2
invariant_of-self-2 c =
    let view = ap (λ (s : HeldEntries). s.entries) c.self.view_is ∙ c.reserve.ensures.entries in
    let is =
    c.in_ok-insert.ensures.entries
    ∙ inserted-last _ c.prefix.result c.args.addr c.args.bits c.args.mark _ c.prefix.ensures.value c.prefix.ensures.addr c.self.invariant.networks (record { same = λ q h. search rules; self = search rules })
    (ap (λ es. holds_prefix es c.args.addr c.args.bits) view ∙ c.requires.absent)
    in
    let absent = ap (λ es. holds_prefix es c.args.addr c.args.bits) view ∙ c.requires.absent in
    let tells = c.tell.ensures _ (last-sign _ c.args.addr c.args.bits c.args.mark c.prefix.ensures.addr absent) (still-true _ (network_of c.args.addr c.args.bits, c.args.mark) _ c.self.invariant.told) in
    rw is (kept-added _ c.self.inside.lengths _ c.self.inside.bloom c.note-2.new.self c.self.inside.signs c.tell.new.self c.args.addr c.args.bits (c.width.result - c.args.bits) c.args.mark c.self.invariant c.prefix.ensures.addr c.requires.bits (ap (λ w. w - c.args.bits) c.width.ensures) c.note.ensures.long (record { at = c.note.ensures.noted }) (record { noted = c.note-2.ensures.noted; kept = c.note-2.ensures.kept }) tells)
