-- Answers of Table::delete: the others are left (`entries`), the entry that is named is counted (`answer`).
use Rattle.std.proofs.Common.{◌∙◌, ap, arith, filter, length, not, rules, subst, sym, List}
use Rattle.std.specs.Prelude.{All}
use Rattle.std.proofs.lemmas.List.Elements.{All-filter}
use Rattle.pfs_addr_values.specs.Prefixes.{IsNetwork}
use Rattle.indexmap.proofs.CallerLemmas.{filter-RetainsPairs}
use Rattle.pfs_eval.specs.Entries.{Entry, is_entry}
use Rattle.pfs_eval.specs.Holdings.{AreEntriesKept, HeldEntries}
use Rattle.pfs_eval.specs.Signs.{AreTrueWords}
use Rattle.pfs_eval.proofs.Leaving.{kept-filtered, left-of}
use Rattle.pfs_eval.proofs.entries.Table.delete.Goals as goal

pub invariant_of-self : goal.invariant_of-self
invariant_of-self c =
    let test = λ (e : Entry). not (is_entry c.args.entry.now e) in
    let kept = filter-RetainsPairs _ test _ (λ k v b w g call. search rules) _ _ c.retain.ensures.filtered in
    subst (λ (es : List Entry). AreEntriesKept es c.self.inside.lengths c.self.inside.bloom c.tell_anew.new.signs) (sym kept)
    (kept-filtered test c.self.inside.map.entries c.self.inside.lengths c.self.inside.bloom c.self.inside.signs c.tell_anew.new.signs c.self.invariant (subst (AreTrueWords c.tell_anew.new.signs) kept c.tell_anew.ensures))

pub returns-clause-answer : goal.returns-clause-answer
returns-clause-answer c =
    let test = λ (e : Entry). not (is_entry c.args.entry.now e) in
    let kept = filter-RetainsPairs _ test _ (λ k v b w g call. search rules) _ _ c.retain.ensures.filtered in
    let fewer = left-of (is_entry c.args.entry.now) c.self.inside.map.entries c.retain.new.self.entries kept in
    let view = ap (λ (h : HeldEntries). length (filter (is_entry c.args.entry.now) h.entries)) c.self.view_is in
    omega (arith, fewer, view, c.len-before.ensures.len, c.len.ensures.len)

pub returns-clause-entries : goal.returns-clause-entries
returns-clause-entries c =
    let test = λ (e : Entry). not (is_entry c.args.entry.now e) in
    let kept = filter-RetainsPairs _ test _ (λ k v b w g call. search rules) _ _ c.retain.ensures.filtered in
    kept ∙ ap (λ (h : HeldEntries). filter (λ (e : Entry). not (is_entry c.args.entry.now e)) h.entries) c.self.view_is

pub tell_anew-requires : goal.tell_anew-requires
tell_anew-requires c =
    let test = λ (e : Entry). not (is_entry c.args.entry.now e) in
    let kept = filter-RetainsPairs _ test _ (λ k v b w g call. search rules) _ _ c.retain.ensures.filtered in
    subst (All (λ (x : Entry). IsNetwork x.0)) (sym kept) (All-filter test (λ (x : Entry). IsNetwork x.0) c.self.inside.map.entries c.self.invariant.networks)
