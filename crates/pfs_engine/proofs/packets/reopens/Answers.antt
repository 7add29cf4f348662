-- Answers of reopens: the state of the packet is the one that has its number.
use Rattle.std.proofs.Common.{◌≡◌, ◌∙◌, ap, subst, sym, true, rules}
use Rattle.std.specs.Prelude.{option_map}
use Rattle.pfs_store_contract.specs.Worlds.{World, holds_number, state_numbered}
use Rattle.pfs_store_contract.specs.declared.records.State.{State}
use Rattle.pfs_track.specs.StatePhases.{has_closed}
use Rattle.pfs_engine.specs.Contents.{ContentsView}
use Rattle.pfs_engine.proofs.Numbered.{closed-reopens, number-held, numbered-found}
use Rattle.pfs_engine.proofs.packets.reopens.Goals as goal

pub has_closed-requires-clause-held : goal.has_closed-requires-clause-held
has_closed-requires-clause-held g c =
    let was = c.args.held.now in
    subst (λ (w : World). holds_number w.states c.args.found.number.0 ≡ true) (sym (ap (λ (v : ContentsView _). v.held.world) c.held.view_is))
    (number-held was.config was.held c.args.packet.now c.args.now c.args.found.number c.requires.kept c.requires.found.number)

pub returns-then-may_reopen-clause-answer : goal.returns-then-may_reopen-clause-answer
returns-then-may_reopen-clause-answer g c =
    let was = c.args.held.now in
    let here = ap (λ (v : ContentsView _). v.held.world) c.held.view_is in
    let number_is = numbered-found was.config was.held c.args.packet.now c.args.now c.args.found.number c.requires.kept c.requires.found.number in
    let answer = c.has_closed.ensures.answer ∙ ap (λ (w : World). option_map (λ (s : State). has_closed s.phase) (state_numbered c.args.found.number.0 w)) here
    ∙ ap (option_map (λ (s : State). has_closed s.phase)) number_is in
    closed-reopens was.config was.held.world c.args.packet.now c.has_closed.result (search rules) answer
