-- Answers of EngineContents::inner_key: the state that was found on the wire is the one that has its number.
use Rattle.std.proofs.Common.{◌∙◌, ap, subst, sym}
use Rattle.std.specs.Option.{option_and_then}
use Rattle.pfs_addr_values.specs.declared.packets.Dir.TheVariants as dir
use Rattle.pfs_store_contract.specs.Calls.{onward_key}
use Rattle.pfs_store_contract.specs.Worlds.{World, state_with}
use Rattle.pfs_engine_machine.specs.MachineInvariants.{Rise}
use Rattle.pfs_engine.specs.Contents.{ContentsView}
use Rattle.pfs_engine.proofs.Numbered.{numbered-outside}
use Rattle.pfs_engine.proofs.contents.EngineContents.inner_key.Goals as goal

pub returns-in-Some : goal.returns-in-Some
returns-in-Some g c =
    let w = g.S.Store.world c.self.inside.store in
    let held_is = ap (λ (v : ContentsView _). v.held.world) c.self.view_is in
    let rises = subst (λ (v : World). Rise 0 v.states v.made) (sym held_is) c.requires.numbers in
    let number_is = numbered-outside w c.of.result c.in-Some.found.number rises (sym c.in-Some.ensures.number) in
    c.onward_key.ensures ∙ ap (option_and_then (onward_key dir.In)) number_is
    ∙ (λ i. option_and_then (onward_key dir.In) (state_with (c.of.ensures i) (held_is i)))
