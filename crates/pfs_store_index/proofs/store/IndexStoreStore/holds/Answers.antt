-- Answers of IndexStore's holds: no state has the number 0, and any other is held where the order has it.
use Rattle.std.proofs.Common.{◌≡◌, ◌∙◌, ◌≤◌, ap, is_some, sym, arith}
use Rattle.std.specs.Map.{keys_of}
use Rattle.pfs_store_index.specs.Holdings.{Indexed}
use Rattle.pfs_store_contract.specs.Purging.{state_numbers}
use Rattle.pfs_store_contract.specs.Worlds.{holds_number}
use Rattle.pfs_store_index.proofs.Storing.{held-next, held-zero}
use Rattle.pfs_store_index.proofs.store.IndexStoreStore.holds.Goals as goal

pub returns-then-number-eq0 : goal.returns-then-number-eq0
returns-then-number-eq0 g c =
    let z : c.args.number.0 ≡ 0 = omega arith in
    sym (ap (holds_number c.self.inside.indexes.states) z ∙ held-zero c.self.inside.made c.self.inside.indexes.states c.self.invariant.numbered)
    ∙ ap (λ (p : Indexed). holds_number p.world.states c.args.number.0) c.self.view_is

pub returns-else-number-eq0 : goal.returns-else-number-eq0
returns-else-number-eq0 g c =
    let l : 1 ≤ c.args.number.0 = omega arith in
    let states = c.self.inside.indexes.states in
    let numbers : keys_of c.order.result.now.entries ≡ state_numbers states = c.order.ensures.numbers ∙ ap state_numbers c.records.ensures in
    c.is_some.ensures ∙ ap is_some (rw numbers at c.next_between.ensures) ∙ held-next c.args.number.0 states l
    ∙ ap (λ (p : Indexed). holds_number p.world.states c.args.number.0) c.self.view_is
