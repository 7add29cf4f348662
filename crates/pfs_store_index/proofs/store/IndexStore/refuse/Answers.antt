-- Answers of IndexStore's refuse: the node that is left has a number above all others, and all is kept.
use Rattle.std.proofs.Common.{◌≡◌, ◌∙◌, ◌+◌, ◌<◌, ◌++◌, ◌∷◌, [], Bool, Some, ap, arith, if◌then◌else◌, sym}
use Rattle.pfs_addr_values.specs.Packets.{run_limit}
use Rattle.pfs_store_contract.specs.Admission.{new_node, nodes_with}
use Rattle.pfs_store_index.specs.Holdings.{Indexed}
use Rattle.pfs_store_index.proofs.Storing.{stored-left}
use Rattle.pfs_store_index.proofs.store.IndexStore.refuse.Goals as goal

pub invariant_of-self : goal.invariant_of-self
invariant_of-self g c =
    let h = c.self.inside.indexes in
    let l : c.self.inside.made < run_limit = omega (arith, ap (λ (p : Indexed). p.world.made) c.self.view_is, c.requires.room) in
    let ns : c.put_node.new.self.nodes ≡ nodes_with h.nodes (c.self.inside.made + 1) c.args.source c.args.now (Some c.in-Some.scope) =
    c.in-Ok.ensures.nodes ∙ sym (ap (λ (b : Bool). if b then h.nodes else h.nodes ++ new_node (c.self.inside.made + 1) c.in-Some.scope c.args.source c.args.now ∷ []) c.in-Some.ensures.absent) in
    stored-left c.args.source c.args.now (Some c.in-Some.scope) h c.put_node.new.self c.self.inside.states_round.cursor c.self.inside.states_round.mark c.self.inside.nodes_round.cursor c.self.inside.nodes_round.mark c.self.inside.made _
    l c.self.invariant c.in-Ok.ensures.config c.in-Ok.ensures.states ns
