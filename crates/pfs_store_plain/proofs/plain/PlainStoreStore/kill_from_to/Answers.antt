-- Answer of PlainStore's kill_from_to: what leave says of its lists it says of the whole world (`world`).
use Rattle.std.proofs.Common.{◌≡◌, ◌∙◌, ℕ, List, ◌++◌, length, take, drop, ap, rules}
use Rattle.std.proofs.Math.Seq.{take-append_seam}
use Rattle.pfs_store_contract.specs.Calls.{world_elsewhere}
use Rattle.pfs_store_contract.specs.Plain.{Plain}
use Rattle.pfs_store_contract.specs.Worlds.{lists}
use Rattle.pfs_store_plain.proofs.plain.PlainStoreStore.kill_from_to.Goals as goal

whole : {A : Type 0} (n : ℕ) (xs ys : List A) → n ≡ length xs → take n (xs ++ drop (length xs) ys) ≡ xs
whole n xs ys e = ap (λ m. take m (xs ++ drop (length xs) ys)) e ∙ take-append_seam xs _

pub returns-clause-world : goal.returns-clause-world
returns-clause-world c =
    let s = c.self.inside in
    let as_many : s.nodes.len ≡ length c.leave.new.nodes = search rules in
    ap (λ xs. lists c.leave.new.states.items xs c.leave.new.pending.items s.pending_nodes.items s.made) (whole s.nodes.len c.leave.new.nodes s.nodes.items as_many)
    ∙ c.leave.ensures.world s.pending_nodes.items s.made
    ∙ ap (λ xs. world_elsewhere s.config (lists s.states.items xs s.pending_states.items s.pending_nodes.items s.made) c.args.hosts.now c.args.now) c.as_mut_slice.ensures.value
    ∙ ap (λ (p : Plain). world_elsewhere p.config p.world c.args.hosts.now c.args.now) c.self.view_is
