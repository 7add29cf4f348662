-- Answer of PlainStore's flush: what leave says of its lists it says of the whole world (`world`).
use Rattle.std.proofs.Common.{◌≡◌, ◌∙◌, ℕ, List, ◌++◌, length, take, drop, ap, rules}
use Rattle.std.proofs.Math.Seq.{take-append_seam}
use Rattle.pfs_store_contract.specs.Calls.{stays_unflushed, world_flushed}
use Rattle.pfs_store_contract.specs.Leaving.{world_without}
use Rattle.pfs_store_contract.specs.Plain.{Plain}
use Rattle.pfs_store_contract.specs.Worlds.{lists}
use Rattle.pfs_store_plain.proofs.plain.PlainStoreStore.flush.Goals as goal

whole : {A : Type 0} (n : ℕ) (xs ys : List A) → n ≡ length xs → take n (xs ++ drop (length xs) ys) ≡ xs
whole n xs ys e = ap (λ m. take m (xs ++ drop (length xs) ys)) e ∙ take-append_seam xs _

pub returns-clause-world : goal.returns-clause-world
returns-clause-world c =
    let s = c.self.inside in
    let as_many : s.nodes.len ≡ length c.leave.new.nodes = search rules in
    ap (λ xs. lists c.leave.new.states.items xs c.leave.new.pending.items s.pending_nodes.items s.made) (whole s.nodes.len c.leave.new.nodes s.nodes.items as_many)
    ∙ c.leave.ensures.world s.pending_nodes.items s.made
    ∙ ap (λ profile. world_without s.config (lists s.states.items c.as_mut_slice.result.now s.pending_states.items s.pending_nodes.items s.made) (stays_unflushed profile c.args.dir c.args.source c.args.rule) c.args.now) c.profile.ensures
    ∙ ap (λ xs. world_flushed s.config (lists s.states.items xs s.pending_states.items s.pending_nodes.items s.made) c.args.dir c.args.source c.args.rule c.args.now) c.as_mut_slice.ensures.value
    ∙ ap (λ (p : Plain). world_flushed p.config p.world c.args.dir c.args.source c.args.rule c.args.now) c.self.view_is
