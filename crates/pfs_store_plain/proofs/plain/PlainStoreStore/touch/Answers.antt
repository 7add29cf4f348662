-- Answers of PlainStore's touch: a state of the number is there; what touch says of its lists it says of the whole world (`world`).
use Rattle.std.proofs.Common.{◌≡◌, ◌∙◌, ℕ, List, [], ◌++◌, length, take, drop, ap, arith}
use Rattle.std.proofs.Math.Seq.{take-append_seam}
use Rattle.pfs_store_contract.specs.Calls.{world_touched}
use Rattle.pfs_store_contract.specs.Plain.{Plain}
use Rattle.pfs_store_contract.specs.Worlds.{holds_number, lists, state_numbered}
use Rattle.pfs_store_plain.proofs.HeldLaws.{held-found}
use Rattle.pfs_store_plain.proofs.plain.PlainStoreStore.touch.Goals as goal

whole : {A : Type 0} (n : ℕ) (xs ys : List A) → n ≡ length xs → take n (xs ++ drop (length xs) ys) ≡ xs
whole n xs ys e = ap (λ m. take m (xs ++ drop (length xs) ys)) e ∙ take-append_seam xs _

pub touch-requires-clause-held : goal.touch-requires-clause-held
touch-requires-clause-held c =
    held-found c.args.found.number.0 c.as_mut_slice.result.now
    (ap (λ xs. holds_number xs c.args.found.number.0) c.as_mut_slice.ensures.value ∙ ap (λ (p : Plain). holds_number p.world.states c.args.found.number.0) c.self.view_is ∙ c.requires.held)

pub returns-clause-world : goal.returns-clause-world
returns-clause-world c =
    let s = c.self.inside in
    let states : s.states.len ≡ length c.touch.new.states = omega (arith, c.touch.auto.states, c.as_mut_slice.ensures.len, s.states.ok.0) in
    let nodes : s.nodes.len ≡ length c.touch.new.nodes = omega (arith, c.touch.auto.nodes, c.as_mut_slice-2.ensures.len, s.nodes.ok.0) in
    (λ j. lists (whole s.states.len c.touch.new.states s.states.items states j) (whole s.nodes.len c.touch.new.nodes s.nodes.items nodes j) s.pending_states.items s.pending_nodes.items s.made)
    ∙ c.touch.ensures.world s.pending_states.items s.pending_nodes.items s.made
    ∙ (λ j. world_touched s.config (lists (c.as_mut_slice.ensures.value j) (c.as_mut_slice-2.ensures.value j) s.pending_states.items s.pending_nodes.items s.made)
    c.args.packet.now c.args.now (state_numbered c.args.found.number.0 (lists (c.as_mut_slice.ensures.value j) [] [] [] 0)))
    ∙ ap (λ (p : Plain). world_touched p.config p.world c.args.packet.now c.args.now (state_numbered c.args.found.number.0 p.world)) c.self.view_is
