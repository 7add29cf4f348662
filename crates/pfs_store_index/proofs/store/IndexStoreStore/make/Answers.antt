-- Answers of IndexStore's make: a new number is above all others, and the world then is as defined (`ok`).
use Rattle.std.proofs.Common.{◌≡◌, ◌∙◌, ◌+◌, ◌<◌, ◌++◌, ◌∷◌, [], ap, refl, sym, unwrap_or, arith}
use Rattle.pfs_addr_values.specs.Keys.{key_of}
use Rattle.pfs_addr_values.specs.declared.packets.Dir.{Dir}
use Rattle.pfs_addr_values.specs.Packets.{run_limit}
use Rattle.pfs_conf_values.specs.Configs.{Conf}
use Rattle.pfs_store_contract.specs.Admission.{apart, key_inside, new_phase, new_state, nodes_with, world_after_admission}
use Rattle.pfs_store_contract.specs.Counts.{node_scope_of}
use Rattle.pfs_store_contract.specs.Leaving.{sent_key, sent_on_side}
use Rattle.pfs_store_index.specs.Holdings.{Indexed}
use Rattle.pfs_store_contract.specs.Purging.{node_numbers, state_numbers}
use Rattle.pfs_store_contract.specs.Worlds.{World, inner_key, lists, state_inside}
use Rattle.pfs_store_contract.specs.declared.records.State.{State}
use Rattle.pfs_track.specs.StatePhases.{is_done}
use Rattle.pfs_store_records.specs.Sourced.{source_at}
use Rattle.pfs_store_index.specs.Rounds.{waiting}
use Rattle.pfs_store_index.specs.Stored.{world_of}
use Rattle.pfs_store_index.proofs.Comings.{apart-whole, key-sourced, new-undone, sent-as}
use Rattle.pfs_store_index.proofs.Storing.{few-numbered, made-above, stored-came, world-came}
use Rattle.pfs_store_index.proofs.store.IndexStoreStore.make.Goals as goal

pub put-requires-clause-above : goal.put-requires-clause-above
put-requires-clause-above g c = made-above c.self.inside.made _ c.self.invariant.numbered

pub put-requires-clause-nodes_above : goal.put-requires-clause-nodes_above
put-requires-clause-nodes_above g c = made-above c.self.inside.made _ c.self.invariant.node_numbered

pub put-requires-clause-few : goal.put-requires-clause-few
put-requires-clause-few g c =
    omega (arith, few-numbered c.self.inside.made c.self.inside.indexes.states c.state_numbers_rise.ensures c.self.invariant.numbered, c.self.invariant.few)

pub put-requires-clause-phase : goal.put-requires-clause-phase
put-requires-clause-phase g c =
    ap is_done (c.new_phase.ensures ∙ ap (λ (k : Conf). new_phase k c.args.rule.0 c.args.packet.now c.args.cookie) c.config.ensures) ∙ new-undone c.self.inside.indexes.config c.args.rule.0 c.args.packet.now c.args.cookie

pub put-requires-clause-sourced : goal.put-requires-clause-sourced
put-requires-clause-sourced g c =
    let s : State = record { number = c.self.inside.made + 1; key = c.wire_key-key.result; inner = c.apart.result; dir = c.dir.result; source = c.src.result; rule = c.args.rule; phase = c.new_phase.result; last = c.args.now; tag = c.tag.result } in
    let inside : inner_key s ≡ key_inside c.args.packet.now c.args.going.now =
    ap (λ o. unwrap_or o c.wire_key-key.result) c.apart.ensures ∙ apart-whole c.wire_key-key.result c.inner_key.result ∙ c.inner_key.ensures in
    let sent : sent_key s ≡ key_of c.args.packet.now =
    ap (λ (d : Dir). sent_on_side d s) c.dir.ensures ∙ sent-as c.args.packet.now.dir c.args.packet.now c.args.going.now s c.wire_key-key.ensures inside in
    c.src.ensures ∙ key-sourced c.args.packet.now.dir c.args.packet.now ∙ (λ j. source_at (sym c.dir.ensures j) (sym sent j))

pub put-requires-clause-fresh_inside : goal.put-requires-clause-fresh_inside
put-requires-clause-fresh_inside g c =
    let inside : unwrap_or c.apart.result c.wire_key-key.result ≡ key_inside c.args.packet.now c.args.going.now =
    ap (λ o. unwrap_or o c.wire_key-key.result) c.apart.ensures ∙ apart-whole c.wire_key-key.result c.inner_key.result ∙ c.inner_key.ensures in
    ap (λ k. state_inside k (lists c.self.inside.indexes.states [] [] [] 0)) inside
    ∙ ap (λ (p : Indexed). state_inside (key_inside c.args.packet.now c.args.going.now) p.world) c.self.view_is ∙ c.requires.fresh_inside

pub invariant_of-self : goal.invariant_of-self
invariant_of-self g c =
    let s : State = record { number = c.self.inside.made + 1; key = c.wire_key-key.result; inner = c.apart.result; dir = c.dir.result; source = c.src.result; rule = c.args.rule; phase = c.new_phase.result; last = c.args.now; tag = c.tag.result } in
    let l : c.self.inside.made < run_limit = omega (arith, ap (λ (p : Indexed). p.world.made) c.self.view_is, c.requires.room) in
    stored-came s c.self.inside.indexes c.put.new.self c.self.inside.states_round.cursor c.self.inside.states_round.mark c.self.inside.nodes_round.cursor c.self.inside.nodes_round.mark c.self.inside.made _ l c.self.invariant refl
    c.in-Ok.ensures.config c.in-Ok.ensures.states c.in-Ok.ensures.nodes

pub returns-in-Ok-clause-ok : goal.returns-in-Ok-clause-ok
returns-in-Ok-clause-ok g c =
    let h = c.self.inside.indexes in
    let m = c.self.inside.made in
    let w : World = world_of c.self.inside.indexes c.self.inside.states_round.cursor c.self.inside.states_round.mark c.self.inside.nodes_round.cursor c.self.inside.nodes_round.mark c.self.inside.made in
    let s : State = record { number = c.self.inside.made + 1; key = c.wire_key-key.result; inner = c.apart.result; dir = c.dir.result; source = c.src.result; rule = c.args.rule; phase = c.new_phase.result; last = c.args.now; tag = c.tag.result } in
    let phase : c.new_phase.result ≡ new_phase c.self.inside.indexes.config c.args.rule.0 c.args.packet.now c.args.cookie =
    c.new_phase.ensures ∙ ap (λ (k : Conf). new_phase k c.args.rule.0 c.args.packet.now c.args.cookie) c.config.ensures in
    let q : s ≡ new_state c.self.inside.indexes.config (c.self.inside.made + 1) c.args.packet.now c.args.going.now c.args.rule.0 c.args.cookie c.args.now =
    (λ j. record { number = c.self.inside.made + 1; key = c.wire_key-key.ensures j; inner = (c.apart.ensures ∙ (λ i. apart (c.wire_key-key.ensures i) (c.inner_key.ensures i))) j; dir = c.dir.ensures j; source = c.src.ensures j; rule = c.args.rule; phase = phase j; last = c.args.now; tag = c.tag.ensures j }) in
    world-came s h c.put.new.self c.self.inside.states_round.cursor c.self.inside.states_round.mark c.self.inside.nodes_round.cursor c.self.inside.nodes_round.mark m _ c.self.invariant refl c.in-Ok.ensures.states c.in-Ok.ensures.nodes
    ∙ ap (λ (x : State). lists (h.states ++ x ∷ []) (nodes_with h.nodes (m + 1) x.source x.last (node_scope_of h.config x.rule.0)) (waiting c.self.inside.states_round.cursor c.self.inside.states_round.mark (state_numbers h.states)) (waiting c.self.inside.nodes_round.cursor c.self.inside.nodes_round.mark (node_numbers h.nodes)) (m + 1)) q
    ∙ ap (λ (p : Indexed). world_after_admission p.config p.world c.args.packet.now c.args.going.now c.args.rule.0 c.args.cookie c.args.now) c.self.view_is
