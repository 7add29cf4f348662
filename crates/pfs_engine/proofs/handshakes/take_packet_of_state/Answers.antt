-- Answers of take_packet_of_state: the store reaches what was found after room was made; what is told, and its looks (`looks`); and under
-- which key the packet goes on (`going`).
use Rattle.std.proofs.Common.{◌≡◌, ◌≤◌, ◌+◌, ◌-◌, ◌∙◌, ℕ, Some, ap, arith, subst, sym, true, filter}
use Rattle.std.specs.Prelude.{option_map}
use Rattle.std.specs.Option.{option_and_then}
use Rattle.pfs_addr_values.specs.Packets.{PacketView}
use Rattle.pfs_conf_values.specs.Configs.{Conf, options_of}
use Rattle.pfs_store_contract.specs.Calls.{onward_key, other_than, renewal_of, source_states, state_number, world_touched}
use Rattle.pfs_store_contract.specs.Worlds.{holds_number, state_numbered}
use Rattle.pfs_engine_machine.specs.MachineInvariants.{Rise}
use Rattle.pfs_engine_machine.specs.Looks.{AreLooks, AreLooksBehind, states_beside}
use Rattle.pfs_engine_machine.specs.Machine.{MachineContents, answer_of_key, held_of}
use Rattle.pfs_engine_machine.specs.Sides.{state_for}
use Rattle.pfs_engine.specs.Contents.{ContentsView, tables_held, view_of}
use Rattle.pfs_engine.specs.OverloadRoom.{HasRoomFor}
use Rattle.pfs_engine.proofs.Belonging.{beside_after, going_on, opened, rises_after, room_after, told_after}
use Rattle.pfs_engine.proofs.Numbered.{number-held, numbered-found}
use Rattle.pfs_engine.proofs.handshakes.take_packet_of_state.Goals as goal
use Rattle.pfs_engine.proofs.handshakes.take_packet_of_state.Goals.{After-renew-touched, else-may_go_on, then-may_go_on}
use Rattle.pfs_engine.specs.Ways.{HasRoutes}
use Rattle.std.proofs.lemmas.Bool.{false≢true}

pub renew-touched-requires-clause-held : goal.renew-touched-requires-clause-held
renew-touched-requires-clause-held g c =
    let inside = c.held.inside in
    let was = c.args.held.now in
    let same = opened was c.make_room.new.held inside.config inside.store (g.S.Store.world inside.store) inside.tables c.held.view_is c.in_ok-make_room.ensures.same in
    subst (λ (h : MachineContents). holds_number h.world.states c.args.found.number.0 ≡ true) (sym same.1)
    (number-held was.config was.held c.args.packet.now c.args.now c.args.found.number c.requires.kept c.requires.found.number)

pub renew-touched-requires-clause-reached : goal.renew-touched-requires-clause-reached
renew-touched-requires-clause-reached g c =
    ap (λ (v : ContentsView _). g.S.Store.reaches v.store c.args.found) c.held.view_is ∙ (ap (λ x. g.S.Store.reaches x c.args.found) c.in_ok-make_room.ensures.store ∙ c.requires.found.reached)

-- what is held is what was held before, and the state that was found is that of the packet
same : (g : _) (c : After-renew-touched g)
    → (c.held.inside.config ≡ c.args.held.now.config) × (held_of (g.S.Store.world c.held.inside.store) c.held.inside.tables.entries ≡ c.args.held.now.held)
same g c =
    let inside = c.held.inside in
    opened c.args.held.now c.make_room.new.held inside.config inside.store (g.S.Store.world inside.store) inside.tables c.held.view_is c.in_ok-make_room.ensures.same

number_is : (g : _) (c : After-renew-touched g) → state_numbered c.args.found.number.0 c.args.held.now.held.world ≡ state_for c.args.held.now.held.world c.args.packet.now
number_is g c = numbered-found c.args.held.now.config c.args.held.now.held c.args.packet.now c.args.now c.args.found.number c.requires.kept c.requires.found.number

-- what is told of it, and the world after it
told : (g : _) (c : After-renew-touched g) → Some c.renew-touched.result
    ≡ option_map (renewal_of (g.S.Store.config c.held.inside.store) c.args.held.now.held.world c.args.packet.now c.args.now) (state_for c.args.held.now.held.world c.args.packet.now)
told g c =
    let about = renewal_of (g.S.Store.config c.held.inside.store) in
    subst (λ (h : MachineContents). Some c.renew-touched.result ≡ option_map (about h.world c.args.packet.now c.args.now) (state_numbered c.args.found.number.0 h.world)) (same g c).1 c.renew-touched.ensures.answer
    ∙ ap (option_map (about c.args.held.now.held.world c.args.packet.now c.args.now)) (number_is g c)

pub complete_handshake-requires-clause-reached : goal.complete_handshake-requires-clause-reached
complete_handshake-requires-clause-reached g c = c.renew-touched.ensures.reached

pub complete_handshake-requires-clause-numbers : goal.complete_handshake-requires-clause-numbers
complete_handshake-requires-clause-numbers g c =
    let store = c.held.inside.store in
    let w = g.S.Store.world store in
    let at = (goal.at.complete_handshake-requires-clause-numbers g c).After-renew-touched in
    let rises = subst (λ (h : MachineContents). Rise 0 h.world.states h.world.made) (sym (same g at).1) c.requires.kept.numbers in
    rises_after (g.S.Store.config store) w (g.S.Store.world c.renew-touched.new.self) c.args.packet.now c.args.now (state_numbered c.args.found.number.0 w) rises c.renew-touched.ensures.world

pub complete_handshake-requires-clause-room : goal.complete_handshake-requires-clause-room
complete_handshake-requires-clause-room g c =
    let inside = c.held.inside in
    let store_conf = g.S.Store.config inside.store in
    let was = c.args.held.now in
    let t = c.renew-touched.result in
    let at = (goal.at.complete_handshake-requires-clause-room g c).After-renew-touched in
    let room = room_after was.config store_conf was.held c.args.packet.now c.args.now c.args.found.number t c.args.found.rule (tables_held c.make_room.new.held) c.requires.kept c.requires.found.number c.requires.found.rule (told g at) c.in_ok-make_room.ensures.room in
    λ done. subst (λ (k : Conf). HasRoomFor (tables_held (view_of inside.config inside.store (g.S.Store.world inside.store) inside.tables)) (options_of k t.rule.0).overload) (sym (same g at).0)
    (subst (λ (v : ContentsView _). HasRoomFor (tables_held v) (options_of was.config t.rule.0).overload) (sym c.held.view_is) (room done))

pub returns-clause-answered : goal.returns-clause-answered
returns-clause-answered g c = λ cookie.
    let inside = c.held.inside in
    let w = g.S.Store.world inside.store in
    let store_conf = g.S.Store.config inside.store in
    let p = c.args.packet.now in
    let t = c.renew-touched in
    let at = (goal.at.returns-clause-answered g c).After-renew-touched in
    let is = same g at in
    let found = subst (λ (h : MachineContents). option_map state_number (state_for h.world p) ≡ Some c.args.found.number) (sym is.1) c.requires.found.number in
    let number : state_numbered c.args.found.number.0 w ≡ state_for w p =
    subst (λ (h : MachineContents). state_numbered c.args.found.number.0 h.world ≡ state_for h.world p) (sym is.1) (number_is g at) in
    let world = t.ensures.world ∙ ap (world_touched store_conf w p c.args.now) number in
    let answer = t.ensures.answer ∙ ap (option_map (renewal_of store_conf w p c.args.now)) number in
    let told = told_after inside.config store_conf (held_of w inside.tables.entries) (g.S.Store.world t.new.self) p cookie c.args.now c.args.found.number t.result c.held.invariant.store found world answer in
    record {
      ok = c.complete_handshake.ensures.told.told ∙ (told ∙ (λ i. answer_of_key (is.0 i) (is.1 i) p cookie c.args.now));
      err = tt;
      config = c.complete_handshake.ensures.told.config ∙ is.0;
    }

pub returns-clause-looks : goal.returns-clause-looks
returns-clause-looks g c =
    let inside = c.held.inside in
    let store_conf = g.S.Store.config inside.store in
    let was = c.args.held.now in
    let p = c.args.packet.now in
    let t = c.renew-touched in
    let at = (goal.at.returns-clause-looks g c).After-renew-touched in
    let is = subst (λ (h : MachineContents). g.S.Store.world t.new.self ≡ world_touched store_conf h.world p c.args.now (state_numbered c.args.found.number.0 h.world)) (same g at).1 t.ensures.world
    ∙ ap (world_touched store_conf was.held.world p c.args.now) (number_is g at) in
    let beside = beside_after inside.config.profile store_conf was.held.world (g.S.Store.world t.new.self) p c.args.now c.args.found.number t.result c.requires.found.number is (told g at) in
    let further = c.complete_handshake.ensures.looks in
    record {
      counted = λ on.
          let one : 1 ≤ t.new.meter = omega (arith, t.ensures.looks on) in
          let first : t.new.meter - 1 ≡ c.args.looks.now = omega (arith, t.ensures.looks on) in
          let o = c.complete_handshake.result in
          let looks = c.complete_handshake.new.looks in
          let beside_touched = 1 + source_states inside.config.profile t.result.dir t.result.source (filter (other_than c.args.found.number.0) (g.S.Store.world t.new.self).states) in
          subst (λ (k : Conf). AreLooksBehind c.args.looks.now (AreLooks k (states_beside k.profile was.held.world (state_for was.held.world p)) o) looks) (same g at).0
          (subst (λ (n : ℕ). AreLooksBehind c.args.looks.now (AreLooks inside.config n o) looks) beside
          (subst (λ (n : ℕ). AreLooksBehind n (AreLooks inside.config beside_touched o) looks) first (further.counted on one)));
      refused = λ on. tt;
      uncounted = λ off. omega (arith, further.uncounted off, t.ensures.uncounted off);
    }

pub returns-clause-going : goal.returns-clause-going
returns-clause-going g c = λ routes cookie.
    let was = c.args.held.now in
    let p = c.args.packet.now in
    let roomy = c.in_ok-make_room.ensures.same in
    let at = (goal.at.returns-clause-going g c).After-renew-touched in
    let key = c.key_beyond-key.ensures (subst HasRoutes (sym roomy.config) routes)
    ∙ ap (λ (h : MachineContents). option_and_then (onward_key p.dir) (state_numbered c.args.found.number.0 h.world)) roomy.held
    ∙ ap (option_and_then (onward_key p.dir)) (number_is g at) in
    elim c.if-may_go_on.branch [
      | then-may_go_on x ↦ x.going-is ∙ ap (λ (q : PacketView). Some q) (x.sent_on.ensures ∙ going_on was.config (g.S.Store.config c.held.inside.store) was.held p cookie c.args.now c.args.found.number c.renew-touched.result c.key_beyond-key.result c.requires.found.number (told g at) key)
      | else-may_go_on x ↦ absurd (false≢true (x.if-may_go_on.ensures.1 (subst HasRoutes (sym (same g at).0) routes)))
    ]
