-- A run of events is the run of its acts.
use Rattle.std.proofs.Common.{◌≡◌, ℕ, Bool, true, false, if◌then◌else◌, List, [], ◌∷◌, ◌++◌, map, refl, sym, ◌∙◌}
use Rattle.pfs_addr_values.specs.Packets.{PacketView}
use Rattle.pfs_conf_values.specs.Configs.{Conf}
use Rattle.pfs_store_contract.specs.Purging.{purge}
use Rattle.pfs_store_contract.specs.Seconds.{world_after_purges}
use Rattle.pfs_engine_machine.specs.Guards.{Guard, brings_cookie, gets_cookie}
use Rattle.pfs_engine_machine.specs.Machine.{MachineContents, Machine, answer_behind_guard, answer_to_arrival, answer_to_packet, machine_at_moment, due, first_moment, held_of, step, machine_after}
use Rattle.pfs_engine_machine.specs.declared.events.Event.{Event}
use Rattle.pfs_engine_machine.specs.declared.events.Arrival.{Arrival}
use Rattle.pfs_engine_machine.specs.declared.events.Arrival.TheVariants as arrival
use Rattle.pfs_engine_machine.specs.declared.events.Outcome.TheVariants as outcome
use Rattle.pfs_engine_machine.specs.Acts.{RunAct, Arrive, Purge, acts_from, arrivals, arrivals_at, act_done, acts_done}

pub done_all-append : (conf : Conf) (h : MachineContents) (xs ys : List RunAct) → acts_done conf h (xs ++ ys) ≡ acts_done conf (acts_done conf h xs) ys
done_all-append conf h [] ys = refl
done_all-append conf h (x ∷ xs) ys = done_all-append conf (act_done conf h x) xs ys

purges-done : (conf : Conf) (h : MachineContents) (ss : List ℕ) (rest : List RunAct)
    → acts_done conf h (map (λ s. Purge s) ss ++ rest) ≡ acts_done conf (held_of (world_after_purges conf h.world ss) h.tables) rest
purges-done conf h [] rest = refl
purges-done conf h (s ∷ ss) rest = purges-done conf (held_of (purge conf h.world s) h.tables) ss rest

packet-done : (conf : Conf) (g : Guard) (h : MachineContents) (first now : ℕ) (p : PacketView) (rest : List RunAct)
    → acts_done conf h (arrivals conf g h first now (arrival.Packet p) ++ rest) ≡ acts_done conf (answer_behind_guard conf g h p now).1 rest
packet-done conf g h first now p rest = by (gets_cookie conf g h.world p)
  where
    by : (b : Bool) → acts_done conf h ((if b then [] else Arrive now p (brings_cookie g h.world p) ∷ []) ++ rest)
        ≡ acts_done conf (if b then (outcome.Cookie, h) else answer_to_packet conf h p (brings_cookie g h.world p) now).1 rest
    by true = refl
    by false = refl

arrivals-done : (conf : Conf) (g : Guard) (h : MachineContents) (first now : ℕ) (what : Arrival) (rest : List RunAct)
    → acts_done conf h (arrivals conf g h first now what ++ rest) ≡ acts_done conf (answer_to_arrival conf g h first now what).1 rest
arrivals-done conf g h first now arrival.Skip rest = refl
arrivals-done conf g h first now (arrival.Packet p) rest = packet-done conf g h first now p rest
arrivals-done conf g h first now (arrival.Table table done) rest = refl
arrivals-done conf g h first now (arrival.Kill hosts) rest = refl
arrivals-done conf g h first now arrival.HeldQuery rest = refl

pub acts-done : (conf : Conf) (m : Machine) (es : List Event) → (machine_after conf m es).held ≡ acts_done conf m.held (acts_from conf m es)
unfolding machine_after step
acts-done conf m [] = refl
acts-done conf m (e ∷ es) =
    let first = first_moment m.first e.time in
    let at = machine_at_moment conf m e.time in
    let rest = acts_from conf (step conf m e).1 es in
    acts-done conf (step conf m e).1 es
    ∙ sym (purges-done conf m.held (due m.last e.time) (arrivals_at conf at first e.time e.what ++ rest) ∙ arrivals-done conf at.guard at.held first e.time e.what rest)
