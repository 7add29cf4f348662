-- What a SYN cookie does to what is held, and how long it is good. (pf.conf(5), OPTIONS, "set syncookies"; that it is good under two
-- secrets is likely)
use Rattle.std.specs.Prelude.{◌≡◌, ◌≤◌, ℕ, ◌+◌, ◌&&◌, Bool, true, false, List, [], ◌∷◌, ◌++◌}
use Rattle.std.specs.List.{All}
use Rattle.pfs_addr_values.specs.Keys.{key_of}
use Rattle.pfs_addr_values.specs.Packets.{PacketView}
use Rattle.pfs_addr_values.specs.Sameness.{same_key}
use Rattle.pfs_addr_values.specs.declared.packets.FlowKey.{FlowKey}
use Rattle.pfs_conf_values.specs.Configs.{Conf}
use Rattle.pfs_cookies.specs.Cookies.{CookiesOut, has_cookie}
use Rattle.pfs_store_contract.specs.Admission.{asks_in}
use Rattle.pfs_engine_machine.specs.Machine.{Machine, machine_after, machine_at_moment, start, step}
use Rattle.pfs_engine_machine.specs.declared.events.Arrival.{Arrival}
use Rattle.pfs_engine_machine.specs.declared.events.Arrival.TheVariants as arrival
use Rattle.pfs_engine_machine.specs.declared.events.Event.{Event}
use Rattle.pfs_engine_machine.specs.declared.events.Outcome.{Outcome}
use Rattle.pfs_engine_machine.specs.declared.events.Outcome.TheVariants as outcome

-- a packet got a cookie, or brought one for which no rule keeps state
abbrev pub leaves_nothing : Outcome → Bool
leaves_nothing outcome.Cookie = true
leaves_nothing (outcome.Stateless rule) = true
leaves_nothing _ = false

-- then nothing that is held at its moment has changed
abbrev pub NothingIsHeld : Conf → Type 0
NothingIsHeld conf =
    (m : Machine) (e : Event) → leaves_nothing (step conf m e).0 ≡ true → (step conf m e).1.held ≡ (machine_at_moment conf m e.time).held

-- in the run of these events this packet comes after others, gets a cookie, and those come next
pub record IsCookieGiven (conf : Conf) (events before : List Event) (e : Event) (p : PacketView) (meanwhile : List Event) : Type 0 where
  pub run : (later : List Event) × (events ≡ ((before ++ e ∷ []) ++ meanwhile) ++ later)
  pub what : e.what ≡ arrival.Packet p
  pub gets : (step conf (machine_after conf (start conf) before) e).0 ≡ outcome.Cookie

-- the cookies that are out at a moment behind them
abbrev pub out_at : Conf → List Event → Event → List Event → ℕ → CookiesOut
out_at conf before e meanwhile now =
    (machine_at_moment conf (machine_after conf (start conf) ((before ++ e ∷ []) ++ meanwhile)) now).guard.out

-- where nothing comes meanwhile, the cookie is good for 15 seconds
abbrev pub CookiesLast : Conf → List Event → Type 0
CookiesLast conf events =
    (before : List Event) (e : Event) (p : PacketView) (seconds : ℕ) → IsCookieGiven conf events before e p [] → seconds ≤ 15 →
    has_cookie (out_at conf before e [] (e.time + seconds)) (key_of p) ≡ true

-- a packet with this key asks for a connection
abbrev pub asks_again : FlowKey → Arrival → Bool
asks_again key (arrival.Packet p) = asks_in p.dir p.proto p.flags && same_key (key_of p) key
asks_again key _ = false

-- whatever comes but such a packet, the cookie is forgotten after 30 seconds
abbrev pub CookiesEnd : Conf → List Event → Type 0
CookiesEnd conf events =
    (before : List Event) (e : Event) (p : PacketView) (meanwhile : List Event) (now : ℕ) → IsCookieGiven conf events before e p meanwhile →
    All (λ (d : Event). asks_again (key_of p) d.what ≡ false) meanwhile → e.time + 30 ≤ now →
    has_cookie (out_at conf before e meanwhile now) (key_of p) ≡ false
