-- The guard: whether SYN cookies are on, which of them are out, and when their secret turns. (pf.conf(5), OPTIONS, "set syncookies";
-- likely, but for what the manual says)
use Rattle.std.specs.Prelude.{ℕ, ◌+◌, ◌-◌, ◌*◌, ◌/◌, ◌%◌, ◌==◌, ◌&&◌, ◌||◌, not, nat_le, nat_lt, Bool, true, false, if◌then◌else◌, is_none, Option, Some, None, List, [], ◌∷◌, unwrap_or}
use Rattle.pfs_addr_values.specs.Keys.{key_of}
use Rattle.pfs_addr_values.specs.Packets.{PacketView}
use Rattle.pfs_addr_values.specs.declared.flag_sets.Flags.{Flags}
use Rattle.pfs_addr_values.specs.declared.packets.Dir.{Dir}
use Rattle.pfs_addr_values.specs.declared.packets.Dir.TheVariants.{In}
use Rattle.pfs_addr_values.specs.declared.packets.FlowKey.{FlowKey}
use Rattle.pfs_addr_values.specs.declared.protocols.Proto.{Proto}
use Rattle.pfs_addr_values.specs.declared.protocols.Proto.TheVariants.{Tcp}
use Rattle.pfs_conf_values.specs.Configs.{Conf, limit_of}
use Rattle.pfs_conf_values.specs.declared.limits.LimitName.TheVariants as limit_name
use Rattle.pfs_conf_values.specs.declared.syncookies.Syncookies.{Syncookies}
use Rattle.pfs_conf_values.specs.declared.syncookies.Syncookies.TheVariants as syncookies
use Rattle.pfs_cookies.specs.Cookies.{CookiesOut, cookies_given, cookies_taken, cookies_turned, has_cookie, no_cookies, out_count}
use Rattle.pfs_store_contract.specs.Admission.{asks_in}
use Rattle.pfs_store_contract.specs.Counts.{half_open}
use Rattle.pfs_store_contract.specs.Purging.{purge}
use Rattle.pfs_store_contract.specs.Worlds.{World, state_with}

-- whether `adaptive` is on, the moment from which the secret turns, and the cookies that are out
pub record Guard : Type 0 where
  pub on : Bool
  pub since : Option ℕ
  pub out : CookiesOut

-- before the first event
abbrev pub no_guard : Guard
no_guard = record { on = false; since = None; out = no_cookies }

-- ---- whether cookies are on

-- never, always, or as long as `adaptive` is on
abbrev pub are_on : Syncookies → Bool → Bool
are_on syncookies.Never on = false
are_on syncookies.Always on = true
are_on (syncookies.Adaptive start end) on = on

-- a percentage of the limit on states
abbrev pub share_of_states : Conf → ℕ → ℕ
share_of_states conf percent = limit_of conf limit_name.States * percent / 100

-- more states are half open than the start of `adaptive`, so it goes on
abbrev pub is_flooded : Conf → World → Syncookies → Bool
is_flooded conf w (syncookies.Adaptive start end) = nat_lt (share_of_states conf start) (half_open w.states)
is_flooded conf w _ = false

-- it stays on: half open states and cookies that are out, together, are not fewer than its end
abbrev pub stays_on : Conf → World → CookiesOut → Syncookies → Bool
stays_on conf w out (syncookies.Adaptive start end) = nat_le (share_of_states conf end) (half_open w.states + out_count out)
stays_on conf w out _ = false

-- ---- a packet gets a cookie

-- it asks for a connection from outside while cookies are on, or where they go on
abbrev pub gets_cookie : Conf → Guard → World → PacketView → Bool
gets_cookie conf g w p = asks_in p.dir p.proto p.flags && (are_on conf.syncookies g.on || is_flooded conf w conf.syncookies)

-- `adaptive` goes on at a moment, under a fresh secret
abbrev pub guard_begun : Guard → ℕ → Guard
guard_begun g now = record { on = true; since = Some now; out = cookies_turned g.out }

-- the guard that a packet meets
abbrev pub guard_for : Conf → Guard → World → PacketView → ℕ → Guard
guard_for conf g w p now = if gets_cookie conf g w p && not (are_on conf.syncookies g.on) then guard_begun g now else g

-- a key gets a cookie; the secret turns from the first one on
abbrev pub guard_given : Guard → FlowKey → ℕ → Guard
guard_given g key now = record { on = g.on; since = Some (unwrap_or g.since now); out = cookies_given g.out key }

-- ---- a packet brings one back

-- a packet answers from outside: an ACK of TCP, with neither SYN nor RST, that comes in
abbrev pub answers_in : Dir → Proto → Flags → Bool
answers_in In Tcp flags = flags.ack && not (flags.syn || flags.rst)
answers_in dir proto flags = false

-- it is such, no state has its key, and its key has a cookie out
abbrev pub brings_cookie : Guard → World → PacketView → Bool
brings_cookie g w p = answers_in p.dir p.proto p.flags && is_none (state_with (key_of p) w) && has_cookie g.out (key_of p)

-- the cookie of a key is taken
abbrev pub guard_taken : Guard → FlowKey → Guard
guard_taken g key = record g { out = cookies_taken g.out key }

-- SYN alone
abbrev pub syn_alone : Flags
syn_alone = record { fin = false; syn = true; rst = false; psh = false; ack = false; urg = false; ece = false; cwr = false }

-- the packet that rules are asked for: where it brings a cookie, the SYN that pf answered for them
abbrev pub asked : PacketView → Bool → PacketView
asked p cookie = if cookie then record p { flags = syn_alone } else p

-- ---- the guard after a packet

abbrev pub guard_after_packet : Conf → Guard → World → PacketView → ℕ → Guard
guard_after_packet conf g w p now =
    if gets_cookie conf g w p then guard_given (guard_for conf g w p now) (key_of p) now
    else if brings_cookie g w p then guard_taken g (key_of p)
    else g

-- ---- time passes

-- the secret turns at a second: 15 after the moment from which it turns, and each 15 then
abbrev pub is_turn : Option ℕ → ℕ → Bool
is_turn None second = false
is_turn (Some since) second = nat_lt since second && (second - since) % 15 == 0

-- `adaptive` goes off, unless it stays on
abbrev pub guard_rested : Conf → World → Guard → Guard
guard_rested conf w g = record g { on = g.on && stays_on conf w g.out conf.syncookies }

-- where cookies are off and none is out, turning ends; else the other secret is used
abbrev pub guard_turned : Conf → Guard → Guard
guard_turned conf g =
    if not (are_on conf.syncookies g.on) && out_count g.out == 0
    then record g { since = None }
    else record g { out = cookies_turned g.out }

-- the guard after a second at whose end this is held
abbrev pub guard_at_second : Conf → World → Guard → ℕ → Guard
guard_at_second conf w g second = if is_turn g.since second then guard_turned conf (guard_rested conf w g) else g

-- the guard after these seconds, each behind its purge
abbrev pub guard_after_seconds : Conf → World → Guard → List ℕ → Guard
guard_after_seconds conf w g [] = g
guard_after_seconds conf w g (s ∷ ss) = guard_after_seconds conf (purge conf w s) (guard_at_second conf (purge conf w s) g s) ss
