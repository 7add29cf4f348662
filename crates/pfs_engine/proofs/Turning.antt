-- Seconds in parts, and the turns of the guard's secret in them: where no cookie is out, the last turn does what all of them do.
use Rattle.std.proofs.Common.{◌≡◌, ◌≤◌, ◌<◌, ◌+◌, ◌-◌, ◌==◌, ◌&&◌, ◌⊎◌, inl, inr, ℕ, zero, suc, Bool, true, false, not, nat_le, if◌then◌else◌, Option, None, List, [], ◌∷◌, ◌++◌, max, take, refl, ap, ◌∙◌, sym, subst, arith}
use Rattle.std.specs.FinSet.{empty_of_len}
use Rattle.std.specs.List.{range_with_len}
use Rattle.std.proofs.lemmas.Bool.{false≢true}
use Rattle.std.proofs.lemmas.Bool.Decides.{nat_tests}
use Rattle.pfs_conf_values.specs.Configs.{Conf}
use Rattle.pfs_conf_values.specs.declared.syncookies.Syncookies.{Syncookies}
use Rattle.pfs_conf_values.specs.declared.syncookies.Syncookies.TheVariants as syncookies
use Rattle.pfs_addr_values.specs.declared.packets.FlowKey.{FlowKey}
use Rattle.pfs_cookies.specs.CookieLaws.{has_cookie-none, out_count-none}
use Rattle.pfs_cookies.specs.Cookies.{CookiesOut, cookies_turned, has_cookie, no_cookies, out_count}
use Rattle.pfs_store_contract.specs.Counts.{half_open}
use Rattle.pfs_store_contract.specs.Purging.{purge, state_round, state_share, stays}
use Rattle.pfs_store_contract.specs.Worlds.{World}
use Rattle.pfs_store_contract.specs.Passages.{purged_both, purged_of_none}
use Rattle.pfs_store_contract.specs.declared.records.Purged.{Purged}
use Rattle.pfs_store_contract.specs.declared.records.State.{State}
use Rattle.pfs_store_contract.proofs.Passages.{purged_with}
use Rattle.pfs_track.specs.StatePhases.{is_half_open}
use Rattle.pfs_engine_machine.specs.Guards.{Guard, are_on, guard_after_seconds, guard_at_second, guard_rested, guard_turned, is_turn, share_of_states, stays_on}
use Rattle.pfs_store_contract.specs.Seconds.{seconds, most_nodes, most_states, purged_of, world_after_purges}
use Rattle.pfs_engine_machine.proofs.Counts.{count-filter_le}
use Rattle.pfs_engine.specs.Guarding.{HasNoTurn, IsNextTurn}

-- ---- seconds in parts

counted-parts : (a n m : ℕ) → range_with_len a (n + m) ≡ range_with_len a n ++ range_with_len (a + n) m
counted-parts a zero m =
    let none : 0 + m ≡ m = omega arith in
    let e : a ≡ a + 0 = omega arith in
    (λ i. range_with_len (e i) (none i))
counted-parts a (suc n) m =
    let one : suc n + m ≡ suc (n + m) = omega arith in
    let e : a + 1 + n ≡ a + suc n = omega arith in
    ap (range_with_len a) one ∙ ap (λ (xs : List ℕ). a ∷ xs) (counted-parts (a + 1) n m ∙ ap (λ (x : ℕ). range_with_len (a + 1) n ++ range_with_len x m) e)

pub seconds-parts : (from mid to : ℕ) → from ≤ mid → mid ≤ to → seconds from to ≡ seconds from mid ++ seconds mid to
seconds-parts from mid to h k =
    let all : to - from ≡ (mid - from) + (to - mid) = omega (arith, h, k) in
    let at : from + 1 + (mid - from) ≡ mid + 1 = omega (arith, h) in
    ap (range_with_len (from + 1)) all ∙ (counted-parts (from + 1) (mid - from) (to - mid) ∙ ap (λ (x : ℕ). seconds from mid ++ range_with_len x (to - mid)) at)

purged-parts : (conf : Conf) (w : World) (xs ys : List ℕ) → world_after_purges conf w (xs ++ ys) ≡ world_after_purges conf (world_after_purges conf w xs) ys
purged-parts conf w [] ys = refl
purged-parts conf w (x ∷ xs) ys = purged-parts conf (purge conf w x) xs ys

states-parts : (conf : Conf) (w : World) (xs ys : List ℕ) → most_states conf w (xs ++ ys) ≡ max (most_states conf w xs) (most_states conf (world_after_purges conf w xs) ys)
states-parts conf w [] ys = omega arith
states-parts conf w (x ∷ xs) ys = omega (arith, states-parts conf (purge conf w x) xs ys)

nodes-parts : (conf : Conf) (w : World) (xs ys : List ℕ) → most_nodes conf w (xs ++ ys) ≡ max (most_nodes conf w xs) (most_nodes conf (world_after_purges conf w xs) ys)
nodes-parts conf w [] ys = omega arith
nodes-parts conf w (x ∷ xs) ys = omega (arith, nodes-parts conf (purge conf w x) xs ys)

guard-parts : (conf : Conf) (w : World) (g : Guard) (xs ys : List ℕ)
    → guard_after_seconds conf w g (xs ++ ys) ≡ guard_after_seconds conf (world_after_purges conf w xs) (guard_after_seconds conf w g xs) ys
guard-parts conf w g [] ys = refl
guard-parts conf w g (x ∷ xs) ys = guard-parts conf (purge conf w x) (guard_at_second conf (purge conf w x) g x) xs ys

-- ---- seconds without a turn

still : (conf : Conf) (w : World) (g : Guard) (from n : ℕ) → HasNoTurn g.since from (from + n) → guard_after_seconds conf w g (range_with_len (from + 1) n) ≡ g
still conf w g from zero none = refl
still conf w g from (suc n) none =
    let here : is_turn g.since (from + 1) ≡ false = none (from + 1) (omega arith) (omega arith) in
    let same : guard_at_second conf (purge conf w (from + 1)) g (from + 1) ≡ g =
    ap (λ (b : Bool). if b then guard_turned conf (guard_rested conf (purge conf w (from + 1)) g) else g) here in
    ap (λ (x : Guard). guard_after_seconds conf (purge conf w (from + 1)) x (range_with_len (from + 1 + 1) n)) same
    ∙ still conf (purge conf w (from + 1)) g (from + 1) n (λ second l h. none second (omega (arith, l)) (omega (arith, h)))

pub seconds-still : (conf : Conf) (w : World) (g : Guard) (from to : ℕ) → from ≤ to → HasNoTurn g.since from to → guard_after_seconds conf w g (seconds from to) ≡ g
seconds-still conf w g from to order none =
    still conf w g from (to - from) (λ second l h. none second l (omega (arith, h, order)))

-- ---- half open states are no more after a purge

fewer-open : (conf : Conf) (w : World) (second : ℕ) → half_open (purge conf w second).states ≤ half_open w.states
fewer-open conf w second =
    count-filter_le (λ (s : State). is_half_open s.phase) (stays conf w.states second (take (state_share conf) (state_round w))) w.states

pub fewer-open-after : (conf : Conf) (w : World) (ss : List ℕ) → half_open (world_after_purges conf w ss).states ≤ half_open w.states
fewer-open-after conf w [] = omega arith
fewer-open-after conf w (s ∷ ss) = omega (arith, fewer-open-after conf (purge conf w s) ss, fewer-open conf w s)

-- ---- turns where no cookie is out

-- a guard of which none is out
abbrev bare : Bool → Option ℕ → Guard
bare on since = record { on = on; since = since; out = no_cookies }

none_out : (c : CookiesOut) → out_count c ≡ 0 → c ≡ no_cookies
none_out c e = λ i. record { fresh = empty_of_len c.fresh (omega (arith, e)) i; former = empty_of_len c.former (omega (arith, e)) i }

-- then no packet answers one
pub none-answered : (c : CookiesOut) (key : FlowKey) (answers : Bool) (n : ℕ) → n ≡ out_count c → n ≡ 0 → false ≡ (answers && has_cookie c key)
none-answered c key answers n count e =
    let has : has_cookie c key ≡ false = ap (λ (x : CookiesOut). has_cookie x key) (none_out c (sym count ∙ e)) ∙ has_cookie-none key in
    sym (ap (λ (b : Bool). answers && b) has ∙ never answers)
  where
    never : (b : Bool) → (b && false) ≡ false
    never true = refl
    never false = refl

abbrev turned : Conf → World → Guard → Guard
turned conf w g = guard_turned conf (guard_rested conf w g)

-- it stays on then
abbrev stays_bare : Conf → World → Bool
stays_bare conf w = stays_on conf w no_cookies conf.syncookies

-- the secret turns on only while cookies are on
abbrev since_when : Bool → Option ℕ → Option ℕ
since_when on since = if on then since else None

turned-bare : (conf : Conf) (w : World) (on : Bool) (since : Option ℕ)
    → turned conf w (bare on since) ≡ bare (on && stays_bare conf w) (since_when (are_on conf.syncookies (on && stays_bare conf w)) since)
turned-bare conf w on since = by (are_on conf.syncookies (on && stays_bare conf w)) (out_count no_cookies == 0) (ap (λ (n : ℕ). n == 0) out_count-none)
  where
    rested : Guard
    rested = bare (on && stays_bare conf w) since

    by : (are none : Bool) → none ≡ true
        → (if not are && none then record rested { since = None } else record rested { out = cookies_turned no_cookies }) ≡ bare (on && stays_bare conf w) (since_when are since)
    by true none e = refl
    by false true e = refl
    by false false e = absurd (false≢true e)

-- where fewer are half open, it does not stay on if it did not before
stays-fewer : (conf : Conf) (w later : World) (s : Syncookies) → half_open later.states ≤ half_open w.states
    → stays_on conf later no_cookies s ≡ true → stays_on conf w no_cookies s ≡ true
stays-fewer conf w later syncookies.Never fewer e = e
stays-fewer conf w later syncookies.Always fewer e = e
stays-fewer conf w later (syncookies.Adaptive start end) fewer e =
    by (share_of_states conf end) (half_open w.states) (half_open later.states) (out_count no_cookies) fewer e
  where
    by : (share a b c : ℕ) → b ≤ a → nat_le share (b + c) ≡ true → nat_le share (a + c) ≡ true
    by share a b c fewer e = grind (arith, nat_tests, fewer, e)

-- of two turns the later one does what both do
both-on : (on a b : Bool) → (b ≡ true → a ≡ true) → ((on && a) && b) ≡ (on && b)
both-on on true b more = by on b
  where
    by : (on b : Bool) → ((on && true) && b) ≡ (on && b)
    by true b = refl
    by false b = refl
both-on on false true more = absurd (false≢true (more refl))
both-on true false false more = refl
both-on false false false more = refl

-- they are off after both where they are off after the first
both-off : (s : Syncookies) (on a b : Bool) → (b ≡ true → a ≡ true) → (s ≡ syncookies.Never → a ≡ false) → (s ≡ syncookies.Never → b ≡ false)
    → are_on s (on && a) ≡ false → ((on && a) ≡ (on && b)) × (are_on s (on && b) ≡ false)
both-off syncookies.Never on a b more none none_later off = (ap (λ (x : Bool). on && x) (none refl ∙ sym (none_later refl)), refl)
both-off syncookies.Always on a b more none none_later off = absurd (false≢true (sym off))
both-off (syncookies.Adaptive start end) on a true more none none_later off =
    let is : a ≡ true = more refl in
    let same : (on && a) ≡ (on && true) = ap (λ (x : Bool). on && x) is in
    (same, sym same ∙ off)
both-off (syncookies.Adaptive start end) on a false more none none_later off = (off ∙ sym (never on), never on)
  where
    never : (on : Bool) → (on && false) ≡ false
    never true = refl
    never false = refl

never-stays : (conf : Conf) (w : World) (s : Syncookies) → s ≡ syncookies.Never → stays_on conf w no_cookies s ≡ false
never-stays conf w syncookies.Never e = refl
never-stays conf w syncookies.Always e = refl
never-stays conf w (syncookies.Adaptive start end) e = cc

ended : (conf : Conf) (w : World) (on : Bool) (ss : List ℕ) → guard_after_seconds conf w (bare on None) ss ≡ bare on None
ended conf w on [] = refl
ended conf w on (s ∷ ss) = ended conf (purge conf w s) on ss

-- so the last turn does what all do up to it
last_turn : (conf : Conf) (w : World) (on : Bool) (since : Option ℕ) (from n : ℕ) → is_turn since (from + suc n) ≡ true
    → guard_after_seconds conf w (bare on since) (range_with_len (from + 1) (suc n)) ≡ turned conf (world_after_purges conf w (range_with_len (from + 1) (suc n))) (bare on since)
last_turn conf w on since from zero turns =
    ap (λ (b : Bool). if b then turned conf (purge conf w (from + 1)) (bare on since) else bare on since) turns
last_turn conf w on since from (suc n) turns =
    go (is_turn since (from + 1)) refl (λ (b : Bool). last_turn conf (purge conf w (from + 1)) b since (from + 1) n turns_later)
  where
    next : World
    next = purge conf w (from + 1)

    rest : List ℕ
    rest = range_with_len (from + 1 + 1) (suc n)

    later : World
    later = world_after_purges conf next rest

    turns_later : is_turn since (from + 1 + suc n) ≡ true
    turns_later = let e : from + 1 + suc n ≡ from + suc (suc n) = omega arith in ap (is_turn since) e ∙ turns

    more : stays_bare conf later ≡ true → stays_bare conf next ≡ true
    more = stays-fewer conf next later conf.syncookies (fewer-open-after conf next rest)

    -- of whatever guard, the last of the rest does what all of the rest do
    LastDoesAll : Type 0
    LastDoesAll = (b : Bool) → guard_after_seconds conf next (bare b since) rest ≡ turned conf later (bare b since)

    first : Bool
    first = on && stays_bare conf next

    -- after a turn at the first second
    after_first : (are : Bool) → are_on conf.syncookies first ≡ are → LastDoesAll
        → guard_after_seconds conf next (bare first (since_when are since)) rest ≡ turned conf later (bare on since)
    after_first true e last =
        last first
        ∙ (turned-bare conf later first since
        ∙ (ap (λ (b : Bool). bare b (since_when (are_on conf.syncookies b) since)) (both-on on (stays_bare conf next) (stays_bare conf later) more)
        ∙ sym (turned-bare conf later on since)))
    after_first false e last =
        let off = both-off conf.syncookies on (stays_bare conf next) (stays_bare conf later) more (never-stays conf next conf.syncookies) (never-stays conf later conf.syncookies) e in
        ended conf next first rest
        ∙ (ap (λ (b : Bool). bare b None) off.0
        ∙ (ap (λ (b : Bool). bare (on && stays_bare conf later) (since_when b since)) (sym off.1)
        ∙ sym (turned-bare conf later on since)))

    go : (b : Bool) → is_turn since (from + 1) ≡ b → LastDoesAll
        → guard_after_seconds conf next (if b then turned conf next (bare on since) else bare on since) rest ≡ turned conf later (bare on since)
    go true e last =
        ap (λ (g : Guard). guard_after_seconds conf next g rest) (turned-bare conf next on since)
        ∙ after_first (are_on conf.syncookies first) refl last
    go false e last = last on

-- ---- up to the next turn

-- the guard after the seconds up to a turn, before which there is none, or none is out
pub seconds-turned : (conf : Conf) (w : World) (g : Guard) (from to turn : ℕ) → IsNextTurn g from to turn
    → guard_after_seconds conf w g (seconds from turn) ≡ turned conf (world_after_purges conf w (seconds from turn)) g
seconds-turned conf w g from to turn next = by next.first
  where
    later : from < turn
    later = next.later

    by : ((out_count g.out ≡ 0) ⊎ HasNoTurn g.since from (turn - 1))
        → guard_after_seconds conf w g (seconds from turn) ≡ turned conf (world_after_purges conf w (seconds from turn)) g
    by (inl none) =
        let n = turn - from - 1 in
        let count : turn - from ≡ suc n = omega (arith, later) in
        let at : from + suc n ≡ turn = omega (arith, later) in
        let is : g ≡ bare g.on g.since = (λ i. record { on = g.on; since = g.since; out = none_out g.out none i }) in
        let turns : is_turn g.since (from + suc n) ≡ true = ap (is_turn g.since) at ∙ next.turns in
        subst (λ (k : ℕ). guard_after_seconds conf w g (range_with_len (from + 1) k) ≡ turned conf (world_after_purges conf w (range_with_len (from + 1) k)) g) (sym count)
        (subst (λ (x : Guard). guard_after_seconds conf w x (range_with_len (from + 1) (suc n)) ≡ turned conf (world_after_purges conf w (range_with_len (from + 1) (suc n))) x) (sym is)
        (last_turn conf w g.on g.since from n turns))
    by (inr none) =
        let before = turn - 1 in
        let parts : seconds from turn ≡ seconds from before ++ seconds before turn = seconds-parts from before turn (omega (arith, later)) (omega arith) in
        let one : turn - before ≡ 1 = omega (arith, later) in
        let at : before + 1 ≡ turn = omega (arith, later) in
        let last : seconds before turn ≡ turn ∷ [] = ap (range_with_len (before + 1)) one ∙ ap (λ (x : ℕ). x ∷ []) at in
        let all : seconds from turn ≡ seconds from before ++ turn ∷ [] = parts ∙ ap (λ (xs : List ℕ). seconds from before ++ xs) last in
        let w1 = world_after_purges conf w (seconds from before) in
        ap (guard_after_seconds conf w g) all
        ∙ (guard-parts conf w g (seconds from before) (turn ∷ [])
        ∙ (ap (λ (x : Guard). guard_at_second conf (purge conf w1 turn) x turn) (seconds-still conf w g from before (omega (arith, later)) none)
        ∙ (ap (λ (b : Bool). if b then turned conf (purge conf w1 turn) g else g) next.turns
        ∙ ap (λ (x : World). turned conf x g) (sym (ap (world_after_purges conf w) all ∙ purged-parts conf w (seconds from before) (turn ∷ []))))))

-- ---- what is still to come, after a part

module _ (conf : Conf) (w after : World) (from mid to : ℕ) (order : from ≤ mid) (rest : mid ≤ to) (is : after ≡ world_after_purges conf w (seconds from mid)) where
  pub world-left : world_after_purges conf after (seconds mid to) ≡ world_after_purges conf w (seconds from to)
  world-left =
      ap (λ (x : World). world_after_purges conf x (seconds mid to)) is
      ∙ sym (ap (world_after_purges conf w) (seconds-parts from mid to order rest) ∙ purged-parts conf w (seconds from mid) (seconds mid to))

  states-left : max (most_states conf w (seconds from mid)) (most_states conf after (seconds mid to)) ≡ most_states conf w (seconds from to)
  states-left =
      ap (λ (x : World). max (most_states conf w (seconds from mid)) (most_states conf x (seconds mid to))) is
      ∙ sym (ap (most_states conf w) (seconds-parts from mid to order rest) ∙ states-parts conf w (seconds from mid) (seconds mid to))

  nodes-left : max (most_nodes conf w (seconds from mid)) (most_nodes conf after (seconds mid to)) ≡ most_nodes conf w (seconds from to)
  nodes-left =
      ap (λ (x : World). max (most_nodes conf w (seconds from mid)) (most_nodes conf x (seconds mid to))) is
      ∙ sym (ap (most_nodes conf w) (seconds-parts from mid to order rest) ∙ nodes-parts conf w (seconds from mid) (seconds mid to))

  -- how much all examine
  pub purged-left : (counts : Bool) (p : Purged) → purged_both (purged_both p (purged_of counts conf w (seconds from mid))) (purged_of counts conf after (seconds mid to))
      ≡ purged_both p (purged_of counts conf w (seconds from to))
  purged-left counts p =
      let states : max (max p.most_states (most_states conf w (seconds from mid))) (most_states conf after (seconds mid to)) ≡ max p.most_states (most_states conf w (seconds from to)) = omega (arith, states-left) in
      let nodes : max (max p.most_nodes (most_nodes conf w (seconds from mid))) (most_nodes conf after (seconds mid to)) ≡ max p.most_nodes (most_nodes conf w (seconds from to)) = omega (arith, nodes-left) in
      (λ i. purged_with (looks counts i) (states i) (nodes i))
    where
      looks : (b : Bool) → max (max p.looks (if b then most_states conf w (seconds from mid) else 0)) (if b then most_states conf after (seconds mid to) else 0)
          ≡ max p.looks (if b then most_states conf w (seconds from to) else 0)
      looks true = omega (arith, states-left)
      looks false = omega arith

max-zero : (a : ℕ) → max 0 a ≡ a
max-zero a = omega arith

pub none-first : (p : Purged) → purged_both purged_of_none p ≡ p
none-first p = λ i. purged_with (max-zero p.looks i) (max-zero p.most_states i) (max-zero p.most_nodes i)

-- and of the guard, after a part that ends with its next turn
pub guard-left : (conf : Conf) (w after : World) (g new : Guard) (from to turn : ℕ) → IsNextTurn g from to turn → after ≡ world_after_purges conf w (seconds from turn)
    → new ≡ guard_turned conf (guard_rested conf after g) → guard_after_seconds conf after new (seconds turn to) ≡ guard_after_seconds conf w g (seconds from to)
guard-left conf w after g new from to turn next is made =
    let order : from ≤ turn = let l = next.later in omega (arith, l) in
    let new_is : new ≡ guard_after_seconds conf w g (seconds from turn) = made ∙ (ap (λ (x : World). turned conf x g) is ∙ sym (seconds-turned conf w g from to turn next)) in
    (λ i. guard_after_seconds conf (is i) (new_is i) (seconds turn to))
    ∙ sym (ap (guard_after_seconds conf w g) (seconds-parts from turn to order next.within) ∙ guard-parts conf w g (seconds from turn) (seconds turn to))
