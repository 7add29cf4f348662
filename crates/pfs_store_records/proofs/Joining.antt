-- Records with their keys, seen from the records as they are kept and from what lies aside.
use Rattle.std.proofs.Common.{◌≡◌, ◌∙◌, ◌≤◌, ◌==◌, ◌||◌, ℕ, Bool, true, false, cond, if◌then◌else◌, Option, Some, None, IsSome, List, [], ◌∷◌, ◌++◌, drop, filter, length, map, option_map, refl, ap, sym, subst, take, arith}
use Rattle.std.specs.Option.{option_and_then}
use Rattle.std.specs.Prelude.{slice_get}
use Rattle.std.specs.BTreeMap.{is_at}
use Rattle.std.specs.List.{find, list_any, AllByRecursion}
use Rattle.std.specs.Ordering.{nat_cmp}
use Rattle.std.proofs.lemmas.Bool.Decides.{nat_tests}
use Rattle.pfs_addr_values.specs.declared.packets.Dir.{Dir}
use Rattle.pfs_addr_values.specs.declared.packets.Dir.TheVariants.{In, Out}
use Rattle.pfs_addr_values.specs.declared.packets.FlowKey.{FlowKey}
use Rattle.pfs_conf_values.specs.declared.items.RuleNo.{RuleNo}
use Rattle.pfs_conf_values.specs.declared.timeouts.TimeoutName.{TimeoutName}
use Rattle.pfs_track.specs.StatePhases.{is_half_open}
use Rattle.pfs_track.specs.declared.state_phases.StatePhase.{StatePhase}
use Rattle.pfs_store_contract.specs.Calls.{onward_key}
use Rattle.pfs_store_contract.specs.Counts.{half_open}
use Rattle.pfs_store_contract.specs.Leaving.{sent_on_side}
use Rattle.pfs_store_contract.specs.Purging.{state_numbers}
use Rattle.pfs_store_contract.specs.Worlds.{holds_number}
use Rattle.pfs_store_contract.specs.declared.records.State.{State}
use Rattle.pfs_store_records.specs.ApartKeys.{AreHeld, HasKeys, IsKeptAt, whole_record, keys_apart, lying, rekeyed, with_keys}
use Rattle.pfs_store_records.specs.Records.{IsAbove, IsRecordAt, Placed, between, leaves_number, placed_at, renewed, renewed_at, stands_at, states_of}
use Rattle.pfs_store_records.specs.Sourced.{bare}
use Rattle.pfs_store_records.specs.Walks.{IsLeaver, IsWalk, StayUntil, end_of, state_has_expired}
use Rattle.pfs_store_records.specs.declared.apart_keys.Keys.{Keys}
use Rattle.pfs_store_records.proofs.Searches.{found-passes}
use Rattle.pfs_store_records.proofs.Ordered.{at_other, at_same, at_self}

-- ---- what does not depend on the keys

abbrev pub IsKeyless : {X : Type 0} → (State → X) → Type 0
IsKeyless f = (o : Option Keys) (s : State) → f (with_keys o s) ≡ f s

pub number-keyless : IsKeyless (λ s. s.number)
number-keyless None s = refl
number-keyless (Some k) s = refl

abbrev pub all_of : List (ℕ × Keys) → List Placed → List State
all_of aside ps = states_of (map (whole_record aside) ps)

pub map-joined : {X : Type 0} (f : State → X) → IsKeyless f → (aside : List (ℕ × Keys)) (ps : List Placed) → map f (all_of aside ps) ≡ map f (states_of ps)
map-joined f k aside [] = refl
map-joined f k aside (p ∷ ps) = λ i. k (lying aside p.state.number) p.state i ∷ map-joined f k aside ps i

pub numbers-joined : (aside : List (ℕ × Keys)) (ps : List Placed) → state_numbers (all_of aside ps) ≡ state_numbers (states_of ps)
numbers-joined = map-joined (λ s. s.number) number-keyless

pub any-joined : (f : State → Bool) → IsKeyless f → (aside : List (ℕ × Keys)) (ps : List Placed) → list_any f (all_of aside ps) ≡ list_any f (states_of ps)
any-joined f k aside [] = refl
any-joined f k aside (p ∷ ps) = λ i. k (lying aside p.state.number) p.state i || any-joined f k aside ps i

pub holds-joined : (n : ℕ) (aside : List (ℕ × Keys)) (ps : List Placed) → holds_number (all_of aside ps) n ≡ holds_number (states_of ps) n
holds-joined n = any-joined (λ s. s.number == n) (λ o s. ap (λ m. m == n) (number-keyless o s))

half-keyless : IsKeyless (λ s. is_half_open s.phase)
half-keyless None s = refl
half-keyless (Some k) s = refl

pub half-joined : (aside : List (ℕ × Keys)) (ps : List Placed) → half_open (all_of aside ps) ≡ half_open (states_of ps)
half-joined aside [] = refl
half-joined aside (p ∷ ps) = go (is_half_open p.state.phase) refl (half-joined aside ps)
  where
    go : (b : Bool) → is_half_open p.state.phase ≡ b → half_open (all_of aside ps) ≡ half_open (states_of ps) → half_open (all_of aside (p ∷ ps)) ≡ half_open (states_of (p ∷ ps))
    go true e m =
        let k : is_half_open (with_keys (lying aside p.state.number) p.state).phase ≡ true = half-keyless (lying aside p.state.number) p.state ∙ e in
        rw (k, e) (omega (arith, m))
    go false e m =
        let k : is_half_open (with_keys (lying aside p.state.number) p.state).phase ≡ false = half-keyless (lying aside p.state.number) p.state ∙ e in
        rw (k, e) m

pub all-joined : (P : State → Type 0) → ((o : Option Keys) (s : State) → P s → P (with_keys o s)) → (aside : List (ℕ × Keys)) (ps : List Placed) → AllByRecursion P (states_of ps) → AllByRecursion P (all_of aside ps)
all-joined P k aside [] h = tt
all-joined P k aside (p ∷ ps) (h, hs) = (k (lying aside p.state.number) p.state h, all-joined P k aside ps hs)

pub length-joined : (aside : List (ℕ × Keys)) (ps : List Placed) → length (map (whole_record aside) ps) ≡ length ps
length-joined aside [] = refl
length-joined aside (p ∷ ps) = omega (arith, length-joined aside ps)

-- ---- a state is found

same_number : (a b : ℕ) → (a == b) ≡ true → a ≡ b
same_number a b h = grind (arith, nat_tests)

pub find-joined : (n : ℕ) (aside : List (ℕ × Keys)) (ps : List Placed)
    → find (λ (s : State). s.number == n) (all_of aside ps) ≡ option_map (with_keys (lying aside n)) (find (λ (s : State). s.number == n) (states_of ps))
find-joined n aside [] = refl
find-joined n aside (p ∷ ps) = go (find-joined n aside ps) (p.state.number == n) refl
  where
    go : find (λ (s : State). s.number == n) (all_of aside ps) ≡ option_map (with_keys (lying aside n)) (find (λ (s : State). s.number == n) (states_of ps))
        → (b : Bool) → (p.state.number == n) ≡ b
        → find (λ (s : State). s.number == n) (all_of aside (p ∷ ps)) ≡ option_map (with_keys (lying aside n)) (find (λ (s : State). s.number == n) (states_of (p ∷ ps)))
    go more true t =
        let k : ((with_keys (lying aside p.state.number) p.state).number == n) ≡ true = ap (λ m. m == n) (number-keyless (lying aside p.state.number) p.state) ∙ t in
        rw (k, t) (ap (λ m. Some (with_keys (lying aside m) p.state)) (same_number p.state.number n t))
    go more false t =
        let k : ((with_keys (lying aside p.state.number) p.state).number == n) ≡ false = ap (λ m. m == n) (number-keyless (lying aside p.state.number) p.state) ∙ t in
        rw (k, t) more

-- the state that is found by a number has it
pub numbered : (n : ℕ) (s : State) (xs : List State) → find (λ (x : State). x.number == n) xs ≡ Some s → s.number ≡ n
numbered n s xs f = same_number s.number n (found-passes (λ (x : State). x.number == n) s xs f)

pub stands-joined : (place : ℕ) (aside : List (ℕ × Keys)) (ps : List Placed) → list_any (stands_at place) (map (whole_record aside) ps) ≡ list_any (stands_at place) ps
stands-joined place aside [] = refl
stands-joined place aside (p ∷ ps) = ap (λ b. (p.place == place) || b) (stands-joined place aside ps)

pub record-joined : (place : ℕ) (s : State) (aside : List (ℕ × Keys)) (ps : List Placed) → IsRecordAt place s ps → IsRecordAt place (with_keys (lying aside s.number) s) (map (whole_record aside) ps)
record-joined place s aside [] h = tt
record-joined place s aside (p ∷ ps) (h, hs) = ((λ q. ap (λ (x : State). with_keys (lying aside x.number) x) (h q)), record-joined place s aside ps hs)

pub kept-joined : (place : ℕ) (kept : State) (aside : List (ℕ × Keys)) (ps : List Placed) → IsRecordAt place kept ps → IsKeptAt place kept (map (whole_record aside) ps)
kept-joined place kept aside [] h = tt
kept-joined place kept aside (p ∷ ps) (h, hs) = ((λ q. go (lying aside p.state.number) ∙ ap (rekeyed kept) (h q)), kept-joined place kept aside ps hs)
  where
    go : (o : Option Keys) → rekeyed kept (with_keys o p.state) ≡ rekeyed kept p.state
    go None = refl
    go (Some k) = refl

-- the key with which packets go on
pub onward-none : (n : ℕ) (dir : Dir) (aside : List (ℕ × Keys)) (ps : List Placed) → lying aside n ≡ None
    → option_and_then (onward_key dir) (find (λ (s : State). s.number == n) (all_of aside ps)) ≡ None
onward-none n dir aside ps e =
    ap (option_and_then (onward_key dir)) (find-joined n aside ps ∙ ap (λ o. option_map (with_keys o) (find (λ (s : State). s.number == n) (states_of ps))) e)
    ∙ go dir (find (λ (s : State). s.number == n) (states_of ps))
  where
    go : (d : Dir) (o : Option State) → option_and_then (onward_key d) (option_map (with_keys None) o) ≡ None
    go In None = refl
    go In (Some s) = refl
    go Out None = refl
    go Out (Some s) = refl

found-held : (n : ℕ) (xs : List State) → holds_number xs n ≡ true → (s : State) × (find (λ (x : State). x.number == n) xs ≡ Some s)
found-held n [] h = absurd cc
found-held n (x ∷ xs) h = go (found-held n xs) (x.number == n) refl
  where
    go : (holds_number xs n ≡ true → (s : State) × (find (λ (y : State). y.number == n) xs ≡ Some s)) → (b : Bool) → (x.number == n) ≡ b
        → (s : State) × (find (λ (y : State). y.number == n) (x ∷ xs) ≡ Some s)
    go more true t = (x, rw t refl)
    go more false t = let m = more (rw t at h) in (m.0, rw t m.1)

pub onward-some : (n : ℕ) (keys : Keys) (aside : List (ℕ × Keys)) (ps : List Placed) → AreHeld aside (states_of ps) → lying aside n ≡ Some keys
    → (s : State) × (find (λ (x : State). x.number == n) (all_of aside ps) ≡ Some (with_keys (Some keys) s))
onward-some n keys aside ps h e =
    let f = found-held n (states_of ps) (h n (rw e refl)) in
    (f.0, find-joined n aside ps ∙ ap (λ o. option_map (with_keys o) (find (λ (x : State). x.number == n) (states_of ps))) e ∙ ap (option_map (with_keys (Some keys))) f.1)

-- ---- a state is renewed

pub renew-joined : (place : ℕ) (phase : StatePhase) (last : ℕ) (aside : List (ℕ × Keys)) (ps : List Placed)
    → map (whole_record aside) (map (renewed_at place phase last) ps) ≡ map (renewed_at place phase last) (map (whole_record aside) ps)
renew-joined place phase last aside [] = refl
renew-joined place phase last aside (p ∷ ps) = λ i. on (p.place == place) i ∷ renew-joined place phase last aside ps i
  where
    go : (o : Option Keys) → placed_at p.place (with_keys o (renewed phase last p.state)) ≡ placed_at p.place (renewed phase last (with_keys o p.state))
    go None = refl
    go (Some k) = refl

    on : (b : Bool) → whole_record aside (if b then placed_at p.place (renewed phase last p.state) else p) ≡ (if b then placed_at p.place (renewed phase last (whole_record aside p).state) else whole_record aside p)
    on true = go (lying aside p.state.number)
    on false = refl

pub numbers-renewed-at : (place : ℕ) (phase : StatePhase) (last : ℕ) (ps : List Placed) → state_numbers (states_of (map (renewed_at place phase last) ps)) ≡ state_numbers (states_of ps)
numbers-renewed-at place phase last [] = refl
numbers-renewed-at place phase last (p ∷ ps) = λ i. go (p.place == place) i ∷ numbers-renewed-at place phase last ps i
  where
    go : (b : Bool) → (if b then placed_at p.place (renewed phase last p.state) else p).state.number ≡ p.state.number
    go true = refl
    go false = refl

-- who is held follows from the numbers
held-by : (n : ℕ) (zs : List State) → list_any (λ m. m == n) (state_numbers zs) ≡ holds_number zs n
held-by n [] = refl
held-by n (z ∷ zs) = ap (λ b. (z.number == n) || b) (held-by n zs)

pub held-numbers : (n : ℕ) (xs ys : List State) → state_numbers xs ≡ state_numbers ys → holds_number xs n ≡ holds_number ys n
held-numbers n xs ys e = sym (held-by n xs) ∙ ap (list_any (λ m. m == n)) e ∙ held-by n ys

-- ---- a state comes

pub absent-above : (n : ℕ) (xs : List State) → IsAbove n (state_numbers xs) → holds_number xs n ≡ false
absent-above n [] h = refl
absent-above n (x ∷ xs) (h, hs) =
    let k : (x.number == n) ≡ false = grind (arith, nat_tests, h) in
    rw k (absent-above n xs hs)

pub none-aside : (n : ℕ) (aside : List (ℕ × Keys)) (xs : List State) → AreHeld aside xs → IsAbove n (state_numbers xs) → lying aside n ≡ None
none-aside n aside xs h a = go (lying aside n) refl
  where
    go : (o : Option Keys) → lying aside n ≡ o → lying aside n ≡ None
    go None e = e
    go (Some k) e =
        let z : false ≡ true = sym (absent-above n xs a) ∙ h n (rw e refl) in
        absurd (cc z)

pub same-joined : (aside after : List (ℕ × Keys)) (ps : List Placed) → ((n : ℕ) → lying after n ≡ lying aside n) → map (whole_record after) ps ≡ map (whole_record aside) ps
same-joined aside after [] h = refl
same-joined aside after (p ∷ ps) h = λ i. placed_at p.place (with_keys (h p.state.number i) p.state) ∷ same-joined aside after ps h i

above-joined : (n : ℕ) (keys : Option Keys) (aside after : List (ℕ × Keys)) (ps : List Placed) → HasKeys n keys aside after → IsAbove n (state_numbers (states_of ps)) → map (whole_record after) ps ≡ map (whole_record aside) ps
above-joined n keys aside after [] h a = refl
above-joined n keys aside after (p ∷ ps) h (a, more) = λ i. placed_at p.place (with_keys (e i) p.state) ∷ above-joined n keys aside after ps h more i
  where
    e : lying after p.state.number ≡ lying aside p.state.number
    e =
        let d : is_at (nat_cmp n) p.state.number ≡ false = at_other n p.state.number (λ q. grind (arith, a, q)) in
        h p.state.number ∙ ap (λ b. cond b keys (lying aside p.state.number)) d

-- a state is what its record keeps, with its keys
pub whole : (s : State) → with_keys (keys_apart s) (bare s) ≡ s
whole s = go s.inner refl
  where
    side : (d : Dir) → s.inner ≡ None → sent_on_side d s ≡ s.key
    side In e = refl
    side Out e = rw e refl

    go : (o : Option FlowKey) → s.inner ≡ o → with_keys (option_map (λ (i : FlowKey). record { wire = s.key; inner = i }) o) (bare s) ≡ s
    go None e = λ i. record s { key = side s.dir e i; inner = sym e i }
    go (Some k) e = λ i. record s { inner = sym e i }

pub push-joined : (place : ℕ) (s : State) (aside after : List (ℕ × Keys)) (ps : List Placed) → HasKeys s.number (keys_apart s) aside after → IsAbove s.number (state_numbers (states_of ps))
    → map (whole_record after) (ps ++ placed_at place (bare s) ∷ []) ≡ map (whole_record aside) ps ++ placed_at place s ∷ []
push-joined place s aside after [] h a =
    ap (λ (x : State). placed_at place x ∷ []) (ap (λ o. with_keys o (bare s)) (h s.number ∙ ap (λ b. cond b (keys_apart s) (lying aside s.number)) (at_self s.number s.number refl)) ∙ whole s)
push-joined place s aside after (p ∷ ps) h (a, more) = λ i. placed_at p.place (with_keys (e i) p.state) ∷ push-joined place s aside after ps h more i
  where
    e : lying after p.state.number ≡ lying aside p.state.number
    e =
        let d : is_at (nat_cmp s.number) p.state.number ≡ false = at_other s.number p.state.number (λ q. grind (arith, a, q)) in
        h p.state.number ∙ ap (λ b. cond b (keys_apart s) (lying aside p.state.number)) d

-- what came and left again
pub undone : (n : ℕ) (keys : Option Keys) (aside between after : List (ℕ × Keys)) → lying aside n ≡ None → HasKeys n keys aside between → HasKeys n None between after → (m : ℕ) → lying after m ≡ lying aside m
undone n keys aside between after e h k m = go (is_at (nat_cmp n) m) refl
  where
    go : (b : Bool) → is_at (nat_cmp n) m ≡ b → lying after m ≡ lying aside m
    go true t = k m ∙ ap (λ b. cond b None (lying between m)) t ∙ sym e ∙ ap (lying aside) (at_same n m t)
    go false t = k m ∙ ap (λ b. cond b None (lying between m)) t ∙ h m ∙ ap (λ b. cond b keys (lying aside m)) t

-- ---- a state leaves

pub filter-joined : (n : ℕ) (aside after : List (ℕ × Keys)) (ps : List Placed) → HasKeys n None aside after → map (whole_record after) (filter (leaves_number n) ps) ≡ filter (leaves_number n) (map (whole_record aside) ps)
filter-joined n aside after [] h = refl
filter-joined n aside after (p ∷ ps) h = go (filter-joined n aside after ps h) (p.state.number == n) refl
  where
    go : map (whole_record after) (filter (leaves_number n) ps) ≡ filter (leaves_number n) (map (whole_record aside) ps) → (b : Bool) → (p.state.number == n) ≡ b
        → map (whole_record after) (filter (leaves_number n) (p ∷ ps)) ≡ filter (leaves_number n) (map (whole_record aside) (p ∷ ps))
    go more true t =
        let k : ((with_keys (lying aside p.state.number) p.state).number == n) ≡ true = ap (λ m. m == n) (number-keyless (lying aside p.state.number) p.state) ∙ t in
        rw (k, t) more
    go more false t =
        let k : ((with_keys (lying aside p.state.number) p.state).number == n) ≡ false = ap (λ m. m == n) (number-keyless (lying aside p.state.number) p.state) ∙ t in
        let d : is_at (nat_cmp n) p.state.number ≡ false = at_other n p.state.number (λ q. grind (arith, nat_tests, t, q)) in
        let e : lying after p.state.number ≡ lying aside p.state.number = h p.state.number ∙ ap (λ b. cond b None (lying aside p.state.number)) d in
        rw (k, t) (λ i. placed_at p.place (with_keys (e i) p.state) ∷ more i)

holds-filtered : (n m : ℕ) (ps : List Placed) → (n == m) ≡ false → holds_number (states_of ps) m ≡ true → holds_number (states_of (filter (leaves_number n) ps)) m ≡ true
holds-filtered n m [] d h = absurd cc
holds-filtered n m (p ∷ ps) d h = go (holds-filtered n m ps d) (p.state.number == n) refl (p.state.number == m) refl
  where
    go : (holds_number (states_of ps) m ≡ true → holds_number (states_of (filter (leaves_number n) ps)) m ≡ true) → (b : Bool) → (p.state.number == n) ≡ b → (c : Bool) → (p.state.number == m) ≡ c
        → holds_number (states_of (filter (leaves_number n) (p ∷ ps))) m ≡ true
    go more true t true u = absurd (grind (arith, nat_tests, d, t, u))
    go more true t false u = rw t (more (rw u at h))
    go more false t true u = rw (t, u) refl
    go more false t false u = rw (t, u) (more (rw u at h))

pub held-removed-aside : (n : ℕ) (aside after : List (ℕ × Keys)) (ps : List Placed) → HasKeys n None aside after → AreHeld aside (states_of ps) → AreHeld after (states_of (filter (leaves_number n) ps))
held-removed-aside n aside after ps h k m is = go (is_at (nat_cmp n) m) refl
  where
    go : (b : Bool) → is_at (nat_cmp n) m ≡ b → holds_number (states_of (filter (leaves_number n) ps)) m ≡ true
    go true t =
        let z : IsSome {T = Keys} None = subst (λ (o : Option Keys). IsSome o) (h m ∙ ap (λ b. cond b None (lying aside m)) t) is in
        absurd (cc z)
    go false t =
        let d : (n == m) ≡ false = grind (arith, nat_tests, t) in
        holds-filtered n m ps d (k m (subst (λ (o : Option Keys). IsSome o) (h m ∙ ap (λ b. cond b None (lying aside m)) t) is))

-- ---- a walk

module _ (lifetime : RuleNo → TimeoutName → ℕ) (now : ℕ) where
  pub expired-keyless : IsKeyless (state_has_expired lifetime now)
  expired-keyless None s = refl
  expired-keyless (Some k) s = refl

pub end-keyless : (lifetime : RuleNo → TimeoutName → ℕ) → IsKeyless (end_of lifetime)
end-keyless lifetime None s = refl
end-keyless lifetime (Some k) s = refl

module _ (test : State → Bool) (keyless : IsKeyless test) (aside : List (ℕ × Keys)) (ps : List Placed) where
  leaver-joined : (last most stayed share : ℕ) (o : Option State) → IsLeaver test (states_of ps) last most stayed share o
      → IsLeaver test (all_of aside ps) last most stayed share (option_map (λ (s : State). with_keys (lying aside s.number) s) o)
  leaver-joined last most stayed share None h = λ l. ap (filter (between last most)) (numbers-joined aside ps) ∙ h l
  leaver-joined last most stayed share (Some s) h = record {
    within = h.within;
    next = ap (λ ns. slice_get (filter (between last most) ns) 0) (numbers-joined aside ps) ∙ h.next ∙ ap Some (sym (number-keyless (lying aside s.number) s));
    found = ap (λ n. find (λ (t : State). t.number == n) (all_of aside ps)) (number-keyless (lying aside s.number) s)
        ∙ find-joined s.number aside ps ∙ ap (option_map (with_keys (lying aside s.number))) h.found;
    passes = keyless (lying aside s.number) s ∙ h.passes;
  }

  pub walk-joined : (above most share stayed last : ℕ) (o : Option State) → IsWalk test (states_of ps) above most share stayed last o
      → IsWalk test (all_of aside ps) above most share stayed last (option_map (λ (s : State). with_keys (lying aside s.number) s) o)
  walk-joined above most share stayed last o w = record {
    from = w.from;
    to = w.to;
    stay = all-joined (λ (s : State). between above last s.number ≡ true → test s ≡ false)
        (λ k s h b. keyless k s ∙ h (sym (ap (between above last) (number-keyless k s)) ∙ b)) aside ps w.stay;
    count = w.count ∙ ap (λ ns. length (filter (between above last) ns)) (sym (numbers-joined aside ps));
    passed = ap (filter (between above last)) (numbers-joined aside ps) ∙ w.passed ∙ ap (λ ns. take stayed (filter (between above most) ns)) (sym (numbers-joined aside ps));
    rest = ap (filter (between last most)) (numbers-joined aside ps) ∙ w.rest ∙ ap (λ ns. drop stayed (filter (between above most) ns)) (sym (numbers-joined aside ps));
    within = w.within;
    leaver = leaver-joined last most stayed share o w.leaver;
  }

pub until-joined : (moment : State → ℕ) → IsKeyless moment → (aside : List (ℕ × Keys)) (ps : List Placed) (above last until : ℕ) → StayUntil moment (states_of ps) above last until
    → StayUntil moment (all_of aside ps) above last until
until-joined moment keyless aside ps above last until h =
    all-joined (λ (s : State). between above last s.number ≡ true → until ≤ moment s)
    (λ k s h b. subst (λ m. until ≤ m) (sym (keyless k s)) (h (sym (ap (between above last) (number-keyless k s)) ∙ b))) aside ps h

-- ---- nothing lies aside

pub none-lies : (aside : List (ℕ × Keys)) → length aside ≡ 0 → aside ≡ []
none-lies [] h = refl
none-lies (k ∷ ks) h = absurd (omega (arith, h))
