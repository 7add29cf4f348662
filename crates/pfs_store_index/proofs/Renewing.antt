-- The record of the state that was found, what a packet makes of it, and what is reported of its node.
use Rattle.std.proofs.Common.{◌≡◌, ◌∙◌, ◌+◌, ◌==◌, ◌||◌, ℕ, Bool, true, false, cond, Option, Some, None, is_some, unwrap_or, List, [], ◌∷◌, map, option_map, refl, ap, sym, subst, arith}
use Rattle.std.specs.List.{find, list_any, AllByRecursion}
use Rattle.std.proofs.lemmas.Bool.Decides.{nat_tests}
use Rattle.pfs_addr_values.specs.Packets.{PacketView}
use Rattle.pfs_addr_values.specs.declared.addresses.Addr.{Addr}
use Rattle.pfs_conf_values.specs.Configs.{Conf}
use Rattle.pfs_track.specs.Scores.{zero_score}
use Rattle.pfs_track.proofs.DoneLaws.{done-after, done-once}
use Rattle.pfs_track.specs.StatePhases.{completes, is_done}
use Rattle.pfs_track.specs.declared.scores.Score.{Score}
use Rattle.pfs_track.specs.declared.state_phases.StatePhase.{StatePhase}
use Rattle.pfs_store_contract.specs.declared.records.StateHandle.{StateHandle}
use Rattle.pfs_store_contract.specs.Counts.{is_node, node_connections}
use Rattle.pfs_store_contract.specs.Purging.{state_numbers}
use Rattle.pfs_store_contract.specs.Touching.{connections_in, goes_forward, score_in, state_after_packet}
use Rattle.pfs_store_contract.specs.declared.records.Node.{Node}
use Rattle.pfs_store_contract.specs.declared.records.NodeScope.{NodeScope}
use Rattle.pfs_store_contract.specs.declared.records.State.{State}
use Rattle.pfs_store_records.specs.ApartKeys.{IsKeptAt, rekeyed}
use Rattle.pfs_store_records.specs.Records.{IsRising, Placed, is_placed, placed_at, renewed, renewed_at, states_of}
use Rattle.pfs_store_records.specs.Tallies.{is_tally, nodes_of}
use Rattle.pfs_store_records.specs.declared.nodes.NodeTally.{NodeTally}
use Rattle.pfs_store_index.specs.Holdings.{is_reached}
use Rattle.pfs_store_index.specs.IndexInvariants.{IsCounted}
use Rattle.pfs_store_records.specs.Changes.{connections_at, score_at}
use Rattle.pfs_store_index.proofs.Leavings.{record_number, state_number}
use Rattle.pfs_store_index.proofs.Meetings.{CountsDone, renew-apart, renewed_record}
use Rattle.pfs_store_records.proofs.OneNode.{scope_is, source_is}
use Rattle.pfs_store_records.proofs.Searches.{any-found, find-part, found-all, found-passes}
use Rattle.pfs_store_index.proofs.Reached.{at-place, none-placed}
use Rattle.pfs_store_index.proofs.Stands.{rising-records}
use Rattle.pfs_store_records.proofs.Rising.{Apart, IsRisingBy, has_number, head-apart, rest-rising, same_number}

same_self : (n : ℕ) → (n == n) ≡ true
same_self n = grind (arith, nat_tests)

-- the state of a number that is held
pub record IsHeldAs (n : ℕ) (xs : List State) : Type 0 where
  pub state : State
  pub found : find (has_number state_number n) xs ≡ Some state
  pub number : state.number ≡ n

pub held-as : (n : ℕ) (xs : List State) → list_any (has_number state_number n) xs ≡ true → IsHeldAs n xs
held-as n xs h = go (find (has_number state_number n) xs) refl
  where
    go : (o : Option State) → find (has_number state_number n) xs ≡ o → IsHeldAs n xs
    go None e =
        let z : false ≡ true = ap is_some (sym e) ∙ any-found (has_number state_number n) xs ∙ h in
        absurd (cc z)
    go (Some u) e = record {
      state = u;
      found = e;
      number = same_number n u.number (found-passes (has_number state_number n) u xs e);
    }

-- ---- the state of the record that was found

-- what the record at a place keeps is the state of this number
pub record IsKeptAs (n : ℕ) (kept : State) (rs : List Placed) : Type 0 where
  pub state : State
  pub found : find (has_number state_number n) (states_of rs) ≡ Some state
  pub same : rekeyed kept state ≡ kept
  pub number : state.number ≡ n

pub kept-as : (f : StateHandle) (kept : State) (rs : List Placed) → IsRising (state_numbers (states_of rs)) → is_reached rs f ≡ true → IsKeptAt f.place kept rs → IsKeptAs f.number.0 kept rs
kept-as f kept rs r a is =
    let i = at-place f.number.0 f.place rs (rising-records rs r) a in
    record {
      state = i.record_of.state;
      found = find-part (λ (p : Placed). p.state) (has_number state_number f.number.0) rs ∙ ap (option_map (λ (p : Placed). p.state)) i.found;
      same = found-all (λ (p : Placed). p.place ≡ f.place → rekeyed kept p.state ≡ kept) (has_number record_number f.number.0) i.record_of rs is i.found i.place;
      number = same_number f.number.0 i.record_of.state.number (found-passes (has_number record_number f.number.0) i.record_of rs i.found);
    }

-- a record at a place is that of the number, and is renewed as by a packet
abbrev pub IsStepped : ℕ → ℕ → PacketView → ℕ → StatePhase → ℕ → Placed → Type 0
IsStepped n at p now phase last x = x.place ≡ at → (x.state.number ≡ n) × (renewed phase last x.state ≡ state_after_packet p now x.state)

-- what a packet does to what is kept it does to the state, whose keys it leaves
pub steps-alike : (p : PacketView) (now : ℕ) (phase : StatePhase) (last : ℕ) (kept s : State) → rekeyed kept s ≡ kept → renewed phase last kept ≡ state_after_packet p now kept
    → renewed phase last s ≡ state_after_packet p now s
steps-alike p now phase last kept s e h =
    let a : phase ≡ (state_after_packet p now s).phase = ap (λ (x : State). x.phase) h ∙ ap (λ (x : State). (state_after_packet p now x).phase) (sym e) in
    let b : last ≡ (state_after_packet p now s).last = ap (λ (x : State). x.last) h ∙ ap (λ (x : State). (state_after_packet p now x).last) (sym e) in
    λ i. record s { phase = a i; last = b i }

stepped-apart : (n at : ℕ) (p : PacketView) (now : ℕ) (phase : StatePhase) (last : ℕ) (rs : List Placed) → Apart record_number n rs → AllByRecursion (IsStepped n at p now phase last) rs
    → map (renewed_at at phase last) rs ≡ rs
stepped-apart n at p now phase last [] a h = refl
stepped-apart n at p now phase last (x ∷ xs) (a, as-well) (h, hs) = go (stepped-apart n at p now phase last xs as-well hs) (x.place == at) refl
  where
    go : map (renewed_at at phase last) xs ≡ xs → (b : Bool) → (x.place == at) ≡ b → map (renewed_at at phase last) (x ∷ xs) ≡ x ∷ xs
    go more true t =
        let k = (h (same_number at x.place t)).0 in
        let z : true ≡ false = sym (same_self n) ∙ ap (λ m. m == n) (sym k) ∙ a in
        absurd (cc z)
    go more false t = rw t (ap (λ ys. x ∷ ys) more)

pub stepped-record : (n at : ℕ) (p : PacketView) (now : ℕ) (phase : StatePhase) (last : ℕ) (rs : List Placed) → IsRisingBy record_number rs → list_any (is_placed n at) rs ≡ true
    → AllByRecursion (IsStepped n at p now phase last) rs → map (renewed_at at phase last) rs ≡ map (renewed_record n p now) rs
stepped-record n at p now phase last [] r a h = refl
stepped-record n at p now phase last (x ∷ xs) r a (h, hs) = on (stepped-record n at p now phase last xs (rest-rising record_number x xs r)) (x.place == at) refl
  where
    apart : x.state.number ≡ n → Apart record_number n xs
    apart k = subst (λ m. Apart record_number m xs) k (head-apart record_number x xs r)

    on : (list_any (is_placed n at) xs ≡ true → AllByRecursion (IsStepped n at p now phase last) xs → map (renewed_at at phase last) xs ≡ map (renewed_record n p now) xs)
        → (b : Bool) → (x.place == at) ≡ b → map (renewed_at at phase last) (x ∷ xs) ≡ map (renewed_record n p now) (x ∷ xs)
    on more true t =
        let (k, e) = h (same_number at x.place t) in
        let y : (x.state.number == n) ≡ true = ap (λ m. m == n) k ∙ same_self n in
        rw (t, y) (λ i. placed_at x.place (e i) ∷ (stepped-apart n at p now phase last xs (apart k) hs ∙ sym (renew-apart n p now xs (apart k))) i)
    on more false t = by (x.state.number == n) refl
      where
        a' : (c : Bool) → (x.state.number == n) ≡ c → list_any (is_placed n at) xs ≡ true
        a' true y = (rw (y, t) at a)
        a' false y = (rw y at a)

        by : (c : Bool) → (x.state.number == n) ≡ c → map (renewed_at at phase last) (x ∷ xs) ≡ map (renewed_record n p now) (x ∷ xs)
        by true y =
            let z : false ≡ true = sym (none-placed n at xs (apart (same_number n x.state.number y))) ∙ a' true y in
            absurd (cc z)
        by false y = rw (t, y) (ap (λ ys. x ∷ ys) (more (a' false y) hs))

-- ---- a handshake is counted once

done_more : (a b : Bool) → (b ≡ true → a ≡ false) → ◌≡◌ {A = ℕ} (cond (a || b) 1 0) (cond a 1 0 + cond b 1 0)
done_more true true h = let z = h refl in absurd (cc z)
done_more true false h = refl
done_more false true h = refl
done_more false false h = refl

pub counts-done : (s : State) (p : PacketView) → CountsDone s p
counts-done s p =
    let forward = goes_forward p s in
    ap (λ (b : Bool). cond b 1 0) (done-after s.phase forward p.flags)
    ∙ done_more (is_done s.phase) (completes s.phase forward p.flags) (done-once s.phase forward p.flags)

-- ---- what is reported of the node

pub told-connections : (conf : Conf) (o : Option NodeScope) (a : Addr) (xs : List State) (ts : List NodeTally) → AllByRecursion (IsCounted conf xs) ts
    → ((sc : NodeScope) → o ≡ Some sc → list_any (is_tally sc a) ts ≡ true) → connections_at o a ts ≡ connections_in conf a xs o
told-connections conf None a xs ts h has = refl
told-connections conf (Some sc) a xs ts h has = go (find (is_tally sc a) ts) refl
  where
    go : (o : Option NodeTally) → find (is_tally sc a) ts ≡ o → connections_at (Some sc) a ts ≡ node_connections conf sc a xs
    go None f =
        let z : false ≡ true = ap is_some (sym f) ∙ any-found (is_tally sc a) ts ∙ has sc refl in
        absurd (cc z)
    go (Some t) f =
        let c = found-all (IsCounted conf xs) (is_tally sc a) t ts h f in
        let i = found-passes (is_tally sc a) t ts f in
        let p = scope_is sc a t i in
        let q = source_is sc a t i in
        ap (λ (o : Option NodeTally). unwrap_or (option_map (λ (t : NodeTally). t.connections) o) 0) f ∙ ap (λ (u : NodeTally). u.connections) c ∙ (λ j. node_connections conf (p j) (q j) xs)

pub told-score : (o : Option NodeScope) (a : Addr) (ts : List NodeTally) → score_at o a ts ≡ score_in a (nodes_of ts) o
told-score None a ts = refl
told-score (Some sc) a ts =
    ap (λ (o : Option Score). unwrap_or o zero_score)
    (parts (find (is_tally sc a) ts) ∙ ap (option_map (λ (n : Node). n.score)) (sym (find-part (λ (t : NodeTally). t.node) (is_node sc a) ts)))
  where
    parts : (o : Option NodeTally) → option_map (λ (t : NodeTally). t.node.score) o ≡ option_map (λ (n : Node). n.score) (option_map (λ (t : NodeTally). t.node) o)
    parts None = refl
    parts (Some t) = refl
