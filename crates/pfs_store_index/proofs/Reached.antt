-- The record of a state that was found: where it is, that a packet leaves it there, and what is read there.
use Rattle.std.proofs.Common.{◌≡◌, ◌∙◌, ◌==◌, ◌&&◌, ◌||◌, ℕ, Bool, true, false, if◌then◌else◌, Option, Some, None, List, [], ◌∷◌, map, option_map, refl, ap, sym, subst, arith}
use Rattle.std.specs.List.{find, list_any}
use Rattle.std.proofs.lemmas.Bool.{and_from}
use Rattle.std.proofs.lemmas.Bool.Decides.{nat_tests}
use Rattle.pfs_addr_values.specs.Packets.{PacketView}
use Rattle.pfs_store_contract.specs.Purging.{state_numbers}
use Rattle.pfs_store_contract.specs.Touching.{state_after_packet}
use Rattle.pfs_store_contract.specs.declared.records.StateHandle.{StateHandle}
use Rattle.pfs_store_contract.specs.declared.records.State.{State}
use Rattle.pfs_store_records.specs.Records.{IsRecordAt, IsRising, Placed, is_placed, placed_at, stands_at, states_of}
use Rattle.pfs_store_index.specs.declared.indexes.IndexEntry.{IndexEntry}
use Rattle.pfs_store_index.specs.Holdings.{is_reached}
use Rattle.pfs_store_index.specs.IndexInvariants.{entry_of}
use Rattle.pfs_store_index.proofs.Leavings.{record_number, state_number}
use Rattle.pfs_store_index.proofs.Meetings.{renewed_record}
use Rattle.pfs_store_index.proofs.Stands.{rising-records}
use Rattle.pfs_store_records.proofs.Rising.{Apart, IsRisingBy, has_number, head-apart, rest-rising, same_number}
use Rattle.pfs_store_records.proofs.Searches.{any-also, any-map, find-part, found-all}

-- the record of a number is at this place
pub record IsNumberAt (n at : ℕ) (rs : List Placed) : Type 0 where
  pub record_of : Placed
  pub found : find (has_number record_number n) rs ≡ Some record_of
  pub place : record_of.place ≡ at

same_self : (n : ℕ) → (n == n) ≡ true
same_self n = grind (arith, nat_tests)

-- ---- from an index by key

pub entry-reached : (test : Placed → Bool) (e : IndexEntry) (rs : List Placed) → Some e ≡ option_map entry_of (find test rs) → list_any (is_placed e.number e.place) rs ≡ true
entry-reached test e rs h = go (find test rs) refl
  where
    go : (o : Option Placed) → find test rs ≡ o → list_any (is_placed e.number e.place) rs ≡ true
    go None f = let z : Some e ≡ None = h ∙ ap (option_map entry_of) f in absurd (cc z)
    go (Some p) f =
        let z : Some e ≡ Some (entry_of p) = h ∙ ap (option_map entry_of) f in
        let q : e ≡ entry_of p = cc in
        any-also test (is_placed e.number e.place) p rs f
        (and_from (p.state.number == e.number) (p.place == e.place)
        (ap (λ (x : IndexEntry). p.state.number == x.number) q ∙ same_self p.state.number) (ap (λ (x : IndexEntry). p.place == x.place) q ∙ same_self p.place))

-- ---- to the record

pub none-placed : (n at : ℕ) (rs : List Placed) → Apart record_number n rs → list_any (is_placed n at) rs ≡ false
none-placed n at [] h = refl
none-placed n at (x ∷ xs) (h, hs) = rw h (none-placed n at xs hs)

pub at-place : (n at : ℕ) (rs : List Placed) → IsRisingBy record_number rs → list_any (is_placed n at) rs ≡ true → IsNumberAt n at rs
at-place n at [] r a = absurd cc
at-place n at (x ∷ xs) r a = on (at-place n at xs (rest-rising record_number x xs r)) (x.state.number == n) refl
  where
    here : (c : Bool) → (x.place == at) ≡ c → (x.state.number == n) ≡ true → IsNumberAt n at (x ∷ xs)
    here true p t = record { record_of = x; found = rw t refl; place = same_number at x.place p }
    here false p t =
        let apart : Apart record_number n xs = subst (λ m. Apart record_number m xs) (same_number n x.state.number t) (head-apart record_number x xs r) in
        let a' = (rw t at a) in
        let a'' : list_any (is_placed n at) xs ≡ true = (rw p at a') in
        let z : false ≡ true = sym (none-placed n at xs apart) ∙ a'' in
        absurd (cc z)

    on : (list_any (is_placed n at) xs ≡ true → IsNumberAt n at xs) → (b : Bool) → (x.state.number == n) ≡ b → IsNumberAt n at (x ∷ xs)
    on more true t = here (x.place == at) refl t
    on more false t =
        let i = more (rw t at a) in
        record { record_of = i.record_of; found = rw t i.found; place = i.place }

-- the state at its place is that of its number
pub state-at : (f : StateHandle) (s : State) (rs : List Placed) → IsRising (state_numbers (states_of rs)) → is_reached rs f ≡ true → IsRecordAt f.place s rs
    → find (has_number state_number f.number.0) (states_of rs) ≡ Some s
state-at f s rs r a at =
    let i = at-place f.number.0 f.place rs (rising-records rs r) a in
    let q : i.record_of.state ≡ s = found-all (λ (p : Placed). p.place ≡ f.place → p.state ≡ s) (has_number record_number f.number.0) i.record_of rs at i.found i.place in
    find-part (λ (p : Placed). p.state) (has_number state_number f.number.0) rs ∙ ap (option_map (λ (p : Placed). p.state)) i.found ∙ ap Some q

-- there is a record at its place
placed-stands : (n at : ℕ) (rs : List Placed) → list_any (is_placed n at) rs ≡ true → list_any (stands_at at) rs ≡ true
placed-stands n at [] a = absurd cc
placed-stands n at (x ∷ xs) a = on (placed-stands n at xs) (x.place == at) refl
  where
    or_false : (b c : Bool) → ((b && false) || c) ≡ c
    or_false true c = refl
    or_false false c = refl

    on : (list_any (is_placed n at) xs ≡ true → list_any (stands_at at) xs ≡ true) → (b : Bool) → (x.place == at) ≡ b → list_any (stands_at at) (x ∷ xs) ≡ true
    on more true t = rw t refl
    on more false t =
        let a' = (rw t at a) in
        rw t (more (sym (or_false (x.state.number == n) (list_any (is_placed n at) xs)) ∙ a'))

pub reached-stands : (f : StateHandle) (rs : List Placed) → is_reached rs f ≡ true → list_any (stands_at f.place) rs ≡ true
reached-stands f rs a = placed-stands f.number.0 f.place rs a

-- ---- a packet leaves it there

pub reached-renewed : (n : ℕ) (p : PacketView) (now : ℕ) (f : StateHandle) (rs : List Placed) → is_reached rs f ≡ true → is_reached (map (renewed_record n p now) rs) f ≡ true
reached-renewed n p now f rs a = any-map (is_placed f.number.0 f.place) (renewed_record n p now) same rs ∙ a
  where
    same : (r : Placed) → is_placed f.number.0 f.place (renewed_record n p now r) ≡ is_placed f.number.0 f.place r
    same r = go (r.state.number == n)
      where
        go : (b : Bool) → is_placed f.number.0 f.place (placed_at r.place (if b then state_after_packet p now r.state else r.state)) ≡ is_placed f.number.0 f.place r
        go true = refl
        go false = refl
