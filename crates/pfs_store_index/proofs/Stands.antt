-- The records of states as the states themselves, by number and by key.
use Rattle.std.proofs.Common.{◌≡◌, ◌∙◌, ◌<◌, ◌≤◌, ◌==◌, ℕ, Bool, true, false, if◌then◌else◌, not, Option, Some, None, List, [], ◌∷◌, length, map, filter, option_map, refl, ap, sym, subst, ◌⊎◌, inl, inr, IsSome}
use Rattle.std.specs.List.{find}
use Rattle.std.specs.Option.{option_and_then}
use Rattle.std.proofs.lemmas.Bool.{cases_lt}
use Rattle.std.proofs.lemmas.Option.{slice_get_past}
use Rattle.pfs_conf_values.specs.Configs.{Conf, options_at, options_in, rule_in as rule_in_item}
use Rattle.pfs_conf_values.specs.declared.items.Item.{Item}
use Rattle.pfs_conf_values.specs.declared.items.Rule.{Rule}
use Rattle.pfs_store_contract.specs.Calls.{other_than, state_number, state_rule}
use Rattle.pfs_store_contract.specs.Purging.{state_numbers}
use Rattle.pfs_store_contract.specs.declared.records.State.{State}
use Rattle.pfs_store_records.specs.Records.{IsAbove, IsRising, Placed, leaves_number, states_of}
use Rattle.pfs_store_index.specs.declared.indexes.IndexEntry.{IndexEntry}
use Rattle.pfs_store_index.specs.IndexInvariants.{entry_of}
use Rattle.pfs_store_index.proofs.Leavings.{record_number}
use Rattle.pfs_store_records.proofs.Searches.{find-part}
use Rattle.pfs_store_records.proofs.Rising.{IsRisingBy}

pub numbers-records : (rs : List Placed) → map record_number rs ≡ state_numbers (states_of rs)
numbers-records [] = refl
numbers-records (r ∷ rs) = ap (λ ns. r.state.number ∷ ns) (numbers-records rs)

pub rising-records : (rs : List Placed) → IsRising (state_numbers (states_of rs)) → IsRisingBy record_number rs
rising-records rs h = subst IsRising (sym (numbers-records rs)) h

pub above-records : (n : ℕ) (rs : List Placed) → IsAbove n (state_numbers (states_of rs)) → IsAbove n (map record_number rs)
above-records n rs h = subst (IsAbove n) (sym (numbers-records rs)) h

pub none-found : (test : State → Bool) (rs : List Placed) → find test (states_of rs) ≡ None → find (λ (p : Placed). test p.state) rs ≡ None
none-found test rs f = go (find (λ (p : Placed). test p.state) rs) refl
  where
    go : (o : Option Placed) → find (λ (p : Placed). test p.state) rs ≡ o → find (λ (p : Placed). test p.state) rs ≡ None
    go None e = e
    go (Some p) e =
        let z : Some p.state ≡ None = sym (find-part (λ (p : Placed). p.state) test rs ∙ ap (option_map (λ (p : Placed). p.state)) e) ∙ f in
        absurd (cc z)

-- what an index by key gives for the state that passes a test
pub number-at : (test : State → Bool) (rs : List Placed) (g : Option IndexEntry) → g ≡ option_map entry_of (find (λ (p : Placed). test p.state) rs)
    → option_map (λ (e : IndexEntry). record { 0 = e.number }) g ≡ option_map state_number (find test (states_of rs))
number-at test rs g e = ap (option_map (λ (e : IndexEntry). record { 0 = e.number })) e ∙ go (find (λ (p : Placed). test p.state) rs) ∙ ap (option_map state_number) (sym (find-part (λ (p : Placed). p.state) test rs))
  where
    go : (o : Option Placed) → option_map (λ (e : IndexEntry). record { 0 = e.number }) (option_map entry_of o) ≡ option_map state_number (option_map (λ (p : Placed). p.state) o)
    go None = refl
    go (Some p) = refl

pub rule-at : (test : State → Bool) (rs : List Placed) (g : Option IndexEntry) → g ≡ option_map entry_of (find (λ (p : Placed). test p.state) rs)
    → option_map (λ (e : IndexEntry). e.rule) g ≡ option_map state_rule (find test (states_of rs))
rule-at test rs g e = ap (option_map (λ (e : IndexEntry). e.rule)) e ∙ go (find (λ (p : Placed). test p.state) rs) ∙ ap (option_map state_rule) (sym (find-part (λ (p : Placed). p.state) test rs))
  where
    go : (o : Option Placed) → option_map (λ (e : IndexEntry). e.rule) (option_map entry_of o) ≡ option_map state_rule (option_map (λ (p : Placed). p.state) o)
    go None = refl
    go (Some p) = refl

pub states-left : (n : ℕ) (rs : List Placed) → states_of (filter (leaves_number n) rs) ≡ filter (other_than n) (states_of rs)
states-left n [] = refl
states-left n (r ∷ rs) = go (r.state.number == n) (states-left n rs)
  where
    go : (b : Bool) → states_of (filter (leaves_number n) rs) ≡ filter (other_than n) (states_of rs)
        → states_of (if not b then r ∷ filter (leaves_number n) rs else filter (leaves_number n) rs) ≡ (if not b then r.state ∷ filter (other_than n) (states_of rs) else filter (other_than n) (states_of rs))
    go true e = e
    go false e = ap (λ xs. r.state ∷ xs) e

-- a rule that keeps state is one of the items
pub rule-known : (conf : Conf) (rule : ℕ) → IsSome (options_at conf rule) → rule < length conf.items
rule-known conf rule h = by (cases_lt rule (length conf.items))
  where
    by : ((rule < length conf.items) ⊎ (length conf.items ≤ rule)) → rule < length conf.items
    by (inl within) = within
    by (inr past) =
        let z : options_at conf rule ≡ None =
        ap (λ (i : Option Item). option_and_then (λ (r : Rule). options_in r.action) (option_and_then (λ (i : Item). rule_in_item i.what) i)) (slice_get_past conf.items rule past) in
        let e : false ≡ true = subst IsSome z h in absurd (cc e)
