-- What a slice of plain lists leaves is what the definitions say.
use Rattle.std.proofs.Common.{◌≡◌, ◌∙◌, ◌<◌, ◌≤◌, ◌-◌, ◌&&◌, ◌⊎◌, inl, inr, not, if◌then◌else◌, ℕ, Bool, false, Option, None, is_some, List, length, filter, map, min, take, drop, refl, ap, sym, subst}
use Rattle.std.specs.Prelude.{slice_index}
use Rattle.std.specs.Option.{option_and_then}
use Rattle.std.proofs.lemmas.Bool.{cases_lt}
use Rattle.std.proofs.lemmas.List.{drop_min, length-take, take_min}
use Rattle.std.proofs.lemmas.List.Elements.{filter_agree}
use Rattle.std.proofs.lemmas.Option.{slice_get_past}
use Rattle.pfs_conf_values.specs.Configs.{Conf, given_timeout, options_in, rule_in, rule_timeout_of}
use Rattle.pfs_conf_values.specs.Profiles.{effective}
use Rattle.pfs_conf_values.specs.declared.actions.StateOptions.{StateOptions}
use Rattle.pfs_conf_values.specs.declared.items.Item.{Item}
use Rattle.pfs_conf_values.specs.declared.items.Rule.{Rule}
use Rattle.pfs_conf_values.specs.declared.profiles.Profile.{Profile}
use Rattle.pfs_conf_values.specs.declared.profiles.Profile.TheVariants as profile
use Rattle.pfs_conf_values.specs.declared.timeouts.TimeoutName.TheVariants.{AdaptiveStart, AdaptiveEnd}
use Rattle.pfs_track.specs.Lifetimes.{is_expired, lifetime_under, scaled_lifetime, value_for}
use Rattle.pfs_track.specs.StatePhases.{slot}
use Rattle.pfs_track.specs.declared.state_phases.StatePhase.{StatePhase}
use Rattle.pfs_store_contract.specs.Counts.{rule_states}
use Rattle.pfs_store_contract.specs.Leaving.{node_after_leaving}
use Rattle.pfs_store_contract.specs.Plain.{AreCounts}
use Rattle.pfs_store_contract.specs.Purging.{is_among, node_round, node_share, node_slice, node_stays, state_round, state_share, state_slice, stays}
use Rattle.pfs_store_contract.specs.Calls.{node_slice_of, state_slice_of}
use Rattle.pfs_store_contract.specs.Worlds.{World, lists}
use Rattle.pfs_store_contract.specs.declared.records.Node.{Node}
use Rattle.pfs_store_contract.specs.declared.records.Slice.{Slice}
use Rattle.pfs_store_contract.specs.declared.records.State.{State}

-- the options of an item, if it is a rule that keeps state
abbrev options_by : Option Item → Option StateOptions
options_by i = option_and_then (λ (r : Rule). options_in r.action) (option_and_then (λ (i : Item). rule_in i.what) i)

-- the lifetime does not depend on the states of a rule that has no adaptive pair
pub lifetime-unread : (conf : Conf) (rule : ℕ) (phase : StatePhase) (a b all : ℕ) → is_some (rule_timeout_of conf rule AdaptiveStart) ≡ false
    → scaled_lifetime conf rule phase a all ≡ scaled_lifetime conf rule phase b all
lifetime-unread conf rule phase a b all none =
    let under : ℕ → ℕ = lifetime_under (value_for conf rule (slot phase)) (value_for conf rule AdaptiveStart) (value_for conf rule AdaptiveEnd) in
    ap (λ (own : Bool). under (if own then a else all)) none ∙ sym (ap (λ (own : Bool). under (if own then b else all)) none)

-- what is not given has no effect
ungiven : (p : Profile) → is_some (effective p None) ≡ false
ungiven profile.Own = refl
ungiven profile.OpenBsd74 = refl

-- nor on those of a rule that there is not
lifetime-past : (conf : Conf) (rule : ℕ) (phase : StatePhase) (a b all : ℕ) → length conf.items ≤ rule
    → scaled_lifetime conf rule phase a all ≡ scaled_lifetime conf rule phase b all
lifetime-past conf rule phase a b all past =
    lifetime-unread conf rule phase a b all
    (subst (λ (i : Option Item). is_some (effective conf.profile (given_timeout AdaptiveStart (options_by i))) ≡ false) (sym (slice_get_past conf.items rule past)) (ungiven conf.profile))

-- the lifetime under the counts of the rules is the lifetime under the counts of the states
lifetime-counts : (conf : Conf) (counts : List ℕ) (states : List State) (all : ℕ) → length counts ≡ length conf.items → AreCounts counts states
    → (rule : ℕ) (phase : StatePhase)
    → scaled_lifetime conf rule phase (slice_index counts rule) all ≡ scaled_lifetime conf rule phase (rule_states rule states) all
lifetime-counts conf counts states all size right rule phase = by (cases_lt rule (length counts))
  where
    by : ((rule < length counts) ⊎ (length counts ≤ rule))
        → scaled_lifetime conf rule phase (slice_index counts rule) all ≡ scaled_lifetime conf rule phase (rule_states rule states) all
    by (inl within) = ap (λ n. scaled_lifetime conf rule phase n all) (right rule within)
    by (inr past) = lifetime-past conf rule phase _ _ all (subst (λ n. n ≤ rule) size past)

-- the test that a slice makes
abbrev pub stays_by : Conf → List ℕ → ℕ → ℕ → List ℕ → State → Bool
stays_by conf counts held now examined s =
    not (is_among examined s.number && is_expired (scaled_lifetime conf s.rule.0 s.phase (slice_index counts s.rule.0) held) s.last now)

staying : (conf : Conf) (counts : List ℕ) (states : List State) (now : ℕ) (examined : List ℕ) → length counts ≡ length conf.items
    → AreCounts counts states → (s : State) → stays_by conf counts (length states) now examined s ≡ stays conf states now examined s
staying conf counts states now examined size right s =
    ap (λ lifetime. not (is_among examined s.number && is_expired lifetime s.last now)) (lifetime-counts conf counts states (length states) size right s.rule.0 s.phase)

-- the parts of a slice of the states make the slice
pub state_slice-parts : (conf : Conf) (counts : List ℕ) (w : World) (now : ℕ) (states' : List State) (nodes' : List Node) (pending' r : List ℕ) (e : ℕ)
    → length counts ≡ length conf.items → AreCounts counts w.states
    → r ≡ state_round w → e ≡ min (state_share conf) (length r)
    → states' ≡ filter (stays_by conf counts (length w.states) now (take e r)) w.states
    → nodes' ≡ map (node_after_leaving conf w.states (filter (stays_by conf counts (length w.states) now (take e r)) w.states) now) w.nodes
    → pending' ≡ drop e r
    → lists states' nodes' pending' w.pending_nodes w.made ≡ state_slice conf w now
state_slice-parts conf counts w now states' nodes' pending' r e size right hr he hs hn hp =
    let same = filter_agree (stays_by conf counts (length w.states) now (take e r)) (stays conf w.states now (take e r)) (staying conf counts w.states now (take e r) size right) w.states in
    rw (hs, hn, hp, same, he, take_min, drop_min, hr)

-- and what it says of itself
pub state_slice-told : (conf : Conf) (w : World) (now held left e : ℕ) (states' : List State) (nodes' : List Node) (pending' r : List ℕ)
    → lists states' nodes' pending' w.pending_nodes w.made ≡ state_slice conf w now
    → r ≡ state_round w → e ≡ min (state_share conf) (length r) → held ≡ length w.states → left ≡ length states'
    → record { examined = e; removed = held - left } ≡ state_slice_of conf w now
state_slice-told conf w now held left e states' nodes' pending' r slice hr he hh hl =
    let examined : e ≡ length (take (state_share conf) (state_round w)) = he ∙ ap (λ xs. min (state_share conf) (length xs)) hr ∙ sym (length-take (state_share conf) (state_round w)) in
    let removed : held - left ≡ length w.states - length (state_slice conf w now).states = rw (hh, hl) (ap (λ (v : World). length w.states - length v.states) slice) in
    let told : ℕ → ℕ → Slice = λ m n. record { examined = m; removed = n } in
    ap (λ m. told m (held - left)) examined ∙ ap (told (length (take (state_share conf) (state_round w)))) removed

-- the same of the nodes
pub node_slice-parts : (conf : Conf) (w : World) (now : ℕ) (nodes' : List Node) (pending' r : List ℕ) (e : ℕ)
    → r ≡ node_round w → e ≡ min (node_share conf) (length r)
    → nodes' ≡ filter (node_stays conf w.states now (take e r)) w.nodes → pending' ≡ drop e r
    → lists w.states nodes' w.pending_states pending' w.made ≡ node_slice conf w now
node_slice-parts conf w now nodes' pending' r e hr he hn hp = rw (hn, hp, he, take_min, drop_min, hr)

pub node_slice-told : (conf : Conf) (w : World) (now held left e : ℕ) (nodes' : List Node) (pending' r : List ℕ)
    → lists w.states nodes' w.pending_states pending' w.made ≡ node_slice conf w now
    → r ≡ node_round w → e ≡ min (node_share conf) (length r) → held ≡ length w.nodes → left ≡ length nodes'
    → record { examined = e; removed = held - left } ≡ node_slice_of conf w now
node_slice-told conf w now held left e nodes' pending' r slice hr he hh hl =
    let examined : e ≡ length (take (node_share conf) (node_round w)) = he ∙ ap (λ xs. min (node_share conf) (length xs)) hr ∙ sym (length-take (node_share conf) (node_round w)) in
    let removed : held - left ≡ length w.nodes - length (node_slice conf w now).nodes = rw (hh, hl) (ap (λ (v : World). length w.nodes - length v.nodes) slice) in
    let told : ℕ → ℕ → Slice = λ m n. record { examined = m; removed = n } in
    ap (λ m. told m (held - left)) examined ∙ ap (told (length (take (node_share conf) (node_round w)))) removed
