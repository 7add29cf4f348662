-- Every index and count stays tied to the records: when a state leaves, when one comes, and when a packet of one comes.
use Rattle.std.proofs.Common.{◌≡◌, ◌∙◌, ◌+◌, ◌-◌, ◌<◌, ◌==◌, ◌&&◌, ℕ, Bool, true, false, cond, Option, Some, None, List, [], ◌∷◌, ◌++◌, length, map, filter, option_map, slice_index, slice_set, length-set, replicate, unwrap_or, zero, suc, refl, ap, sym, subst, arith}
use Rattle.std.specs.BTreeSet as tree
use Rattle.std.specs.HashMap as hash
use Rattle.std.specs.HashMap.{HashMap}
use Rattle.std.specs.List.{find, list_any, AllByRecursion, IsDistinct}
use Rattle.pfs_addr_values.proofs.SameLaws.{same_key_true}
use Rattle.pfs_addr_values.specs.Packets.{PacketView}
use Rattle.pfs_addr_values.specs.Sameness.{same_addr, same_key}
use Rattle.pfs_addr_values.specs.Addresses.{IsAddr}
use Rattle.pfs_addr_values.specs.declared.addresses.Addr.{Addr}
use Rattle.pfs_addr_values.specs.declared.packets.Dir.{Dir}
use Rattle.pfs_addr_values.specs.declared.packets.FlowKey.{FlowKey}
use Rattle.pfs_conf_values.specs.Configs.{Conf, options_of}
use Rattle.pfs_conf_values.specs.declared.profiles.Profile.{Profile}
use Rattle.pfs_conf_values.specs.declared.profiles.Profile.TheVariants as profile
use Rattle.pfs_track.specs.StatePhases.{is_done}
use Rattle.pfs_store_contract.specs.Admission.{new_node}
use Rattle.pfs_store_contract.specs.Counts.{node_scope_of, rule_states}
use Rattle.pfs_store_contract.specs.Calls.{other_than}
use Rattle.pfs_store_contract.specs.Plain.{AreCounts}
use Rattle.pfs_store_contract.specs.Purging.{state_numbers}
use Rattle.pfs_store_contract.specs.Worlds.{inner_key}
use Rattle.pfs_store_contract.specs.Touching.{completes_at, numbered_state_after, state_after_packet}
use Rattle.pfs_store_contract.specs.declared.records.NodeScope.{NodeScope}
use Rattle.pfs_store_contract.specs.declared.records.State.{State}
use Rattle.pfs_store_records.specs.Records.{IsRising, Placed, leaves_number, placed_at, states_of}
use Rattle.pfs_store_records.specs.Tallies.{is_tally}
use Rattle.pfs_store_records.specs.declared.nodes.NodeTally.{NodeTally}
use Rattle.pfs_store_index.specs.declared.indexes.IndexEntry.{IndexEntry}
use Rattle.pfs_store_index.specs.declared.flush_index.FlushIndex.{FlushIndex}
use Rattle.pfs_store_index.specs.Filed.{HasFiled, LosesFiled, SameFiled, filed_under, is_pair, ordered_source, pair_cmp, pairs_on}
use Rattle.pfs_store_index.specs.IndexInvariants.{HasRule, IsCounted, IsTied, entry_of, has_key, has_apart, has_inside, inner_in, is_inner, key_in, left_at}
use Rattle.pfs_store_records.specs.Changes.{HasTally, IsScope, IsScored, IsScoped, at_node, tallies_with_state, left_of, met_by}
use Rattle.pfs_store_index.proofs.Comings.{any-more, counted-came, distinct-came, entry-came, noded-came, none-alike, pair-came, rule-came, ruled-came, scoped-came, scored-came, stateless-counted}
use Rattle.pfs_store_index.proofs.Leavings.{counted-left, entry-left, noded-left, pair-left, record_number, rule-left, ruled-set, scored-left, state_number}
use Rattle.pfs_store_records.proofs.TallyLaws.{left-faithful, met-faithful}
use Rattle.pfs_store_index.proofs.Meetings.{CountsDone, all-blind, all-met, any-blind, blind, count-blind, entry-renewed, keys-renewed, noded-met, renewed_record, scored-met, states-renewed}
use Rattle.pfs_store_records.proofs.OneNode.{scoped-at}
use Rattle.pfs_store_index.proofs.Removals.{all-filter, all-found, distinct-filter}
use Rattle.pfs_store_records.proofs.Searches.{all-push, all-weaker, map-push, part-found}
use Rattle.pfs_store_index.proofs.SourcePairs.{pair_test}
use Rattle.pfs_store_index.proofs.Stands.{rising-records, states-left}
use Rattle.pfs_store_records.proofs.Rising.{has_number}

-- a packet leaves what a state is filed under
filed-blind : (q : Profile) (d : Dir) (p : PacketView) (now : ℕ) (s : State) → filed_under q d (state_after_packet p now s) ≡ filed_under q d s
filed-blind profile.Own d p now s = refl
filed-blind profile.OpenBsd74 d p now s = refl

-- a record whose inner key lies aside has it
pub apart-tells : (k : FlowKey) (x : Placed) → has_apart k x ≡ true → inner_in x ≡ k
apart-tells k x h = go x.state.inner h
  where
    go : (o : Option FlowKey) → is_inner k o ≡ true → unwrap_or o x.state.key ≡ k
    go None e = absurd (cc e)
    go (Some i) e = same_key_true i k e

-- where no record has the inner key of this one, none lies aside with a key that it has
apart-inside : (k : FlowKey) (x : Placed) → has_inside k x ≡ false → has_apart k x ≡ false
apart-inside k x e = go x.state.inner e
  where
    go : (o : Option FlowKey) → same_key (unwrap_or o x.state.key) k ≡ false → is_inner k o ≡ false
    go None d = refl
    go (Some i) d = d

none-inside : (k : FlowKey) (xs : List Placed) → find (has_inside k) xs ≡ None → find (has_apart k) xs ≡ None
none-inside k [] g = refl
none-inside k (x ∷ xs) g = go (none-inside k xs) (has_inside k x) refl
  where
    go : (find (has_inside k) xs ≡ None → find (has_apart k) xs ≡ None) → (b : Bool) → has_inside k x ≡ b → find (has_apart k) (x ∷ xs) ≡ None
    go more true t = let g' : Some x ≡ None = (rw t at g) in absurd (cc g')
    go more false t = rw (apart-inside k x t) (more (rw t at g))

none-apart : (k : FlowKey) (s : Placed) (rs : List Placed) → find (has_inside (inner_in s)) rs ≡ None → has_apart k s ≡ true → find (has_apart k) rs ≡ None
none-apart k s rs f h = none-inside k rs (ap (λ j. find (has_inside j) rs) (sym (apart-tells k s h)) ∙ f)

module _ {S : Type 0} (conf : Conf) (rs : List Placed) (keys insides : HashMap FlowKey IndexEntry S) (counts : List ℕ) (ts : List NodeTally) (filing : FlushIndex) where
  -- the rule of a state that is held has a count
  pub rule-within : (s : State) → IsTied conf rs keys insides counts ts filing → find (has_number state_number s.number) (states_of rs) ≡ Some s → s.rule.0 < length counts
  rule-within s i f = all-found state_number (HasRule (length counts)) s.number s (states_of rs) i.ruled f

  pub tied-left : (keys' insides' : HashMap FlowKey IndexEntry S) (filing' : FlushIndex) (s : State) (now v : ℕ) → ((d : Dir) → IsAddr (filed_under conf.profile d s)) → IsTied conf rs keys insides counts ts filing → IsRising (state_numbers (states_of rs))
      → find (has_number state_number s.number) (states_of rs) ≡ Some s → v ≡ slice_index counts s.rule.0
      → ((k : FlowKey) → hash.get same_key keys' k ≡ cond (same_key s.key k) None (hash.get same_key keys k))
      → ((k : FlowKey) → hash.get same_key insides' k ≡ cond (is_inner k s.inner) None (hash.get same_key insides k))
      → LosesFiled conf.profile s filing filing'
      → IsTied conf (filter (leaves_number s.number) rs) keys' insides' (slice_set counts s.rule.0 (v - 1)) (map (left_at conf s now) ts) filing'
  tied-left keys' insides' filing' s now v u i r f e hk hi hp =
      let xs = states_of rs in
      let p = part-found (λ (q : Placed). q.state) (has_number state_number s.number) s rs f in
      let own : find (has_number record_number p.whole.state.number) rs ≡ Some p.whole = ap (λ (z : State). find (has_number record_number z.number) rs) p.same ∙ p.found in
      let at : states_of (filter (leaves_number s.number) rs) ≡ filter (other_than s.number) (states_of rs) = states-left s.number rs in
      let w = rule-within s i f in
      record {
        by_key = λ k.
            subst (λ (z : State). hash.get same_key keys' k ≡ option_map entry_of (find (has_key k) (filter (leaves_number z.number) rs))) p.same
            (entry-left (has_key k) key_in k (λ x. same_key_true x.state.key k) p.whole rs _ _ (rising-records rs r) i.distinct own (i.by_key k)
            (hk k ∙ ap (λ (z : State). cond (same_key z.key k) None (hash.get same_key keys k)) (sym p.same)));
        by_inner = λ k.
            subst (λ (z : State). hash.get same_key insides' k ≡ option_map entry_of (find (has_apart k) (filter (leaves_number z.number) rs))) p.same
            (entry-left (has_apart k) inner_in k (apart-tells k) p.whole rs _ _ (rising-records rs r) i.distinct_inside own (i.by_inner k)
            (hi k ∙ ap (λ (z : State). cond (is_inner k z.inner) None (hash.get same_key insides k)) (sym p.same)));
        distinct = distinct-filter record_number key_in (leaves_number s.number) rs i.distinct;
        distinct_inside = distinct-filter record_number inner_in (leaves_number s.number) rs i.distinct_inside;
        by_rule = subst (AreCounts (slice_set counts s.rule.0 (v - 1))) (sym at) (rule-left s xs counts v r f w e i.by_rule);
        size = length-set counts s.rule.0 (v - 1) ∙ i.size;
        ruled = subst (AllByRecursion (HasRule (length (slice_set counts s.rule.0 (v - 1))))) (sym at)
            (ruled-set counts s.rule.0 (v - 1) (filter (other_than s.number) xs) (all-filter (other_than s.number) (HasRule (length counts)) xs i.ruled));
        counted = subst (λ ys. AllByRecursion (IsCounted conf ys) (map (left_at conf s now) ts)) (sym at) (counted-left conf s now xs ts r f i.scoped i.counted);
        scoped = scoped-at conf (node_scope_of conf s.rule.0) s.source (left_of conf s now) (left-faithful conf s now) ts i.scoped;
        scored = scored-left conf s now ts i.scored;
        noded = subst (AllByRecursion (HasTally conf (map (left_at conf s now) ts))) (sym at)
            (noded-left conf s now ts (filter (other_than s.number) xs) (all-filter (other_than s.number) (HasTally conf ts) xs i.noded));
        paired = λ d a n at'.
            pair-left (filed_under conf.profile d) s xs a n _ _ r f (i.paired d a n at')
            (hp d (ordered_source a, n) ∙ ap (λ b. cond b false (tree.contains pair_cmp (pairs_on conf.profile d filing) (ordered_source a, n))) (pair_test (filed_under conf.profile d) s a n (u d) at'))
            ∙ ap (list_any (is_pair (filed_under conf.profile d) a n)) (sym at);
      }

  pub tied-came : (keys' insides' : HashMap FlowKey IndexEntry S) (filing' : FlushIndex) (s : State) (place v : ℕ) (o : Option NodeScope) → ((d : Dir) → IsAddr (filed_under conf.profile d s)) → IsTied conf rs keys insides counts ts filing
      → find (has_key s.key) rs ≡ None → find (has_inside (inner_key s)) rs ≡ None → s.rule.0 < length counts → v ≡ slice_index counts s.rule.0 → is_done s.phase ≡ false → node_scope_of conf s.rule.0 ≡ o
      → ((k : FlowKey) → hash.get same_key keys' k ≡ cond (same_key s.key k) (Some (entry_of (placed_at place s))) (hash.get same_key keys k))
      → ((k : FlowKey) → hash.get same_key insides' k ≡ cond (is_inner k s.inner) (Some (entry_of (placed_at place s))) (hash.get same_key insides k))
      → HasFiled conf.profile s filing filing'
      → IsTied conf (rs ++ placed_at place s ∷ []) keys' insides' (slice_set counts s.rule.0 (v + 1)) (tallies_with_state o s ts) filing'
  tied-came keys' insides' filing' s place v o u i f fi w e d so hk hi hp =
      let xs = states_of rs in
      let at : states_of (rs ++ placed_at place s ∷ []) ≡ states_of rs ++ s ∷ [] = map-push (λ (p : Placed). p.state) (placed_at place s) rs in
      record {
        by_key = λ k. entry-came (has_key k) (placed_at place s) rs _ _ (none-alike key_in k (placed_at place s) rs f) (i.by_key k) (hk k);
        by_inner = λ k. entry-came (has_apart k) (placed_at place s) rs _ _ (none-apart k (placed_at place s) rs fi) (i.by_inner k) (hi k);
        distinct = distinct-came key_in (placed_at place s) rs f i.distinct;
        distinct_inside = distinct-came inner_in (placed_at place s) rs fi i.distinct_inside;
        by_rule = subst (AreCounts (slice_set counts s.rule.0 (v + 1))) (sym at) (rule-came s xs counts v w e i.by_rule);
        size = length-set counts s.rule.0 (v + 1) ∙ i.size;
        ruled = subst (AllByRecursion (HasRule (length (slice_set counts s.rule.0 (v + 1))))) (sym at) (ruled-came counts s.rule.0 (v + 1) s xs w i.ruled);
        counted = subst (λ ys. AllByRecursion (IsCounted conf ys) (tallies_with_state o s ts)) (sym at) (counted-came conf o s xs ts so d i.scoped i.counted i.noded);
        scoped = scoped-came conf o s ts so i.scoped;
        scored = scored-came o s ts i.scored;
        noded = subst (AllByRecursion (HasTally conf (tallies_with_state o s ts))) (sym at) (noded-came conf o s xs ts so i.noded);
        paired = λ d a n at'.
            pair-came (filed_under conf.profile d) s xs a n _ _ (i.paired d a n at')
            (hp d (ordered_source a, n) ∙ ap (λ b. cond b true (tree.contains pair_cmp (pairs_on conf.profile d filing) (ordered_source a, n))) (pair_test (filed_under conf.profile d) s a n (u d) at'))
            ∙ ap (list_any (is_pair (filed_under conf.profile d) a n)) (sym at);
      }

  pub tied-met : (n : ℕ) (p : PacketView) (now : ℕ) (s : State) → IsTied conf rs keys insides counts ts filing → IsRising (state_numbers (states_of rs))
      → find (has_number state_number n) (states_of rs) ≡ Some s → CountsDone s p
      → IsTied conf (map (renewed_record n p now) rs) keys insides counts
      (map (at_node (node_scope_of conf s.rule.0) s.source (met_by (options_of conf s.rule.0).max_src_conn_rate now (completes_at p s))) ts) filing
  tied-met n p now s i r f d =
      let xs = states_of rs in
      let rate = (options_of conf s.rule.0).max_src_conn_rate in
      let sc = node_scope_of conf s.rule.0 in
      let at : states_of (map (renewed_record n p now) rs) ≡ map (numbered_state_after n p now) (states_of rs) = states-renewed n p now rs in
      record {
        by_key = λ k. i.by_key k ∙ sym (entry-renewed n p now (has_key k) (λ x. refl) rs);
        by_inner = λ k. i.by_inner k ∙ sym (entry-renewed n p now (has_apart k) (λ x. refl) rs);
        distinct = subst (IsDistinct same_key) (sym (keys-renewed (λ (x : State). x.key) n p now (λ x. refl) rs)) i.distinct;
        distinct_inside = subst (IsDistinct same_key) (sym (keys-renewed inner_key n p now (λ x. refl) rs)) i.distinct_inside;
        by_rule = λ rule l. i.by_rule rule l ∙ sym (count-blind n p now (λ (x : State). x.rule.0 == rule) xs (blind n p now (λ (x : State). x.rule.0 == rule) (λ y. refl))) ∙ ap (rule_states rule) (sym at);
        size = i.size;
        ruled = subst (AllByRecursion (HasRule (length counts))) (sym at) (all-blind n p now (HasRule (length counts)) xs (λ x k. k) i.ruled);
        counted = subst (λ ys. AllByRecursion (IsCounted conf ys) (map (at_node (node_scope_of conf s.rule.0) s.source (met_by (options_of conf s.rule.0).max_src_conn_rate now (completes_at p s))) ts)) (sym at)
            (all-met conf n p now rate s xs ts r f d i.scoped i.counted);
        scoped = scoped-at conf sc s.source (met_by rate now (completes_at p s)) (met-faithful rate now (completes_at p s)) ts i.scoped;
        scored = scored-met sc s.source rate now (completes_at p s) ts i.scored;
        noded = subst (AllByRecursion (HasTally conf (map (at_node (node_scope_of conf s.rule.0) s.source (met_by (options_of conf s.rule.0).max_src_conn_rate now (completes_at p s))) ts))) (sym at)
            (noded-met conf n p now sc s.source rate (completes_at p s) xs ts i.noded);
        paired = λ d a m u.
            (let under = filed_under conf.profile d in
            i.paired d a m u ∙ sym (any-blind n p now (is_pair under a m) xs (blind n p now (is_pair under a m) (λ y j. same_addr (filed-blind conf.profile d p now y j) a && (y.number == m))))
            ∙ ap (list_any (is_pair under a m)) (sym at));
      }

  -- a node comes without a state
  pub tied-left_node : (t : NodeTally) (number : ℕ) (sc : NodeScope) (a : Addr) (now : ℕ) → t ≡ record { node = new_node number sc a now; states = 0; connections = 0 } → IsScope conf sc
      → list_any (is_tally sc a) ts ≡ false → IsTied conf rs keys insides counts ts filing → IsTied conf rs keys insides counts (ts ++ t ∷ []) filing
  tied-left_node t number sc a now e k f i = rw e (record {
    by_key = i.by_key;
    by_inner = i.by_inner;
    distinct = i.distinct;
    distinct_inside = i.distinct_inside;
    by_rule = i.by_rule;
    size = i.size;
    ruled = i.ruled;
    counted = all-push (IsCounted conf (states_of rs)) (record { node = new_node number sc a now; states = 0; connections = 0 }) ts i.counted (stateless-counted conf number sc a now (states_of rs) ts k f i.noded);
    scoped = all-push (IsScoped conf) (record { node = new_node number sc a now; states = 0; connections = 0 }) ts i.scoped k;
    scored = all-push IsScored (record { node = new_node number sc a now; states = 0; connections = 0 }) ts i.scored (omega arith);
    noded = all-weaker (HasTally conf ts) (HasTally conf (ts ++ record { node = new_node number sc a now; states = 0; connections = 0 } ∷ []))
        (λ x h s' g. any-more (is_tally s' x.source) (record { node = new_node number sc a now; states = 0; connections = 0 }) ts (h s' g)) (states_of rs) i.noded;
    paired = i.paired;
  })

  -- the same where the indexes find the same
  pub tied-same : (keys' insides' : HashMap FlowKey IndexEntry S) (filing' : FlushIndex) → IsTied conf rs keys insides counts ts filing
      → ((k : FlowKey) → hash.get same_key keys' k ≡ hash.get same_key keys k) → ((k : FlowKey) → hash.get same_key insides' k ≡ hash.get same_key insides k) → SameFiled conf.profile filing filing' → IsTied conf rs keys' insides' counts ts filing'
  tied-same keys' insides' filing' i hk hi hp = record {
    by_key = λ k. hk k ∙ i.by_key k;
    by_inner = λ k. hi k ∙ i.by_inner k;
    distinct = i.distinct;
    distinct_inside = i.distinct_inside;
    by_rule = i.by_rule;
    size = i.size;
    ruled = i.ruled;
    counted = i.counted;
    scoped = i.scoped;
    scored = i.scored;
    noded = i.noded;
    paired = λ d a n u. hp d (ordered_source a, n) ∙ i.paired d a n u;
  }

-- ---- nothing is held

pub distinct-none : IsDistinct same_key []
unfolding IsDistinct
distinct-none = tt

pub counts-none : (n : ℕ) (counts : List ℕ) → counts ≡ replicate n 0 → AreCounts counts []
counts-none n counts e rule w = ap (λ xs. slice_index xs rule) e ∙ zeros n rule
  where
    zeros : (m r : ℕ) → slice_index (replicate m 0) r ≡ 0
    zeros zero r = refl
    zeros (suc m) zero = refl
    zeros (suc m) (suc r) = zeros m r
