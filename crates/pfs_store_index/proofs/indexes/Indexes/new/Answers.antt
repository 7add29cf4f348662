-- Answer of Indexes::new: with nothing held, each index and each count is that of the records.
use Rattle.std.proofs.Common.{◌∙◌, ap, map, option_map, rules, subst, sym}
use Rattle.std.specs.List.{IsDistinct, find, list_any}
use Rattle.std.specs.Map.{lookup}
use Rattle.pfs_addr_values.specs.Sameness.{same_key}
use Rattle.pfs_store_contract.specs.Plain.{AreCounts}
use Rattle.pfs_store_records.specs.Records.{states_of}
use Rattle.pfs_store_index.specs.Filed.{filed_under, is_pair}
use Rattle.pfs_store_index.specs.IndexInvariants.{entry_of, has_apart, has_key, inner_in, key_in}
use Rattle.pfs_store_index.proofs.Tying.{counts-none, distinct-none}
use Rattle.pfs_store_index.proofs.indexes.Indexes.new.Goals as goal

pub invariant_of-result : goal.invariant_of-result
invariant_of-result g c =
    record {
      by_key = λ key. ap (lookup (same_key key)) c.with_hasher.ensures.empty ∙ ap (λ rs. option_map entry_of (find (has_key key) rs)) (sym c.new.ensures);
      by_inner = λ key. ap (lookup (same_key key)) c.with_hasher-2.ensures.empty ∙ ap (λ rs. option_map entry_of (find (has_apart key) rs)) (sym c.new.ensures);
      distinct = subst (λ rs. IsDistinct same_key (map key_in rs)) (sym c.new.ensures) distinct-none;
      distinct_inside = subst (λ rs. IsDistinct same_key (map inner_in rs)) (sym c.new.ensures) distinct-none;
      by_rule = subst (λ rs. AreCounts c.in_ok-counts.counts.items (states_of rs)) (sym c.new.ensures) (counts-none _ _ (c.in_ok-counts.ensures.items_if_clones_equal (λ y h. h)));
      size = search rules;
      ruled = search rules;
      counted = search rules;
      scoped = search rules;
      scored = search rules;
      noded = search rules;
      paired = λ d a n u. c.new-3.ensures _ d _ ∙ ap (λ rs. list_any (is_pair (filed_under c.args.config.profile d) a n) (states_of rs)) (sym c.new.ensures);
    }
