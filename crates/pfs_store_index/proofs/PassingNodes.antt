-- A walk over nodes: of their tallies, and of the nodes.
use Rattle.std.proofs.Common.{◌≡◌, ◌∙◌, ◌==◌, ◌&&◌, ℕ, true, false, Option, None, Some, option_map, List, [], ◌∷◌, length, filter, nat_le, ap, sym}
use Rattle.std.specs.List.{AllByRecursion}
use Rattle.pfs_conf_values.specs.Configs.{Conf}
use Rattle.pfs_store_contract.specs.Purging.{is_over}
use Rattle.pfs_store_index.specs.QuietPurges.{NodeStays}
use Rattle.pfs_store_contract.specs.declared.records.Node.{Node}
use Rattle.pfs_store_contract.specs.declared.records.State.{State}
use Rattle.pfs_store_records.specs.RecordPlaces.{number_of_node}
use Rattle.pfs_store_records.specs.Records.{between}
use Rattle.pfs_store_records.specs.Retaining.{IsKeptUntil, is_past}
use Rattle.pfs_store_records.specs.Tallies.{has_node_number, nodes_of}
use Rattle.pfs_store_index.specs.IndexInvariants.{IsCounted}
use Rattle.pfs_store_records.specs.Walks.{IsPassing, StopsWalkAt}
use Rattle.pfs_store_records.specs.declared.nodes.NodeTally.{NodeTally}
use Rattle.pfs_store_index.proofs.Retained.{node_number}
use Rattle.pfs_store_records.proofs.NodeLaws.{numbers-nodes}
use Rattle.pfs_store_records.proofs.Searches.{found-all}
use Rattle.pfs_store_index.proofs.Dropping.{node-of}

states_are : (conf : Conf) (xs : List State) (now : ℕ) (t : NodeTally) → IsCounted conf xs t → is_over conf xs now t.node ≡ is_past now t
states_are conf xs now t c = ap (λ k. (k == 0) && nat_le t.node.expires now) (sym (ap (λ (u : NodeTally). u.states) c))

stay-nodes : (conf : Conf) (xs : List State) (now a l : ℕ) (ts : List NodeTally) → AllByRecursion (IsCounted conf xs) ts
    → AllByRecursion (λ (t : NodeTally). between a l (number_of_node t) ≡ true → is_past now t ≡ false) ts
    → AllByRecursion (λ (n : Node). between a l (node_number n) ≡ true → is_over conf xs now n ≡ false) (nodes_of ts)
stay-nodes conf xs now a l [] c h = tt
stay-nodes conf xs now a l (t ∷ ts) (c, cs) (h, hs) = ((λ b. states_are conf xs now t c ∙ h b), stay-nodes conf xs now a l ts cs hs)

pub passing-nodes : (conf : Conf) (xs : List State) (now above most share stayed last : ℕ) (ts : List NodeTally) → AllByRecursion (IsCounted conf xs) ts
    → IsPassing number_of_node (is_past now) ts above most share stayed last → IsPassing node_number (is_over conf xs now) (nodes_of ts) above most share stayed last
passing-nodes conf xs now above most share stayed last ts c w = record {
  from = w.from;
  to = w.to;
  stay = stay-nodes conf xs now above last ts c w.stay;
  count = w.count ∙ ap (λ ks. length (filter (between above last) ks)) (sym (numbers-nodes ts));
  passed = rw (numbers-nodes ts) w.passed;
  rest = rw (numbers-nodes ts) w.rest;
  within = w.within;
}

pub stops-nodes : (conf : Conf) (xs : List State) (now last most stayed share : ℕ) (o : Option NodeTally) (ts : List NodeTally) → AllByRecursion (IsCounted conf xs) ts
    → StopsWalkAt number_of_node (is_past now) ts last most stayed share o → StopsWalkAt node_number (is_over conf xs now) (nodes_of ts) last most stayed share (option_map (λ (t : NodeTally). t.node) o)
stops-nodes conf xs now last most stayed share None ts c h = λ l. rw (numbers-nodes ts) (h l)
stops-nodes conf xs now last most stayed share (Some t) ts c h = record {
  within = h.within;
  next = rw (numbers-nodes ts) h.next;
  found = node-of (Some t) ts h.found;
  passes = states_are conf xs now t (found-all (IsCounted conf xs) (has_node_number t.node.number) t ts c h.found) ∙ h.passes;
}

pub kept-nodes : (conf : Conf) (xs : List State) (a l until : ℕ) (ts : List NodeTally) → AllByRecursion (IsCounted conf xs) ts
    → AllByRecursion (λ (t : NodeTally). between a l (number_of_node t) ≡ true → IsKeptUntil until t) ts
    → AllByRecursion (λ (n : Node). between a l (node_number n) ≡ true → NodeStays conf xs until n) (nodes_of ts)
kept-nodes conf xs a l until [] c h = tt
kept-nodes conf xs a l until (t ∷ ts) (c, cs) (h, hs) = ((λ b z. h b (ap (λ (u : NodeTally). u.states) c ∙ z)), kept-nodes conf xs a l until ts cs hs)
