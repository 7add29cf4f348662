-- What states do to the tally of one node: a change leaves what the node is, and one that changes nothing leaves all.
use Rattle.std.proofs.Common.{◌≡◌, ◌+◌, ◌-◌, ◌==◌, ℕ, Bool, true, false, if◌then◌else◌, Option, Some, None, List, [], ◌∷◌, map, refl, ap, sym, subst}
use Rattle.pfs_addr_values.specs.declared.addresses.Addr.{Addr}
use Rattle.pfs_store_contract.specs.Leaving.{node_retention}
use Rattle.pfs_store_contract.specs.declared.records.Node.{Node}
use Rattle.pfs_store_contract.specs.declared.records.NodeScope.{NodeScope}
use Rattle.pfs_store_contract.specs.declared.records.State.{State}
use Rattle.pfs_store_records.specs.Tallies.{is_tally, nodes_of}
use Rattle.pfs_store_records.specs.declared.nodes.NodeTally.{NodeTally}
use Rattle.pfs_store_records.specs.Changes.{is_at, left_by, left_of, at_node, changed_by, met_by, joined_of}
use Rattle.pfs_store_records.specs.declared.changes.Change.{Change}
use Rattle.pfs_store_records.specs.declared.changes.Change.TheVariants as change
use Rattle.pfs_track.specs.StatePhases.{is_done}
use Rattle.pfs_store_records.proofs.OneNode.{IsFaithful, scope_is}
use Rattle.pfs_store_records.proofs.Rising.{IsRisingBy}
use Rattle.pfs_conf_values.specs.Configs.{Conf}
use Rattle.pfs_conf_values.specs.declared.actions.Rate.{Rate}
use Rattle.pfs_track.specs.Scores.{score_after}
use Rattle.pfs_track.specs.declared.scores.Score.{Score}
use Rattle.pfs_store_contract.specs.Purging.{node_numbers}
use Rattle.pfs_store_records.specs.Records.{IsRising}
use Rattle.pfs_store_records.proofs.NodeLaws.{numbers-nodes}

pub rising-tallies : (ts : List NodeTally) → IsRising (node_numbers (nodes_of ts)) → IsRisingBy (λ (t : NodeTally). t.node.number) ts
rising-tallies ts h = subst IsRising (numbers-nodes ts) h

-- ---- a state comes

pub joined-faithful : IsFaithful joined_of
joined-faithful = record { scope = λ t. refl; source = λ t. refl; number = λ t. refl }

-- ---- a state leaves

-- the change leaves what a node is
left_by-node : {Y : Type 0} (part : Node → Y) (c : Bool) (expires : ℕ) (t : NodeTally) → part (record t.node { expires = expires }) ≡ part t.node → part (left_by c expires t).node ≡ part t.node
left_by-node part c expires t h = go (t.states - 1 == 0)
  where
    go : (b : Bool) → part (if b then record t.node { expires = expires } else t.node) ≡ part t.node
    go true = h
    go false = refl

left_by-faithful : (c : Bool) (expires : ℕ) → IsFaithful (left_by c expires)
left_by-faithful c expires = record {
  scope = λ t. left_by-node (λ n. n.scope) c expires t refl;
  source = λ t. left_by-node (λ n. n.source) c expires t refl;
  number = λ t. left_by-node (λ n. n.number) c expires t refl;
}

pub left-node : {Y : Type 0} (part : Node → Y) (conf : Conf) (s : State) (now : ℕ) (t : NodeTally) → ((expires : ℕ) → part (record t.node { expires = expires }) ≡ part t.node)
    → part (left_of conf s now t).node ≡ part t.node
left-node part conf s now t h = let e = now + node_retention conf t.node.scope in left_by-node part (is_done s.phase) e t (h e)

pub left-faithful : (conf : Conf) (s : State) (now : ℕ) → IsFaithful (left_of conf s now)
left-faithful conf s now = record {
  scope = λ t. left-node (λ n. n.scope) conf s now t (λ e. refl);
  source = λ t. left-node (λ n. n.source) conf s now t (λ e. refl);
  number = λ t. left-node (λ n. n.number) conf s now t (λ e. refl);
}

-- at the node of a scope, its retention is that of the scope
pub left-here : (conf : Conf) (sc : NodeScope) (a : Addr) (s : State) (now : ℕ) (ts : List NodeTally)
    → map (at_node (Some sc) a (left_by (is_done s.phase) (now + node_retention conf sc))) ts ≡ map (at_node (Some sc) a (left_of conf s now)) ts
left-here conf sc a s now [] = refl
left-here conf sc a s now (t ∷ ts) = (λ i. here (is_tally sc a t) refl i ∷ left-here conf sc a s now ts i)
  where
    here : (b : Bool) → is_tally sc a t ≡ b → (if b then left_by (is_done s.phase) (now + node_retention conf sc) t else t) ≡ (if b then left_of conf s now t else t)
    here true h = ap (λ (x : NodeScope). left_by (is_done s.phase) (now + node_retention conf x) t) (sym (scope_is sc a t h))
    here false h = refl

-- ---- a packet of a state

met-node : {Y : Type 0} (part : Node → Y) (rate : Option Rate) (now : ℕ) (c : Bool) (t : NodeTally) → ((score : Score) → part (record t.node { score = score }) ≡ part t.node)
    → part (met_by rate now c t).node ≡ part t.node
met-node part None now true t h = refl
met-node part (Some rate) now true t h = h (score_after rate.seconds t.node.score now)
met-node part rate now false t h = refl

pub met-faithful : (rate : Option Rate) (now : ℕ) (c : Bool) → IsFaithful (met_by rate now c)
met-faithful rate now c = record {
  scope = λ t. met-node (λ n. n.scope) rate now c t (λ s. refl);
  source = λ t. met-node (λ n. n.source) rate now c t (λ s. refl);
  number = λ t. met-node (λ n. n.number) rate now c t (λ s. refl);
}

-- each change
pub changed-faithful : (ch : Change) → IsFaithful (changed_by ch)
changed-faithful change.Joined = joined-faithful
changed-faithful (change.Left c expires) = left_by-faithful c expires
changed-faithful (change.Completed rate now) = met-faithful rate now true

-- a packet that completes no handshake changes no tally
pub unmet : (o : Option NodeScope) (a : Addr) (rate : Option Rate) (now : ℕ) (c : Bool) → c ≡ false → (ts : List NodeTally) → ts ≡ map (at_node o a (met_by rate now c)) ts
unmet o a rate now c h [] = refl
unmet o a rate now c h (t ∷ ts) = (λ i. same (is_at o a t) i ∷ unmet o a rate now c h ts i)
  where
    same : (b : Bool) → t ≡ (if b then met_by rate now c t else t)
    same true = sym (ap (λ x. met_by rate now x t) h)
    same false = refl
