-- What states do to the tallies of source nodes: when one comes, when a packet of it comes, and when it leaves. (own)
use Rattle.std.specs.Prelude.{ℕ, ◌≡◌, ◌+◌, ◌-◌, ◌<◌, ◌≤◌, ◌^◌, ◌==◌, Bool, true, false, if◌then◌else◌, Option, Some, None, IfSome, is_some, unwrap_or, List, [], ◌∷◌, ◌++◌, map, option_map}
use Rattle.std.specs.List.{find, list_any}
use Rattle.pfs_addr_values.specs.declared.addresses.Addr.{Addr}
use Rattle.pfs_conf_values.specs.Bounds.{IsRate}
use Rattle.pfs_conf_values.specs.Configs.{Conf, scope_of}
use Rattle.pfs_conf_values.specs.declared.actions.Rate.{Rate}
use Rattle.pfs_conf_values.specs.declared.actions.Scope.TheVariants as scope
use Rattle.pfs_conf_values.specs.declared.items.RuleNo.{RuleNo}
use Rattle.pfs_track.specs.Scores.{score_after, zero_score}
use Rattle.pfs_track.specs.StatePhases.{is_done}
use Rattle.pfs_track.specs.declared.scores.Score.{Score}
use Rattle.pfs_store_contract.specs.Admission.{new_node}
use Rattle.pfs_store_contract.specs.Counts.{node_scope_of}
use Rattle.pfs_store_contract.specs.Leaving.{node_retention}
use Rattle.pfs_store_contract.specs.declared.records.Node.{Node}
use Rattle.pfs_store_contract.specs.declared.records.NodeScope.{NodeScope}
use Rattle.pfs_store_contract.specs.declared.records.NodeScope.TheVariants as node_scope
use Rattle.pfs_store_contract.specs.declared.records.State.{State}
use Rattle.pfs_store_records.specs.Tallies.{is_tally}
use Rattle.pfs_store_records.specs.declared.changes.Change.{Change}
use Rattle.pfs_store_records.specs.declared.changes.Change.TheVariants as change
use Rattle.pfs_store_records.specs.declared.nodes.NodeTally.{NodeTally}

-- ---- the counts of nodes

-- the tally is that of the node of a scope, where there is one, and a source
abbrev pub is_at : Option NodeScope → Addr → NodeTally → Bool
is_at None source t = false
is_at (Some scope) source t = is_tally scope source t

-- a change of the tally of one node
abbrev pub at_node : Option NodeScope → Addr → (NodeTally → NodeTally) → NodeTally → NodeTally
at_node scope source change t = if is_at scope source t then change t else t

-- the scope is that of a rule which tracks sources alone, or of all that do it together
abbrev pub IsScope : Conf → NodeScope → Type 0
IsScope conf (node_scope.Rule rule) = scope_of conf rule.0 ≡ Some scope.Rule
IsScope conf node_scope.Global = Unit {0}

abbrev pub IsScoped : Conf → NodeTally → Type 0
IsScoped conf t = IsScope conf t.node.scope

-- no score is past the greatest
abbrev pub IsScored : NodeTally → Type 0
IsScored t = t.node.score.value ≤ 4294968000

-- where a rule tracks sources, this source has a node
abbrev pub HasTallyFor : Conf → List NodeTally → RuleNo → Addr → Type 0
HasTallyFor conf tallies rule source = (scope : NodeScope) → node_scope_of conf rule.0 ≡ Some scope → list_any (is_tally scope source) tallies ≡ true

-- a state of a rule that tracks sources has a node
abbrev pub HasTally : Conf → List NodeTally → State → Type 0
HasTally conf tallies s = HasTallyFor conf tallies s.rule s.source

-- ---- a state leaves

-- the counts of a node after one of its states left: a connection, or one whose handshake had not completed; if it was the last,
-- the node may leave from a moment on
abbrev pub left_by : Bool → ℕ → NodeTally → NodeTally
left_by connection expires t = record {
  node = if t.states - 1 == 0 then record t.node { expires = expires } else t.node;
  states = t.states - 1;
  connections = t.connections - (if connection then 1 else 0);
}

-- it is kept for its retention from then on
abbrev pub left_of : Conf → State → ℕ → NodeTally → NodeTally
left_of conf s now t = left_by (is_done s.phase) (now + node_retention conf t.node.scope) t

-- ---- a state comes

-- the counts of a node after a new state of it
abbrev pub joined_of : NodeTally → NodeTally
joined_of t = record { node = t.node; states = t.states + 1; connections = t.connections }

-- the tally of the node that is made with a state
abbrev pub new_tally : NodeScope → State → NodeTally
new_tally scope s = record { node = new_node s.number scope s.source s.last; states = 1; connections = 0 }

-- the tallies after a state came
abbrev pub tallies_with_state : Option NodeScope → State → List NodeTally → List NodeTally
tallies_with_state None s tallies = tallies
tallies_with_state (Some scope) s tallies =
    if is_some (find (is_tally scope s.source) tallies)
    then map (at_node (Some scope) s.source joined_of) tallies
    else tallies ++ new_tally scope s ∷ []

-- ---- a packet of a state

-- a node after a handshake, where its rule has a rate
abbrev pub scored_by : Option Rate → ℕ → Node → Node
scored_by None now n = n
scored_by (Some rate) now n = record n { score = score_after rate.seconds n.score now }

-- the tally of a node after a packet of one of its states, which completes its handshake or does not
abbrev pub met_by : Option Rate → ℕ → Bool → NodeTally → NodeTally
met_by rate now true t = record { node = scored_by rate now t.node; states = t.states; connections = t.connections + 1 }
met_by rate now false t = t

-- ---- what is reported of a node

-- the connections of the node of a scope and a source; 0 where there is none
abbrev pub connections_at : Option NodeScope → Addr → List NodeTally → ℕ
connections_at None source tallies = 0
connections_at (Some scope) source tallies = unwrap_or (option_map (λ (t : NodeTally). t.connections) (find (is_tally scope source) tallies)) 0

-- the score of it; 0 at moment 0 where there is none
abbrev pub score_at : Option NodeScope → Addr → List NodeTally → Score
score_at None source tallies = zero_score
score_at (Some scope) source tallies = unwrap_or (option_map (λ (t : NodeTally). t.node.score) (find (is_tally scope source) tallies)) zero_score

-- the counts of a node can rise
abbrev pub IsFew : NodeTally → Type 0
IsFew t = (t.states < 2 ^ 63) × (t.connections < 2 ^ 63)

-- ---- each change

-- the tally of a node after a change
abbrev pub changed_by : Change → NodeTally → NodeTally
changed_by change.Joined t = joined_of t
changed_by (change.Left connection expires) t = left_by connection expires t
changed_by (change.Completed rate now) t = met_by rate now true t

-- no number of the tally passes its bound by a change, and no handshake came after it
abbrev pub CanChange : Change → NodeTally → Type 0
CanChange change.Joined t = IsFew t
CanChange (change.Left connection expires) t = Unit {0}
CanChange (change.Completed rate now) t = IsFew t × IsScored t × (t.node.score.last ≤ now) × IfSome rate IsRate
