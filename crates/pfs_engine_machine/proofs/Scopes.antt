-- Which rules count in a scope of source nodes, and which sources have states there.
use Rattle.std.proofs.Common.{◌≡◌, ◌∙◌, ℕ, Bool, true, false, Option, Some, None, List, [], ◌∷◌, All, refl, ap, sym, arith}
use Rattle.std.proofs.lemmas.Bool.{and_parts, false≢true}
use Rattle.std.proofs.lemmas.Bool.Decides.{nat_tests}
use Rattle.std.proofs.lemmas.List.Elements.{All-head, All-tail}
use Rattle.pfs_addr_values.proofs.SameLaws.{same_addr_self, same_addr_true}
use Rattle.pfs_addr_values.specs.Sameness.{same_addr}
use Rattle.pfs_addr_values.specs.declared.addresses.Addr.{Addr}
use Rattle.pfs_conf_values.specs.Configs.{Conf, scope_of}
use Rattle.pfs_conf_values.specs.declared.actions.Scope.{Scope}
use Rattle.pfs_conf_values.specs.declared.actions.Scope.TheVariants as scope
use Rattle.pfs_store_contract.specs.Counts.{has_node, in_scope, is_of_node, node_scope_under, node_scope_of, node_states}
use Rattle.pfs_conf_values.specs.Bounds.{is_global}
use Rattle.pfs_store_contract.specs.declared.records.Node.{Node}
use Rattle.pfs_store_contract.specs.declared.records.NodeScope.{NodeScope}
use Rattle.pfs_store_contract.specs.declared.records.NodeScope.TheVariants as node_scope
use Rattle.pfs_store_contract.specs.declared.records.State.{State}
use Rattle.pfs_engine_machine.specs.MachineInvariants.{HasNode, TracksAlone, own_scope}

-- ---- the rules of a scope

-- every rule that counts in a scope has it
abbrev pub IsScopeOf : Conf → NodeScope → Type 0
IsScopeOf conf scope = (rule : ℕ) → in_scope conf scope rule ≡ true → node_scope_of conf rule ≡ Some scope

pub own_scope-IsScopeOf : (conf : Conf) (rule : ℕ) → TracksAlone conf rule → IsScopeOf conf (own_scope rule)
own_scope-IsScopeOf conf rule alone other h =
    let same : other ≡ rule = grind (arith, nat_tests) in
    ap (node_scope_of conf) same ∙ ap (node_scope_under rule) alone

pub global-IsScopeOf : (conf : Conf) → IsScopeOf conf node_scope.Global
global-IsScopeOf conf rule h = by (scope_of conf rule) h
  where
    by : (o : Option Scope) → is_global o ≡ true → node_scope_under rule o ≡ Some node_scope.Global
    by None k = absurd (false≢true k)
    by (Some scope.Rule) k = absurd (false≢true k)
    by (Some scope.Global) k = refl

-- a rule's own scope is that of the rule alone
pub scope-alone : (conf : Conf) (rule : ℕ) → TracksAlone conf rule → node_scope_of conf rule ≡ Some (own_scope rule)
scope-alone conf rule alone = ap (node_scope_under rule) alone

pub scope-shared : (conf : Conf) (rule : ℕ) → scope_of conf rule ≡ Some scope.Global → node_scope_of conf rule ≡ Some node_scope.Global
scope-shared conf rule shared = ap (node_scope_under rule) shared

-- a rule counts in its scope
pub in_scope-own : (conf : Conf) (rule : ℕ) (found : NodeScope) → node_scope_of conf rule ≡ Some found → in_scope conf found rule ≡ true
in_scope-own conf rule found h = by (scope_of conf rule) refl h
  where
    by : (o : Option Scope) → scope_of conf rule ≡ o → node_scope_under rule o ≡ Some found → in_scope conf found rule ≡ true
    by None e k = absurd cc
    by (Some scope.Rule) e k =
        let is : node_scope.Rule (record { 0 = rule }) ≡ found = cc in
        ap (λ (s : NodeScope). in_scope conf s rule) (sym is) ∙ grind (arith, nat_tests)
    by (Some scope.Global) e k =
        let is : node_scope.Global ≡ found = cc in
        ap (λ (s : NodeScope). in_scope conf s rule) (sym is) ∙ ap is_global e

-- ---- the states of a source

-- a state counts for the node of its rule and source
pub is_of_node-own : (conf : Conf) (s : State) (found : NodeScope) → node_scope_of conf s.rule.0 ≡ Some found → is_of_node conf found s.source s ≡ true
is_of_node-own conf s found h = rw (in_scope-own conf s.rule.0 found h, same_addr_self s.source) refl

-- a source without a node has no state in the scope
pub none_without_node : (conf : Conf) (found : NodeScope) (source : Addr) (nodes : List Node) → IsScopeOf conf found → has_node found source nodes ≡ false
    → (states : List State) → All (HasNode conf nodes) states → node_states conf found source states ≡ 0
none_without_node conf found source nodes whole none [] h = refl
none_without_node conf found source nodes whole none (s ∷ states) h =
    go (none_without_node conf found source nodes whole none states (All-tail (HasNode conf nodes) s states h)) (is_of_node conf found source s) refl
  where
    go : node_states conf found source states ≡ 0 → (b : Bool) → is_of_node conf found source s ≡ b → node_states conf found source (s ∷ states) ≡ 0
    go rest true e =
        let within = (and_parts (in_scope conf found s.rule.0) (same_addr s.source source) e).0 in
        let same = same_addr_true s.source source (and_parts (in_scope conf found s.rule.0) (same_addr s.source source) e).1 in
        let held = All-head (HasNode conf nodes) s states h found (whole s.rule.0 within) in
        absurd (false≢true (sym none ∙ ap (λ (a : Addr). has_node found a nodes) (sym same) ∙ held))
    go rest false e = rw e rest
