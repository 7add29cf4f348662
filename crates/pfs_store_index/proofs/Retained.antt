-- The moments from which nodes may leave, where states leave twice in one second.
use Rattle.std.proofs.Common.{◌≡◌, ◌∙◌, ℕ, Bool, List, map, filter, ap, sym}
use Rattle.pfs_conf_values.specs.Configs.{Conf}
use Rattle.pfs_store_contract.proofs.LeavingLaws.{nodes-twice}
use Rattle.pfs_store_contract.specs.Leaving.{node_after_leaving}
use Rattle.pfs_store_contract.specs.declared.records.Node.{Node}
use Rattle.pfs_store_contract.specs.declared.records.State.{State}

-- the number of a node
abbrev pub node_number : Node → ℕ
node_number n = n.number

pub step-nodes : (conf : Conf) (p q : State → Bool) (now : ℕ) (xs0 xs xs' : List State) (ns0 ns ns' : List Node) → xs ≡ filter p xs0 → xs' ≡ filter q xs
    → ns ≡ map (node_after_leaving conf xs0 xs now) ns0 → ns' ≡ map (node_after_leaving conf xs xs' now) ns → ns' ≡ map (node_after_leaving conf xs0 xs' now) ns0
step-nodes conf p q now xs0 xs xs' ns0 ns ns' e e' h h' =
    let e2 : xs' ≡ filter q (filter p xs0) = e' ∙ ap (filter q) e in
    h' ∙ ap (map (node_after_leaving conf xs xs' now)) h ∙ (λ i. map (node_after_leaving conf (e i) (e2 i) now) (map (node_after_leaving conf xs0 (e i) now) ns0)) ∙ nodes-twice conf xs0 p q now ns0
    ∙ (λ i. map (node_after_leaving conf xs0 (sym e2 i) now) ns0)
