-- Answers of Indexes::find_inside: the indexes by key give the number, the rule and the place of the state that has the key, or none.
use Rattle.std.proofs.Common.{◌≡◌, ◌∙◌, true, ap, option_map, refl, subst, sym}
use Rattle.std.specs.List.{find}
use Rattle.pfs_addr_values.specs.Sameness.{same_key}
use Rattle.pfs_store_contract.specs.Calls.{state_number, state_rule}
use Rattle.pfs_store_contract.specs.Worlds.{inner_key}
use Rattle.pfs_store_contract.specs.declared.records.State.{State}
use Rattle.pfs_store_index.specs.Holdings.{Holding, is_reached}
use Rattle.pfs_store_index.specs.IndexInvariants.{entry_of, found_of, has_inside}
use Rattle.pfs_store_index.specs.declared.indexes.IndexEntry.{IndexEntry}
use Rattle.pfs_store_index.proofs.Reached.{entry-reached}
use Rattle.pfs_store_index.proofs.Stands.{number-at, rule-at}
use Rattle.pfs_store_index.proofs.indexes.Indexes.find_inside.Goals as goal

pub returns-in-Some-clause-number : goal.returns-in-Some-clause-number
returns-in-Some-clause-number g c =
    rw c.found_of.ensures
    (ap (option_map (λ (e : IndexEntry). record { 0 = e.number })) (c.in-Some.ensures ∙ ap (λ (h : Holding). option_map entry_of (find (has_inside c.args.key.now) h.records)) (sym c.self.view_is)) ∙ number-at (λ (s : State). same_key (inner_key s) c.args.key.now) c.self.inside.records _ refl
    ∙ ap (λ (h : Holding). option_map state_number (find (λ (s : State). same_key (inner_key s) c.args.key.now) h.states)) c.self.view_is)

pub returns-in-Some-clause-rule : goal.returns-in-Some-clause-rule
returns-in-Some-clause-rule g c =
    rw c.found_of.ensures
    (ap (option_map (λ (e : IndexEntry). e.rule)) (c.in-Some.ensures ∙ ap (λ (h : Holding). option_map entry_of (find (has_inside c.args.key.now) h.records)) (sym c.self.view_is)) ∙ rule-at (λ (s : State). same_key (inner_key s) c.args.key.now) c.self.inside.records _ refl
    ∙ ap (λ (h : Holding). option_map state_rule (find (λ (s : State). same_key (inner_key s) c.args.key.now) h.states)) c.self.view_is)

pub returns-in-Some-clause-reached : goal.returns-in-Some-clause-reached
returns-in-Some-clause-reached g c =
    rw c.found_of.ensures
    (subst (λ (h : Holding). is_reached h.records (found_of c.in-Some.entry) ≡ true) c.self.view_is
    (entry-reached (has_inside c.args.key.now) c.in-Some.entry c.self.inside.records
    (c.in-Some.ensures ∙ ap (λ (h : Holding). option_map entry_of (find (has_inside c.args.key.now) h.records)) (sym c.self.view_is))))

pub returns-in-None-clause-number : goal.returns-in-None-clause-number
returns-in-None-clause-number g c =
    ap (option_map (λ (e : IndexEntry). record { 0 = e.number })) (c.in-None.ensures ∙ ap (λ (h : Holding). option_map entry_of (find (has_inside c.args.key.now) h.records)) (sym c.self.view_is)) ∙ number-at (λ (s : State). same_key (inner_key s) c.args.key.now) c.self.inside.records _ refl
    ∙ ap (λ (h : Holding). option_map state_number (find (λ (s : State). same_key (inner_key s) c.args.key.now) h.states)) c.self.view_is

pub returns-in-None-clause-rule : goal.returns-in-None-clause-rule
returns-in-None-clause-rule g c =
    ap (option_map (λ (e : IndexEntry). e.rule)) (c.in-None.ensures ∙ ap (λ (h : Holding). option_map entry_of (find (has_inside c.args.key.now) h.records)) (sym c.self.view_is)) ∙ rule-at (λ (s : State). same_key (inner_key s) c.args.key.now) c.self.inside.records _ refl
    ∙ ap (λ (h : Holding). option_map state_rule (find (λ (s : State). same_key (inner_key s) c.args.key.now) h.states)) c.self.view_is
