-- Answers of limit_met: the limit of the rule and of the source is the first one (`returns-in-Some`); or none is met (`returns`).
use Rattle.std.proofs.Common.{◌∙◌, [], Option, Some, None, length, nat_le, if◌then◌else◌, ap, arith, sym}
use Rattle.pfs_conf_values.specs.Configs.{limit_of}
use Rattle.pfs_conf_values.specs.declared.actions.StateOptions.{StateOptions}
use Rattle.pfs_conf_values.specs.declared.limits.LimitName.TheVariants as limit_name
use Rattle.pfs_store_contract.proofs.LimitLaws.{met_in_turn, none-met}
use Rattle.pfs_store_contract.specs.Counts.{node_scope_of}
use Rattle.pfs_store_contract.specs.SourceLimits.{first_of, maximum_limit, rule_limit, source_limit}
use Rattle.pfs_store_contract.specs.Worlds.{lists}
use Rattle.pfs_store_contract.specs.declared.records.Limit.{Limit}
use Rattle.pfs_store_contract.specs.declared.records.Limit.TheVariants as limit
use Rattle.pfs_store_plain.proofs.limits.limit_met.Goals as goal

pub returns-in-Some : goal.returns-in-Some
returns-in-Some c =
    let conf = c.args.config.now in
    let rule = c.args.rule.0 in
    let w = lists c.args.states.now c.args.nodes.now [] [] 0 in
    let of_rule : StateOptions → Option Limit =
    λ o. rule_limit conf.profile (maximum_limit w rule o) (source_limit conf w o c.args.source (node_scope_of conf rule)) in
    let all : Option Limit = if nat_le (limit_of conf limit_name.States) (length w.states) then Some limit.States else None in
    ap (λ found. first_of found all) (sym c.in-Some.is ∙ c.rule_limit.ensures ∙ ap of_rule c.options_for-options.ensures)
    ∙ sym (met_in_turn conf w rule c.args.source)

pub returns : goal.returns
returns c =
    let conf = c.args.config.now in
    let rule = c.args.rule.0 in
    let w = lists c.args.states.now c.args.nodes.now [] [] 0 in
    let of_rule : StateOptions → Option Limit =
    λ o. rule_limit conf.profile (maximum_limit w rule o) (source_limit conf w o c.args.source (node_scope_of conf rule)) in
    none-met conf w rule c.args.source (sym c.in_default.is ∙ c.rule_limit.ensures ∙ ap of_rule c.options_for-options.ensures)
    (omega (arith, c.if-limit-states.false, c.limit.ensures.value))
