-- Answers of limit_met: the limit of the rule or of its source, where there is one, is the first (`returns-in-Some`); or none is met
-- (`returns`).
use Rattle.std.proofs.Common.{◌≡◌, ◌∙◌, [], None, Some, ap, arith, if◌then◌else◌, length, nat_le, sym}
use Rattle.pfs_conf_values.specs.Configs.{Conf, limit_of, options_of}
use Rattle.pfs_conf_values.specs.declared.limits.LimitName.TheVariants as limit_name
use Rattle.pfs_store_contract.proofs.LimitLaws.{met_in_turn, none-met}
use Rattle.pfs_store_contract.specs.Counts.{node_scope_of}
use Rattle.pfs_store_contract.specs.SourceLimits.{first_of, maximum_limit, rule_limit, source_limit}
use Rattle.pfs_store_contract.specs.Worlds.{lists}
use Rattle.pfs_store_contract.specs.declared.records.Limit.TheVariants as limit
use Rattle.pfs_store_index.proofs.limits.limit_met.Goals as goal

pub returns-in-Some : goal.returns-in-Some
returns-in-Some g c =
    let conf = c.args.indexes.now.config in
    let w = lists c.args.indexes.now.states c.args.indexes.now.nodes [] [] 0 in
    let rule = c.args.rule.0 in
    let o : c.options_for-options.result.now ≡ options_of c.args.indexes.now.config c.args.rule.0 = c.options_for-options.ensures ∙ ap (λ (k : Conf). options_of k c.args.rule.0) c.config.ensures in
    let r = c.in-Some.ensures ∙ (λ j. rule_limit conf.profile (maximum_limit w rule (o j)) (source_limit conf w (o j) c.args.source (node_scope_of conf rule))) in
    ap (λ x. first_of x (if nat_le (limit_of conf limit_name.States) (length w.states) then Some limit.States else None)) r
    ∙ sym (met_in_turn conf w rule c.args.source)

pub returns : goal.returns
returns g c =
    let conf = c.args.indexes.now.config in
    let w = lists c.args.indexes.now.states c.args.indexes.now.nodes [] [] 0 in
    let rule = c.args.rule.0 in
    let o : c.options_for-options.result.now ≡ options_of c.args.indexes.now.config c.args.rule.0 = c.options_for-options.ensures ∙ ap (λ (k : Conf). options_of k c.args.rule.0) c.config.ensures in
    let r = sym c.in_default.is ∙ c.rule_limit.ensures ∙ (λ j. rule_limit conf.profile (maximum_limit w rule (o j)) (source_limit conf w (o j) c.args.source (node_scope_of conf rule))) in
    let most = c.limit.ensures.value ∙ ap (λ (k : Conf). limit_of k limit_name.States) c.config-2.ensures in
    none-met conf w rule c.args.source r (omega (arith, most, c.state_count.ensures, c.if-limit-state_count.false))
