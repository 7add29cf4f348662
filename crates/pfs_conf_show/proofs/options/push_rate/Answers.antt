-- Answer of push_rate: a rate that is given goes on with the list of options (`text`).
use Rattle.std.proofs.Common.{ℕ, List, Option, ◌++◌, sym, ap, ◌∙◌, append-nil}
use Rattle.std.specs.Prelude.{codes}
use Rattle.pfs_conf_values.specs.declared.actions.Rate.{Rate}
use Rattle.pfs_conf_show.specs.Options.{rate_text}
use Rattle.pfs_conf_show.specs.Pieces.{text_if_given, going_on, separator}
use Rattle.pfs_conf_show.proofs.ListLaws.{behind}
use Rattle.pfs_conf_show.proofs.options.push_rate.Goals as goal

pub returns-clause-text : goal.returns-clause-text
returns-clause-text c =
    let before = separator (codes " (") c.args.begun in
    let rate = rate_text c.in-Some.rate in
    behind c.args.out.now.items before rate c.in_ok-push_separator.ensures c.in_ok-push_rate_text.ensures
    ∙ (ap (λ (z : List ℕ). c.args.out.now.items ++ (before ++ z)) (sym (append-nil rate))
    ∙ ap (λ (o : Option Rate). c.args.out.now.items ++ going_on (codes " (") c.args.begun (text_if_given rate_text o)) (sym c.in-Some.is))
