-- Answers of push_braces: one more closing brace each turn, and at the end as many as were asked for.
use Rattle.std.proofs.Common.{◌≡◌, ℕ, arith, ap, ◌∙◌, ◌++◌}
use Rattle.std.proofs.lemmas.Grind.{common_steps}
use Rattle.pfs_conf_show.specs.Texts.{braces_text}
use Rattle.pfs_conf_show.proofs.ItemLaws.{braces_more}
use Rattle.pfs_conf_show.proofs.items.push_braces.Goals as goal

pub loop-preserved : goal.loop-preserved
loop-preserved c = grind (arith, common_steps, braces_more c.loop.counter)

pub returns : goal.returns
returns c =
    let same : c.loop.counter ≡ c.args.count = omega arith in
    c.loop.invariant ∙ ap (λ (n : ℕ). c.args.out.now.items ++ braces_text n) same
