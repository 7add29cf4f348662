-- Answers of counted_rules: there are so many rules (`within`), and none past them has a pair (`unread`).
use Rattle.std.proofs.Common.{◌≡◌, ◌+◌, ◌<◌, ◌≤◌, sym, subst, arith, length}
use Rattle.pfs_store_index.specs.Stored.{has_pair}
use Rattle.pfs_store_index.proofs.Storing.{read-all, read-more, read-within}
use Rattle.pfs_store_index.proofs.expiring.counted_rules.Goals as goal

pub loop-rule-init : goal.loop-rule-init
loop-rule-init c = record {
  within = omega arith;
  most = omega arith;
  unread = λ r l m. absurd (omega (arith, m));
}

pub loop-rule-preserved : goal.loop-rule-preserved
loop-rule-preserved c =
    let i = c.loop-rule.invariant in
    record {
      within = subst (λ n. n ≤ c.loop-rule.rule + 1) (sym c.counted_after-read.ensures) (read-within (has_pair c.args.config.now c.loop-rule.rule) c.loop-rule.rule c.loop-rule.read i.within);
      most = omega arith;
      unread = λ r l m. read-more (has_pair c.args.config.now) c.loop-rule.rule c.loop-rule.read i.unread r (subst (λ n. n ≤ r) c.counted_after-read.ensures l) m;
    }

pub returns-clause-within : goal.returns-clause-within
returns-clause-within c =
    let i = c.loop-rule.invariant in
    omega (arith, i.within, i.most, c.item_count-rules.ensures.value)

pub returns-clause-unread : goal.returns-clause-unread
returns-clause-unread c =
    let i = c.loop-rule.invariant in
    let e : length c.args.config.now.items ≡ c.loop-rule.rule = omega (arith, i.most, c.loop-rule-test.false, c.item_count-rules.ensures.value) in
    read-all c.args.config.now c.loop-rule.read (λ r l m. i.unread r l (subst (λ n. r < n) e m))
