-- Answers of push_short: with no run of zeros left out, and with one, the text is that of the definition.
use Rattle.std.proofs.Common.{◌≡◌, ◌<◌, ◌+◌, ◌++◌, ◌∙◌, List, ℕ, arith, length, subst, sym}
use Rattle.std.specs.Prelude.{OnErr, OnOk, vec_len}
use Rattle.std.specs.Vec.{vec_capacity}
use Rattle.pfs_addr.proofs.HexLaws.{all_left, short_all, short_around}
use Rattle.pfs_addr.proofs.addresses.push_short.Goals as goal

pub returns-else-is_left_out-clause-ok : goal.returns-else-is_left_out-clause-ok
returns-else-is_left_out-clause-ok c =
    let same = short_all c.args.groups c.longest_zeros-start.result c.longest_zeros-start.ensures.value (sym c.is_left_out.ensures ∙ c.if-is_left_out.false) in
    subst (λ (t : List ℕ). OnOk c.push_all.result (c.push_all.new.out.items ≡ c.args.out.now.items ++ t)) (sym same) c.push_all.ensures.ok

pub returns-else-is_left_out-clause-refused : goal.returns-else-is_left_out-clause-refused
returns-else-is_left_out-clause-refused c =
    let same = short_all c.args.groups c.longest_zeros-start.result c.longest_zeros-start.ensures.value (sym c.is_left_out.ensures ∙ c.if-is_left_out.false) in
    subst (λ (t : List ℕ). OnErr c.push_all.result (vec_capacity c.args.out.now < vec_len c.args.out.now + length t)) (sym same) c.push_all.ensures.refused

pub returns-then-is_left_out-clause-ok : goal.returns-then-is_left_out-clause-ok
returns-then-is_left_out-clause-ok c =
    let whole = all_left _ (c.longest_zeros-start.result.0 + c.longest_zeros-start.result.1) c.args.groups (omega (arith, c.longest_zeros-start.ensures.within)) in
    let same = short_around c.args.groups c.longest_zeros-start.result c.longest_zeros-start.ensures.value (sym c.is_left_out.ensures ∙ c.if-is_left_out.true) _ whole in
    subst (λ (t : List ℕ). OnOk c.push_around.result (c.push_around.new.out.items ≡ c.args.out.now.items ++ t)) (sym same) c.push_around.ensures.ok

pub returns-then-is_left_out-clause-refused : goal.returns-then-is_left_out-clause-refused
returns-then-is_left_out-clause-refused c =
    let whole = all_left _ (c.longest_zeros-start.result.0 + c.longest_zeros-start.result.1) c.args.groups (omega (arith, c.longest_zeros-start.ensures.within)) in
    let same = short_around c.args.groups c.longest_zeros-start.result c.longest_zeros-start.ensures.value (sym c.is_left_out.ensures ∙ c.if-is_left_out.true) _ whole in
    subst (λ (t : List ℕ). OnErr c.push_around.result (vec_capacity c.args.out.now < vec_len c.args.out.now + length t)) (sym same) c.push_around.ensures.refused
