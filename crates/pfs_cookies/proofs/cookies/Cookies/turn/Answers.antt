-- Answers of Cookies::turn: nothing is out under the secret that is used from now on.
use Rattle.std.proofs.Common.{ap, sym, ◌∙◌, true≢false}
use Rattle.std.specs.FinSet.{contains, contains-empty}
use Rattle.pfs_cookies.specs.Cookies.{Keys}
use Rattle.pfs_cookies.specs.KeyOrders.{key_cmp}
use Rattle.pfs_cookies.proofs.cookies.Cookies.turn.Goals as goal

pub invariant_of-self : goal.invariant_of-self
invariant_of-self c =
    λ q h. absurd (true≢false (sym h ∙ ap (λ (s : Keys). contains s q) (c.replace.ensures.after ∙ c.none_beside-none.ensures) ∙ contains-empty key_cmp q))
