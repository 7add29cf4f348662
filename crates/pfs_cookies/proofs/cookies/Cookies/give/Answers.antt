-- Answers of Cookies::give: the key has no cookie under the other secret.
use Rattle.std.proofs.Common.{subst, sym}
use Rattle.pfs_cookies.specs.CookieLaws.{apart-given}
use Rattle.pfs_cookies.specs.Cookies.{IsApart}
use Rattle.pfs_cookies.proofs.cookies.Cookies.give.Goals as goal

pub invariant_of-self-in-Ok : goal.invariant_of-self-in-Ok
invariant_of-self-in-Ok c =
    subst IsApart (λ i. record { fresh = sym c.in-Ok.ensures.ok i; former = sym c.remove.ensures.after i })
    (apart-given (record { fresh = c.self.inside.fresh; former = c.self.inside.former }) c.args.key.now c.self.invariant)
