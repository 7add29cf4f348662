-- Answers of Cookies::take: taking gives no key a second cookie.
use Rattle.std.proofs.Common.{subst, sym}
use Rattle.pfs_cookies.specs.CookieLaws.{apart-taken}
use Rattle.pfs_cookies.specs.Cookies.{IsApart}
use Rattle.pfs_cookies.proofs.cookies.Cookies.take.Goals as goal

pub invariant_of-self : goal.invariant_of-self
invariant_of-self c =
    subst IsApart (λ i. record { fresh = sym c.remove-fresh.ensures.after i; former = sym c.remove-former.ensures.after i })
    (apart-taken (record { fresh = c.self.inside.fresh; former = c.self.inside.former }) c.args.key.now c.self.invariant)
