-- Answers of Cookies::new: where none is out, no key has two.
use Rattle.std.proofs.Common.{ap, ◌∙◌}
use Rattle.std.specs.FinSet.{contains, contains-empty}
use Rattle.pfs_cookies.specs.Cookies.{Keys}
use Rattle.pfs_cookies.specs.KeyOrders.{key_cmp}
use Rattle.pfs_cookies.proofs.cookies.Cookies.new.Goals as goal

pub invariant_of-result : goal.invariant_of-result
invariant_of-result c = λ q h. ap (λ (s : Keys). contains s q) c.new-2.ensures ∙ contains-empty key_cmp q
