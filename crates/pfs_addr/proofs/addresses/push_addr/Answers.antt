-- Answers of push_addr: what is appended for an address of either family is read as it (`again`).
use Rattle.std.proofs.Common.{◌≡◌, ◌<◌, ℕ, Some, get_or, length, rules, subst, sym}
use Rattle.pfs_addr.proofs.PieceLaws.{read_again}
use Rattle.pfs_addr_values.specs.Addresses.{addr_text}
use Rattle.pfs_addr.specs.Texts.{addr_of}
use Rattle.pfs_addr_values.specs.declared.addresses.Addr.{Addr}
use Rattle.pfs_addr_values.specs.declared.addresses.Addr.TheVariants.{V4, V6}
use Rattle.pfs_addr.proofs.addresses.push_addr.Goals as goal

pub returns-in-V4-clause-again : goal.returns-in-V4-clause-again
returns-in-V4-clause-again c =
    let len : length c.in-V4.bytes ≡ 4 = search rules in
    let small : (k : ℕ) → get_or c.in-V4.bytes k 0 < 256 = search rules in
    subst (λ (a : Addr). addr_of (addr_text a) ≡ Some a) (sym c.in-V4.is) (read_again (V4 c.in-V4.bytes) len small)

pub returns-in-V6-clause-again : goal.returns-in-V6-clause-again
returns-in-V6-clause-again c =
    let len : length c.in-V6.bytes ≡ 16 = search rules in
    let small : (k : ℕ) → get_or c.in-V6.bytes k 0 < 256 = search rules in
    subst (λ (a : Addr). addr_of (addr_text a) ≡ Some a) (sym c.in-V6.is) (read_again (V6 c.in-V6.bytes) len small)
