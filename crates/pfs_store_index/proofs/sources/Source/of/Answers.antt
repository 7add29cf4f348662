-- Answers of Source::of: the bytes of an IPv6 address are sixteen.
use Rattle.std.proofs.Common.{◌≡◌, ◌<◌, ℕ, get_or, length, rules, subst, sym}
use Rattle.std.proofs.lemmas.List.Elements.{All-from_get_or}
use Rattle.pfs_addr_values.specs.Addresses.{IsAddr}
use Rattle.pfs_store_index.proofs.sources.Source.of.Goals as goal

pub returns-in-V6-clause-addr : goal.returns-in-V6-clause-addr
returns-in-V6-clause-addr c =
    let len : length c.in-V6.bytes ≡ 16 = search rules in
    let small : (k : ℕ) → get_or c.in-V6.bytes k 0 < 256 = search rules in
    subst IsAddr (sym c.in-V6.is) (len, All-from_get_or (λ b. b < 256) c.in-V6.bytes 0 (λ k h. small k))
