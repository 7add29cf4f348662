-- Answers of cleared_16: the bits of an IPv6 address past a length are zero, also where no bit counts.
use Rattle.std.proofs.Common.{◌≡◌, ◌<◌, ℕ, get_or, length, rules}
use Rattle.std.proofs.lemmas.List.Elements.{All-from_get_or}
use Rattle.pfs_addr_values.proofs.PrefixLaws.{shifted, shifted_away}
use Rattle.pfs_addr_values.proofs.prefixes.cleared_16.Goals as goal

pub returns-then-bits-eq0-clause-value : goal.returns-then-bits-eq0-clause-value
returns-then-bits-eq0-clause-value c =
    shifted_away c.args.bits c.args.bytes c.from_be_bytes-number.result c.to_be_bytes.result c.from_be_bytes-number.ensures c.from_be_bytes-number.type_inv c.if-bits-eq0.true c.to_be_bytes.ensures

pub returns-clause-value : goal.returns-clause-value
returns-clause-value c =
    shifted c.args.bits c.args.bytes c.from_be_bytes-number.result _ c.to_be_bytes-2.result c.from_be_bytes-number.ensures c.from_be_bytes-number.type_inv c.from-hidden.ensures c.to_be_bytes-2.ensures

pub returns-clause-addr : goal.returns-clause-addr
returns-clause-addr c =
    let len : length c.args.bytes ≡ 16 = search rules in
    let small : (k : ℕ) → get_or c.args.bytes k 0 < 256 = search rules in
    (len, All-from_get_or (λ b. b < 256) c.args.bytes 0 (λ k h. small k))

pub returns-then-bits-eq0-clause-addr : goal.returns-then-bits-eq0-clause-addr
returns-then-bits-eq0-clause-addr c =
    let len : length c.args.bytes ≡ 16 = search rules in
    let small : (k : ℕ) → get_or c.args.bytes k 0 < 256 = search rules in
    (len, All-from_get_or (λ b. b < 256) c.args.bytes 0 (λ k h. small k))
