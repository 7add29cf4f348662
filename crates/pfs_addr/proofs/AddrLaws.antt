-- Texts of IPv4 addresses are those of std: it reads each, and as the address whose text it is.
use Rattle.std.proofs.Common.{ℕ, List, [], ◌∷◌, ◌<◌, get_or, refl, sym, arith, append_assoc}
use Rattle.std.proofs.lemmas.List.Elements.{All-get_or}
use Rattle.std.specs.Net.Grammar.{IsDotted}
use Rattle.pfs_addr_values.specs.Addresses.{IsAddr, dotted_decimal}
use Rattle.pfs_addr_values.specs.declared.addresses.Addr.TheVariants.{V4}

-- std's dotted texts are the texts of addresses
pub dotted_spelled : (bytes : List ℕ) → IsAddr (V4 bytes) → IsDotted (dotted_decimal bytes) bytes
dotted_spelled (a ∷ b ∷ c ∷ d ∷ []) h =
    let at : (i : ℕ) → i < 4 → get_or (a ∷ b ∷ c ∷ d ∷ []) i 0 < 256 = λ i lt. All-get_or (λ b. b < 256) (a ∷ b ∷ c ∷ d ∷ []) i 0 lt h.1 in
    record {
      a = a;
      b = b;
      c = c;
      d = d;
      fit = (at 0 (omega arith), at 1 (omega arith), at 2 (omega arith), at 3 (omega arith));
      value = refl;
      spelled = sym (simp append_assoc);
    }
dotted_spelled _ h = absurd (omega arith)
