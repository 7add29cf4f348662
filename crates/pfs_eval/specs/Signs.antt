-- Words that tell which signs the prefixes of a table have: each that tells something tells the truth. (own) (not promised)
use Rattle.std.specs.Prelude.{ℕ, ◌+◌, ◌*◌, ◌≤◌, ◌≡◌, Bool, if◌then◌else◌, Option, Some, List, All}
use Rattle.std.specs.Option.{option_map}
use Rattle.pfs_addr_values.specs.declared.addresses.Addr.{Addr}
use Rattle.pfs_addr_values.specs.declared.addresses.Addr.TheVariants.{V4}
use Rattle.pfs_addr_values.specs.Prefixes.{first_bits}
use Rattle.pfs_eval.specs.Entries.{Entry, mark_at}
use Rattle.pfs_eval.specs.declared.entries.Mark.{Mark}

-- the word of a prefix of IPv4 and a sign: its first bits, how many they are, and the sign
abbrev pub sign_word : ℕ → ℕ → Bool → ℕ
sign_word first bits negated = first * 256 + bits * 4 + (if negated then 2 else 1)

-- the sign of the entry that is the prefix of an address with so many bits
abbrev pub entry_sign : List Entry → Addr → ℕ → Option Bool
entry_sign entries a bits = option_map (λ (m : Mark). m.negated) (mark_at entries a bits)

-- a word tells the truth of a table's entries: the prefix whose word it is, with a sign, is an entry of that sign
unfoldable pub IsTrueWord : List Entry → ℕ → Type 0
IsTrueWord entries word = (bytes : List ℕ) (n : ℕ) (negated : Bool) → n ≤ 32 → word ≡ sign_word (first_bits n (V4 bytes)) n negated
    → entry_sign entries (V4 bytes) n ≡ Some negated

-- so does each
abbrev pub AreTrueWords : List ℕ → List Entry → Type 0
AreTrueWords words entries = All (IsTrueWord entries) words
