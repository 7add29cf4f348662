-- Small pieces of the canonical text: numbers after words, lists, prefixes. (own)
use Rattle.std.specs.Prelude.{ℕ, Bool, true, false, if◌then◌else◌, ◌==◌, List, [], ◌∷◌, ◌++◌, Option, Some, None, codes, decimal}
use Rattle.pfs_addr_values.specs.Addresses.{addr_text, width_of}
use Rattle.pfs_addr_values.specs.Prefixes.{Network}

-- a word and a number after it
abbrev pub word_and_number : List ℕ → ℕ → List ℕ
word_and_number word n = word ++ (codes " " ++ decimal n)

-- `!` before what is negated
abbrev pub not_text : Bool → List ℕ
not_text true = codes "!"
not_text false = []

-- the length of a prefix, which is left out where all bits count
abbrev pub bits_text : Network → List ℕ
bits_text p = if p.bits == width_of p.addr then [] else codes "/" ++ decimal p.bits

-- a prefix: its address, and its length
abbrev pub prefix_text : Network → List ℕ
prefix_text p = addr_text p.addr ++ bits_text p

-- ---- lists

-- what is written before an item: what opens the list before the first, a comma and a space before each other
abbrev pub separator : List ℕ → Bool → List ℕ
separator opening true = codes ", "
separator opening false = opening

-- items of a list, which has begun already or not
abbrev pub going_on : List ℕ → Bool → List (List ℕ) → List ℕ
going_on opening begun [] = []
going_on opening begun (x ∷ xs) = separator opening begun ++ (x ++ going_on opening true xs)

-- whether a list has begun when these items are written too
abbrev pub begun_after : Bool → List (List ℕ) → Bool
begun_after begun [] = begun
begun_after begun (x ∷ xs) = true

-- what closes a list that has begun
abbrev pub closed_by : List ℕ → Bool → List ℕ
closed_by closing true = closing
closed_by closing false = []

-- a list in brackets; nothing where it has no items
abbrev pub bracketed_list : List ℕ → List ℕ → List (List ℕ) → List ℕ
bracketed_list opening closing xs = going_on opening false xs ++ closed_by closing (begun_after false xs)

-- the text of what is given, as the items of a list
abbrev pub text_if_given : {A : Type 0} → (A → List ℕ) → Option A → List (List ℕ)
text_if_given text None = []
text_if_given text (Some x) = text x ∷ []
