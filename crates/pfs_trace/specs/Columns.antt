-- The columns of a trace, and its header. (own)
use Rattle.std.specs.Prelude.{ℕ, ◌-◌, Bool, List, [], ◌∷◌, codes, unwrap_or}
use lib.Pointwise.{pointwise}
use Rattle.std.specs.Str.{bytes_eq}
use Rattle.csv.specs.Records.{field_at}
use Rattle.pfs_trace.specs.declared.columns.TheConstants.{HEADER}

-- the names of the nine columns
abbrev pub column_names : List (List ℕ)
column_names = codes "time" ∷ codes "dir" ∷ codes "if" ∷ codes "proto" ∷ codes "src" ∷ codes "sport" ∷ codes "dst" ∷ codes "dport" ∷ codes "flags" ∷ []

-- the header, with which the text of a trace begins
abbrev pub header_text : List ℕ
header_text = HEADER.now

-- a trace begins with the names of its columns
abbrev pub is_header : List (List ℕ) → Bool
is_header fields = pointwise bytes_eq fields column_names

-- the field of a column, which count from 1; nothing where there is none
abbrev pub column_of : List (List ℕ) → ℕ → List ℕ
column_of fields number = unwrap_or (field_at fields (number - 1)) []
