-- Words that mean the same to both programs. (own)
use Rattle.std.specs.Prelude.{◌≡◌, List, codes, Bool, true, false, Option, Some, None, if◌then◌else◌}
use Rattle.std.specs.Str.{bytes_eq}
use Rattle.clap.specs.Words.{Row, Rule, Text, new_rule, one_of}
use Rattle.clap.specs.declared.builder.action.ArgAction.TheVariants.{SetTrue}

-- a flag by its long name, which is also its id
abbrev pub flag_rule : Text → Rule
flag_rule id = record (new_rule id) { long = Some id; action = Some SetTrue }

-- the flag for each line as it happens (the word of grep)
abbrev pub lines_flag : Text
lines_flag = codes "line-buffered"

-- whether the flag for each line as it happens stands among the words of these entries
abbrev pub ByLinesIn : List Row → Bool → Type 0
ByLinesIn rows given =
    (one_of lines_flag rows ≡ None → given ≡ false)
    × (one_of lines_flag rows ≡ Some (codes "true") → given ≡ true)
    × (one_of lines_flag rows ≡ Some (codes "false") → given ≡ false)

-- whether a name stands for standard input; a file of that name is `./-`
abbrev pub is_standard : Text → Bool
is_standard name = bytes_eq name (codes "-")

-- the file of a name, where it does not stand for standard input
abbrev pub file_of : Text → Option Text
file_of name = if is_standard name then None else Some name
