-- Sets of TCP flags, by the letters FSRPAUEW: the set that a text names, and the text of a set.
use Rattle.std.specs.Prelude.{ℕ, List, [], ◌++◌, Bool, true, false, Option, Some, None, if◌then◌else◌, ◌==◌, ◌||◌, codes}
use Rattle.std.specs.List.{list_all, list_any}
use Rattle.pfs_addr_values.specs.declared.flag_sets.Flags.{Flags}

-- one of the letters FSRPAUEW
abbrev pub is_flag_letter : ℕ → Bool
is_flag_letter b = (b == 70) || (b == 83) || (b == 82) || (b == 80) || (b == 65) || (b == 85) || (b == 69) || (b == 87)

-- whether a letter occurs in a text
abbrev pub names_letter : ℕ → List ℕ → Bool
names_letter letter text = list_any (λ b. b == letter) text

-- the flags that a text names, where all its bytes are letters of flags
abbrev pub flags_of : List ℕ → Option Flags
flags_of text =
    if list_all is_flag_letter text
    then Some (record {
      fin = names_letter 70 text;
      syn = names_letter 83 text;
      rst = names_letter 82 text;
      psh = names_letter 80 text;
      ack = names_letter 65 text;
      urg = names_letter 85 text;
      ece = names_letter 69 text;
      cwr = names_letter 87 text;
    })
    else None

-- the letter of a flag that is set
abbrev pub letter_text : Bool → List ℕ → List ℕ
letter_text true letter = letter
letter_text false letter = []

-- the letters of flags, in the order FSRPAUEW
abbrev pub letters_text : Flags → List ℕ
letters_text f =
    letter_text f.fin (codes "F") ++ (letter_text f.syn (codes "S") ++ (letter_text f.rst (codes "R")
    ++ (letter_text f.psh (codes "P") ++ (letter_text f.ack (codes "A") ++ (letter_text f.urg (codes "U")
    ++ (letter_text f.ece (codes "E") ++ letter_text f.cwr (codes "W")))))))
