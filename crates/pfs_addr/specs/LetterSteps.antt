-- Flags as the reader of a text finds them, letter by letter. (not promised)
use Rattle.std.specs.Prelude.{ℕ, List, false, ◌==◌, ◌||◌}
use Rattle.pfs_addr_values.specs.FlagSets.{names_letter}
use Rattle.pfs_addr_values.specs.declared.flag_sets.Flags.{Flags}

-- no flag is set
abbrev pub no_letter : Flags
no_letter = record { fin = false; syn = false; rst = false; psh = false; ack = false; urg = false; ece = false; cwr = false }

-- flags with that of one letter more
abbrev pub with_letter : Flags → ℕ → Flags
with_letter f letter = record {
  fin = f.fin || (letter == 70);
  syn = f.syn || (letter == 83);
  rst = f.rst || (letter == 82);
  psh = f.psh || (letter == 80);
  ack = f.ack || (letter == 65);
  urg = f.urg || (letter == 85);
  ece = f.ece || (letter == 69);
  cwr = f.cwr || (letter == 87);
}

-- flags with those that a text names
abbrev pub with_letters : Flags → List ℕ → Flags
with_letters f text = record {
  fin = f.fin || names_letter 70 text;
  syn = f.syn || names_letter 83 text;
  rst = f.rst || names_letter 82 text;
  psh = f.psh || names_letter 80 text;
  ack = f.ack || names_letter 65 text;
  urg = f.urg || names_letter 85 text;
  ece = f.ece || names_letter 69 text;
  cwr = f.cwr || names_letter 87 text;
}
