-- What single words say where a name, a protocol, a port or a set of flags is asked for. (pf.conf(5), PARAMETERS and GRAMMAR)
use Rattle.std.specs.Prelude.{ℕ, Bool, true, false, List, length, Option, Some, None, nat_le, nat_lt, ◌==◌, if◌then◌else◌}
use Rattle.pfs_conf_tokens.specs.Tokens.{Tok}
use Rattle.pfs_conf_tokens.specs.Keys.{is_word_key}
use Rattle.pfs_conf_tokens.specs.Words.{key_of_text}
use Rattle.pfs_conf_tokens.specs.Numbers.{number_written, split_around}
use Rattle.pfs_conf_tokens.specs.Values.{in_word}
use Rattle.pfs_conf_tokens.specs.declared.keys.Key.{Key}
use Rattle.pfs_conf_tokens.specs.declared.keys.Key.TheVariants as key
use Rattle.pfs_addr_values.specs.Names.{name_of}
use Rattle.pfs_addr_values.specs.FlagSets.{flags_of}
use Rattle.pfs_addr_values.specs.declared.flag_sets.Flags.{Flags}
use Rattle.pfs_conf_values.specs.declared.filters.Ports.{Ports}
use Rattle.pfs_conf_values.specs.declared.filters.FlagTest.{FlagTest}
use Rattle.pfs_conf_values.specs.declared.filters.FlagTest.TheVariants as test

-- what a token says to those who ask for a word that is none of the grammar's own, as an address is
abbrev pub is_plain_word : Key → Bool
is_plain_word key.Number = true
is_plain_word key.Name = true
is_plain_word _ = false

abbrev pub in_plain_word : {A : Type 0} → (List ℕ → Option A) → Tok → Option A
in_plain_word value t = if is_plain_word t.key then value t.text else None

-- words that may name an interface: all but `any` and `rdomain`
abbrev pub may_name_interface : Key → Bool
may_name_interface key.Any = false
may_name_interface key.Rdomain = false
may_name_interface k = is_word_key k

-- the name of an interface, of 1 to 15 bytes
abbrev pub interface_name : Tok → Option (List ℕ)
interface_name t = if may_name_interface t.key then name_of 15 t.text else None

-- the name of a tag, of 1 to 63 bytes
abbrev pub tag_name : Tok → Option (List ℕ)
tag_name t = in_word (name_of 63) t

-- ports are at most 65535
abbrev pub port_numbered : Option ℕ → Option ℕ
port_numbered None = None
port_numbered (Some n) = if nat_lt n 65536 then Some n else None

-- a port is a number or one of the names of services(5) that this profile knows
abbrev pub port_by : List ℕ → Key → Option ℕ
port_by text key.Ssh = Some 22
port_by text key.Smtp = Some 25
port_by text key.Domain = Some 53
port_by text key.Www = Some 80
port_by text key.Http = Some 80
port_by text key.Https = Some 443
port_by text key.Number = port_numbered (number_written text)
port_by text _ = None

unfoldable pub port_of : List ℕ → Option ℕ
port_of text = port_by text (key_of_text text)

-- one port is a range of its own
abbrev pub one_port : Option ℕ → Option Ports
one_port None = None
one_port (Some n) = Some (record { low = n; high = n })

-- a range has its ends in order
abbrev pub port_range : Option ℕ → Option ℕ → Option Ports
port_range None high = None
port_range (Some low) None = None
port_range (Some low) (Some high) = if nat_le low high then Some (record { low = low; high = high }) else None

abbrev pub ports_around : List ℕ → Option (List ℕ × List ℕ) → Option Ports
ports_around text None = one_port (port_of text)
ports_around text (Some ends) = port_range (port_of ends.0) (port_of ends.1)

-- P, or P:Q for the ports from P to Q
unfoldable pub ports_of : List ℕ → Option Ports
ports_of text = ports_around text (split_around 58 text)

-- a/b asks that of the flags b exactly a are set; a may be empty, b not
abbrev pub exactly : Option Flags → Option Flags → Option FlagTest
exactly None among = None
exactly (Some set) None = None
exactly (Some set) (Some among) = Some (test.Exactly set among)

abbrev pub flags_around : Option (List ℕ × List ℕ) → Option FlagTest
flags_around None = None
flags_around (Some parts) = if length parts.1 == 0 then None else exactly (flags_of parts.0) (flags_of parts.1)

unfoldable pub flag_test_of : List ℕ → Option FlagTest
flag_test_of text = flags_around (split_around 47 text)

-- `any` asks nothing
abbrev pub flag_test_by : List ℕ → Key → Option FlagTest
flag_test_by text key.Any = Some test.Any
flag_test_by text k = if is_word_key k then flag_test_of text else None

abbrev pub flag_test : Tok → Option FlagTest
flag_test t = flag_test_by t.text t.key
