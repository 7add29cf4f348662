-- Worked examples of the definitions, each by computation.
use Rattle.std.proofs.Common.{◌≡◌, ℕ, None, Some, Option, Ok, List, [], ◌∷◌, refl}
use Rattle.pfs_capture_files.specs.Classic.{record_frame}
use Rattle.pfs_capture_files.specs.Frames.{frame_moment, simple_frame}
use Rattle.pfs_capture_files.specs.Interfaces.{interface_of}
use Rattle.pfs_capture_files.specs.Options.{find_option}
use Rattle.pfs_capture_files.specs.declared.classic.FileHeader.{FileHeader}
use Rattle.pfs_capture_files.specs.declared.classic.LengthOrder.TheVariants.{KeptFirst}
use Rattle.pfs_capture_files.specs.declared.classic.Precision.{Precision}
use Rattle.pfs_capture_files.specs.declared.classic.Precision.TheVariants.{Microseconds, Nanoseconds}
use Rattle.pfs_capture_files.specs.declared.frames.Moment.TheVariants.{At, Outside, Untold}
use Rattle.pfs_capture_files.specs.declared.interfaces.InterfaceBlock.{InterfaceBlock}
use Rattle.pfs_capture_files.specs.declared.orders.Order.TheVariants.{Big}

-- ---- the records of a pcap file

abbrev header_in : Precision → FileHeader
header_in precision = record { order = Big; precision = precision; lengths = KeptFirst; link = 1 }

-- the header of a record of 60 bytes in second 7, which goes on by these four bytes
abbrev head_with : ℕ → ℕ → ℕ → ℕ → List ℕ
head_with a b c d = 0 ∷ 0 ∷ 0 ∷ 7 ∷ a ∷ b ∷ c ∷ d ∷ 0 ∷ 0 ∷ 0 ∷ 60 ∷ 0 ∷ 0 ∷ 0 ∷ 60 ∷ []

-- 123,456 microseconds, and as many nanoseconds
microseconds : record_frame (header_in Microseconds) (head_with 0 1 226 64) ≡ Ok (record { link = 1; name = None; moment = At 7 123456000; from = 0; count = 60 })
microseconds = refl

nanoseconds : record_frame (header_in Nanoseconds) (head_with 0 1 226 64) ≡ Ok (record { link = 1; name = None; moment = At 7 123456; from = 0; count = 60 })
nanoseconds = refl

-- a million microseconds are no part of a second
whole_second : record_frame (header_in Microseconds) (head_with 0 15 66 64) ≡ Ok (record { link = 1; name = None; moment = At 7 999999999; from = 0; count = 60 })
whole_second = refl

-- ---- the names of interfaces

-- what a block says of an interface: 1,024 bytes of a frame are kept, its name has these four bytes, and its moments are in nanoseconds
abbrev described_with : ℕ → ℕ → ℕ → ℕ → List ℕ
described_with a b c d = 0 ∷ 0 ∷ 4 ∷ 0 ∷ 0 ∷ 2 ∷ 0 ∷ 4 ∷ a ∷ b ∷ c ∷ d ∷ 0 ∷ 9 ∷ 0 ∷ 1 ∷ 9 ∷ 0 ∷ 0 ∷ 0 ∷ 0 ∷ 0 ∷ 0 ∷ 0 ∷ []

abbrev named : Option (List ℕ) → InterfaceBlock
named name = record { link = 1; name = name; kept = 1024; units = 1000000000; offset = 0 }

-- `vio0`, and `em0` with a zero behind it
four_letters : interface_of Big 1 (described_with 118 105 111 48) ≡ Ok (named (Some (118 ∷ 105 ∷ 111 ∷ 48 ∷ [])))
unfolding find_option
four_letters = refl

zero_behind : interface_of Big 1 (described_with 101 109 48 0) ≡ Ok (named (Some (101 ∷ 109 ∷ 48 ∷ [])))
unfolding find_option
zero_behind = refl

-- `em/0` is no name of pf's, and four zeros are none
no_name : interface_of Big 1 (described_with 101 109 47 48) ≡ Ok (named None)
unfolding find_option
no_name = refl

zeros : interface_of Big 1 (described_with 0 0 0 0) ≡ Ok (named None)
unfolding find_option
zeros = refl

-- a frame has the name of its interface
frame_named : simple_frame (named (Some (101 ∷ 109 ∷ 48 ∷ []))) 2 (1 ∷ 2 ∷ []) ≡ Ok (record { link = 1; name = Some (101 ∷ 109 ∷ 48 ∷ []); moment = Untold; from = 0; count = 2 })
frame_named = refl

-- ---- the moments of an interface

-- an interface of so many units a second, and of this offset
abbrev counting : ℕ → ℕ → InterfaceBlock
counting units offset = record { link = 1; name = None; kept = 0; units = units; offset = offset }

millionths : frame_moment (counting 1000000 0) 7123456 ≡ At 7 123456000
millionths = refl

-- what is less than a nanosecond is cut off
trillionths : frame_moment (counting 1000000000000 0) 7000000001999 ≡ At 7 1
trillionths = refl

halves : frame_moment (counting 2 0) 7 ≡ At 3 500000000
halves = refl

-- the finest units, and the greatest number of them
finest_tens : frame_moment (counting 10000000000000000000 0) 18446744073709551615 ≡ At 1 844674407
finest_tens = refl

finest_twos : frame_moment (counting 9223372036854775808 0) 18446744073709551615 ≡ At 1 999999999
finest_twos = refl

-- an offset of two seconds back moves the second alone
back : frame_moment (counting 1000000000 18446744073709551614) 5000000001 ≡ At 3 1
back = refl

too_far_back : frame_moment (counting 1000000000 18446744073709551614) 1999999999 ≡ Outside
too_far_back = refl
