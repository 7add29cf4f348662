-- In which direction a state was made, and its tag, as its record keeps both. (own)
use Rattle.std.proofs.Common.{ap, refl, sym}
use Rattle.std.specs.Prelude.{ℕ, ◌≡◌, Option, Some, None, ⊤}
use Rattle.pfs_addr_values.specs.declared.packets.Dir.{Dir}
use Rattle.pfs_addr_values.specs.declared.packets.Dir.TheVariants as dir
use Rattle.pfs_addr_values.specs.declared.packets.TagNo.{TagNo}
use Rattle.pfs_store_records.specs.declared.packed_state.StateSide.{StateSide}
use Rattle.pfs_store_records.specs.declared.packed_state.StateSide.TheVariants as side

-- the direction
abbrev pub dir_of_side : StateSide → Dir
dir_of_side side.In = dir.In
dir_of_side side.Out = dir.Out
dir_of_side side.TaggedIn = dir.In
dir_of_side side.TaggedOut = dir.Out

-- the tag, where this is the number that is kept of it
abbrev pub tag_at_side : StateSide → ℕ → Option TagNo
tag_at_side side.In number = None
tag_at_side side.Out number = None
tag_at_side side.TaggedIn number = Some (record { 0 = number })
tag_at_side side.TaggedOut number = Some (record { 0 = number })

-- the same, and the number, from both
abbrev pub side_from : Dir → Option TagNo → StateSide
side_from dir.In None = side.In
side_from dir.Out None = side.Out
side_from dir.In (Some tag) = side.TaggedIn
side_from dir.Out (Some tag) = side.TaggedOut

abbrev pub number_of_tag : Option TagNo → ℕ
number_of_tag None = 0
number_of_tag (Some tag) = tag.0

-- the number is 0 where there is no tag
abbrev pub IsTagAt : StateSide → ℕ → Type 0
IsTagAt side.In number = number ≡ 0
IsTagAt side.Out number = number ≡ 0
IsTagAt side.TaggedIn number = ⊤
IsTagAt side.TaggedOut number = ⊤

-- a side and the number of a tag follow from what they say
pub side_back : (s : StateSide) (number : ℕ) → IsTagAt s number
    → ◌≡◌ {A = StateSide × ℕ} (side_from (dir_of_side s) (tag_at_side s number), number_of_tag (tag_at_side s number)) (s, number)
side_back side.In number h = ap (λ (n : ℕ). (side.In, n)) (sym h)
side_back side.Out number h = ap (λ (n : ℕ). (side.Out, n)) (sym h)
side_back side.TaggedIn number h = refl
side_back side.TaggedOut number h = refl
