-- The frames of a capture of bytes are bytes, and so are the numbers in them small.
use Rattle.std.proofs.Common.{◌≡◌, ◌≤◌, ◌<◌, ◌+◌, ◌⊎◌, inl, inr, ℕ, suc, zero, List, length, drop, refl, arith}
use Rattle.std.specs.Prelude.{Err, Ok, Result, slice_index}
use Rattle.std.specs.List.{AllByRecursion}
use Rattle.std.proofs.lemmas.Bool.{cases_lt}
use Rattle.std.proofs.lemmas.List.{get_or_past}
use Rattle.pfs_capture_files.specs.Forms.{ReadTurn, turn_of}
use Rattle.pfs_capture_files.specs.declared.faults.FileFault.{FileFault}
use Rattle.pfs_capture_files.specs.declared.forms.Form.{Form}
use Rattle.pfs_capture_files.specs.declared.frames.FileItem.{FileItem}
use Rattle.pfs_capture_files.specs.declared.frames.FileItem.TheVariants as item
use Rattle.pfs_capture_files.proofs.Octets.{AreBytes, HasBytes, bytes-drop, bytes-take, turn-bytes}
use Rattle.pfs_capture_packets.specs.Bytes.{octets_at, u16_at}
use Rattle.pfs_capture.specs.Captures.{Frames, SeenFrame, at_item, at_turn, frames_from}

pub octets-bytes : (xs : List ℕ) (at n : ℕ) → AreBytes xs → AreBytes (octets_at xs at n)
octets-bytes xs at n h = bytes-take n (drop at xs) (bytes-drop at xs h)

pub byte-at : (xs : List ℕ) (i : ℕ) → AreBytes xs → slice_index xs i < 256
byte-at xs i h = by (cases_lt i (length xs))
  where
    by : ((i < length xs) ⊎ (length xs ≤ i)) → slice_index xs i < 256
    by (inl within) = h i 0 within
    by (inr past) = rw (get_or_past xs i 0 past) (omega arith)

pub u16-small : (xs : List ℕ) (at : ℕ) → AreBytes xs → u16_at xs at ≤ 65535
u16-small xs at h = omega (arith, byte-at xs at h, byte-at xs (at + 1) h)

-- ---- the frames

abbrev pub AreFramesOfBytes : List SeenFrame → Type 0
AreFramesOfBytes fs = AllByRecursion (λ (f : SeenFrame). AreBytes f.octets) fs

item-frames : (i : FileItem) (held : List ℕ) (more : Frames) → AreBytes held → AreFramesOfBytes more.0 → AreFramesOfBytes (at_item i held more).0
item-frames item.End held more h m = tt
item-frames item.Other held more h m = m
item-frames (item.Frame f) held more h m = (octets-bytes held f.from f.count h, m)

turn-frames : (r : Result ReadTurn FileFault) (more : Form → List ℕ → Frames) → ((t : ReadTurn) → r ≡ Ok t → HasBytes t)
    → ((f : Form) (xs : List ℕ) → AreBytes xs → AreFramesOfBytes (more f xs).0) → AreFramesOfBytes (at_turn r more).0
turn-frames (Err e) more h m = tt
turn-frames (Ok t) more h m = let b = h t refl in item-frames t.item t.held (more t.form t.left) b.held (m t.form t.left b.left)

pub frames-bytes : (n : ℕ) (f : Form) (xs : List ℕ) → AreBytes xs → AreFramesOfBytes (frames_from n f xs).0
unfolding frames_from
frames-bytes zero f xs h = tt
frames-bytes (suc n) f xs h = turn-frames (turn_of f xs) (frames_from n) (λ t e. turn-bytes f xs t h e) (λ g ys k. frames-bytes n g ys k)
