-- A record whose bytes are all there is the frame that its header describes, and such a block holds what its body says.
use Rattle.std.proofs.Common.{ℕ, ◌≡◌, ◌≤◌, List, length, take, drop, Option, Some, Ok, Err, inl, inr, sym, ap, ◌∙◌, arith, nat_lt, false}
use Rattle.std.specs.Prelude.{Result}
use Rattle.std.proofs.lemmas.Bool.{cond-false, le-ltb}
use Rattle.pfs_capture_files.specs.Blocks.{TakesItem, body_item}
use Rattle.pfs_capture_files.specs.Faults.{is_outside}
use Rattle.pfs_capture_files.specs.Forms.{ReadsItem, ReadTurn, frame_turn, rest_turn}
use Rattle.pfs_capture_files.specs.Interfaces.{then_known}
use Rattle.pfs_capture_files.specs.Known.{Known}
use Rattle.pfs_capture_files.specs.declared.blocks.BlockHead.{BlockHead}
use Rattle.pfs_capture_files.specs.declared.classic.FileHeader.{FileHeader}
use Rattle.pfs_capture_files.specs.declared.faults.FileFault.{FileFault}
use Rattle.pfs_capture_files.specs.declared.frames.Frame.{Frame}
use Rattle.pfs_capture_files.specs.declared.frames.FileItem.{FileItem}
use Rattle.pfs_capture_files.specs.declared.frames.FileItem.TheVariants as item
use Rattle.pfs_capture_files.specs.declared.forms.Form.TheVariants as form

pub frame_whole : (header : FileHeader) (frame : Frame) (xs held : List ℕ) → held ≡ take frame.count xs → frame.count ≤ length held
    → frame_turn header frame xs ≡ Ok (record { form = form.Classic header; item = item.Frame frame; held = held; left = drop frame.count xs })
frame_whole header frame xs held e h =
    let n : length held ≡ length (take frame.count xs) = ap length e in
    let long : nat_lt (length (take frame.count xs)) frame.count ≡ false = le-ltb (length (take frame.count xs)) frame.count (omega arith) in
    cond-false (nat_lt (length (take frame.count xs)) frame.count) _ _ long
    ∙ ap (λ (z : List ℕ). Ok (record { form = form.Classic header; item = item.Frame frame; held = z; left = drop frame.count xs })) (sym e)

-- the turn of a block, by what its body gives
abbrev turn_from : Result (Known × FileItem) FileFault → (held left : List ℕ) → Result ReadTurn FileFault
turn_from step held left = then_known step (λ r. Ok (record { form = form.Blocks r.0; item = r.1; held = held; left = left }))

block_whole : (known : Known) (head : BlockHead) (xs held : List ℕ) → held ≡ take head.count xs → head.count ≤ length held
    → rest_turn known head xs ≡ turn_from (body_item known head held) held (drop head.count xs)
block_whole known head xs held e h =
    let n : length held ≡ length (take head.count xs) = ap length e in
    let long : nat_lt (length (take head.count xs)) head.count ≡ false = le-ltb (length (take head.count xs)) head.count (omega arith) in
    cond-false (nat_lt (length (take head.count xs)) head.count) _ _ long ∙ ap (λ (z : List ℕ). turn_from (body_item known head z) z (drop head.count xs)) (sym e)

pub reads_rest : (known after : Known) (head : BlockHead) (xs held : List ℕ) (result : Result FileItem FileFault) (left : Option (List ℕ))
    → held ≡ take head.count xs → left ≡ Some (drop head.count xs) → head.count ≤ length held
    → TakesItem (body_item known head held) result after → ReadsItem (rest_turn known head xs) result (form.Blocks after) held left
reads_rest known after head xs held (Ok found) left e l h takes =
    (drop head.count xs, l, block_whole known head xs held e h ∙ ap (λ (s : Result (Known × FileItem) FileFault). turn_from s held (drop head.count xs)) takes)
reads_rest known after head xs held (Err f) left e l h (inl memory) = λ o. absurd (cc (sym (ap is_outside memory) ∙ o))
reads_rest known after head xs held (Err f) left e l h (inr takes) =
    λ o. block_whole known head xs held e h ∙ ap (λ (s : Result (Known × FileItem) FileFault). turn_from s held (drop head.count xs)) takes
