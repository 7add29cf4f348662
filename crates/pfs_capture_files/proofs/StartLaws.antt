-- Where so few bytes of a capture are read that its beginning needs no fewer, none behind that is read.
use Rattle.std.proofs.Common.{ℕ, ◌≡◌, ◌≤◌, Bool, true, false, List, [], length, length-drop, take, drop, Option, Some, Ok, Err, refl, sym, subst, arith, nat_lt}
use Rattle.std.specs.Prelude.{Result, if◌then◌else◌}
use Rattle.pfs_capture_files.specs.Blocks.{block_head, body_item}
use Rattle.pfs_capture_files.specs.Forms.{IsWithinStart, ReadTurn, blocks_start, classic_form, classic_start, rest_turn, start_at, start_of, what_begins}
use Rattle.pfs_capture_files.specs.Interfaces.{then_known}
use Rattle.pfs_capture_files.specs.Known.{Known}
use Rattle.pfs_capture_files.specs.declared.blocks.BlockHead.{BlockHead}
use Rattle.pfs_capture_files.specs.declared.classic.LengthOrder.{LengthOrder}
use Rattle.pfs_capture_files.specs.declared.classic.Precision.{Precision}
use Rattle.pfs_capture_files.specs.declared.faults.FileFault.{FileFault}
use Rattle.pfs_capture_files.specs.declared.faults.FileFault.TheVariants as fault
use Rattle.pfs_capture_files.specs.declared.forms.Form.{Form}
use Rattle.pfs_capture_files.specs.declared.forms.Form.TheVariants as form
use Rattle.pfs_capture_files.specs.declared.forms.Start.{Start}
use Rattle.pfs_capture_files.specs.declared.forms.Start.TheVariants as start
use Rattle.pfs_capture_files.specs.declared.frames.FileItem.{FileItem}
use Rattle.pfs_capture_files.specs.declared.orders.Order.{Order}
use Rattle.pfs_capture_files.specs.declared.orders.Order.TheVariants.{Big}

fewer : (xs : List ℕ) (k m : ℕ) → k ≤ m → length (drop m xs) ≤ length (drop k xs)
fewer xs k m h = omega (arith, length-drop k xs, length-drop m xs)

pub classic_within : (order : Order) (precision : Precision) (lengths : LengthOrder) (xs : List ℕ) (left : Option (List ℕ)) (k : ℕ) → k ≤ 12 → left ≡ Some (drop k xs) → IsWithinStart (classic_start order precision lengths xs) left
classic_within order precision lengths xs left k few e = go (classic_form order precision lengths (take 12 xs))
  where
    go : (r : Result Form FileFault) → IsWithinStart (then_known r (λ f. Ok (f, drop 12 xs))) left
    go (Ok f) = (drop k xs, e, fewer xs k 12 few)
    go (Err g) = tt

rest_within : (known : Known) (head : BlockHead) (xs : List ℕ) (left : Option (List ℕ)) (k : ℕ) → k ≤ head.count → left ≡ Some (drop k xs)
    → IsWithinStart (then_known (rest_turn known head xs) (λ t. Ok (t.form, t.left))) left
rest_within known head xs left k few e = go (nat_lt (length (take head.count xs)) head.count) (body_item known head (take head.count xs))
  where
    turn : Bool → Result (Known × FileItem) FileFault → Result ReadTurn FileFault
    turn short step = if short then Err fault.Cut else then_known step (λ r. Ok (record { form = form.Blocks r.0; item = r.1; held = take head.count xs; left = drop head.count xs }))

    go : (short : Bool) (step : Result (Known × FileItem) FileFault) → IsWithinStart (then_known (turn short step) (λ t. Ok (t.form, t.left))) left
    go true step = tt
    go false (Ok r) = (drop k xs, e, fewer xs k head.count few)
    go false (Err g) = tt

-- how a pcapng file begins, by its first block's head
abbrev headed : Result BlockHead FileFault → List ℕ → Result (Form × List ℕ) FileFault
headed r xs = then_known r (λ head. then_known (rest_turn (record { order = head.order; interfaces = [] }) head xs) (λ t. Ok (t.form, t.left)))

pub blocks_within : (first xs : List ℕ) (head : BlockHead) (left : Option (List ℕ)) (k : ℕ) → block_head Big first ≡ Ok head → k ≤ head.count → left ≡ Some (drop k xs)
    → IsWithinStart (blocks_start first xs) left
blocks_within first xs head left k is few e =
    subst (λ (r : Result BlockHead FileFault). IsWithinStart (headed r xs) left) (sym is) (rest_within (record { order = head.order; interfaces = [] }) head xs left k few e)

-- nothing behind its first twelve bytes is read
pub blocks_unread : (first xs : List ℕ) (left : Option (List ℕ)) → left ≡ Some xs → IsWithinStart (blocks_start first xs) left
blocks_unread first xs left e = go (block_head Big first)
  where
    go : (r : Result BlockHead FileFault) → IsWithinStart (headed r xs) left
    go (Ok head) = rest_within (record { order = head.order; interfaces = [] }) head xs left 0 (omega arith) e
    go (Err g) = tt

longer : (r : Result (Form × List ℕ) FileFault) (ys zs : List ℕ) (left : Option (List ℕ)) → IsWithinStart r (Some ys) → length ys ≤ length zs → left ≡ Some zs → IsWithinStart r left
longer (Ok begun) ys zs left (ws, e, h) more is =
    let same : length ys ≡ length ws = cc in
    (zs, is, omega (arith, h, more, same))
longer (Err f) ys zs left h more is = tt

pub start_within : (xs : List ℕ) (left : Option (List ℕ)) (k : ℕ) → k ≤ 12 → left ≡ Some (drop k xs) → IsWithinStart (start_of xs) left
start_within xs left k few e = go (what_begins (take 12 xs))
  where
    go : (r : Result Start FileFault) → IsWithinStart (then_known r (λ s. start_at s xs)) left
    go (Ok (start.Classic order precision lengths)) =
        longer (classic_start order precision lengths (drop 12 xs)) (drop 12 xs) (drop k xs) left (classic_within order precision lengths (drop 12 xs) (Some (drop 12 xs)) 0 (omega arith) refl) (fewer xs k 12 few) e
    go (Ok start.Blocks) =
        longer (blocks_start (take 12 xs) (drop 12 xs)) (drop 12 xs) (drop k xs) left (blocks_unread (take 12 xs) (drop 12 xs) (Some (drop 12 xs)) refl) (fewer xs k 12 few) e
    go (Err g) = tt
