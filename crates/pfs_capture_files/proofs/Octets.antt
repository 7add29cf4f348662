-- What is read of a file of bytes is bytes.
use Rattle.std.proofs.Common.{◌≡◌, ◌<◌, ℕ, Bool, true, false, All, List, [], length, refl, take, drop, subst, if◌then◌else◌, nat_lt, ◌==◌}
use Rattle.std.specs.Prelude.{Err, Ok, Result}
use Rattle.std.proofs.lemmas.List.Elements.{All-drop, All-take}
use Rattle.pfs_capture_files.specs.Blocks.{block_head}
use Rattle.pfs_capture_files.specs.Classic.{record_frame}
use Rattle.pfs_capture_files.specs.Forms.{ReadTurn, block_turn, blocks_start, classic_form, classic_start, frame_turn, record_turn, rest_turn, start_at, start_of, turn_of, what_begins}
use Rattle.pfs_capture_files.specs.Interfaces.{then_known}
use Rattle.pfs_capture_files.specs.Known.{Known}
use Rattle.pfs_capture_files.specs.declared.blocks.BlockHead.{BlockHead}
use Rattle.pfs_capture_files.specs.declared.classic.FileHeader.{FileHeader}
use Rattle.pfs_capture_files.specs.declared.faults.FileFault.{FileFault}
use Rattle.pfs_capture_files.specs.declared.forms.Form.{Form}
use Rattle.pfs_capture_files.specs.declared.forms.Form.TheVariants as form
use Rattle.pfs_capture_files.specs.declared.classic.LengthOrder.{LengthOrder}
use Rattle.pfs_capture_files.specs.declared.classic.Precision.{Precision}
use Rattle.pfs_capture_files.specs.declared.forms.Start.{Start}
use Rattle.pfs_capture_files.specs.declared.forms.Start.TheVariants as start
use Rattle.pfs_capture_files.specs.declared.orders.Order.{Order}
use Rattle.pfs_capture_files.specs.declared.orders.Order.TheVariants.{Big}
use Rattle.pfs_capture_files.specs.declared.frames.Frame.{Frame}
use Rattle.pfs_capture_files.specs.declared.frames.FileItem.{FileItem}
use Rattle.pfs_capture_files.specs.declared.frames.FileItem.TheVariants as item

abbrev pub AreBytes : List ℕ → Type 0
AreBytes xs = All (λ b. b < 256) xs

pub bytes-take : (n : ℕ) (xs : List ℕ) → AreBytes xs → AreBytes (take n xs)
bytes-take n xs h = All-take (λ b. b < 256) n xs h

pub bytes-drop : (n : ℕ) (xs : List ℕ) → AreBytes xs → AreBytes (drop n xs)
bytes-drop n xs h = All-drop (λ b. b < 256) n xs h

-- ---- the items of a capture

-- what follows from a part that is known
known : {A B : Type 0} {P : Type 0} (r : Result A FileFault) (more : A → Result B FileFault) (y : B) → ((x : A) → more x ≡ Ok y → P) → then_known r more ≡ Ok y → P
known (Ok x) more y f h = f x h
known (Err e) more y f h = cc

-- a turn holds bytes, and leaves bytes
pub record HasBytes (t : ReadTurn) : Type 0 where
  pub held : AreBytes t.held
  pub left : AreBytes t.left

turn-here : (b : Bool) (x : Result ReadTurn FileFault) (form : Form) (item : FileItem) (n : ℕ) (xs : List ℕ) (t : ReadTurn) → AreBytes xs → (x ≡ Ok t → HasBytes t)
    → (if b then Ok (record { form = form; item = item; held = take n xs; left = drop n xs }) else x) ≡ Ok t → HasBytes t
turn-here true x form item n xs t h f e =
    let same : record { form = form; item = item; held = take n xs; left = drop n xs } ≡ t = cc in
    rw (← same) (record { held = bytes-take n xs h; left = bytes-drop n xs h })
turn-here false x form item n xs t h f e = f e

turn-cut : (b : Bool) (fault : FileFault) (x : Result ReadTurn FileFault) (t : ReadTurn) → (x ≡ Ok t → HasBytes t) → (if b then Err fault else x) ≡ Ok t → HasBytes t
turn-cut true fault x t f e = cc
turn-cut false fault x t f e = f e

abbrev good : ReadTurn → Result ReadTurn FileFault
good t = Ok t

-- two turns that are found are the same
abbrev same_turn : ReadTurn → ReadTurn → Type 0
same_turn a b = good a ≡ good b

made : (form : Form) (item : FileItem) (n : ℕ) (xs : List ℕ) (t : ReadTurn) → AreBytes xs → same_turn (record { form = form; item = item; held = take n xs; left = drop n xs }) t → HasBytes t
made form item n xs t h e =
    let same : record { form = form; item = item; held = take n xs; left = drop n xs } ≡ t = cc in
    rw (← same) (record { held = bytes-take n xs h; left = bytes-drop n xs h })

frame-bytes : (header : FileHeader) (frame : Frame) (xs : List ℕ) (t : ReadTurn) → AreBytes xs → frame_turn header frame xs ≡ Ok t → HasBytes t
frame-bytes header frame xs t h e =
    turn-cut (nat_lt (length (take frame.count xs)) frame.count) _ _ t (made (form.Classic header) (item.Frame frame) frame.count xs t h) e

record-bytes : (header : FileHeader) (xs : List ℕ) (t : ReadTurn) → AreBytes xs → record_turn header xs ≡ Ok t → HasBytes t
record-bytes header xs t h e =
    turn-here (length (take 16 xs) == 0) _ (form.Classic header) item.End 16 xs t h
    (known (record_frame header (take 16 xs)) (λ frame. frame_turn header frame (drop 16 xs)) t (λ frame f. frame-bytes header frame (drop 16 xs) t (bytes-drop 16 xs h) f)) e

rest-bytes : (k : Known) (head : BlockHead) (xs : List ℕ) (t : ReadTurn) → AreBytes xs → rest_turn k head xs ≡ Ok t → HasBytes t
rest-bytes k head xs t h e =
    turn-cut (nat_lt (length (take head.count xs)) head.count) _ _ t
    (known _ (λ r. Ok (record { form = form.Blocks r.0; item = r.1; held = take head.count xs; left = drop head.count xs })) t (λ r f. made (form.Blocks r.0) r.1 head.count xs t h f)) e

block-bytes : (k : Known) (xs : List ℕ) (t : ReadTurn) → AreBytes xs → block_turn k xs ≡ Ok t → HasBytes t
block-bytes k xs t h e =
    turn-here (length (take 12 xs) == 0) _ (form.Blocks k) item.End 12 xs t h
    (known (block_head k.order (take 12 xs)) (λ head. rest_turn k head (drop 12 xs)) t (λ head f. rest-bytes k head (drop 12 xs) t (bytes-drop 12 xs h) f)) e

pub turn-bytes : (f : Form) (xs : List ℕ) (t : ReadTurn) → AreBytes xs → turn_of f xs ≡ Ok t → HasBytes t
turn-bytes (form.Classic header) xs t h e = record-bytes header xs t h e
turn-bytes (form.Blocks k) xs t h e = block-bytes k xs t h e

-- ---- the beginning of a file

begun-classic : (order : Order) (precision : Precision) (lengths : LengthOrder) (xs : List ℕ) (r : Form × List ℕ) → AreBytes xs → classic_start order precision lengths xs ≡ Ok r → AreBytes r.1
begun-classic order precision lengths xs r h e =
    known (classic_form order precision lengths (take 12 xs)) _ r (λ f g. let same : (f, drop 12 xs) ≡ r = cc in subst (λ (p : Form × List ℕ). AreBytes p.1) same (bytes-drop 12 xs h)) e

begun-blocks : (first xs : List ℕ) (r : Form × List ℕ) → AreBytes xs → blocks_start first xs ≡ Ok r → AreBytes r.1
begun-blocks first xs r h e =
    known (block_head Big first) _ r (λ head f.
    turned (record { order = head.order; interfaces = [] }) head f) e
  where
    turned : (k : Known) (head : BlockHead) → then_known (rest_turn k head xs) (λ t. Ok (t.form, t.left)) ≡ Ok r → AreBytes r.1
    turned k head f = by (rest_turn k head xs) refl f
      where
        by : (q : Result ReadTurn FileFault) → rest_turn k head xs ≡ q → then_known q (λ t. Ok (t.form, t.left)) ≡ Ok r → AreBytes r.1
        by (Err x) t g = cc
        by (Ok turn) t g = let same : (turn.form, turn.left) ≡ r = cc in subst (λ (p : Form × List ℕ). AreBytes p.1) same (rest-bytes k head xs turn h t).left

pub begun-bytes : (xs : List ℕ) (r : Form × List ℕ) → AreBytes xs → start_of xs ≡ Ok r → AreBytes r.1
begun-bytes xs r h e = known (what_begins (take 12 xs)) _ r (λ s f. by s f) e
  where
    by : (s : Start) → start_at s xs ≡ Ok r → AreBytes r.1
    by (start.Classic order precision lengths) f = begun-classic order precision lengths (drop 12 xs) r (bytes-drop 12 xs h) f
    by start.Blocks f = begun-blocks (take 12 xs) (drop 12 xs) r (bytes-drop 12 xs h) f
