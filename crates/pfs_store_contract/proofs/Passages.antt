-- The purges of seconds: one by one they come to the same as all, and they change nothing once nothing is held.
use Rattle.std.proofs.Common.{◌≡◌, ◌≤◌, ◌<◌, ◌+◌, ◌-◌, ◌==◌, ◌&&◌, ℕ, zero, suc, Bool, true, false, if◌then◌else◌, List, [], ◌∷◌, length, take, map, max, refl, ap, ◌∙◌, sym, arith}
use Rattle.std.specs.List.{range_with_len}
use Rattle.std.proofs.Math.Seq.{take-nil, drop-nil}
use Rattle.std.proofs.lemmas.Bool.Decides.{nat_tests}
use Rattle.pfs_conf_values.specs.Configs.{Conf}
use Rattle.pfs_store_contract.specs.Leaving.{node_after_leaving}
use Rattle.pfs_store_contract.specs.Passages.{Done, done_after, done_of, purged_both, purged_in, purged_of_none}
use Rattle.pfs_store_contract.specs.Purging.{node_numbers, node_share, node_slice, purge, round, state_numbers, state_share, state_slice}
use Rattle.pfs_store_contract.specs.Calls.{node_slice_of, state_slice_of}
use Rattle.pfs_store_contract.specs.Seconds.{purged_of, seconds, world_after_purges}
use Rattle.pfs_store_contract.specs.Worlds.{World, lists}
use Rattle.pfs_store_contract.specs.declared.records.Node.{Node}
use Rattle.pfs_store_contract.specs.declared.records.Purged.{Purged}
use Rattle.pfs_store_contract.specs.declared.records.Slice.{Slice}
use Rattle.pfs_store_contract.specs.declared.records.State.{State}

abbrev pub purged_with : ℕ → ℕ → ℕ → Purged
purged_with looks states nodes = record { looks = looks; most_states = states; most_nodes = nodes }

-- ---- all of them

looks-both : (counts : Bool) (l e m : ℕ) → max (max l (if counts then e else 0)) (if counts then m else 0) ≡ max l (if counts then max e m else 0)
looks-both true l e m = omega arith
looks-both false l e m = omega arith

max-both : (a b c : ℕ) → max (max a b) c ≡ max a (max b c)
max-both a b c = omega arith

max-none : (counts : Bool) (a : ℕ) → max a (if counts then 0 else 0) ≡ a
max-none true a = omega arith
max-none false a = omega arith

done-all : (counts : Bool) (conf : Conf) (w : World) (p : Purged) (ss : List ℕ)
    → done_after counts conf (done_of w p) ss ≡ done_of (world_after_purges conf w ss) (purged_both p (purged_of counts conf w ss))
done-all counts conf w p [] = λ i. done_of w (purged_with (sym (max-none counts p.looks) i) (sym (max-none true p.most_states) i) (sym (max-none true p.most_nodes) i))
done-all counts conf w p (s ∷ ss) =
    let after = purge conf w s in
    let one = purged_in counts conf w s in
    let more = purged_of counts conf after ss in
    done-all counts conf after (purged_both p one) ss
    ∙ (λ i. done_of (world_after_purges conf after ss) (purged_with (looks-both counts p.looks one.most_states more.most_states i)
    (max-both p.most_states one.most_states more.most_states i) (max-both p.most_nodes one.most_nodes more.most_nodes i)))

max-zero : (a : ℕ) → max 0 a ≡ a
max-zero a = omega arith

none_due : (to : ℕ) → seconds to to ≡ []
none_due to = let e : to - to ≡ 0 = omega arith in ap (λ n. range_with_len (to + 1) n) e

-- where all are done, the world and what is told are those of all
pub all-done : (counts : Bool) (conf : Conf) (w w' : World) (p : Purged) (second to : ℕ) (ss : List ℕ) → second ≤ to → to ≤ second
    → done_after counts conf (done_of w' p) (seconds second to) ≡ done_after counts conf (done_of w purged_of_none) ss
    → (w' ≡ world_after_purges conf w ss) × (p ≡ purged_of counts conf w ss)
all-done counts conf w w' p second to ss l h e =
    let here : second ≡ to = omega (arith, l, h) in
    let is : done_of w' p ≡ done_of (world_after_purges conf w ss) (purged_both purged_of_none (purged_of counts conf w ss)) =
    ap (done_after counts conf (done_of w' p)) (sym (ap (λ n. seconds n to) here ∙ none_due to)) ∙ e ∙ done-all counts conf w purged_of_none ss in
    let all = purged_of counts conf w ss in
    (ap (λ (d : Done). d.world) is, ap (λ (d : Done). d.purged) is ∙ (λ i. purged_with (max-zero all.looks i) (max-zero all.most_states i) (max-zero all.most_nodes i)))

-- ---- one second

-- the first second that is due
pub seconds_next : (from to : ℕ) → from < to → seconds from to ≡ (from + 1) ∷ seconds (from + 1) to
seconds_next from to h = let e : to - from ≡ suc (to - (from + 1)) = omega arith in ap (range_with_len (from + 1)) e

-- once it is done the others are left
pub one-done : (counts : Bool) (conf : Conf) (w w' : World) (p p' : Purged) (second to : ℕ) → second < to → w' ≡ purge conf w (second + 1)
    → p' ≡ purged_both p (purged_in counts conf w (second + 1))
    → done_after counts conf (done_of w' p') (seconds (second + 1) to) ≡ done_after counts conf (done_of w p) (seconds second to)
one-done counts conf w w' p p' second to l ew ep =
    (λ i. done_after counts conf (done_of (ew i) (ep i)) (seconds (second + 1) to)) ∙ ap (done_after counts conf (done_of w p)) (sym (seconds_next second to l))

-- the looks of a slice, where they are counted
looks-of : (counts : Bool) (n before after : ℕ) → before ≡ 0 → (counts ≡ true → after ≡ before + n) → (counts ≡ false → after ≡ before) → after ≡ (if counts then n else 0)
looks-of true n before after z on off = omega (arith, z, on refl)
looks-of false n before after z on off = omega (arith, z, off refl)

-- a slice of nodes examines what it looks at, where the looks are counted
most-of : (counts : Bool) (n looks : ℕ) → looks ≡ (if counts then n else 0) → max n looks ≡ n
most-of true n looks e = omega (arith, e)
most-of false n looks e = omega (arith, e)

-- ---- nothing is held

-- no state, no node, and no round begun
abbrev nothing : ℕ → World
nothing made = lists [] [] [] [] made

done-nothing : (counts : Bool) (conf : Conf) (made : ℕ) (p : Purged) (ss : List ℕ) → done_after counts conf (done_of (nothing made) p) ss ≡ done_of (nothing made) p
done-nothing counts conf made p [] = refl
done-nothing counts conf made p (s ∷ ss) =
    let stays : purge conf (nothing made) s ≡ nothing made = rw (drop-nil, drop-nil) refl in
    let states : (state_slice_of conf (nothing made) s).examined ≡ 0 = rw take-nil in
    let nodes : (node_slice_of conf (state_slice conf (nothing made) s) s).examined ≡ 0 = rw take-nil in
    let same : purged_both p (purged_in counts conf (nothing made) s) ≡ p =
    (λ i. purged_with (max p.looks (if counts then states i else 0)) (max p.most_states (states i)) (max p.most_nodes (nodes i)))
    ∙ (λ i. purged_with (max-none counts p.looks i) (max-none true p.most_states i) (max-none true p.most_nodes i)) in
    (λ i. done_after counts conf (done_of (stays i) (same i)) ss) ∙ done-nothing counts conf made p ss

none_taken : (k : ℕ) (xs : List ℕ) → 1 ≤ k → length (take k xs) ≡ 0 → xs ≡ []
none_taken k [] h e = refl
none_taken zero (x ∷ xs) h e = absurd (omega (arith, h))
none_taken (suc k) (x ∷ xs) h e = absurd (omega (arith, e))

none_mapped : {X Y : Type 0} (f : X → Y) (xs : List X) → map f xs ≡ [] → xs ≡ []
none_mapped f [] e = refl
none_mapped f (x ∷ xs) e = cc

no_round : (held pending : List ℕ) → round held pending ≡ [] → (held ≡ []) × (pending ≡ [])
no_round held [] e = (e, refl)
no_round held (n ∷ pending) e = cc

-- where a second examines nothing, nothing is held before it
nothing_held : (conf : Conf) (w : World) (s : ℕ) → (state_slice_of conf w s).examined ≡ 0
    → (node_slice_of conf (state_slice conf w s) s).examined ≡ 0 → w ≡ nothing w.made
nothing_held conf w s es en =
    let after = (state_slice conf w s).nodes in
    let sr = no_round (state_numbers w.states) w.pending_states (none_taken (state_share conf) (round (state_numbers w.states) w.pending_states) (omega arith) es) in
    let nr = no_round (node_numbers after) w.pending_nodes (none_taken (node_share conf) (round (node_numbers after) w.pending_nodes) (omega arith) en) in
    let states = none_mapped (λ (x : State). x.number) w.states sr.0 in
    let nodes = none_mapped (node_after_leaving conf w.states (state_slice conf w s).states s) w.nodes (none_mapped (λ (x : Node). x.number) after nr.0) in
    λ i. lists (states i) (nodes i) (sr.1 i) (nr.1 i) w.made

-- and then the others change nothing
none_of : (a b : ℕ) → ((a == 0) && (b == 0)) ≡ true → (a ≡ 0) × (b ≡ 0)
none_of a b h = go (a == 0) refl (b == 0) refl h
  where
    go : (x : Bool) → (a == 0) ≡ x → (y : Bool) → (b == 0) ≡ y → (x && y) ≡ true → (a ≡ 0) × (b ≡ 0)
    go true e true f k = (grind (arith, nat_tests, e), grind (arith, nat_tests, f))
    go true e false f k = absurd cc
    go false e y f k = absurd cc

pub next-done : (counts : Bool) (conf : Conf) (w w' : World) (p d p' : Purged) (second next to : ℕ) → second < to → w' ≡ purge conf w (second + 1)
    → d ≡ purged_in counts conf w (second + 1) → p' ≡ purged_both p d → next ≡ (if (d.most_states == 0) && (d.most_nodes == 0) then to else (second + 1))
    → (second < next) × (next ≤ to) × (done_after counts conf (done_of w' p') (seconds next to) ≡ done_after counts conf (done_of w p) (seconds second to))
next-done counts conf w w' p d p' second next to l ew ed ep en = go ((d.most_states == 0) && (d.most_nodes == 0)) refl
  where
    one : done_after counts conf (done_of w' p') (seconds (second + 1) to) ≡ done_after counts conf (done_of w p) (seconds second to)
    one = one-done counts conf w w' p p' second to l ew (ep ∙ ap (purged_both p) ed)

    go : (b : Bool) → ((d.most_states == 0) && (d.most_nodes == 0)) ≡ b
        → (second < next) × (next ≤ to) × (done_after counts conf (done_of w' p') (seconds next to) ≡ done_after counts conf (done_of w p) (seconds second to))
    go true t =
        let none = none_of d.most_states d.most_nodes t in
        let is : next ≡ to = en ∙ ap (λ b. if b then to else (second + 1)) t in
        let held = nothing_held conf w (second + 1) (sym (ap (λ (x : Purged). x.most_states) ed) ∙ none.0) (sym (ap (λ (x : Purged). x.most_nodes) ed) ∙ none.1) in
        let after : w' ≡ nothing w.made = ew ∙ ap (λ (v : World). purge conf v (second + 1)) held ∙ (rw (drop-nil, drop-nil) refl) in (
          omega (arith, is, l),
          omega (arith, is),
          ap (done_after counts conf (done_of w' p')) (ap (λ n. seconds n to) is ∙ none_due to)
              ∙ sym (ap (λ (v : World). done_after counts conf (done_of v p') (seconds (second + 1) to)) after ∙ done-nothing counts conf w.made p' (seconds (second + 1) to) ∙ ap (λ (v : World). done_of v p') (sym after))
              ∙ one,
        )
    go false t =
        let is : next ≡ second + 1 = en ∙ ap (λ b. if b then to else (second + 1)) t in
        (omega (arith, is, l), omega (arith, is, l), ap (λ n. done_after counts conf (done_of w' p') (seconds n to)) is ∙ one)

-- ---- two slices are the purge of a second

pub second-done : (counts : Bool) (conf k l : Conf) (w between after : World) (s : ℕ) (states nodes : Slice) (before looks node_before node_looks : ℕ) → k ≡ conf → l ≡ k
    → between ≡ state_slice k w s → after ≡ node_slice l between s → states ≡ state_slice_of k w s → nodes ≡ node_slice_of l between s
    → before ≡ 0 → (counts ≡ true → looks ≡ before + states.examined) → (counts ≡ false → looks ≡ before)
    → node_before ≡ 0 → (counts ≡ true → node_looks ≡ node_before + nodes.examined) → (counts ≡ false → node_looks ≡ node_before)
    → (after ≡ purge conf w s) × (purged_with looks states.examined (max nodes.examined node_looks) ≡ purged_in counts conf w s)
second-done counts conf k l w between after s states nodes before looks node_before node_looks ek el eb ea es en z on off nz non noff =
    let same : l ≡ conf = el ∙ ek in
    let mid : between ≡ state_slice conf w s = eb ∙ ap (λ (c : Conf). state_slice c w s) ek in
    let states_are : states ≡ state_slice_of conf w s = es ∙ ap (λ (c : Conf). state_slice_of c w s) ek in
    let nodes_are : nodes ≡ node_slice_of conf (state_slice conf w s) s = en ∙ (λ i. node_slice_of (same i) (mid i) s) in
    let most = most-of counts nodes.examined node_looks (looks-of counts nodes.examined node_before node_looks nz non noff) in (
      ea ∙ (λ i. node_slice (same i) (mid i) s),
      (λ i. purged_with (looks-of counts states.examined before looks z on off i) states.examined (most i))
          ∙ (λ i. purged_with (if counts then (states_are i).examined else 0) (states_are i).examined (nodes_are i).examined),
    )
