-- A walk goes on, ends or stops as its next header says.
use Rattle.std.proofs.Common.{ℕ, ◌≡◌, ◌+◌, ◌-◌, ◌<◌, ◌≤◌, suc, List, Ok, Err, ap, arith, ◌∙◌}
use Rattle.pfs_capture_packets.specs.declared.walks.Layer.{Layer}
use Rattle.pfs_capture_packets.specs.declared.walks.HeaderPlace.{HeaderPlace}
use Rattle.pfs_capture_packets.specs.declared.walks.Next.{Next}
use Rattle.pfs_capture_packets.specs.declared.packets.Reason.TheVariants as reason
use Rattle.pfs_capture_packets.specs.Headers.{header_behind}
use Rattle.pfs_capture_packets.specs.Walks.{at_next, walk_from}

-- one header more
pub walk-turn : (n : ℕ) (layer : Layer) (bytes : List ℕ) (place : HeaderPlace) (next : Next) → header_behind layer bytes place ≡ next →
    walk_from (suc n) layer bytes place ≡ at_next next (λ p. walk_from n layer bytes p) (Ok place) Err
unfolding walk_from
walk-turn n layer bytes place next e = ap (λ x. at_next x (λ p. walk_from n layer bytes p) (Ok place) Err) e

-- of `m` headers there are `i` and one more before those that are left
pub left-turn : (m i : ℕ) (layer : Layer) (bytes : List ℕ) (place : HeaderPlace) (next : Next) → i < m → header_behind layer bytes place ≡ next →
    walk_from (m - i) layer bytes place ≡ at_next next (λ p. walk_from (m - (i + 1)) layer bytes p) (Ok place) Err
left-turn m i layer bytes place next h e =
    let turns : m - i ≡ suc (m - (i + 1)) = omega arith in
    ap (λ k. walk_from k layer bytes place) turns ∙ walk-turn (m - (i + 1)) layer bytes place next e

-- no header is left
pub left-none : (m i : ℕ) (layer : Layer) (bytes : List ℕ) (place : HeaderPlace) → m ≤ i → walk_from (m - i) layer bytes place ≡ Err reason.NotIp
unfolding walk_from
left-none m i layer bytes place h =
    let turns : m - i ≡ 0 = omega arith in
    ap (λ k. walk_from k layer bytes place) turns
