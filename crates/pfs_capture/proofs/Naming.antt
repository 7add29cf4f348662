-- The first interface of a name among those from here on.
use Rattle.std.proofs.Common.{◌≡◌, ◌<◌, ◌+◌, ◌∙◌, ℕ, suc, List, drop, get_or, length, Some, ap, sym, add-one, drop-cons}
use Rattle.std.specs.Prelude.{if◌then◌else◌}
use Rattle.std.specs.Str.{bytes_eq}
use Rattle.pfs_capture.specs.Points.{Point, point_named}

pub named_step : (name : List ℕ) (points : List Point) (i : ℕ) (p : Point) → p ≡ get_or points i p → i < length points
    → point_named name (drop i points) ≡ (if bytes_eq p.ifname name then Some p else point_named name (drop (i + 1) points))
named_step name points i p e h =
    ap (λ (ps : List Point). point_named name ps) (drop-cons points i p h)
    ∙ (ap (λ (q : Point). if bytes_eq q.ifname name then Some q else point_named name (drop (suc i) points)) (sym e)
    ∙ ap (λ (n : ℕ). if bytes_eq p.ifname name then Some p else point_named name (drop n points)) (sym (add-one i)))
