-- A run of one event more.
use Rattle.std.proofs.Common.{◌≡◌, ◌+◌, ◌++◌, ◌∙◌, ℕ, suc, List, [], ◌∷◌, length, refl, sym, ap, append_assoc, arith}
use Rattle.std.proofs.lemmas.List.{append-nil}
use Rattle.pfs_conf_values.specs.Configs.{Conf}
use Rattle.pfs_engine_machine.specs.declared.events.Event.{Event}
use Rattle.pfs_engine_machine.specs.declared.events.Way.{Way}
use Rattle.pfs_engine_machine.specs.Machine.{Machine, start}
use Rattle.pfs_engine_machine.specs.Ways.{machine_after_ways, way, ways_of}
use Rattle.pfs_cli_formats.specs.Lines.{row_text}
use Rattle.pfs_cli_formats.specs.Reports.{lines_from, lines_of}

-- the machine after one event more
pub machine_after_ways-more : (conf : Conf) (m : Machine) (es : List Event) (e : Event) → machine_after_ways conf m (es ++ e ∷ []) ≡ (way conf (machine_after_ways conf m es) e).1
unfolding machine_after_ways
machine_after_ways-more conf m [] e = refl
machine_after_ways-more conf m (d ∷ es) e = machine_after_ways-more conf (way conf m d).1 es e

-- the outcomes with one event more
pub ways_of-more : (conf : Conf) (m : Machine) (es : List Event) (e : Event)
    → ways_of conf m (es ++ e ∷ []) ≡ ways_of conf m es ++ (way conf (machine_after_ways conf m es) e).0 ∷ []
unfolding machine_after_ways ways_of
ways_of-more conf m [] e = refl
ways_of-more conf m (d ∷ es) e = ap (λ (os : List Way). (way conf m d).0 ∷ os) (ways_of-more conf (way conf m d).1 es e)

pub length-ways_of : (conf : Conf) (m : Machine) (es : List Event) → length (ways_of conf m es) ≡ length es
unfolding ways_of
length-ways_of conf m [] = refl
length-ways_of conf m (e ∷ es) = ap suc (length-ways_of conf (way conf m e).1 es)

-- the lines of one outcome more
lines_from-more : (row : ℕ) (os : List Way) (o : Way) → lines_from row (os ++ o ∷ []) ≡ lines_from row os ++ row_text (row + length os) o
unfolding lines_from
lines_from-more row [] o = append-nil (row_text row o) ∙ ap (λ n. row_text n o) (omega arith)
lines_from-more row (p ∷ os) o =
    ap (λ (t : List ℕ). row_text row p ++ t) (lines_from-more (row + 1) os o ∙ ap (λ n. lines_from (row + 1) os ++ row_text n o) (omega arith))
    ∙ sym (append_assoc (row_text row p) (lines_from (row + 1) os) (row_text (row + length (p ∷ os)) o))

-- the lines of a run with one event more
pub lines_of-more : (conf : Conf) (es : List Event) (e : Event)
    → lines_of conf (es ++ e ∷ []) ≡ lines_of conf es ++ row_text (length es + 1) (way conf (machine_after_ways conf (start conf) es) e).0
lines_of-more conf es e =
    let m : Machine = start conf in
    let o : Way = (way conf (machine_after_ways conf m es) e).0 in
    let n : 1 + length (ways_of conf m es) ≡ length es + 1 = omega (arith, length-ways_of conf m es) in
    ap (lines_from 1) (ways_of-more conf m es e) ∙ (lines_from-more 1 (ways_of conf m es) o ∙ ap (λ k. lines_from 1 (ways_of conf m es) ++ row_text k o) n)

-- no events have no lines
pub lines_of-none : (conf : Conf) → lines_of conf [] ≡ []
unfolding ways_of lines_from
lines_of-none conf = refl

-- the outcomes of the first events begin those of all
pub outcomes-front : (conf : Conf) (m : Machine) (es fs : List Event) → (rest : List Way) × (ways_of conf m (es ++ fs) ≡ ways_of conf m es ++ rest)
unfolding ways_of
outcomes-front conf m [] fs = (ways_of conf m fs, refl)
outcomes-front conf m (e ∷ es) fs =
    let (rest, h) = outcomes-front conf (way conf m e).1 es fs in
    (rest, ap (λ (os : List Way). (way conf m e).0 ∷ os) h)

-- and their lines
pub lines_from-front : (row : ℕ) (os ps : List Way) → (rest : List ℕ) × (lines_from row (os ++ ps) ≡ lines_from row os ++ rest)
unfolding lines_from
lines_from-front row [] ps = (lines_from row ps, refl)
lines_from-front row (o ∷ os) ps =
    let (rest, h) = lines_from-front (row + 1) os ps in
    (rest, ap (λ (t : List ℕ). row_text row o ++ t) h ∙ sym (append_assoc (row_text row o) (lines_from (row + 1) os) rest))
