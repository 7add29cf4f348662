-- The tally of the events of a run so far.
use Rattle.std.proofs.Common.{◌≡◌, ◌+◌, ◌-◌, ◌^◌, ◌++◌, ◌∙◌, ℕ, List, [], ◌∷◌, Bool, refl, sym, ap, subst, arith, inl}
use Rattle.std.specs.Prelude.{min, max, Result, Ok, Err}
use Rattle.std.specs.List.{sum_by}
use Rattle.std.proofs.lemmas.List.Sums.{sum_by-append}
use Rattle.pfs_conf_values.specs.Configs.{Conf}
use Rattle.pfs_engine_machine.specs.declared.events.Event.{Event}
use Rattle.pfs_engine_machine.specs.declared.events.Way.{Way}
use Rattle.pfs_engine_machine.specs.Machine.{Machine, start}
use Rattle.pfs_engine_machine.specs.Ways.{machine_after_ways, way}
use Rattle.pfs_engine.specs.declared.works.Work.{Work}
use Rattle.pfs_cli.specs.Tallies.{AreWorks, IsTallyOfWorks, IsWorkOf, IsWorkWith, most_of, tally_of, total_of}
use Rattle.pfs_cli.specs.Tallying.{IsWorkOfTurn, TalliesEvent, TalliesRecord, tally_with}
use Rattle.pfs_cli.specs.RecordTurns.{TakesEvent}
use Rattle.pfs_cli.specs.declared.records.RecordsStop.{RecordsStop}
use Rattle.pfs_cli.specs.declared.records.RecordsStop.TheVariants as stop
use Rattle.pfs_cli.specs.declared.tallies.Tally.{Tally}
use Rattle.pfs_trace.specs.Events.{event_at}
use Rattle.pfs_trace.specs.Traces.{Fields}

max-behind : (a b c : ℕ) → max a (max b c) ≡ max (max a b) c
max-behind a b c = omega arith

max-none : (a : ℕ) → max a 0 ≡ max 0 a
max-none a = omega arith

min-more : (a b m : ℕ) → min (a + b) m ≡ min (min a m + b) m
min-more a b m = omega arith

most-more : (amount : Work → ℕ) (works : List Work) (w : Work) → most_of amount (works ++ w ∷ []) ≡ max (most_of amount works) (amount w)
most-more amount [] w = max-none (amount w)
most-more amount (v ∷ works) w = ap (max (amount v)) (most-more amount works w) ∙ max-behind (amount v) (most_of amount works) (amount w)

total-more : (amount : Work → ℕ) (works : List Work) (w : Work) → total_of amount (works ++ w ∷ []) ≡ min (total_of amount works + amount w) (2 ^ 64 - 1)
total-more amount works w =
    let sums : sum_by amount (works ++ w ∷ []) ≡ sum_by amount works + amount w = omega (arith, sum_by-append amount works (w ∷ [])) in
    ap (λ (n : ℕ). min n (2 ^ 64 - 1)) sums ∙ min-more (sum_by amount works) (amount w) (2 ^ 64 - 1)

-- the tally of the work of one event more
pub tally-more : (works : List Work) (w : Work) → tally_with (tally_of works) w ≡ tally_of (works ++ w ∷ [])
tally-more works w = sym (rw (
  total-more (λ (v : Work). v.visits) works w,
  total-more (λ (v : Work). v.slices) works w,
  most-more (λ (v : Work). v.visits) works w,
  most-more (λ (v : Work). v.looks) works w,
  most-more (λ (v : Work). v.most_states) works w,
  most-more (λ (v : Work). v.most_nodes) works w,
) refl)

-- the work of each event, and of one more
works-more : (counts : Bool) (conf : Conf) (m : Machine) (es : List Event) (ws : List Work) (e : Event) (w : Work)
    → AreWorks counts conf m es ws → IsWorkOf counts conf (machine_after_ways conf m es) e w → AreWorks counts conf m (es ++ e ∷ []) (ws ++ w ∷ [])
unfolding machine_after_ways
works-more counts conf m [] [] e w each is = (is, tt)
works-more counts conf m [] (v ∷ ws) e w each is = absurd each
works-more counts conf m (d ∷ es) [] e w each is = absurd each
works-more counts conf m (d ∷ es) (v ∷ ws) e w each is = (each.0, works-more counts conf (way conf m d).1 es ws e w each.1 is)

-- the tally of these events, which are the first of a run
pub record TalliedSoFar (counts : Bool) (conf : Conf) (seen : List Event) (tally : Tally) : Type 0 where
  pub works : List Work
  pub each : AreWorks counts conf (start conf) seen works
  pub told : tally ≡ tally_of works

pub tallied-none : (counts : Bool) (conf : Conf) (tally : Tally) → tally ≡ tally_of [] → TalliedSoFar counts conf [] tally
tallied-none counts conf tally none = record { works = []; each = tt; told = none }

pub tallied-more : (counts : Bool) (conf : Conf) (seen : List Event) (m : Machine) (e : Event) (w : Work) (before after : Tally) → TalliedSoFar counts conf seen before
    → m ≡ machine_after_ways conf (start conf) seen → IsWorkOf counts conf m e w → after ≡ tally_with before w → TalliedSoFar counts conf (seen ++ e ∷ []) after
tallied-more counts conf seen m e w before after s holds is added = record {
  works = s.works ++ w ∷ [];
  each = works-more counts conf (start conf) seen s.works e w s.each (subst (λ (x : Machine). IsWorkOf counts conf x e w) holds is);
  told = added ∙ (ap (λ (t : Tally). tally_with t w) s.told ∙ tally-more s.works w);
}

-- such a tally is one of a run that goes no further
pub tallied-now : (counts : Bool) (conf : Conf) (m : Machine) (others : List Event) (works : List Work) (tally : Tally) → tally ≡ tally_of works → IsTallyOfWorks counts conf m others works tally
tallied-now counts conf m [] works tally is = is
tallied-now counts conf m (e ∷ others) works tally is = inl is

-- the tally of a turn whose event was taken
tallies-same : (counts : Bool) (conf : Conf) (row : ℕ) (m : Machine) (f : Fields) (e : Event) (r : Result Unit RecordsStop) (before after : Tally) → event_at conf row m.last f ≡ Ok e
    → TalliesEvent counts conf m e r before after → (d : Event) → event_at conf row m.last f ≡ Ok d → TalliesEvent counts conf m d r before after
tallies-same counts conf row m f e r before after judged tallies d again =
    let same : e ≡ d = cc in
    subst (λ (x : Event). TalliesEvent counts conf m x r before after) same tallies

pub tallies-event : (counts : Bool) (conf : Conf) (row : ℕ) (m : Machine) (f : Fields) (e : Event) (t : List ℕ) (r : Result Unit RecordsStop) (v : Machine) (before after : Tally) → event_at conf row m.last f ≡ Ok e
    → TakesEvent conf row m e t r v → TalliesEvent counts conf m e r before after → TalliesRecord counts conf row m f r before after
tallies-event counts conf row m f e t (Ok u) v before after judged takes tallies = tallies-same counts conf row m f e (Ok u) before after judged tallies
tallies-event counts conf row m f e t (Err (stop.Fault x)) v before after judged takes tallies = absurd takes.0
tallies-event counts conf row m f e t (Err stop.Source) v before after judged takes tallies = tallies-same counts conf row m f e (Err stop.Source) before after judged tallies
tallies-event counts conf row m f e t (Err stop.Memory) v before after judged takes tallies = tallies-same counts conf row m f e (Err stop.Memory) before after judged tallies
tallies-event counts conf row m f e t (Err stop.Write) v before after judged takes tallies = tallies-same counts conf row m f e (Err stop.Write) before after judged tallies

-- the work of an answered event, however its turn ends
pub turn-answered : (counts : Bool) (conf : Conf) (m : Machine) (e : Event) (r : Result Unit RecordsStop) (w : Work) → IsWorkOf counts conf m e w → IsWorkOfTurn counts conf m e r w
turn-answered counts conf m e (Ok u) w is = is
turn-answered counts conf m e (Err (stop.Fault x)) w is = is
turn-answered counts conf m e (Err stop.Source) w is = is
turn-answered counts conf m e (Err stop.Memory) w is = inl is
turn-answered counts conf m e (Err stop.Write) w is = is

-- the work of an event with this answer, which is the machine's
pub work-answered : (counts : Bool) (conf : Conf) (m v : Machine) (e : Event) (o : Way) (w : Work) → (o, v) ≡ way conf m e → IsWorkWith counts conf m e (Ok o) w → IsWorkOf counts conf m e w
work-answered counts conf m v e o w same is =
    subst (λ (x : Way). IsWorkWith counts conf m e (Ok x) w) (ap (λ (q : Way × Machine). q.0) same) is

-- a turn under rules that are these
pub TalliesRecord-rules : (counts : Bool) (conf d : Conf) (row : ℕ) (m : Machine) (f : Fields) (r : Result Unit RecordsStop) (before after : Tally) → d ≡ conf
    → TalliesRecord counts d row m f r before after → TalliesRecord counts conf row m f r before after
TalliesRecord-rules counts conf d row m f r before after same tallies =
    let P : Conf → Type 0 = λ x. TalliesRecord counts x row m f r before after in
    subst P same tallies
