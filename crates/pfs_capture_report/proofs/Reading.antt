-- The rows of a trace are read as their packets, one after another.
use Rattle.std.proofs.Common.{◌≡◌, ◌≤◌, ◌<◌, ◌+◌, ◌++◌, ◌∙◌, ℕ, true, false, List, [], ◌∷◌, length, map, flat_map, Option, Some, None, refl, ap, arith, nat_lt}
use Rattle.std.specs.Prelude.{Result}
use Rattle.std.specs.List.{AllByRecursion}
use Rattle.std.proofs.lemmas.Bool.{cond-true}
use Rattle.std.proofs.lemmas.Bool.Decides.{nat_tests}
use Rattle.csv.specs.Machine.{next_record}
use Rattle.csv.specs.Reading.{default_config, records, strip_bom}
use Rattle.csv.specs.declared.parser.State.TheVariants as st
use Rattle.pfs_addr_values.specs.Addresses.{IsAddr, same_family}
use Rattle.pfs_addr_values.specs.Names.{is_name}
use Rattle.pfs_addr_values.specs.Packets.{row_limit}
use Rattle.pfs_addr.proofs.PieceLaws.{addr_of_addr_text}
use Rattle.pfs_conf_values.specs.Configs.{Conf}
use Rattle.pfs_engine_machine.specs.declared.events.Event.{Event}
use Rattle.pfs_trace.specs.Events.{falls}
use Rattle.pfs_trace.specs.Reading.{records_left}
use Rattle.pfs_trace.specs.Traces.{Trace, ahead_of, events_from, events_of, trace_of}
use Rattle.pfs_trace.specs.declared.faults.TraceFault.{TraceFault}
use Rattle.pfs_trace.proofs.Rest.{records_left-end, records_left-more}
use Rattle.pfs_trace.specs.Columns.{column_names, header_text}
use Rattle.pfs_trace.specs.Rows.{IsSaid, event_of, packet_row, row_fields}
use Rattle.pfs_trace.specs.declared.rows.Row.{Row}
use Rattle.pfs_trace.proofs.Again.{row_again}
use Rattle.pfs_trace.proofs.Fields.{header_read, row_read}

-- a row of a packet whose ends are of one family, in a second that a trace may have
pub record IsReadable (row : Row) : Type 0 where
  pub family : same_family row.packet.source.addr row.packet.destination.addr ≡ true
  pub second : row.second ≤ 4294967295
  pub name : is_name 15 row.packet.ifname ≡ true
  pub said : IsSaid row.packet
  pub source : IsAddr row.packet.source.addr
  pub destination : IsAddr row.packet.destination.addr

none-left : next_record default_config st.StartRecord [] [] [] ≡ None
unfolding next_record
none-left = refl

-- their texts are read as their columns
rows-read : (rows : List Row) → AllByRecursion IsReadable rows
    → records_left default_config st.StartRecord (flat_map packet_row rows) ≡ map row_fields rows
rows-read [] all = records_left-end default_config st.StartRecord [] none-left
rows-read (r ∷ rs) all =
    let rest = flat_map packet_row rs in
    let read = row_read r all.0.second all.0.name all.0.said all.0.source all.0.destination rest in
    records_left-more default_config st.StartRecord (packet_row r ++ rest) (row_fields r, st.StartRecord, rest) read
    ∙ ap (λ (fs : List (List (List ℕ))). row_fields r ∷ fs) (rows-read rs all.1)

-- the seconds of rows do not fall, from this moment on
abbrev pub AreRising : Option ℕ → List Row → Type 0
AreRising last [] = Unit {0}
AreRising last (r ∷ rs) = (falls last r.second ≡ false) × AreRising (Some r.second) rs

-- their columns are read as their packets
events-read : (conf : Conf) (n : ℕ) (last : Option ℕ) (rows : List Row) → AllByRecursion IsReadable rows → AreRising last rows → n + length rows ≤ row_limit
    → events_from conf n last (map row_fields rows) ≡ (map event_of rows, None)
unfolding events_from
events-read conf n last [] all rising few = refl
events-read conf n last (r ∷ rs) all rising few =
    let within : n < row_limit = omega (arith, few) in
    let test : nat_lt n row_limit ≡ true = grind (arith, nat_tests) in
    let one = row_again r all.0.family all.0.second all.0.name all.0.said (addr_of_addr_text r.packet.source.addr all.0.source) (addr_of_addr_text r.packet.destination.addr all.0.destination)
    conf (n + 1) last rising.0 in
    let more = events-read conf (n + 1) (Some r.second) rs all.1 rising.1 (omega (arith, few)) in
    ap (λ (e : Result Event TraceFault). ahead_of e (λ d. events_from conf (n + 1) (Some d.time) (map row_fields rs))) (cond-true (nat_lt n row_limit) _ _ test ∙ one)
    ∙ ap (λ (t : Trace). (event_of r ∷ t.0, t.1)) more

no-mark : (rest : List ℕ) → strip_bom (header_text ++ rest) ≡ header_text ++ rest
unfolding strip_bom
no-mark rest = refl

headed : (conf : Conf) (fs : List (List (List ℕ))) → events_of conf (column_names ∷ fs) ≡ events_from conf 0 None fs
unfolding events_of
headed conf fs = refl

pub rows-again : (conf : Conf) (rows : List Row) → AllByRecursion IsReadable rows → AreRising None rows → length rows ≤ row_limit
    → trace_of conf (header_text ++ flat_map packet_row rows) ≡ (map event_of rows, None)
rows-again conf rows all rising few =
    let rest = flat_map packet_row rows in
    let read = records_left-more default_config st.StartRecord (header_text ++ rest) (column_names, st.StartRecord, rest) (header_read rest) in
    ap (λ (t : List ℕ). events_of conf (records default_config t)) (no-mark rest)
    ∙ ap (λ (fs : List (List (List ℕ))). events_of conf fs) (read ∙ ap (λ (fs : List (List (List ℕ))). column_names ∷ fs) (rows-read rows all))
    ∙ headed conf (map row_fields rows)
    ∙ events-read conf 0 None rows all rising (omega (arith, few))
