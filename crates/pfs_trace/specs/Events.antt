-- The event of one record of a trace, or what is wrong with it. (own)
use Rattle.std.specs.Prelude.{ℕ, Bool, true, false, List, [], ◌∷◌, codes, length, Option, Some, None, Result, Ok, Err, ◌==◌, nat_le, nat_lt, not, if◌then◌else◌, ok_or, option_map, slice_get}
use Rattle.std.specs.Option.{option_map_or}
use Rattle.std.proofs.lemmas.Map.Entries.{option_filter}
use Rattle.std.specs.Str.{bytes_eq}
use Rattle.pfs_addr_values.specs.Addresses.{same_family}
use Rattle.pfs_addr_values.specs.Numbers.{number_of}
use Rattle.pfs_addr_values.specs.Names.{name_of}
use Rattle.pfs_addr_values.specs.FlagSets.{flags_of}
use Rattle.pfs_addr.specs.Texts.{addr_of, prefix_of}
use Rattle.pfs_addr_values.specs.Prefixes.{Network}
use Rattle.pfs_eval.specs.declared.entries.TableEntry.{TableEntry}
use Rattle.pfs_addr_values.specs.Packets.{PacketView}
use Rattle.pfs_addr_values.specs.Protocols.{proto_in, has_ports, is_icmp}
use Rattle.pfs_addr_values.specs.declared.flag_sets.Flags.{Flags}
use Rattle.pfs_addr_values.specs.declared.packets.Dir.{Dir}
use Rattle.pfs_addr_values.specs.declared.packets.Dir.TheVariants.{In, Out}
use Rattle.pfs_addr_values.specs.declared.packets.Endpoint.{Endpoint}
use Rattle.pfs_addr_values.specs.declared.protocols.Proto.{Proto}
use Rattle.pfs_addr_values.specs.declared.protocols.Proto.TheVariants.{Tcp}
use Rattle.pfs_conf_values.specs.Configs.{Conf, is_const_table, table_named}
use Rattle.pfs_conf_values.specs.declared.filters.TableNo.{TableNo}
use Rattle.pfs_store_contract.specs.declared.kills.FromTo.{FromTo}
use Rattle.pfs_engine_machine.specs.declared.events.Arrival.{Arrival}
use Rattle.pfs_engine_machine.specs.declared.events.Arrival.TheVariants as arrival
use Rattle.pfs_engine_machine.specs.declared.events.Command.{Command}
use Rattle.pfs_engine_machine.specs.declared.events.Command.TheVariants as command
use Rattle.pfs_engine_machine.specs.declared.events.Event.{Event}
use Rattle.pfs_trace.specs.Columns.{column_of}
use Rattle.pfs_trace.specs.declared.events.RecordVerb.{RecordVerb}
use Rattle.pfs_trace.specs.declared.events.RecordVerb.TheVariants as verb
use Rattle.pfs_trace.specs.declared.faults.TraceFault.{TraceFault}
use Rattle.pfs_trace.specs.declared.faults.TraceFault.TheVariants as fault

-- there is no text
abbrev pub is_empty : List ℕ → Bool
is_empty text = length text == 0

-- a number that is at most this
abbrev pub number_to : ℕ → List ℕ → Option ℕ
number_to most text = option_filter (λ n. nat_le n most) (number_of text)

-- a packet comes in or goes out
abbrev pub dir_of : List ℕ → Option Dir
dir_of text = if bytes_eq text (codes "in") then Some In else (if bytes_eq text (codes "out") then Some Out else None)

-- a port is given for a protocol that has ports, and for no other
abbrev pub port_for : Proto → List ℕ → Option ℕ
port_for proto text = if has_ports proto then number_to 65535 text else (if is_empty text then Some 0 else None)

-- flags are given for TCP, and for no other protocol
abbrev pub flags_for : Proto → List ℕ → Option Flags
flags_for Tcp text = flags_of text
flags_for _ text = if is_empty text then flags_of [] else None

-- what follows from a part of a record that is read, or else its fault
abbrev pub and_then : {A B : Type 0} → Result A TraceFault → (A → Result B TraceFault) → Result B TraceFault
and_then (Ok x) more = more x
and_then (Err f) more = Err f

-- what follows from the field of a column that is read, or else its fault
abbrev pub in_column : {A B : Type 0} → ℕ → ℕ → Option A → (A → Result B TraceFault) → Result B TraceFault
in_column row column read more = and_then (ok_or read (fault.Field row column)) more

-- the source, and the destination, which is of the source's family
abbrev pub ends_at : ℕ → Proto → List (List ℕ) → Result (Endpoint × Endpoint) TraceFault
ends_at row proto fields =
    in_column row 5 (addr_of (column_of fields 5)) (λ src.
    in_column row 6 (port_for proto (column_of fields 6)) (λ sport.
    in_column row 7 (option_filter (same_family src) (addr_of (column_of fields 7))) (λ dst.
    in_column row 8 (port_for proto (column_of fields 8)) (λ dport.
    Ok (record { addr = src; port = sport }, record { addr = dst; port = dport })))))

-- a packet, or none where a record is skipped: of ICMP a trace does not say enough
abbrev pub packet_at : ℕ → List (List ℕ) → Result (Option PacketView) TraceFault
packet_at row fields =
    in_column row 2 (dir_of (column_of fields 2)) (λ dir.
    in_column row 3 (name_of 15 (column_of fields 3)) (λ ifname.
    in_column row 4 (proto_in (column_of fields 4)) (λ proto.
    and_then (ends_at row proto fields) (λ ends.
    in_column row 9 (flags_for proto (column_of fields 9)) (λ flags.
    Ok (if is_icmp proto then None else Some (record { dir = dir; ifname = ifname; proto = proto; source = ends.0; destination = ends.1; flags = flags; tag = None; came_by = None })))))))

-- a moment is before the last one, if there is one
abbrev pub falls : Option ℕ → ℕ → Bool
falls last time = option_map_or (λ moment. nat_lt time moment) last false

-- a field is empty
abbrev pub nothing_in : List ℕ → Option Unit
nothing_in text = if is_empty text then Some tt else None

-- the last three columns are empty
abbrev pub end_at : ℕ → List (List ℕ) → Result Unit TraceFault
end_at row fields =
    in_column row 7 (nothing_in (column_of fields 7)) (λ n7.
    in_column row 8 (nothing_in (column_of fields 8)) (λ n8.
    in_column row 9 (nothing_in (column_of fields 9)) (λ n9.
    Ok tt)))

-- ---- what an administrator does

-- the name of a table, and what is done to it
abbrev pub Change : Type 0
Change = List ℕ × Command

-- entries leave that are so many seconds old
abbrev pub expiry_at : ℕ → List (List ℕ) → Result Change TraceFault
expiry_at row fields =
    in_column row 3 (name_of 31 (column_of fields 3)) (λ name.
    in_column row 4 (nothing_in (column_of fields 4)) (λ n4.
    in_column row 5 (nothing_in (column_of fields 5)) (λ n5.
    in_column row 6 (number_to 4294967295 (column_of fields 6)) (λ seconds.
    and_then (end_at row fields) (λ n. Ok (name, command.Expire seconds))))))

-- an entry: a prefix, directly behind a `!` where it is negated
abbrev pub signed : Bool → Option Network → Option TableEntry
signed negated prefix = option_map (λ (p : Network). let e : TableEntry = record { prefix = p; negated = negated } in e) prefix

abbrev pub entry_in : List ℕ → Option TableEntry
entry_in [] = signed false (prefix_of [])
entry_in (c ∷ cs) = if c == 33 then signed true (prefix_of cs) else signed false (prefix_of (c ∷ cs))

abbrev pub named_at : ℕ → List (List ℕ) → Result (List ℕ × TableEntry) TraceFault
named_at row fields =
    in_column row 3 (name_of 31 (column_of fields 3)) (λ name.
    in_column row 4 (nothing_in (column_of fields 4)) (λ n4.
    in_column row 5 (entry_in (column_of fields 5)) (λ e.
    in_column row 6 (nothing_in (column_of fields 6)) (λ n6.
    and_then (end_at row fields) (λ n. Ok (name, e))))))

-- an entry is added, or that very entry is taken out
abbrev pub addition_at : ℕ → List (List ℕ) → Result Change TraceFault
addition_at row fields = and_then (named_at row fields) (λ read. Ok (read.0, command.Add read.1))

abbrev pub deletion_at : ℕ → List (List ℕ) → Result Change TraceFault
deletion_at row fields = and_then (named_at row fields) (λ read. Ok (read.0, command.Delete read.1))

-- a table that may change: the text names it, and it is not `const`
abbrev pub changing : Conf → Option TableNo → Option TableNo
changing conf table = option_filter (λ t. not (is_const_table (slice_get conf.tables t.0))) table

-- what comes at a moment, unless the moment is before the last one, or the table of a record is none that may change
abbrev pub at_moment : ℕ → Option ℕ → ℕ → Option Arrival → Result Event TraceFault
at_moment row last time comes =
    if falls last time then Err (fault.TimeFell row) else and_then (ok_or comes (fault.Table row)) (λ w. Ok (record { time = time; what = w }))

-- the event of such a record, of what its fields say
abbrev pub change_at : Conf → ℕ → Option ℕ → ℕ → Result Change TraceFault → Result Event TraceFault
change_at conf row last time read =
    and_then read (λ change. at_moment row last time (option_map (λ t. arrival.Table t change.1) (changing conf (table_named conf change.0))))

-- no table is named, and no protocol: both columns are empty
abbrev pub nameless_at : ℕ → List (List ℕ) → Result Unit TraceFault
nameless_at row fields =
    in_column row 3 (nothing_in (column_of fields 3)) (λ n3.
    in_column row 4 (nothing_in (column_of fields 4)) (λ n4.
    Ok tt))

-- a prefix, or nothing
abbrev pub prefix_or_nothing : List ℕ → Option (Option Network)
prefix_or_nothing text = if is_empty text then Some None else option_map (λ (p : Network). let some : Option Network = Some p in some) (prefix_of text)

-- hosts from which states go that are taken out, and those to which they go, if they are named
abbrev pub ends_asked_at : ℕ → List (List ℕ) → Result FromTo TraceFault
ends_asked_at row fields =
    and_then (nameless_at row fields) (λ n.
    in_column row 5 (prefix_of (column_of fields 5)) (λ from.
    in_column row 6 (nothing_in (column_of fields 6)) (λ n6.
    in_column row 7 (prefix_or_nothing (column_of fields 7)) (λ to.
    in_column row 8 (nothing_in (column_of fields 8)) (λ n8.
    in_column row 9 (nothing_in (column_of fields 9)) (λ n9.
    Ok (record { from = from; to = to })))))))

-- the event of such a record, of what its fields say
abbrev pub kill_at : ℕ → Option ℕ → ℕ → Result FromTo TraceFault → Result Event TraceFault
kill_at row last time read = and_then read (λ hosts. at_moment row last time (Some (arrival.Kill hosts)))

-- the event of a record that asks how much is held
abbrev pub question_at : ℕ → Option ℕ → ℕ → List (List ℕ) → Result Event TraceFault
question_at row last time fields =
    and_then (nameless_at row fields) (λ n.
    in_column row 5 (nothing_in (column_of fields 5)) (λ n5.
    in_column row 6 (nothing_in (column_of fields 6)) (λ n6.
    and_then (end_at row fields) (λ n. at_moment row last time (Some arrival.HeldQuery)))))

-- ---- the event of a record

-- what an administrator does, by the word in the second column; none where it is another word
abbrev pub verb_of : List ℕ → Option RecordVerb
verb_of word =
    if bytes_eq word (codes "expire") then Some verb.Expire
    else (if bytes_eq word (codes "add") then Some verb.Add
    else (if bytes_eq word (codes "delete") then Some verb.Delete
    else (if bytes_eq word (codes "kill") then Some verb.Kill
    else (if bytes_eq word (codes "held") then Some verb.HeldQuery else None))))

-- the event of a record of a packet
abbrev pub arrival_at : ℕ → Option ℕ → ℕ → List (List ℕ) → Result Event TraceFault
arrival_at row last time fields = and_then (packet_at row fields) (λ packet. at_moment row last time (Some (option_map_or arrival.Packet packet arrival.Skip)))

-- the event of a record at this moment
abbrev pub event_by : Conf → ℕ → Option ℕ → ℕ → List (List ℕ) → Option RecordVerb → Result Event TraceFault
event_by conf row last time fields None = arrival_at row last time fields
event_by conf row last time fields (Some verb.HeldQuery) = question_at row last time fields
event_by conf row last time fields (Some verb.Expire) = change_at conf row last time (expiry_at row fields)
event_by conf row last time fields (Some verb.Add) = change_at conf row last time (addition_at row fields)
event_by conf row last time fields (Some verb.Kill) = kill_at row last time (ends_asked_at row fields)
event_by conf row last time fields (Some verb.Delete) = change_at conf row last time (deletion_at row fields)

-- the event of a record under a configuration, in this row after this moment, or the first that is wrong with it: it has not nine
-- fields, a field is not accepted, from left to right, its moment is before the last one, or its table is none that may change
abbrev pub event_at : Conf → ℕ → Option ℕ → List (List ℕ) → Result Event TraceFault
event_at conf row last fields =
    if length fields == 9
    then in_column row 1 (number_to 4294967295 (column_of fields 1)) (λ time.
    event_by conf row last time fields (verb_of (column_of fields 2)))
    else Err (fault.Columns row)
