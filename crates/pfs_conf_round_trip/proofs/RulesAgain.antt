-- What the grammar reads the line of a rule or an anchor as means that rule or anchor again, where all tables are defined; and it
-- breaks no load rule.
use Rattle.std.proofs.Common.{◌≡◌, ◌∙◌, ◌<◌, ◌≤◌, ℕ, Bool, true, false, List, [], ◌∷◌, length, Option, Some, None, IfSome, is_some, is_none, refl, sym, ap, arith}
use Rattle.std.specs.Prelude.{◌||◌, ◌&&◌, not, nat_le, if◌then◌else◌, slice_index_or}
use Rattle.std.specs.Option.{option_map}
use Rattle.std.proofs.lemmas.Bool.{and_parts, lt-leb}
use Rattle.pfs_conf_tokens.specs.declared.refusals.LoadRule.TheVariants as load_rule
use Rattle.pfs_conf_settings.specs.Drafts.{Drafted, number_of_table, with_name}
use Rattle.pfs_conf_values.specs.LoadRules.{AreOptions, IsAction, IsAnchor, IsFilter, IsHost, IsRule, IsSide, IsTableNo, limits_connections, limits_sources}
use Rattle.pfs_conf_values.specs.Bounds.{asks_ports, is_global}
use Rattle.pfs_conf_values.specs.Translations.{family_of_host, given_family, mixes_families}
use Rattle.pfs_conf_values.specs.declared.actions.Action.{Action}
use Rattle.pfs_conf_values.specs.declared.actions.Action.TheVariants as action
use Rattle.pfs_conf_values.specs.declared.actions.Overload.{Overload}
use Rattle.pfs_conf_values.specs.declared.actions.Scope.{Scope}
use Rattle.pfs_conf_values.specs.declared.actions.Scope.TheVariants as scope
use Rattle.pfs_conf_values.specs.declared.actions.StateOptions.{StateOptions}
use Rattle.pfs_conf_values.specs.declared.filters.Family.{Family}
use Rattle.pfs_conf_values.specs.declared.filters.Filter.{Filter}
use Rattle.pfs_conf_values.specs.declared.filters.Host.{Host}
use Rattle.pfs_conf_values.specs.declared.filters.Host.TheVariants as host
use Rattle.pfs_conf_values.specs.declared.filters.Ports.{Ports}
use Rattle.pfs_conf_values.specs.declared.filters.Side.{Side}
use Rattle.pfs_conf_values.specs.declared.filters.TableNo.{TableNo}
use Rattle.pfs_conf_values.specs.declared.items.Anchor.{Anchor}
use Rattle.pfs_conf_values.specs.declared.items.Item.{Item}
use Rattle.pfs_conf_values.specs.declared.items.Rule.{Rule}
use Rattle.pfs_conf_values.specs.declared.limits.Limits.{Limits}
use Rattle.pfs_conf_values.specs.declared.profiles.Profile.{Profile}
use Rattle.pfs_conf_values.specs.declared.routes.Route.{Route}
use Rattle.pfs_conf_values.specs.declared.syncookies.Syncookies.{Syncookies}
use Rattle.pfs_conf_values.specs.declared.tables.TableDef.{TableDef}
use Rattle.pfs_conf_filters.specs.Reading.{all_hosts, given_hosts, side}
use Rattle.pfs_conf_filters.specs.Sides.{side_not_given, destination_of, lacks_proto, names_port, source_of}
use Rattle.pfs_conf_options.specs.Options.{has_broken_rule_pair, has_global_connections, has_global_retention, has_overload_alone, overload_to, resolved_options, scope_by_track, scope_of_options, states_global}
use Rattle.pfs_conf.specs.Statements.{action_of, anchor_breaks, anchor_said, filter_said, first_broken, keeps_on_block, name_host, name_hosts, name_rule, number_host, number_overload, number_side, name_overload, rule_action, rule_breaks, rule_said, state_options, translates_family, with_family}
use Rattle.pfs_conf_show.specs.Filters.{has_no_ports, is_any_host, is_every_side}
use Rattle.pfs_conf_round_trip.proofs.Said.{host_said, hosts_said, options_said, overload_said, parameters_said, side_said, state_said, table_said, track_said}
use Rattle.pfs_conf_round_trip.proofs.StatementsSaid.{anchor_phrase, rule_phrase, verb_said}
use Rattle.pfs_conf_round_trip.proofs.Numbering.{AreTablesNumbered, drafted, named_again, numbered_so}

-- ---- hosts

-- a side that is not written
every_side : (tables : List TableDef) (h : Host TableNo) (p : Option Ports) → (is_any_host h && has_no_ports p) ≡ true → side (host_said tables h) p ≡ side_not_given
every_side tables host.Any None e = refl
every_side tables host.Any (Some p) e = absurd (cc e)
every_side tables (host.Prefix p b) o e = absurd (cc e)
every_side tables (host.Table t b) o e = absurd (cc e)

source_again : (tables : List TableDef) (from to : Side TableNo) → source_of (hosts_said tables from to) ≡ side_said tables from
source_again tables from to = go (is_every_side from && is_every_side to) refl
  where
    go : (c : Bool) → (is_every_side from && is_every_side to) ≡ c
        → source_of (if c then all_hosts else given_hosts (Some (side_said tables from)) (Some (side_said tables to))) ≡ side_said tables from
    go true e = sym (every_side tables from.host from.ports (and_parts (is_every_side from) (is_every_side to) e).0)
    go false e = refl

destination_again : (tables : List TableDef) (from to : Side TableNo) → destination_of (hosts_said tables from to) ≡ side_said tables to
destination_again tables from to = go (is_every_side from && is_every_side to) refl
  where
    go : (c : Bool) → (is_every_side from && is_every_side to) ≡ c
        → destination_of (if c then all_hosts else given_hosts (Some (side_said tables from)) (Some (side_said tables to))) ≡ side_said tables to
    go true e = sym (every_side tables to.host to.ports (and_parts (is_every_side from) (is_every_side to) e).1)
    go false e = refl

-- ---- tables

-- the tables of a draft that has defined them all
record AreAll (tables : List TableDef) (d : Drafted) : Type 0 where
  number : (t : TableNo) → t.0 < length tables → number_of_table (table_said tables t) d ≡ t.0
  name : (t : TableNo) → t.0 < length tables → with_name (table_said tables t) d ≡ d

are_all : (profile : Profile) (syncookies : Syncookies) (routes : List Route) (limits : Limits) (timeouts : List (Option ℕ)) (tables : List TableDef) (items : List Item) → AreTablesNumbered tables
    → AreAll tables (drafted profile syncookies routes limits timeouts tables items)
are_all profile syncookies routes limits timeouts tables items h = record {
  number = λ t lt. numbered_so tables t.0 h lt;
  name = λ t lt. named_again profile syncookies routes limits timeouts tables items t lt;
}

-- naming the tables of hosts changes nothing, and each host is the same again
host_name : (tables : List TableDef) (d : Drafted) → AreAll tables d → (h : Host TableNo) → IsHost (IsTableNo (length tables)) h → name_host (host_said tables h) d ≡ d
host_name tables d k host.Any g = refl
host_name tables d k (host.Prefix p b) g = refl
host_name tables d k (host.Table t b) g = k.name t g

host_number : (tables : List TableDef) (d : Drafted) → AreAll tables d → (h : Host TableNo) → IsHost (IsTableNo (length tables)) h → number_host (host_said tables h) d ≡ h
host_number tables d k host.Any g = refl
host_number tables d k (host.Prefix p b) g = refl
host_number tables d k (host.Table t b) g = ap (λ (n : ℕ). host.Table (record { 0 = n }) b) (k.number t g)

side_number : (tables : List TableDef) (d : Drafted) → AreAll tables d → (s : Side TableNo) → IsSide (IsTableNo (length tables)) s → number_side (side_said tables s) d ≡ s
side_number tables d k s g = ap (λ (h : Host TableNo). record { host = h; ports = s.ports }) (host_number tables d k s.host g.host)

hosts_name : (tables : List TableDef) (d : Drafted) → AreAll tables d → (f : Filter) → IsFilter (length tables) f → name_hosts (hosts_said tables f.from f.to) d ≡ d
hosts_name tables d k f g =
    ap (λ (s : Side (List ℕ)). name_host (destination_of (hosts_said tables f.from f.to)).host (name_host s.host d)) (source_again tables f.from f.to)
    ∙ (ap (name_host (destination_of (hosts_said tables f.from f.to)).host) (host_name tables d k f.from.host g.source.host)
    ∙ (ap (λ (s : Side (List ℕ)). name_host s.host d) (destination_again tables f.from f.to) ∙ host_name tables d k f.to.host g.destination.host))

abbrev with_sides : Filter → Side TableNo → Side TableNo → Filter
with_sides f from to = record { dir = f.dir; on = f.on; family = f.family; proto = f.proto; from = from; to = to; flags = f.flags }

-- the parameters of a rule mean its filter
filter_again : (tables : List TableDef) (d : Drafted) → AreAll tables d → (q : Bool) (f : Filter) → IsFilter (length tables) f → filter_said (parameters_said tables q f) f.flags d ≡ f
filter_again tables d k q f g =
    let hosts = hosts_said tables f.from f.to in
    let from : number_side (source_of hosts) d ≡ f.from =
    ap (λ (s : Side (List ℕ)). number_side s d) (source_again tables f.from f.to) ∙ side_number tables d k f.from g.source in
    let named : name_host (source_of hosts).host d ≡ d =
    ap (λ (s : Side (List ℕ)). name_host s.host d) (source_again tables f.from f.to) ∙ host_name tables d k f.from.host g.source.host in
    let to : number_side (destination_of hosts) (name_host (source_of hosts).host d) ≡ f.to =
    ap (number_side (destination_of hosts)) named
    ∙ (ap (λ (s : Side (List ℕ)). number_side s d) (destination_again tables f.from f.to) ∙ side_number tables d k f.to g.destination) in
    ap (λ (s : Side TableNo). with_sides f s (number_side (destination_of hosts) (name_host (source_of hosts).host d))) from ∙ ap (with_sides f f.from) to

-- ---- options

some_map : {A B : Type 0} (f : A → B) (o : Option A) → is_some (option_map f o) ≡ is_some o
some_map f None = refl
some_map f (Some x) = refl

unstated : (nodes states conns : Bool) → ((nodes || states) || conns) ≡ false
    → ◌≡◌ {A = Option Scope} (if nodes || conns then Some scope.Rule else (if states || false then Some scope.Global else None)) None
unstated true states conns h = absurd (cc h)
unstated false true conns h = absurd (cc h)
unstated false false true h = absurd (cc h)
unstated false false false h = refl

-- the scope is stated where sources are tracked, and so it is the same again
scope_again : (tables : List TableDef) (o : StateOptions) → AreOptions (length tables) o → scope_of_options (options_said tables o) ≡ o.scope
scope_again tables o h = go o.scope h.tracked
  where
    go : (s : Option Scope) → (is_none s && limits_sources o) ≡ false → scope_by_track (options_said tables o) (option_map track_said s) ≡ s
    go None e = unstated (is_some o.max_src_nodes) (is_some o.max_src_states) (limits_connections o) e
    go (Some scope.Rule) e = refl
    go (Some scope.Global) e = refl

overload_again : (tables : List TableDef) (d : Drafted) → AreAll tables d → (v : Option Overload) → IfSome v (λ x. IsTableNo (length tables) x.table)
    → overload_to (option_map (overload_said tables) v) (number_overload (option_map (overload_said tables) v) d) ≡ v
overload_again tables d k None h = refl
overload_again tables d k (Some v) h = ap (λ (n : ℕ). Some (record { table = record { 0 = n }; flush = v.flush })) (k.number v.table h)

overload_name : (tables : List TableDef) (d : Drafted) → AreAll tables d → (v : Option Overload) → IfSome v (λ x. IsTableNo (length tables) x.table)
    → name_overload (option_map (overload_said tables) v) d ≡ d
overload_name tables d k None h = refl
overload_name tables d k (Some v) h = k.name v.table h

abbrev with_scope : StateOptions → Option Scope → Option Overload → StateOptions
with_scope o s v = record {
  max = o.max;
  scope = s;
  max_src_nodes = o.max_src_nodes;
  max_src_states = o.max_src_states;
  max_src_conn = o.max_src_conn;
  max_src_conn_rate = o.max_src_conn_rate;
  overload = v;
  sloppy = o.sloppy;
  synproxy = o.synproxy;
  timeouts = o.timeouts;
}

-- the options of a rule mean those options again
options_again : (tables : List TableDef) (d : Drafted) → AreAll tables d → (o : StateOptions) → AreOptions (length tables) o
    → resolved_options (options_said tables o) (number_overload (options_said tables o).overload d) ≡ o
options_again tables d k o h =
    ap (λ (s : Option Scope). with_scope o s (overload_to (option_map (overload_said tables) o.overload) (number_overload (option_map (overload_said tables) o.overload) d))) (scope_again tables o h)
    ∙ ap (with_scope o o.scope) (overload_again tables d k o.overload h.overload)

action_again : (tables : List TableDef) (d : Drafted) → AreAll tables d → (a : Action) → IsAction (length tables) a
    → action_of (verb_said a) (state_said tables a) (number_overload (state_options (state_said tables a)).overload d) ≡ a
action_again tables d k action.Match h = refl
action_again tables d k action.Block h = refl
action_again tables d k action.Pass h = refl
action_again tables d k (action.Keep o) h = ap (λ (x : StateOptions). action.Keep x) (options_again tables d k o h)

action_name : (tables : List TableDef) (d : Drafted) → AreAll tables d → (a : Action) → IsAction (length tables) a → name_overload (state_options (state_said tables a)).overload d ≡ d
action_name tables d k action.Match h = refl
action_name tables d k action.Block h = refl
action_name tables d k action.Pass h = refl
action_name tables d k (action.Keep o) h = overload_name tables d k o.overload h.overload

-- ---- statements

-- the line of a rule means the rule again
pub rule_again : (profile : Profile) (syncookies : Syncookies) (routes : List Route) (limits : Limits) (timeouts : List (Option ℕ)) (tables : List TableDef) (items : List Item) (r : Rule) → AreTablesNumbered tables
    → IsRule (length tables) r → rule_said (rule_phrase tables r) (drafted profile syncookies routes limits timeouts tables items) ≡ r
rule_again profile syncookies routes limits timeouts tables items r distinct h =
    let d = drafted profile syncookies routes limits timeouts tables items in
    let k = are_all profile syncookies routes limits timeouts tables items distinct in
    let a : rule_action (rule_phrase tables r) d ≡ r.action =
    ap (λ (e : Drafted). action_of (verb_said r.action) (state_said tables r.action) (number_overload (state_options (state_said tables r.action)).overload e)) (hosts_name tables d k r.filter h.filter)
    ∙ action_again tables d k r.action h.action in
    let f = filter_again tables d k r.quick r.filter h.filter in
    ap (λ (x : Filter). ruled (with_family (given_family r.filter.family r.translation) x) (rule_action (rule_phrase tables r) d)) f
    ∙ (ap (λ (x : Option Family). ruled (with_family x r.filter) (rule_action (rule_phrase tables r) d)) h.translating.given ∙ ap (ruled r.filter) a)
  where
    ruled : Filter → Action → Rule
    ruled f a = record { quick = r.quick; filter = f; came = r.came; tag = r.tag; translation = r.translation; action = a }

-- and names no other table
pub rule_name : (profile : Profile) (syncookies : Syncookies) (routes : List Route) (limits : Limits) (timeouts : List (Option ℕ)) (tables : List TableDef) (items : List Item) (r : Rule) → AreTablesNumbered tables
    → IsRule (length tables) r → name_rule (rule_phrase tables r) (drafted profile syncookies routes limits timeouts tables items) ≡ drafted profile syncookies routes limits timeouts tables items
rule_name profile syncookies routes limits timeouts tables items r distinct h =
    let d = drafted profile syncookies routes limits timeouts tables items in
    let k = are_all profile syncookies routes limits timeouts tables items distinct in
    ap (name_overload (state_options (state_said tables r.action)).overload) (hosts_name tables d k r.filter h.filter) ∙ action_name tables d k r.action h.action

pub anchor_again : (profile : Profile) (syncookies : Syncookies) (routes : List Route) (limits : Limits) (timeouts : List (Option ℕ)) (tables : List TableDef) (items : List Item) (a : Anchor) → AreTablesNumbered tables
    → IsAnchor (length tables) a → anchor_said (anchor_phrase tables a) (drafted profile syncookies routes limits timeouts tables items) ≡ a
anchor_again profile syncookies routes limits timeouts tables items a distinct h =
    let d = drafted profile syncookies routes limits timeouts tables items in
    ap (λ (f : Filter). record { name = a.name; quick = a.quick; filter = f }) (filter_again tables d (are_all profile syncookies routes limits timeouts tables items distinct) a.quick a.filter h.filter)

pub anchor_name : (profile : Profile) (syncookies : Syncookies) (routes : List Route) (limits : Limits) (timeouts : List (Option ℕ)) (tables : List TableDef) (items : List Item) (a : Anchor) → AreTablesNumbered tables
    → IsAnchor (length tables) a → name_hosts (anchor_phrase tables a).parameters.hosts (drafted profile syncookies routes limits timeouts tables items) ≡ drafted profile syncookies routes limits timeouts tables items
anchor_name profile syncookies routes limits timeouts tables items a distinct h =
    hosts_name tables (drafted profile syncookies routes limits timeouts tables items) (are_all profile syncookies routes limits timeouts tables items distinct) a.filter h.filter

-- ---- load rules

proto_kept : (tables : List TableDef) (q : Bool) (f : Filter) → IsFilter (length tables) f → lacks_proto (parameters_said tables q f) ≡ false
proto_kept tables q f h =
    let hosts = hosts_said tables f.from f.to in
    ap (λ (s : Side (List ℕ)). (names_port s || names_port (destination_of hosts)) && not (asks_ports f.proto)) (source_again tables f.from f.to)
    ∙ (ap (λ (s : Side (List ℕ)). (is_some f.from.ports || names_port s) && not (asks_ports f.proto)) (destination_again tables f.from f.to) ∙ h.ports)

same_global : (s : Option Scope) → states_global (option_map track_said s) ≡ is_global s
same_global None = refl
same_global (Some scope.Rule) = refl
same_global (Some scope.Global) = refl

-- the load rules of options
record AreLoadRulesKept (tables : List TableDef) (a : Action) : Type 0 where
  state : keeps_on_block (verb_said a) (state_said tables a) ≡ false
  overload : has_overload_alone (state_options (state_said tables a)) ≡ false
  connections : has_global_connections (state_options (state_said tables a)) ≡ false
  retention : has_global_retention (state_options (state_said tables a)) ≡ false
  pair : has_broken_rule_pair (state_options (state_said tables a)) ≡ false

are_kept : (tables : List TableDef) (a : Action) → IsAction (length tables) a → AreLoadRulesKept tables a
are_kept tables action.Match h = record { state = refl; overload = refl; connections = refl; retention = refl; pair = refl }
are_kept tables action.Block h = record { state = refl; overload = refl; connections = refl; retention = refl; pair = refl }
are_kept tables action.Pass h = record { state = refl; overload = refl; connections = refl; retention = refl; pair = refl }
are_kept tables (action.Keep o) h = record {
  state = refl;
  overload = ap (λ (b : Bool). b && not (limits_connections o)) (some_map (overload_said tables) o.overload) ∙ h.connections;
  connections = ap (λ (b : Bool). b && limits_connections o) (same_global o.scope) ∙ h.rule_connections;
  retention = ap (λ (s : Option Scope). is_global s && is_some (slice_index_or o.timeouts 12 None)) (scope_again tables o h) ∙ h.rule_retention;
  pair = h.adaptive;
}

few : (n : ℕ) → n < 10000 → nat_le 10000 n ≡ false
few n h = lt-leb 10000 n h

none_of_rules : (a b c d e f w x g : Bool) → a ≡ false → b ≡ false → c ≡ false → d ≡ false → e ≡ false → f ≡ false → w ≡ false → x ≡ false → g ≡ false
    → first_broken ((load_rule.PortWithoutProto, a) ∷ (load_rule.StateOnBlock, b) ∷ (load_rule.OverloadAlone, c) ∷ (load_rule.GlobalConn, d)
    ∷ (load_rule.GlobalRetention, e) ∷ (load_rule.AdaptivePair, f) ∷ (load_rule.TranslationWithoutWay, w)
    ∷ (load_rule.TranslationFamily, x) ∷ (load_rule.TooManyRules, g) ∷ []) ≡ None
none_of_rules a b c d e f w x g h i j k l m n o p = rw (h, i, j, k, l, m, n, o, p) refl

-- what a rule translates is of the family of its hosts
host_family : (tables : List TableDef) (h : Host TableNo) → family_of_host (host_said tables h) ≡ family_of_host h
host_family tables host.Any = refl
host_family tables (host.Prefix p b) = refl
host_family tables (host.Table t b) = refl

families_kept : (tables : List TableDef) (r : Rule) → IsRule (length tables) r → translates_family (rule_phrase tables r) ≡ false
families_kept tables r h =
    let from = r.filter.from in
    let to = r.filter.to in
    ap (λ (s : Side (List ℕ)). mixes_families r.filter.family (family_of_host s.host) (family_of_host (destination_of (hosts_said tables from to)).host) r.translation) (source_again tables from to)
    ∙ (ap (λ (s : Side (List ℕ)). mixes_families r.filter.family (family_of_host (host_said tables from.host)) (family_of_host s.host) r.translation) (destination_again tables from to)
    ∙ (ap (λ (f : Option Family). mixes_families r.filter.family f (family_of_host (host_said tables to.host)) r.translation) (host_family tables from.host)
    ∙ (ap (λ (f : Option Family). mixes_families r.filter.family (family_of_host from.host) f r.translation) (host_family tables to.host) ∙ h.translating.families)))

-- a rule of a configuration breaks no load rule
pub rule_kept : (tables : List TableDef) (r : Rule) (d : Drafted) → IsRule (length tables) r → length d.items < 10000 → rule_breaks d (rule_phrase tables r) ≡ None
rule_kept tables r d h lt =
    let k = are_kept tables r.action h.action in
    none_of_rules _ _ _ _ _ _ _ _ _ (proto_kept tables r.quick r.filter h.filter) k.state k.overload k.connections k.retention k.pair h.translating.way (families_kept tables r h) (few (length d.items) lt)

none_of_anchors : (a b c : Bool) → a ≡ false → b ≡ false → c ≡ false
    → first_broken ((load_rule.PortWithoutProto, a) ∷ (load_rule.TooDeep, b) ∷ (load_rule.TooManyRules, c) ∷ []) ≡ None
none_of_anchors a b c h i j = rw (h, i, j) refl

pub anchor_kept : (tables : List TableDef) (a : Anchor) (depth : ℕ) (d : Drafted) → IsAnchor (length tables) a → depth ≤ 15 → length d.items < 10000
    → anchor_breaks depth d (anchor_phrase tables a) ≡ None
anchor_kept tables a depth d h shallow lt =
    none_of_anchors _ _ _ (proto_kept tables a.quick a.filter h.filter) (lt-leb 16 depth (omega (arith, shallow))) (few (length d.items) lt)
