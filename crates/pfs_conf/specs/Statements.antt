-- What statements say, and which load rules they break. (pf.conf(5), PACKET FILTERING, ANCHORS and TABLES)
use Rattle.std.specs.Prelude.{ℕ, ◌+◌, Bool, true, false, if◌then◌else◌, nat_le, Option, Some, None, List, [], ◌∷◌, ◌++◌, length, slice_index_or, unwrap_or}
use Rattle.std.specs.Option.{option_map}
use Rattle.pfs_conf_tokens.specs.declared.refusals.LoadRule.{LoadRule}
use Rattle.pfs_conf_tokens.specs.declared.refusals.LoadRule.TheVariants as load_rule
use Rattle.pfs_conf_settings.specs.Drafts.{Drafted, empty_draft, number_of_table, with_name, with_table, with_item, const_overload, has_broken_pair, has_too_many_tables, has_too_many_entries, has_unprofiled_cookies, has_unprofiled_routes, unprofiled, with_syncookies, has_broken_shares}
use Rattle.pfs_conf_values.specs.declared.syncookies.Syncookies.{Syncookies}
use Rattle.pfs_conf_values.specs.declared.actions.Action.{Action}
use Rattle.pfs_conf_values.specs.declared.actions.Action.TheVariants as action
use Rattle.pfs_conf_values.specs.Translations.{family_of_host, given_family, lacks_way, mixes_families, no_translation}
use Rattle.pfs_conf_values.specs.declared.filters.Came.{Came}
use Rattle.pfs_conf_values.specs.declared.filters.Family.{Family}
use Rattle.pfs_conf_values.specs.declared.filters.Filter.{Filter}
use Rattle.pfs_conf_values.specs.declared.filters.FlagTest.{FlagTest}
use Rattle.pfs_conf_values.specs.declared.filters.FlagTest.TheVariants as flag_test
use Rattle.pfs_conf_values.specs.declared.filters.Host.{Host}
use Rattle.pfs_conf_values.specs.declared.filters.Host.TheVariants as host
use Rattle.pfs_conf_values.specs.declared.filters.Side.{Side}
use Rattle.pfs_conf_values.specs.declared.filters.TableNo.{TableNo}
use Rattle.pfs_conf_values.specs.declared.items.Anchor.{Anchor}
use Rattle.pfs_conf_values.specs.declared.items.Rule.{Rule}
use Rattle.pfs_conf_values.specs.declared.items.ItemKind.TheVariants as what
use Rattle.pfs_conf_filters.specs.declared.phrases.Verb.{Verb}
use Rattle.pfs_conf_filters.specs.declared.phrases.Verb.TheVariants as verb
use Rattle.pfs_conf_filters.specs.declared.phrases.Extras.{Extras}
use Rattle.pfs_conf_filters.specs.declared.phrases.Hosts.{Hosts}
use Rattle.pfs_conf_filters.specs.declared.phrases.Parameters.{Parameters}
use Rattle.pfs_conf_filters.specs.Grammar.{no_extras}
use Rattle.pfs_conf_filters.specs.Sides.{lacks_proto, source_of, destination_of}
use Rattle.pfs_conf_options.specs.declared.clauses.Options.{Options}
use Rattle.pfs_conf_options.specs.declared.clauses.OverloadText.{OverloadText}
use Rattle.pfs_conf_options.specs.declared.clauses.StateClause.{StateClause}
use Rattle.pfs_conf_options.specs.declared.clauses.StateClause.TheVariants as clause
use Rattle.pfs_conf_options.specs.Options.{none_given, options_given, has_overload_alone, has_global_connections, has_global_retention, has_broken_rule_pair, resolved_options}
use Rattle.pfs_conf_settings.specs.declared.tables.Parts.{Parts}
use Rattle.pfs_conf.specs.declared.phrases.Clauses.{Clauses}
use Rattle.pfs_conf.specs.declared.phrases.RuleText.{RuleText}
use Rattle.pfs_conf.specs.declared.phrases.AnchorText.{AnchorText}
use Rattle.pfs_conf.specs.declared.progress.Progress.{Progress}

-- ---- how far reading has come

-- nothing is read
abbrev pub nothing : Progress
nothing = record { draft = empty_draft; depth = 0; lines = [] }

-- ---- tables by their numbers: they are numbered by the first place in the text that names them

-- a host's table is used
abbrev pub name_host : Host (List ℕ) → Drafted → Drafted
name_host host.Any d = d
name_host (host.Prefix p b) d = d
name_host (host.Table n b) d = with_name n d

-- a host, with its table's number
abbrev pub number_host : Host (List ℕ) → Drafted → Host TableNo
number_host host.Any d = host.Any
number_host (host.Prefix p b) d = host.Prefix p b
number_host (host.Table n b) d = host.Table (record { 0 = number_of_table n d }) b

abbrev pub number_side : Side (List ℕ) → Drafted → Side TableNo
number_side s d = record { host = number_host s.host d; ports = s.ports }

-- the table of `overload` is used
abbrev pub name_overload : Option OverloadText → Drafted → Drafted
name_overload None d = d
name_overload (Some v) d = with_name v.table d

abbrev pub number_overload : Option OverloadText → Drafted → Option TableNo
number_overload None d = None
number_overload (Some v) d = Some (record { 0 = number_of_table v.table d })

-- what the parameters and the flags ask of a packet; the source's table is named before the destination's
abbrev pub filter_said : Parameters → FlagTest → Drafted → Filter
filter_said p f d = record {
  dir = p.head.dir;
  on = p.head.on;
  family = p.head.family;
  proto = p.head.proto;
  from = number_side (source_of p.hosts) d;
  to = number_side (destination_of p.hosts) (name_host (source_of p.hosts).host d);
  flags = f;
}

-- the tables of both hosts are used
abbrev pub name_hosts : Hosts → Drafted → Drafted
name_hosts h d = name_host (destination_of h).host (name_host (source_of h).host d)

-- ---- rules (pf.conf(5), PACKET FILTERING and STATEFUL FILTERING)

abbrev pub no_clauses : Clauses
no_clauses = record { flags = None; extras = no_extras; translation = no_translation; state = None }

-- the options of a state clause; none without one
abbrev pub state_options : Option StateClause → Options
state_options None = none_given
state_options (Some s) = options_given s

-- what a rule does: a pass rule keeps state unless it says `no state`
abbrev pub passing : Option StateClause → Option TableNo → Action
passing None table = action.Keep (resolved_options none_given table)
passing (Some clause.No) table = action.Pass
passing (Some (clause.Keep o)) table = action.Keep (resolved_options o table)

-- a match rule decides nothing
abbrev pub action_of : Verb → Option StateClause → Option TableNo → Action
action_of verb.Match s table = action.Match
action_of verb.Pass s table = passing s table
action_of (verb.Block has_policy) s table = action.Block

-- S/SA: of SYN and ACK, SYN alone
abbrev pub opening_flags : FlagTest
opening_flags = flag_test.Exactly
    (record { fin = false; syn = true; rst = false; psh = false; ack = false; urg = false; ece = false; cwr = false })
    (record { fin = false; syn = true; rst = false; psh = false; ack = true; urg = false; ece = false; cwr = false })

-- the flags that a rule asks for where none are given: S/SA if it keeps state, else any
abbrev pub default_flags : Action → FlagTest
default_flags action.Match = flag_test.Any
default_flags action.Block = flag_test.Any
default_flags action.Pass = flag_test.Any
default_flags (action.Keep o) = opening_flags

-- the draft in which a rule's tables are used: from, to, overload
abbrev pub name_rule : RuleText → Drafted → Drafted
name_rule r d = name_overload (state_options r.clauses.state).overload (name_hosts r.parameters.hosts d)

-- what a rule does, with its overload table's number
abbrev pub rule_action : RuleText → Drafted → Action
rule_action r d = action_of r.verb r.clauses.state (number_overload (state_options r.clauses.state).overload (name_hosts r.parameters.hosts d))

-- what it asks of how a packet came
abbrev pub came_said : Extras → Came
came_said e = record { tagged = e.tagged; received_on = e.received_on }

-- a filter that asks for this family in place of its own
abbrev pub with_family : Option Family → Filter → Filter
with_family family f = record f { family = family }

-- what a rule says; its translation gives it the family, as if written
abbrev pub rule_said : RuleText → Drafted → Rule
rule_said r d = record {
  quick = r.parameters.head.marks.quick;
  filter = with_family (given_family r.parameters.head.family r.clauses.translation) (filter_said r.parameters (unwrap_or r.clauses.flags (default_flags (rule_action r d))) d);
  came = came_said r.clauses.extras;
  tag = r.clauses.extras.tag;
  translation = r.clauses.translation;
  action = rule_action r d;
}

-- a rule that begins on a line is appended to the items
abbrev pub with_rule : ℕ → RuleText → Progress → Progress
with_rule line r p =
    record p { draft = with_item (record { depth = p.depth; what = what.Rule (rule_said r p.draft) }) (name_rule r p.draft); lines = p.lines ++ line ∷ [] }

-- ---- anchors (pf.conf(5), ANCHORS)

-- what the head of an anchor says; without `flags` it asks for none
abbrev pub anchor_said : AnchorText → Drafted → Anchor
anchor_said a d = record {
  name = a.name;
  quick = a.parameters.head.marks.quick;
  filter = filter_said a.parameters (unwrap_or a.flags flag_test.Any) d;
}

-- an anchor that begins on a line is appended to the items, and what follows is inside it
abbrev pub with_anchor : ℕ → AnchorText → Progress → Progress
with_anchor line a p = record {
  draft = with_item (record { depth = p.depth; what = what.Anchor (anchor_said a p.draft) }) (name_hosts a.parameters.hosts p.draft);
  depth = p.depth + 1;
  lines = p.lines ++ line ∷ [];
}

-- ---- tables (pf.conf(5), TABLES)

-- a table is defined; without braces it has no entries; `persist` and `counters` are read without effect
abbrev pub with_definition : List ℕ → Parts → Progress → Progress
with_definition name parts p = record p { draft = with_table (record { name = name; is_const = parts.is_const; entries = unwrap_or parts.entries [] }) p.draft }

-- ---- options (pf.conf(5), OPTIONS)

-- `set syncookies`
abbrev pub with_cookies : Syncookies → Progress → Progress
with_cookies s p = record p { draft = with_syncookies s p.draft }

-- ---- load rules (own)

-- the first of some load rules that is broken
abbrev pub first_broken : List (LoadRule × Bool) → Option LoadRule
first_broken [] = None
first_broken (r ∷ more) = if r.1 then Some r.0 else first_broken more

-- `keep state` on a block rule
abbrev pub keeps_on_block : Verb → Option StateClause → Bool
keeps_on_block (verb.Block has_policy) (Some (clause.Keep o)) = true
keeps_on_block _ _ = false

-- a translation without `in` and `out`, and one of another family
abbrev pub translates_no_way : RuleText → Bool
translates_no_way r = lacks_way r.parameters.head.dir r.clauses.translation

abbrev pub translates_family : RuleText → Bool
translates_family r =
    mixes_families r.parameters.head.family (family_of_host (source_of r.parameters.hosts).host) (family_of_host (destination_of r.parameters.hosts).host)
    r.clauses.translation

-- 10,000 rules and anchors are read already
abbrev pub is_full : Drafted → Bool
is_full d = nat_le 10000 (length d.items)

-- the load rules of a rule, in the order in which they are checked
abbrev pub rule_breaks : Drafted → RuleText → Option LoadRule
rule_breaks d r = first_broken (
    (load_rule.PortWithoutProto, lacks_proto r.parameters)
    ∷ (load_rule.StateOnBlock, keeps_on_block r.verb r.clauses.state)
    ∷ (load_rule.OverloadAlone, has_overload_alone (state_options r.clauses.state))
    ∷ (load_rule.GlobalConn, has_global_connections (state_options r.clauses.state))
    ∷ (load_rule.GlobalRetention, has_global_retention (state_options r.clauses.state))
    ∷ (load_rule.AdaptivePair, has_broken_rule_pair (state_options r.clauses.state))
    ∷ (load_rule.TranslationWithoutWay, translates_no_way r)
    ∷ (load_rule.TranslationFamily, translates_family r)
    ∷ (load_rule.TooManyRules, is_full d)
    ∷ [])

-- the load rules of an anchor's head: an anchor is inside at most 15 others
abbrev pub anchor_breaks : ℕ → Drafted → AnchorText → Option LoadRule
anchor_breaks depth d a = first_broken (
    (load_rule.PortWithoutProto, lacks_proto a.parameters)
    ∷ (load_rule.TooDeep, nat_le 16 depth)
    ∷ (load_rule.TooManyRules, is_full d)
    ∷ [])

-- the load rule of `set syncookies`
abbrev pub cookies_break : Syncookies → Option LoadRule
cookies_break s = first_broken ((load_rule.CookiePair, has_broken_shares s) ∷ [])

-- a load rule at the line at which it is broken, or else what others say
abbrev pub reported_or : LoadRule → Option (LoadRule × ℕ) → Option ℕ → Option (LoadRule × ℕ)
reported_or rule others None = others
reported_or rule others (Some line) = Some (rule, line)

-- the first of some load rules that has a line at which it is broken
abbrev pub first_reported : List (LoadRule × Option ℕ) → Option (LoadRule × ℕ)
first_reported [] = None
first_reported (r ∷ more) = reported_or r.0 (first_reported more) r.1

-- the line of an item of a number
abbrev pub line_of : Progress → ℕ → ℕ
line_of p n = slice_index_or p.lines n 0

-- what the text as a whole breaks is reported at line 0
abbrev pub at_line_0 : Bool → Option ℕ
at_line_0 false = None
at_line_0 true = Some 0

-- the load rules of a text, in the order in which they are checked, with the line at which they are reported: what a rule
-- breaks at the first such rule, the others at line 0
abbrev pub text_breaks : Progress → Option (LoadRule × ℕ)
text_breaks p = first_reported (
    (load_rule.ConstOverload, option_map (line_of p) (const_overload p.draft))
    ∷ (load_rule.AdaptivePair, at_line_0 (has_broken_pair p.draft))
    ∷ (load_rule.TooManyTables, at_line_0 (has_too_many_tables p.draft))
    ∷ (load_rule.NeedsProfile, at_line_0 (has_unprofiled_cookies p.draft))
    ∷ (load_rule.NeedsProfile, at_line_0 (has_unprofiled_routes p.draft))
    ∷ (load_rule.NeedsProfile, option_map (line_of p) (unprofiled p.draft))
    ∷ (load_rule.TooManyEntries, at_line_0 (has_too_many_entries p.draft))
    ∷ [])
