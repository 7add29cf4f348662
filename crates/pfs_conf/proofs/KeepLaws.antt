-- What keeps the load rules, with its tables by their numbers, is such as a configuration has.
use Rattle.std.proofs.Common.{◌≡◌, ℕ, ◌<◌, ◌≤◌, Bool, true, false, cond, leb, List, [], ◌∷◌, ◌++◌, ◌||◌, length, Option, Some, None, IfSome, refl, ◌∙◌, arith, length-append, ap}
use Rattle.std.specs.Prelude.{unwrap_or}
use Rattle.std.specs.Option.{option_or}
use Rattle.std.proofs.lemmas.Bool.{leb-false}
use Rattle.pfs_conf_tokens.specs.declared.refusals.LoadRule.{LoadRule}
use Rattle.pfs_conf_tokens.specs.declared.refusals.LoadRule.TheVariants as load_rule
use Rattle.pfs_conf_settings.specs.Drafts.{Drafted, tables_of, has_broken_shares}
use Rattle.pfs_conf_settings.specs.Namings.{Named, is_named, naming, place_in, table_number, undefined_table}
use Rattle.pfs_conf_values.specs.LoadRules.{IsTableNo, IsHost, IsSide, IsFilter, IsFlagTest, IsAction, IsRule, IsAnchor, IsQuick, IsTranslating, MayTranslate}
use Rattle.pfs_conf_values.specs.Translations.{family_of_host, family_of_rdr, family_of_translation, given_family, is_mixed, is_other, mixes_families, translates_by}
use Rattle.pfs_conf_values.specs.declared.actions.Action.{Action}
use Rattle.pfs_conf_values.specs.declared.actions.Action.TheVariants as action
use Rattle.pfs_conf_values.specs.declared.filters.Family.{Family}
use Rattle.pfs_conf_values.specs.declared.filters.Family.TheVariants as family
use Rattle.pfs_conf_values.specs.declared.filters.Filter.{Filter}
use Rattle.pfs_conf_values.specs.declared.filters.FlagTest.{FlagTest}
use Rattle.pfs_conf_values.specs.declared.filters.FlagTest.TheVariants as test
use Rattle.pfs_conf_values.specs.declared.filters.Host.{Host}
use Rattle.pfs_conf_values.specs.declared.filters.Host.TheVariants as host
use Rattle.pfs_conf_values.specs.declared.filters.Side.{Side}
use Rattle.pfs_conf_values.specs.declared.filters.TableNo.{TableNo}
use Rattle.pfs_conf_values.specs.declared.translations.Translation.{Translation}
use Rattle.pfs_conf_settings.proofs.NamingLaws.{naming_IsPlaced}
use Rattle.pfs_conf_values.specs.declared.syncookies.Syncookies.{Syncookies}
use Rattle.pfs_conf_filters.specs.declared.phrases.Hosts.{Hosts}
use Rattle.pfs_conf_filters.specs.declared.phrases.Parameters.{Parameters}
use Rattle.pfs_conf_filters.specs.declared.phrases.Verb.{Verb}
use Rattle.pfs_conf_filters.specs.declared.phrases.Verb.TheVariants as verb
use Rattle.pfs_conf_filters.specs.Sides.{lacks_proto, source_of, destination_of}
use Rattle.pfs_conf_options.specs.declared.clauses.OverloadText.{OverloadText}
use Rattle.pfs_conf_options.specs.declared.clauses.StateClause.{StateClause}
use Rattle.pfs_conf_options.specs.declared.clauses.StateClause.TheVariants as clause
use Rattle.pfs_conf_options.specs.Options.{none_given, has_overload_alone, has_global_connections, has_global_retention, has_broken_rule_pair}
use Rattle.pfs_conf_options.specs.Bounds.{AreRead}
use Rattle.pfs_conf_options.proofs.ReadLaws.{resolved_are}
use Rattle.pfs_conf.specs.declared.phrases.RuleText.{RuleText}
use Rattle.pfs_conf.specs.declared.phrases.AnchorText.{AnchorText}
use Rattle.pfs_conf.specs.Statements.{name_host, number_host, number_side, name_overload, number_overload, filter_said, name_hosts, state_options, action_of, default_flags, name_rule, rule_action, rule_said, anchor_said, keeps_on_block, is_full, rule_breaks, anchor_breaks, cookies_break, translates_family, translates_no_way, with_family}
use Rattle.pfs_conf.specs.PhraseBounds.{IsTableName, AreParameters, IsRuleText, IsAnchorText, MayBeQuick}
use Rattle.pfs_conf_filters.specs.Grammar.{may_translate, statement_of}

-- ---- tables

naming_more : (name : List ℕ) (n : Named) → length n.tables ≤ length (naming name n).tables
naming_more name n = choose (is_named name n.tables)
  where
    choose : (b : Bool) → length n.tables ≤ length (cond b n (record { tables = n.tables ++ undefined_table name ∷ []; defined = n.defined ++ false ∷ [] })).tables
    choose true = omega arith
    choose false = omega (arith, length-append n.tables (undefined_table name ∷ []))

host_more : (h : Host (List ℕ)) (d : Drafted) → length d.tables ≤ length (name_host h d).tables
host_more host.Any d = omega arith
host_more (host.Prefix p b) d = omega arith
host_more (host.Table n b) d = naming_more n (tables_of d)

overload_more : (v : Option OverloadText) (d : Drafted) → length d.tables ≤ length (name_overload v d).tables
overload_more None d = omega arith
overload_more (Some v) d = naming_more v.table (tables_of d)

host_items : (h : Host (List ℕ)) (d : Drafted) → (name_host h d).items ≡ d.items
host_items host.Any d = refl
host_items (host.Prefix p b) d = refl
host_items (host.Table n b) d = refl

overload_items : (v : Option OverloadText) (d : Drafted) → (name_overload v d).items ≡ d.items
overload_items None d = refl
overload_items (Some v) d = refl

pub hosts_items : (h : Hosts) (d : Drafted) → (name_hosts h d).items ≡ d.items
hosts_items h d = host_items (destination_of h).host (name_host (source_of h).host d) ∙ host_items (source_of h).host d

-- naming tables leaves the items
pub rule_items : (r : RuleText) (d : Drafted) → (name_rule r d).items ≡ d.items
rule_items r d = overload_items (state_options r.clauses.state).overload (name_hosts r.parameters.hosts d) ∙ hosts_items r.parameters.hosts d

-- where a place is one of so many, so is its number
number_within : (place tables : ℕ) → place < tables → table_number place < tables
number_within place tables h = omega arith

host_known : (tables : ℕ) (h : Host (List ℕ)) (d : Drafted) → IsHost IsTableName h → length (name_host h d).tables ≤ tables → IsHost (IsTableNo tables) (number_host h d)
host_known tables host.Any d k more = tt
host_known tables (host.Prefix p b) d k more = k
host_known tables (host.Table n b) d k more = let within = (naming_IsPlaced n (tables_of d)).within in number_within (place_in n d.tables) tables (omega arith)

side_known : (tables : ℕ) (s : Side (List ℕ)) (d : Drafted) → IsSide IsTableName s → length (name_host s.host d).tables ≤ tables → IsSide (IsTableNo tables) (number_side s d)
side_known tables s d k more = record { host = host_known tables s.host d k.host more; ports = k.ports }

overload_known : (v : Option OverloadText) (d : Drafted) → IfSome (number_overload v d) (IsTableNo (length (name_overload v d).tables))
overload_known None d = tt
overload_known (Some v) d = number_within (place_in v.table d.tables) (length (name_overload (Some v) d).tables) (naming_IsPlaced v.table (tables_of d)).within

family_kept : (tables : ℕ) (family : Option Family) (f : Filter) → IsFilter tables f → IsFilter tables (with_family family f)
family_kept tables family f k = record { on = k.on; proto = k.proto; source = k.source; destination = k.destination; flags = k.flags; ports = k.ports }

filter_kept : (tables : ℕ) (p : Parameters) (f : FlagTest) (d : Drafted) → AreParameters p → IsFlagTest f → lacks_proto p ≡ false → length (name_hosts p.hosts d).tables ≤ tables → IsFilter tables (filter_said p f d)
filter_kept tables p f d k flags lacks more =
    let behind = host_more (destination_of p.hosts).host (name_host (source_of p.hosts).host d) in
    record {
      on = k.on;
      proto = k.proto;
      source = side_known tables (source_of p.hosts) d k.source (omega arith);
      destination = side_known tables (destination_of p.hosts) (name_host (source_of p.hosts).host d) k.destination more;
      flags = flags;
      ports = lacks;
    }

-- ---- load rules

first_kept : (b : Bool) (r : LoadRule) (more : Option LoadRule) → cond b (Some r) more ≡ None → (b ≡ false) × (more ≡ None)
first_kept true r more e = absurd cc
first_kept false r more e = (refl, e)

-- of a rule that breaks none
record BreaksNone (d : Drafted) (r : RuleText) : Type 0 where
  proto : lacks_proto r.parameters ≡ false
  alone : has_overload_alone (state_options r.clauses.state) ≡ false
  connections : has_global_connections (state_options r.clauses.state) ≡ false
  retention : has_global_retention (state_options r.clauses.state) ≡ false
  pair : has_broken_rule_pair (state_options r.clauses.state) ≡ false
  way : translates_no_way r ≡ false
  family : translates_family r ≡ false
  room : is_full d ≡ false

kept : (d : Drafted) (r : RuleText) → rule_breaks d r ≡ None → BreaksNone d r
kept d r e =
    let a = first_kept (lacks_proto r.parameters) load_rule.PortWithoutProto _ e in
    let b = first_kept (keeps_on_block r.verb r.clauses.state) load_rule.StateOnBlock _ a.1 in
    let c = first_kept (has_overload_alone (state_options r.clauses.state)) load_rule.OverloadAlone _ b.1 in
    let f = first_kept (has_global_connections (state_options r.clauses.state)) load_rule.GlobalConn _ c.1 in
    let g = first_kept (has_global_retention (state_options r.clauses.state)) load_rule.GlobalRetention _ f.1 in
    let h = first_kept (has_broken_rule_pair (state_options r.clauses.state)) load_rule.AdaptivePair _ g.1 in
    let w = first_kept (translates_no_way r) load_rule.TranslationWithoutWay _ h.1 in
    let x = first_kept (translates_family r) load_rule.TranslationFamily _ w.1 in
    let i = first_kept (is_full d) load_rule.TooManyRules _ x.1 in
    record { proto = a.0; alone = c.0; connections = f.0; retention = g.0; pair = h.0; way = w.0; family = x.0; room = i.0 }

pub rule_has_room : (d : Drafted) (r : RuleText) → rule_breaks d r ≡ None → length d.items < 10000
rule_has_room d r e = leb-false 10000 (length d.items) (kept d r e).room

action_kept : (tables : ℕ) (v : Verb) (s : Option StateClause) (table : Option TableNo) → AreRead (state_options s) → IfSome table (IsTableNo tables)
    → has_overload_alone (state_options s) ≡ false → has_global_connections (state_options s) ≡ false → has_global_retention (state_options s) ≡ false → has_broken_rule_pair (state_options s) ≡ false
    → IsAction tables (action_of v s table)
action_kept tables verb.Match s table k t e1 e2 e3 e4 = tt
action_kept tables (verb.Block b) s table k t e1 e2 e3 e4 = tt
action_kept tables verb.Pass None table k t e1 e2 e3 e4 = resolved_are tables none_given table k t e1 e2 e3 e4
action_kept tables verb.Pass (Some clause.No) table k t e1 e2 e3 e4 = tt
action_kept tables verb.Pass (Some (clause.Keep o)) table k t e1 e2 e3 e4 = resolved_are tables o table k t e1 e2 e3 e4

default_kept : (a : Action) → IsFlagTest (default_flags a)
default_kept action.Match = tt
default_kept action.Block = tt
default_kept action.Pass = tt
default_kept (action.Keep o) = refl

flags_kept : (f : FlagTest) (o : Option FlagTest) → IsFlagTest f → IfSome o IsFlagTest → IsFlagTest (unwrap_or o f)
flags_kept f None k h = k
flags_kept f (Some g) k h = h

quick_kept : (v : Verb) (s : Option StateClause) (table : Option TableNo) (quick : Bool) → MayBeQuick (statement_of v) quick → IsQuick (action_of v s table) quick
quick_kept verb.Match s table quick h = h
quick_kept (verb.Block b) s table quick h = tt
quick_kept verb.Pass None table quick h = tt
quick_kept verb.Pass (Some clause.No) table quick h = tt
quick_kept verb.Pass (Some (clause.Keep o)) table quick h = tt

-- ---- what a rule translates

may_kept : (v : Verb) (s : Option StateClause) (table : Option TableNo) (t : Translation) → (may_translate v ≡ false → translates_by t ≡ false)
    → MayTranslate (action_of v s table) t
may_kept verb.Match s table t h = tt
may_kept (verb.Block b) s table t h = h refl
may_kept verb.Pass None table t h = tt
may_kept verb.Pass (Some clause.No) table t h = tt
may_kept verb.Pass (Some (clause.Keep o)) table t h = tt

-- the family that a translation gives is given once
given_again : (written : Option Family) (t : Translation) → given_family (given_family written t) t ≡ given_family written t
given_again written t = by (family_of_translation t)
  where
    by : (f : Option Family) → option_or f (option_or f written) ≡ option_or f written
    by None = refl
    by (Some f) = refl

no_other : (f : Family) → is_other f (Some f) ≡ false
no_other family.Inet = refl
no_other family.Inet6 = refl

-- and mixes with none, where that which was written did not
given_unmixed : (written source destination : Option Family) (t : Translation) → mixes_families written source destination t ≡ false
    → mixes_families (given_family written t) source destination t ≡ false
given_unmixed written source destination t h = by (family_of_translation t) h
  where
    rdr : Option Family
    rdr = family_of_rdr t.rdr_to

    by : (f : Option Family) → is_mixed f written source destination rdr ≡ false → is_mixed f (option_or f written) source destination rdr ≡ false
    by None e = refl
    by (Some f) e =
        ap (λ b. b || is_other f source || is_other f destination || is_other f rdr) (no_other f)
        ∙ three (is_other f written) (is_other f source) (is_other f destination) (is_other f rdr) e
      where
        three : (a b c d : Bool) → a || b || c || d ≡ false → false || b || c || d ≡ false
        three a b c d e = grind (arith, e)

-- the numbers of tables leave the family of a host
host_family : (h : Host (List ℕ)) (d : Drafted) → family_of_host (number_host h d) ≡ family_of_host h
host_family host.Any d = refl
host_family (host.Prefix p b) d = refl
host_family (host.Table n b) d = refl

translating_kept : (d : Drafted) (r : RuleText) → IsRuleText r → BreaksNone d r → IsTranslating (rule_said r d)
translating_kept d r k h =
    let hosts = r.parameters.hosts in
    let t = r.clauses.translation in
    record {
      translation = k.translation;
      may = may_kept r.verb r.clauses.state (number_overload (state_options r.clauses.state).overload (name_hosts hosts d)) t k.translates;
      way = h.way;
      given = given_again r.parameters.head.family t;
      families =
          ap (λ f. mixes_families (given_family r.parameters.head.family t) f (family_of_host (number_host (destination_of hosts).host (name_host (source_of hosts).host d))) t) (host_family (source_of hosts).host d)
          ∙ ap (λ f. mixes_families (given_family r.parameters.head.family t) (family_of_host (source_of hosts).host) f t) (host_family (destination_of hosts).host (name_host (source_of hosts).host d))
          ∙ given_unmixed r.parameters.head.family (family_of_host (source_of hosts).host) (family_of_host (destination_of hosts).host) t h.family;
    }

-- a rule that keeps the load rules
pub rule_is_kept : (d : Drafted) (r : RuleText) → IsRuleText r → rule_breaks d r ≡ None → IsRule (length (name_rule r d).tables) (rule_said r d)
rule_is_kept d r k e =
    let h = kept d r e in
    let tables = length (name_rule r d).tables in
    let more = overload_more (state_options r.clauses.state).overload (name_hosts r.parameters.hosts d) in
    record {
      filter = family_kept tables (given_family r.parameters.head.family r.clauses.translation) (filter_said r.parameters (unwrap_or r.clauses.flags (default_flags (rule_action r d))) d)
          (filter_kept tables r.parameters (unwrap_or r.clauses.flags (default_flags (rule_action r d))) d k.parameters
          (flags_kept (default_flags (rule_action r d)) r.clauses.flags (default_kept (rule_action r d)) k.flags) h.proto more);
      came = record { tagged = k.extras.tagged; received_on = k.extras.received_on };
      tag = k.extras.tag;
      translating = translating_kept d r k h;
      action = action_kept tables r.verb r.clauses.state (number_overload (state_options r.clauses.state).overload (name_hosts r.parameters.hosts d)) k.options
          (overload_known (state_options r.clauses.state).overload (name_hosts r.parameters.hosts d)) h.alone h.connections h.retention h.pair;
      quick = quick_kept r.verb r.clauses.state (number_overload (state_options r.clauses.state).overload (name_hosts r.parameters.hosts d)) r.parameters.head.marks.quick k.quick;
    }

-- ---- anchors

anchor_kept : (depth : ℕ) (d : Drafted) (a : AnchorText) → anchor_breaks depth d a ≡ None → (lacks_proto a.parameters ≡ false) × (leb 16 depth ≡ false) × (is_full d ≡ false)
anchor_kept depth d a e =
    let x = first_kept (lacks_proto a.parameters) load_rule.PortWithoutProto _ e in
    let y = first_kept (leb 16 depth) load_rule.TooDeep _ x.1 in
    let z = first_kept (is_full d) load_rule.TooManyRules _ y.1 in
    (x.0, y.0, z.0)

pub anchor_has_room : (depth : ℕ) (d : Drafted) (a : AnchorText) → anchor_breaks depth d a ≡ None → length d.items < 10000
anchor_has_room depth d a e = leb-false 10000 (length d.items) (anchor_kept depth d a e).2

pub anchor_is_shallow : (depth : ℕ) (d : Drafted) (a : AnchorText) → anchor_breaks depth d a ≡ None → depth < 16
anchor_is_shallow depth d a e = leb-false 16 depth (anchor_kept depth d a e).1

-- the head of an anchor that keeps the load rules
pub anchor_is_kept : (depth : ℕ) (d : Drafted) (a : AnchorText) → IsAnchorText a → anchor_breaks depth d a ≡ None → IsAnchor (length (name_hosts a.parameters.hosts d).tables) (anchor_said a d)
anchor_is_kept depth d a k e = record {
  filter = filter_kept (length (name_hosts a.parameters.hosts d).tables) a.parameters (unwrap_or a.flags test.Any) d k.parameters (flags_kept test.Any a.flags tt k.flags) (anchor_kept depth d a e).0 (omega arith);
  name = k.name;
}

-- ---- SYN cookies

-- shares that break no load rule
pub shares_kept : (s : Syncookies) → cookies_break s ≡ None → has_broken_shares s ≡ false
shares_kept s e = by (has_broken_shares s) e
  where
    by : (b : Bool) → cond b (Some load_rule.CookiePair) None ≡ None → b ≡ false
    by true h = absurd cc
    by false h = refl
