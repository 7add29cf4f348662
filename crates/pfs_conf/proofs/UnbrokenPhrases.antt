-- The readers of parameters, of state clauses, of options and of tables check no load rule.
use Rattle.std.proofs.Common.{ℕ, Bool, true, false, List, [], Option, Some, None, slice_index_or, slice_set}
use Rattle.pfs_conf_tokens.specs.Tokens.{Tok}
use Rattle.pfs_conf_tokens.specs.declared.keys.Key.{Key}
use Rattle.pfs_conf_tokens.specs.declared.keys.Key.TheVariants as key
use Rattle.pfs_conf_tokens.specs.declared.refusals.Why.{Why}
use Rattle.pfs_conf_tokens.specs.declared.refusals.Why.TheVariants as why
use Rattle.pfs_conf_tokens.specs.Keys.{is_word_key, ends_line}
use Rattle.pfs_conf_tokens.specs.Reading.{closes_parens, closes_braces, Reader, Act, refuse, on_front, done, chain, skipping, number_at, comma_at, take}
use Rattle.pfs_addr_values.specs.Prefixes.{Network}
use Rattle.pfs_addr_values.specs.Protocols.{proto_in}
use Rattle.pfs_addr.specs.Texts.{addr_of, prefix_of}
use Rattle.pfs_addr_values.specs.declared.packets.Dir.TheVariants as dir
use Rattle.pfs_conf_values.specs.Entries.{TextEntry, sign_of}
use Rattle.pfs_conf_settings.specs.Drafts.{Drafted, with_limit, with_profile, with_route, with_timeout, usual_shares}
use Rattle.pfs_conf_settings.specs.RouteGrammar.{interface_named}
use Rattle.pfs_conf_settings.specs.Routes.{leaving_at, leaving_name_at, prefix_at, route_at, route_by, routed_at}
use Rattle.pfs_conf_values.specs.Bounds.{greatest_timeout}
use Rattle.pfs_conf_values.specs.declared.actions.Rate.{Rate}
use Rattle.pfs_conf_values.specs.declared.actions.Scope.TheVariants as scope
use Rattle.pfs_conf_values.specs.declared.filters.Family.TheVariants as family
use Rattle.pfs_conf_values.specs.declared.filters.Host.{Host}
use Rattle.pfs_conf_values.specs.declared.filters.Host.TheVariants as host
use Rattle.pfs_conf_values.specs.declared.limits.LimitName.{LimitName}
use Rattle.pfs_conf_values.specs.declared.limits.LimitName.TheVariants as limit
use Rattle.pfs_conf_values.specs.declared.profiles.Profile.TheVariants as profile
use Rattle.pfs_conf_values.specs.declared.timeouts.TimeoutName.{TimeoutName}
use Rattle.pfs_conf_filters.specs.declared.phrases.Statement.{Statement}
use Rattle.pfs_conf_filters.specs.declared.phrases.Statement.TheVariants as statement
use Rattle.pfs_conf_filters.specs.declared.phrases.Verb.TheVariants as verb
use Rattle.pfs_conf_filters.specs.Values.{in_plain_word, interface_name, port_of, ports_of, flag_test, tag_name}
use Rattle.pfs_conf_filters.specs.Reading.{behind, clause, part, begins_dir, begins_on, begins_family, begins_proto, begins_from, begins_to, begins_port, begins_flags, interface_at, policy_by, policy_at, verb_by, verb_at, dir_by, dir_at, log_item_by, log_item_at, log_list_by, log_list_at, log_by, log_at, quick_by, quick_at, marks_of, marks_by, marks_at, negation_by, negation_at, interface, on_at, on_part_at, family_by, family_part_at, proto_at, proto_part_at, head_at, close_by, close_at, place_by, place_at, host_by, host_at, equals_by, equals_at, ports_at, ports_part_at, side_host_by, side_host_at, side, side_at, from_part_at, to_part_at, all_hosts, given_hosts, hosts_by, hosts_at, parameters_at, flags_at, tag_name_at, tag_test, tag_at, tagged_at, received_on_at, asked_by, asks_both, extra_by, extra_at, address_at, given_ports_at, nat_ports_by, nat_ports_at, natted, nat_to_at, port_at, port_part_at, redirected, rdr_to_at, with_nat_at, with_rdr_at, translation_by, translation_at}
use Rattle.pfs_conf_options.specs.Options.{none_given, proxied, rule_place}
use Rattle.pfs_conf_options.specs.Reading.{track_by, track_at, rate_of, rate_found, rate_by, rate_at, name_closed_by, name_closed, table_by, table_at, flushed_by, flush_by, flush_at, overload_text_at, mark_once, timeout_by, mark_by, connection_by, option_by, option_at, state_options_at, kept_by, kept_at, kept_clause, proxied_clause, behind_state, state_word, state_by, state_at}
use Rattle.pfs_conf_tokens.specs.Values.{in_word, table_name, table_name_at, value_at, valued}
use Rattle.pfs_conf_options.specs.declared.clauses.Track.TheVariants as track
use Rattle.pfs_conf_options.specs.declared.clauses.Options.{Options}
use Rattle.pfs_conf_options.specs.declared.clauses.StateClause.{StateClause}
use Rattle.pfs_conf_options.specs.declared.clauses.StateClause.TheVariants as state_clause
use Rattle.pfs_conf_settings.specs.Settings as setting
use Rattle.pfs_conf_settings.specs.declared.settings.Setting.{Setting}
use Rattle.pfs_conf_settings.specs.declared.settings.Setting.TheVariants as variant
use Rattle.pfs_conf_settings.specs.Settings.{timeout_named, limit_statement, limit_by, limit_at, least_value, greatest_value, unkept, timeout_statement, time_by, time_at, setting_at, lined_setting_at, some_settings_by, some_settings_at, profile_by, profile_at, settings_by, settings_at}
use Rattle.pfs_conf_settings.specs.Tables as tables
use Rattle.pfs_conf_settings.specs.Tables.{again, entry_joined, entries_with, entry_by, entry_at, lined_entry_at, entries_by, braced_entries_at, unless, part_by, part_at, parts_at}
use Rattle.pfs_conf_settings.specs.TableGrammar.{no_parts}
use Rattle.pfs_conf_settings.specs.declared.tables.Parts.{Parts}
use Rattle.pfs_conf_settings.specs.Syncookies.{shares_closed_at, shares_closed_by, end_share_at, end_share_by, share_at, share_by, share_found, share_of, shares_at, shares_by, start_share_at, start_share_by, syncookies_at, syncookies_by}
use Rattle.pfs_conf_values.specs.declared.syncookies.Syncookies.{Syncookies}
use Rattle.pfs_conf_values.specs.declared.syncookies.Syncookies.TheVariants as cookies
use Rattle.pfs_conf.proofs.UnbrokenLaws.{Unbroken, UnbrokenAct, unbroken_done, unbroken_chain, unbroken_front, unbroken_if, unbroken_once, unbroken_perhaps, unbroken_up_to, unbroken_comma, unbroken_list, unbroken_skipping, unbroken_number}
use Rattle.pfs_conf_filters.specs.declared.phrases.Extras.{Extras}
use Rattle.pfs_conf_values.specs.declared.translations.NatPorts.TheVariants as nat_ports
use Rattle.pfs_conf_values.specs.declared.translations.Translation.{Translation}

-- ---- parameters

valued_acts : {A : Type 0} (w : Why) (o : Option A) → UnbrokenAct (valued w o)
valued_acts w None = tt
valued_acts w (Some x) = unbroken_done x

unbroken_value : {A : Type 0} (w : Why) (value : Tok → Option A) → Unbroken (value_at w value)
unbroken_value w value = unbroken_front (λ t. valued w (value t)) (λ t. valued_acts w (value t))

behind_acts : {A : Type 0} (b : Bool) (f : Reader A) → Unbroken f → UnbrokenAct (behind b f)
behind_acts true f h = h
behind_acts false f h = tt

unbroken_clause : {A : Type 0} (begins : Key → Bool) (f : Reader A) → Unbroken f → Unbroken (clause begins f)
unbroken_clause begins f h = unbroken_front (λ t. behind (begins t.key) f) (λ t. behind_acts (begins t.key) f h)

unbroken_part : {A : Type 0} (begins : Key → Bool) (f : Reader A) → Unbroken f → Unbroken (part begins f)
unbroken_part begins f h = unbroken_perhaps begins (clause begins f) (unbroken_clause begins f h)

unbroken_interface_name : Unbroken interface_at
unfolding interface_at
unbroken_interface_name = unbroken_value why.Plain interface_name

unbroken_tag_name : Unbroken tag_name_at
unfolding tag_name_at
unbroken_tag_name = unbroken_value why.Plain tag_name

unbroken_table_name : Unbroken table_name_at
unfolding table_name_at
unbroken_table_name = unbroken_value why.Plain table_name

policy_acts : (k : Key) → UnbrokenAct (policy_by k)
policy_acts key.Drop = unbroken_done true
policy_acts key.Return = unbroken_done true
policy_acts key.ReturnRst = unbroken_done true
policy_acts key.ReturnIcmp = unbroken_done true
policy_acts key.ReturnIcmp6 = unbroken_done true
policy_acts _ = unbroken_done false

unbroken_policy : Unbroken policy_at
unfolding policy_at
unbroken_policy = unbroken_front (λ t. policy_by t.key) (λ t. policy_acts t.key)

verb_acts : (k : Key) → UnbrokenAct (verb_by k)
verb_acts key.Pass = unbroken_done verb.Pass
verb_acts key.Match = unbroken_done verb.Match
verb_acts key.Block = unbroken_chain policy_at (λ p. done (verb.Block p)) unbroken_policy (λ p. unbroken_done (verb.Block p))
verb_acts _ = tt

pub unbroken_verb : Unbroken verb_at
unfolding verb_at
unbroken_verb = unbroken_front (λ t. verb_by t.key) (λ t. verb_acts t.key)

dir_acts : (k : Key) → UnbrokenAct (dir_by k)
dir_acts key.In = unbroken_done dir.In
dir_acts key.Out = unbroken_done dir.Out
dir_acts _ = tt

unbroken_dir : Unbroken dir_at
unfolding dir_at
unbroken_dir = unbroken_perhaps begins_dir (on_front (λ t. dir_by t.key)) (unbroken_front (λ t. dir_by t.key) (λ t. dir_acts t.key))

log_item_acts : (k : Key) → UnbrokenAct (log_item_by k)
log_item_acts key.All = unbroken_done tt
log_item_acts key.Matches = unbroken_done tt
log_item_acts key.User = unbroken_done tt
log_item_acts key.To = unbroken_chain interface_at (λ n. done tt) unbroken_interface_name (λ n. unbroken_done tt)
log_item_acts _ = tt

unbroken_log_item : (u : Unit {0}) → Unbroken (log_item_at u)
unfolding log_item_at
unbroken_log_item u = unbroken_front (λ t. log_item_by t.key) (λ t. log_item_acts t.key)

log_list_acts : (k : Key) → UnbrokenAct (log_list_by k)
log_list_acts key.OpenParen = unbroken_list closes_parens log_item_at unbroken_log_item tt
log_list_acts _ = unbroken_done tt

unbroken_log_list : Unbroken log_list_at
unfolding log_list_at
unbroken_log_list = unbroken_front (λ t. log_list_by t.key) (λ t. log_list_acts t.key)

log_acts : (k : Key) → UnbrokenAct (log_by k)
log_acts key.Log = unbroken_chain log_list_at (λ u. done true) unbroken_log_list (λ u. unbroken_done true)
log_acts _ = unbroken_done false

unbroken_log : Unbroken log_at
unfolding log_at
unbroken_log = unbroken_front (λ t. log_by t.key) (λ t. log_acts t.key)

quick_acts : (k : Key) → UnbrokenAct (quick_by k)
quick_acts key.Quick = unbroken_done true
quick_acts _ = unbroken_done false

unbroken_quick : Unbroken quick_at
unfolding quick_at
unbroken_quick = unbroken_front (λ t. quick_by t.key) (λ t. quick_acts t.key)

log_then_quick : Unbroken (chain log_at (λ l. chain quick_at (λ q. done (marks_of l q))))
log_then_quick = unbroken_chain log_at (λ l. chain quick_at (λ q. done (marks_of l q))) unbroken_log (λ l. unbroken_chain quick_at (λ q. done (marks_of l q)) unbroken_quick (λ q. unbroken_done (marks_of l q)))

marks_acts : (s : Statement) (k : Key) → UnbrokenAct (marks_by s k)
marks_acts statement.Rule key.Quick = unbroken_chain log_at (λ l. done (marks_of l true)) unbroken_log (λ l. unbroken_done (marks_of l true))
marks_acts statement.Rule _ = log_then_quick
marks_acts statement.Match k = unbroken_chain log_at (λ l. done (marks_of l false)) unbroken_log (λ l. unbroken_done (marks_of l false))
marks_acts statement.Anchor k = unbroken_chain quick_at (λ q. done (marks_of false q)) unbroken_quick (λ q. unbroken_done (marks_of false q))

unbroken_marks : (s : Statement) → Unbroken (marks_at s)
unfolding marks_at
unbroken_marks s = unbroken_front (λ t. marks_by s t.key) (λ t. marks_acts s t.key)

negation_acts : (k : Key) → UnbrokenAct (negation_by k)
negation_acts key.Not = unbroken_done true
negation_acts _ = unbroken_done false

unbroken_negation : Unbroken negation_at
unfolding negation_at
unbroken_negation = unbroken_front (λ t. negation_by t.key) (λ t. negation_acts t.key)

unbroken_on : Unbroken on_at
unfolding on_at
unbroken_on = unbroken_chain negation_at (λ b. chain interface_at (λ n. done (interface n b))) unbroken_negation (λ b. unbroken_chain interface_at (λ n. done (interface n b)) unbroken_interface_name (λ n. unbroken_done (interface n b)))

unbroken_on_part : Unbroken on_part_at
unfolding on_part_at
unbroken_on_part = unbroken_part begins_on on_at unbroken_on

family_acts : (k : Key) → UnbrokenAct (family_by k)
family_acts key.Inet = unbroken_done family.Inet
family_acts key.Inet6 = unbroken_done family.Inet6
family_acts _ = tt

unbroken_family_part : Unbroken family_part_at
unfolding family_part_at
unbroken_family_part = unbroken_perhaps begins_family (on_front (λ t. family_by t.key)) (unbroken_front (λ t. family_by t.key) (λ t. family_acts t.key))

unbroken_proto : Unbroken proto_at
unfolding proto_at
unbroken_proto = unbroken_value why.Service (in_word proto_in)

unbroken_proto_part : Unbroken proto_part_at
unfolding proto_part_at
unbroken_proto_part = unbroken_part begins_proto proto_at unbroken_proto

unbroken_head : (s : Statement) → Unbroken (head_at s)
unfolding head_at
unbroken_head s =
    unbroken_chain dir_at _ unbroken_dir (λ d. unbroken_chain (marks_at s) _ (unbroken_marks s) (λ m. unbroken_chain on_part_at _ unbroken_on_part (λ o.
    unbroken_chain family_part_at _ unbroken_family_part (λ f. unbroken_chain proto_part_at _ unbroken_proto_part (λ p.
    unbroken_done (record { dir = d; marks = m; on = o; family = f; proto = p }))))))

close_acts : (k : Key) → UnbrokenAct (close_by k)
close_acts key.CloseAngle = unbroken_done tt
close_acts _ = tt

unbroken_close : Unbroken close_at
unfolding close_at
unbroken_close = unbroken_front (λ t. close_by t.key) (λ t. close_acts t.key)

unbroken_prefix : (b : Bool) → Unbroken {A = Host (List ℕ)} (chain (value_at why.Host (in_plain_word prefix_of)) (λ p. done (host.Prefix p b)))
unbroken_prefix b = unbroken_chain (value_at why.Host (in_plain_word prefix_of)) (λ p. done (host.Prefix p b)) (unbroken_value why.Host (in_plain_word prefix_of)) (λ p. unbroken_done (host.Prefix p b))

place_acts : (b : Bool) (k : Key) → UnbrokenAct (place_by b k)
place_acts b key.OpenAngle = unbroken_chain table_name_at _ unbroken_table_name (λ n. unbroken_chain close_at _ unbroken_close (λ u. unbroken_done (host.Table n b)))
place_acts b _ = unbroken_prefix b

unbroken_place : (b : Bool) → Unbroken (place_at b)
unfolding place_at
unbroken_place b = unbroken_front (λ t. place_by b t.key) (λ t. place_acts b t.key)

unbroken_any_place : Unbroken (chain negation_at place_at)
unbroken_any_place = unbroken_chain negation_at place_at unbroken_negation unbroken_place

host_acts : (k : Key) → UnbrokenAct (host_by k)
host_acts key.Any = unbroken_done host.Any
host_acts _ = unbroken_any_place

unbroken_host : Unbroken host_at
unfolding host_at
unbroken_host = unbroken_front (λ t. host_by t.key) (λ t. host_acts t.key)

equals_acts : (k : Key) → UnbrokenAct (equals_by k)
equals_acts key.Equals = unbroken_done true
equals_acts _ = unbroken_done false

unbroken_equals : Unbroken equals_at
unfolding equals_at
unbroken_equals = unbroken_front (λ t. equals_by t.key) (λ t. equals_acts t.key)

unbroken_ports : Unbroken ports_at
unfolding ports_at
unbroken_ports = unbroken_chain equals_at (λ e. value_at why.Service (in_word ports_of)) unbroken_equals (λ e. unbroken_value why.Service (in_word ports_of))

unbroken_ports_part : Unbroken ports_part_at
unfolding ports_part_at
unbroken_ports_part = unbroken_part begins_port ports_at unbroken_ports

side_host_acts : (k : Key) → UnbrokenAct (side_host_by k)
side_host_acts key.Port = unbroken_done host.Any
side_host_acts _ = unbroken_host

unbroken_side_host : Unbroken side_host_at
unfolding side_host_at
unbroken_side_host = unbroken_front (λ t. side_host_by t.key) (λ t. side_host_acts t.key)

unbroken_side : Unbroken side_at
unfolding side_at
unbroken_side = unbroken_chain side_host_at (λ h. chain ports_part_at (λ p. done (side h p))) unbroken_side_host (λ h. unbroken_chain ports_part_at (λ p. done (side h p)) unbroken_ports_part (λ p. unbroken_done (side h p)))

unbroken_from_part : Unbroken from_part_at
unfolding from_part_at
unbroken_from_part = unbroken_part begins_from side_at unbroken_side

unbroken_to_part : Unbroken to_part_at
unfolding to_part_at
unbroken_to_part = unbroken_part begins_to side_at unbroken_side

unbroken_sides : Unbroken (chain from_part_at (λ f. chain to_part_at (λ t. done (given_hosts f t))))
unbroken_sides = unbroken_chain from_part_at (λ f. chain to_part_at (λ t. done (given_hosts f t))) unbroken_from_part (λ f. unbroken_chain to_part_at (λ t. done (given_hosts f t)) unbroken_to_part (λ t. unbroken_done (given_hosts f t)))

hosts_acts : (k : Key) → UnbrokenAct (hosts_by k)
hosts_acts key.All = unbroken_done all_hosts
hosts_acts _ = unbroken_sides

unbroken_hosts : Unbroken hosts_at
unfolding hosts_at
unbroken_hosts = unbroken_front (λ t. hosts_by t.key) (λ t. hosts_acts t.key)

tag_unbroken : (e : Extras) → Unbroken (tag_at e)
unfolding tag_at
tag_unbroken e = unbroken_chain tag_name_at (λ n. done (record e { tag = Some n })) unbroken_tag_name (λ n. unbroken_done (record e { tag = Some n }))

tagged_unbroken : (e : Extras) (b : Bool) → Unbroken (tagged_at e b)
unfolding tagged_at
tagged_unbroken e b = unbroken_chain tag_name_at (λ n. done (record e { tagged = Some (tag_test n b) })) unbroken_tag_name (λ n. unbroken_done (record e { tagged = Some (tag_test n b) }))

received_on_unbroken : (e : Extras) (b : Bool) → Unbroken (received_on_at e b)
unfolding received_on_at
received_on_unbroken e b = unbroken_chain interface_at (λ n. done (record e { received_on = Some (interface n b) })) unbroken_interface_name (λ n. unbroken_done (record e { received_on = Some (interface n b) }))

asked_acts : (e : Extras) (b : Bool) (k : Key) → UnbrokenAct (asked_by e b k)
asked_acts e b key.Tagged = unbroken_once e.tagged (take (tagged_at e b)) (tagged_unbroken e b)
asked_acts e b key.ReceivedOn = unbroken_once e.received_on (take (received_on_at e b)) (received_on_unbroken e b)
asked_acts e b _ = tt

extra_acts : (e : Extras) (k : Key) → UnbrokenAct (extra_by e k)
extra_acts e key.Tag = unbroken_once e.tag (take (tag_at e)) (tag_unbroken e)
extra_acts e key.Not = unbroken_if (asks_both e) (refuse why.Again) (take (on_front (λ t. asked_by e true t.key))) tt (unbroken_front (λ t. asked_by e true t.key) (λ t. asked_acts e true t.key))
extra_acts e k = asked_acts e false k

pub unbroken_extra : (e : Extras) → Unbroken (extra_at e)
unfolding extra_at
unbroken_extra e = unbroken_front (λ t. extra_by e t.key) (λ t. extra_acts e t.key)

unbroken_nat_ports : Unbroken nat_ports_at
unfolding nat_ports_at given_ports_at
unbroken_nat_ports = unbroken_front (λ t. nat_ports_by t.key) (λ t. nat_ports_acts t.key)
  where
    nat_ports_acts : (k : Key) → UnbrokenAct (nat_ports_by k)
    nat_ports_acts key.Port = unbroken_chain (value_at why.Service (in_word ports_of)) (λ p. done (nat_ports.Given p)) (unbroken_value why.Service (in_word ports_of)) (λ p. unbroken_done (nat_ports.Given p))
    nat_ports_acts key.StaticPort = unbroken_done nat_ports.Static
    nat_ports_acts _ = unbroken_done nat_ports.Usual

unbroken_address : Unbroken address_at
unfolding address_at
unbroken_address = unbroken_value why.Host (in_plain_word addr_of)

unbroken_nat_to : Unbroken nat_to_at
unfolding nat_to_at
unbroken_nat_to = unbroken_chain address_at (λ a. chain nat_ports_at (λ p. done (natted a p))) unbroken_address (λ a. unbroken_chain nat_ports_at (λ p. done (natted a p)) unbroken_nat_ports (λ p. unbroken_done (natted a p)))

unbroken_port : Unbroken port_at
unfolding port_at
unbroken_port = unbroken_value why.Service (in_word port_of)

unbroken_port_part : Unbroken port_part_at
unfolding port_part_at
unbroken_port_part = unbroken_part begins_port port_at unbroken_port

unbroken_rdr_to : Unbroken rdr_to_at
unfolding rdr_to_at
unbroken_rdr_to = unbroken_chain address_at (λ a. chain port_part_at (λ p. done (redirected a p))) unbroken_address (λ a. unbroken_chain port_part_at (λ p. done (redirected a p)) unbroken_port_part (λ p. unbroken_done (redirected a p)))

with_nat_unbroken : (t : Translation) → Unbroken (with_nat_at t)
unfolding with_nat_at
with_nat_unbroken t = unbroken_chain nat_to_at (λ n. done (record t { nat_to = Some n })) unbroken_nat_to (λ n. unbroken_done (record t { nat_to = Some n }))

with_rdr_unbroken : (t : Translation) → Unbroken (with_rdr_at t)
unfolding with_rdr_at
with_rdr_unbroken t = unbroken_chain rdr_to_at (λ r. done (record t { rdr_to = Some r })) unbroken_rdr_to (λ r. unbroken_done (record t { rdr_to = Some r }))

translation_acts : (t : Translation) (k : Key) → UnbrokenAct (translation_by t k)
translation_acts t key.NatTo = unbroken_once t.nat_to (take (with_nat_at t)) (with_nat_unbroken t)
translation_acts t key.RdrTo = unbroken_once t.rdr_to (take (with_rdr_at t)) (with_rdr_unbroken t)
translation_acts t _ = tt

pub unbroken_translation : (t : Translation) → Unbroken (translation_at t)
unfolding translation_at
unbroken_translation t = unbroken_front (λ u. translation_by t u.key) (λ u. translation_acts t u.key)

pub unbroken_parameters : (s : Statement) → Unbroken (parameters_at s)
unfolding parameters_at
unbroken_parameters s = unbroken_chain (head_at s) (λ h. chain hosts_at (λ o. done (record { head = h; hosts = o }))) (unbroken_head s) (λ h. unbroken_chain hosts_at (λ o. done (record { head = h; hosts = o })) unbroken_hosts (λ o. unbroken_done (record { head = h; hosts = o })))

pub unbroken_flags : Unbroken flags_at
unfolding flags_at
unbroken_flags = unbroken_clause begins_flags (value_at why.Plain flag_test) (unbroken_value why.Plain flag_test)

-- ---- state clauses

track_acts : (k : Key) → UnbrokenAct (track_by k)
track_acts key.Rule = unbroken_done track.Rule
track_acts key.Global = unbroken_done track.Global
track_acts _ = unbroken_done track.Bare

unbroken_track : Unbroken track_at
unfolding track_at
unbroken_track = unbroken_front (λ t. track_by t.key) (λ t. track_acts t.key)

rate_acts : (text : List ℕ) (k : Key) → UnbrokenAct (rate_by text k)
rate_acts text key.Number = found (rate_of text)
  where
    found : (r : Option Rate) → UnbrokenAct (rate_found r)
    found None = tt
    found (Some r) = unbroken_done r
rate_acts text _ = tt

unbroken_rate : Unbroken rate_at
unfolding rate_at
unbroken_rate = unbroken_front (λ t. rate_by t.text t.key) (λ t. rate_acts t.text t.key)

closed_acts : (name : List ℕ) (k : Key) → UnbrokenAct (name_closed_by name k)
closed_acts name key.CloseAngle = unbroken_done name
closed_acts name _ = tt

unbroken_closed : (name : List ℕ) → Unbroken (name_closed name)
unbroken_closed name = unbroken_front (λ t. name_closed_by name t.key) (λ t. closed_acts name t.key)

table_acts : (k : Key) → UnbrokenAct (table_by k)
table_acts key.OpenAngle = unbroken_chain table_name_at name_closed unbroken_table_name unbroken_closed
table_acts _ = tt

unbroken_option_table : Unbroken table_at
unfolding table_at
unbroken_option_table = unbroken_front (λ t. table_by t.key) (λ t. table_acts t.key)

flushed_acts : (k : Key) → UnbrokenAct (flushed_by k)
flushed_acts key.Global = unbroken_done (Some scope.Global)
flushed_acts _ = unbroken_done (Some scope.Rule)

flush_acts : (k : Key) → UnbrokenAct (flush_by k)
flush_acts key.Flush = unbroken_front (λ t. flushed_by t.key) (λ t. flushed_acts t.key)
flush_acts _ = unbroken_done None

unbroken_flush : Unbroken flush_at
unfolding flush_at
unbroken_flush = unbroken_front (λ t. flush_by t.key) (λ t. flush_acts t.key)

unbroken_overload : Unbroken overload_text_at
unfolding overload_text_at
unbroken_overload = unbroken_chain table_at _ unbroken_option_table (λ name. unbroken_chain flush_at _ unbroken_flush (λ f. unbroken_done (record { table = name; flush = f })))

timeout_acts : (o : Options) (place : Option ℕ) → UnbrokenAct (timeout_by place o)
timeout_acts o None = tt
timeout_acts o (Some place) = unbroken_once (slice_index_or o.timeouts place None) _ (unbroken_chain (number_at 0 (greatest_timeout place)) _ (unbroken_number 0 (greatest_timeout place)) (λ n. unbroken_done (record o { timeouts = slice_set o.timeouts place (Some n) })))

mark_once_acts : (b : Bool) (a : Act Options) → UnbrokenAct a → UnbrokenAct (mark_once b a)
mark_once_acts true a h = tt
mark_once_acts false a h = h

mark_acts : (o : Options) (k : Key) → UnbrokenAct (mark_by k o)
mark_acts o key.Sloppy = mark_once_acts o.sloppy _ (unbroken_done (record o { sloppy = true }))
mark_acts o key.Floating = mark_once_acts o.floating _ (unbroken_done (record o { floating = true }))
mark_acts o key.NoSync = mark_once_acts o.no_sync _ (unbroken_done (record o { no_sync = true }))
mark_acts o k = timeout_acts o (rule_place k)

connection_acts : (o : Options) (k : Key) → UnbrokenAct (connection_by k o)
connection_acts o key.MaxSrcConn = unbroken_once o.max_src_conn _ (unbroken_chain (number_at 1 4294967295) _ (unbroken_number 1 4294967295) (λ n. unbroken_done (record o { max_src_conn = Some n })))
connection_acts o key.MaxSrcConnRate = unbroken_once o.max_src_conn_rate _ (unbroken_chain rate_at _ unbroken_rate (λ r. unbroken_done (record o { max_src_conn_rate = Some r })))
connection_acts o key.Overload = unbroken_once o.overload _ (unbroken_chain overload_text_at _ unbroken_overload (λ v. unbroken_done (record o { overload = Some v })))
connection_acts o k = mark_acts o k

option_acts : (o : Options) (k : Key) → UnbrokenAct (option_by k o)
option_acts o key.Max = unbroken_once o.max _ (unbroken_chain (number_at 1 4294967295) _ (unbroken_number 1 4294967295) (λ n. unbroken_done (record o { max = Some n })))
option_acts o key.SourceTrack = unbroken_once o.track _ (unbroken_chain track_at _ unbroken_track (λ s. unbroken_done (record o { track = Some s })))
option_acts o key.MaxSrcNodes = unbroken_once o.max_src_nodes _ (unbroken_chain (number_at 1 4294967295) _ (unbroken_number 1 4294967295) (λ n. unbroken_done (record o { max_src_nodes = Some n })))
option_acts o key.MaxSrcStates = unbroken_once o.max_src_states _ (unbroken_chain (number_at 1 4294967295) _ (unbroken_number 1 4294967295) (λ n. unbroken_done (record o { max_src_states = Some n })))
option_acts o k = connection_acts o k

unbroken_option : (o : Options) → Unbroken (option_at o)
unfolding option_at
unbroken_option o = unbroken_front (λ t. option_by t.key o) (λ t. option_acts o t.key)

unbroken_options : Unbroken state_options_at
unfolding state_options_at
unbroken_options = unbroken_list closes_parens option_at unbroken_option none_given

kept_acts : (k : Key) → UnbrokenAct (kept_by k)
kept_acts key.OpenParen = unbroken_options
kept_acts _ = unbroken_done none_given

unbroken_kept : Unbroken kept_at
unfolding kept_at
unbroken_kept = unbroken_front (λ t. kept_by t.key) (λ t. kept_acts t.key)

word_acts : (f : Reader StateClause) → Unbroken f → (k : Key) → UnbrokenAct (behind_state f k)
word_acts f h key.State = h
word_acts f h _ = tt

unbroken_state_word : (f : Reader StateClause) → Unbroken f → Unbroken (state_word f)
unbroken_state_word f h = unbroken_front (λ t. behind_state f t.key) (λ t. word_acts f h t.key)

state_acts : (k : Key) → UnbrokenAct (state_by k)
state_acts key.No = unbroken_state_word (done state_clause.No) (unbroken_done state_clause.No)
state_acts key.Keep = unbroken_state_word kept_clause (unbroken_chain kept_at _ unbroken_kept (λ o. unbroken_done (state_clause.Keep o)))
state_acts key.Synproxy = unbroken_state_word proxied_clause (unbroken_chain kept_at _ unbroken_kept (λ o. unbroken_done (state_clause.Keep (proxied o))))
state_acts _ = tt

pub unbroken_state : Unbroken state_at
unfolding state_at
unbroken_state = unbroken_front (λ t. state_by t.key) (λ t. state_acts t.key)

-- ---- options

unbroken_bounded : (lined : Bool) (low high : ℕ) → Unbroken (setting.bounded_at lined low high)
unfolding setting.bounded_at
unbroken_bounded true low high = unbroken_skipping (number_at low high) (unbroken_number low high)
unbroken_bounded false low high = unbroken_number low high

limited_acts : (lined : Bool) (name : LimitName) (d : Drafted) → UnbrokenAct (limit_statement lined name d)
limited_acts lined name d = unbroken_chain (setting.bounded_at lined 1 4294967295) _ (unbroken_bounded lined 1 4294967295) (λ n. unbroken_done (with_limit name n d))

limit_acts : (lined : Bool) (d : Drafted) (k : Key) → UnbrokenAct (limit_by lined d k)
limit_acts lined d key.States = limited_acts lined limit.States d
limit_acts lined d key.SrcNodes = limited_acts lined limit.SrcNodes d
limit_acts lined d key.Tables = limited_acts lined limit.Tables d
limit_acts lined d key.TableEntries = limited_acts lined limit.TableEntries d
limit_acts lined d key.Frags = unbroken_chain (setting.bounded_at lined 1 4294967295) _ (unbroken_bounded lined 1 4294967295) (λ n. unbroken_done d)
limit_acts lined d _ = tt

unbroken_limit : (lined : Bool) (d : Drafted) → Unbroken (limit_at lined d)
unfolding limit_at
unbroken_limit lined d = unbroken_front (λ t. limit_by lined d t.key) (λ t. limit_acts lined d t.key)

timed_acts : (lined : Bool) (d : Drafted) (o : Option TimeoutName) → UnbrokenAct (timeout_statement lined d o)
timed_acts lined d None = tt
timed_acts lined d (Some name) = unbroken_chain (setting.bounded_at lined (least_value name) (greatest_value name)) _ (unbroken_bounded lined (least_value name) (greatest_value name)) (λ n. unbroken_done (with_timeout name n d))

unkept_acts : (lined : Bool) (d : Drafted) → UnbrokenAct (unkept lined d)
unkept_acts lined d = unbroken_chain (setting.bounded_at lined 0 2147483647) _ (unbroken_bounded lined 0 2147483647) (λ n. unbroken_done d)

time_acts : (lined : Bool) (d : Drafted) (k : Key) → UnbrokenAct (time_by lined d k)
time_acts lined d key.Frag = unkept_acts lined d
time_acts lined d key.TcpTsdiff = unkept_acts lined d
time_acts lined d key.IcmpFirst = unkept_acts lined d
time_acts lined d key.IcmpError = unkept_acts lined d
time_acts lined d k = timed_acts lined d (timeout_named k)

unbroken_time : (lined : Bool) (d : Drafted) → Unbroken (time_at lined d)
unfolding time_at
unbroken_time lined d = unbroken_front (λ t. time_by lined d t.key) (λ t. time_acts lined d t.key)

unbroken_lines_behind : (d : Drafted) → Unbroken (skipping (done d))
unbroken_lines_behind d = unbroken_skipping (done d) (unbroken_done d)

unbroken_route_prefix : Unbroken prefix_at
unfolding prefix_at
unbroken_route_prefix = unbroken_value why.Host (in_word prefix_of)

unbroken_leaving : (lined : Bool) → Unbroken (leaving_at lined)
unfolding leaving_at leaving_name_at
unbroken_leaving true = unbroken_skipping leaving_name_at (unbroken_value why.Plain (in_word interface_named))
unbroken_leaving false = unbroken_value why.Plain (in_word interface_named)

unbroken_route : (lined : Bool) → Unbroken (route_at lined)
unfolding route_at
unbroken_route lined =
    unbroken_chain prefix_at (λ p. chain (leaving_at lined) (λ name. done (route_by p name))) unbroken_route_prefix
    (λ p. unbroken_chain (leaving_at lined) (λ name. done (route_by p name)) (unbroken_leaving lined) (λ name. unbroken_done (route_by p name)))

unbroken_routed : (lined : Bool) (d : Drafted) → Unbroken (routed_at lined d)
unfolding routed_at
unbroken_routed lined d = unbroken_chain (route_at lined) (λ r. done (with_route r d)) (unbroken_route lined) (λ r. unbroken_done (with_route r d))

unbroken_setting : (s : Setting) (lined : Bool) (d : Drafted) → Unbroken (setting_at s lined d)
unbroken_setting variant.Limit lined d = unbroken_limit lined d
unbroken_setting variant.Timeout lined d = unbroken_time lined d
unbroken_setting variant.Route lined d = unbroken_routed lined d

unbroken_lined : (s : Setting) (d : Drafted) → Unbroken (lined_setting_at s d)
unfolding lined_setting_at
unbroken_lined s d = unbroken_skipping (chain (setting_at s true d) (λ e. skipping (done e))) (unbroken_chain (setting_at s true d) (λ e. skipping (done e)) (unbroken_setting s true d) unbroken_lines_behind)

some_settings_acts : (s : Setting) (d : Drafted) (k : Key) → UnbrokenAct (some_settings_by s d k)
some_settings_acts s d key.OpenBrace = unbroken_list closes_braces (lined_setting_at s) (unbroken_lined s) d
some_settings_acts s d _ = unbroken_setting s false d

unbroken_some_settings : (s : Setting) (d : Drafted) → Unbroken (some_settings_at s d)
unfolding some_settings_at
unbroken_some_settings s d = unbroken_front (λ t. some_settings_by s d t.key) (λ t. some_settings_acts s d t.key)

profile_acts : (d : Drafted) (k : Key) → UnbrokenAct (profile_by d k)
profile_acts d key.OpenBsd74 = unbroken_done (with_profile profile.OpenBsd74 d)
profile_acts d _ = tt

unbroken_profile : (d : Drafted) → Unbroken (profile_at d)
unfolding profile_at
unbroken_profile d = unbroken_front (λ t. profile_by d t.key) (λ t. profile_acts d t.key)

settings_acts : (d : Drafted) (k : Key) → UnbrokenAct (settings_by d k)
settings_acts d key.Profile = unbroken_profile d
settings_acts d key.Limit = unbroken_some_settings variant.Limit d
settings_acts d key.Timeout = unbroken_some_settings variant.Timeout d
settings_acts d key.Route = unbroken_some_settings variant.Route d
settings_acts d _ = tt

pub unbroken_settings : (d : Drafted) → Unbroken (settings_at d)
unfolding settings_at
unbroken_settings d = unbroken_front (λ t. settings_by d t.key) (λ t. settings_acts d t.key)

-- ---- SYN cookies (pf.conf(5), OPTIONS, "set syncookies")

share_acts : (text : List ℕ) (k : Key) → UnbrokenAct (share_by text k)
share_acts text key.Number = found (share_of text)
  where
    found : (o : Option ℕ) → UnbrokenAct (share_found o)
    found None = tt
    found (Some n) = unbroken_done n
share_acts text _ = tt

unbroken_share : Unbroken share_at
unfolding share_at
unbroken_share = unbroken_front (λ t. share_by t.text t.key) (λ t. share_acts t.text t.key)

shares_closed_acts : (s : Syncookies) (k : Key) → UnbrokenAct (shares_closed_by s k)
shares_closed_acts s key.CloseParen = unbroken_done s
shares_closed_acts s _ = tt

end_acts : (start : ℕ) (k : Key) → UnbrokenAct (end_share_by start k)
end_acts start key.EndWord = unbroken_chain share_at (λ end. shares_closed_at (cookies.Adaptive start end)) unbroken_share
    (λ end. unbroken_front (λ t. shares_closed_by (cookies.Adaptive start end) t.key) (λ t. shares_closed_acts (cookies.Adaptive start end) t.key))
end_acts start _ = tt

unbroken_end : (start : ℕ) → Unbroken (end_share_at start)
unfolding end_share_at
unbroken_end start = unbroken_front (λ t. end_share_by start t.key) (λ t. end_acts start t.key)

start_acts : (k : Key) → UnbrokenAct (start_share_by k)
start_acts key.Start = unbroken_chain share_at (λ start. chain comma_at (λ c. end_share_at start)) unbroken_share
    (λ start. unbroken_chain comma_at (λ c. end_share_at start) unbroken_comma (λ c. unbroken_end start))
start_acts _ = tt

unbroken_start : Unbroken start_share_at
unfolding start_share_at
unbroken_start = unbroken_front (λ t. start_share_by t.key) (λ t. start_acts t.key)

shares_acts : (k : Key) → UnbrokenAct (shares_by k)
shares_acts key.OpenParen = unbroken_start
shares_acts _ = unbroken_done usual_shares

unbroken_shares : Unbroken shares_at
unfolding shares_at
unbroken_shares = unbroken_front (λ t. shares_by t.key) (λ t. shares_acts t.key)

syncookies_acts : (k : Key) → UnbrokenAct (syncookies_by k)
syncookies_acts key.Never = unbroken_done cookies.Never
syncookies_acts key.Always = unbroken_done cookies.Always
syncookies_acts key.Adaptive = unbroken_shares
syncookies_acts _ = tt

pub unbroken_syncookies : Unbroken syncookies_at
unfolding syncookies_at
unbroken_syncookies = unbroken_front (λ t. syncookies_by t.key) (λ t. syncookies_acts t.key)

-- ---- tables

sign_acts : (k : Key) → UnbrokenAct (tables.sign_by k)
sign_acts key.Not = unbroken_done true
sign_acts _ = unbroken_done false

unbroken_sign : Unbroken tables.sign_at
unfolding tables.sign_at
unbroken_sign = unbroken_front (λ t. tables.sign_by t.key) (λ t. sign_acts t.key)

again_acts : (entries : List TextEntry) (negated held : Bool) → UnbrokenAct (again entries negated held)
again_acts entries true true = unbroken_done entries
again_acts entries true false = tt
again_acts entries false true = tt
again_acts entries false false = unbroken_done entries

joined_acts : (entries : List TextEntry) (negated : Bool) (p : Network) (o : Option Bool) → UnbrokenAct (entry_joined entries negated p o)
joined_acts entries negated p None = unbroken_done _
joined_acts entries negated p (Some held) = again_acts entries negated held

entered_acts : (entries : List TextEntry) (negated : Bool) (o : Option Network) → UnbrokenAct (entries_with entries negated o)
entered_acts entries negated None = tt
entered_acts entries negated (Some p) = joined_acts entries negated p (sign_of entries p)

unbroken_entry : (entries : List TextEntry) (negated : Bool) → Unbroken (entry_at entries negated)
unfolding entry_at
unbroken_entry entries negated = unbroken_front (λ t. entry_by entries negated t) (λ t. unbroken_if (is_word_key t.key) (entries_with entries negated (prefix_of t.text)) (refuse why.Host) (entered_acts entries negated (prefix_of t.text)) tt)

unbroken_entries_behind : (entries : List TextEntry) → Unbroken (skipping (done entries))
unbroken_entries_behind entries = unbroken_skipping (done entries) (unbroken_done entries)

unbroken_lined_entry : (entries : List TextEntry) → Unbroken (lined_entry_at entries)
unfolding lined_entry_at
unbroken_lined_entry entries = unbroken_skipping (chain tables.sign_at (λ negated. skipping (chain (entry_at entries negated) (λ more. skipping (done more)))))
    (unbroken_chain tables.sign_at (λ negated. skipping (chain (entry_at entries negated) (λ more. skipping (done more)))) unbroken_sign
    (λ negated. unbroken_skipping (chain (entry_at entries negated) (λ more. skipping (done more))) (unbroken_chain (entry_at entries negated) (λ more. skipping (done more)) (unbroken_entry entries negated) unbroken_entries_behind)))

entries_acts : (k : Key) → UnbrokenAct (entries_by k)
entries_acts key.CloseBrace = unbroken_done []
entries_acts _ = unbroken_list closes_braces lined_entry_at unbroken_lined_entry []

unbroken_entries : Unbroken braced_entries_at
unfolding braced_entries_at
unbroken_entries = unbroken_skipping _ (unbroken_front (λ t. entries_by t.key) (λ t. entries_acts t.key))

unless_acts : {A : Type 0} (b : Bool) (a : Act A) → UnbrokenAct a → UnbrokenAct (unless b a)
unless_acts true a h = tt
unless_acts false a h = h

part_acts : (p : Parts) (k : Key) → UnbrokenAct (part_by p k)
part_acts p key.Persist = unless_acts p.persist _ (unbroken_done (record p { persist = true }))
part_acts p key.Const = unless_acts p.is_const _ (unbroken_done (record p { is_const = true }))
part_acts p key.Counters = unless_acts p.counters _ (unbroken_done (record p { counters = true }))
part_acts p key.OpenBrace = unbroken_once p.entries _ (unbroken_chain braced_entries_at _ unbroken_entries (λ entries. unbroken_done (record p { entries = Some entries })))
part_acts p _ = tt

unbroken_table_part : (p : Parts) → Unbroken (part_at p)
unfolding part_at
unbroken_table_part p = unbroken_front (λ t. part_by p t.key) (λ t. part_acts p t.key)

pub unbroken_parts : Unbroken parts_at
unfolding parts_at
unbroken_parts = unbroken_up_to ends_line part_at unbroken_table_part no_parts
