-- The readers of a route look no further than the token in front of what they leave.
use Rattle.std.proofs.Common.{Bool, true, false}
use Rattle.pfs_conf_tokens.specs.declared.refusals.Why.TheVariants as why
use Rattle.pfs_conf_tokens.specs.Reading.{chain, done}
use Rattle.pfs_conf_tokens.specs.Values.{in_word}
use Rattle.pfs_conf_tokens.proofs.Laws.{Online, Shrinks, across, chain_shrinks, inside, online_across, online_chain, online_done}
use Rattle.pfs_conf_tokens.proofs.ReaderLaws.{online_skipping}
use Rattle.pfs_conf_tokens.proofs.ValueLaws.{in_word_in_line, online_value, value_shrinks}
use Rattle.pfs_addr_values.specs.Prefixes.{Network}
use Rattle.pfs_addr.specs.Texts.{prefix_of}
use Rattle.pfs_conf_settings.specs.Drafts.{Drafted, with_route}
use Rattle.pfs_conf_settings.specs.RouteGrammar.{interface_named}
use Rattle.pfs_conf_settings.specs.Routes.{leaving_at, leaving_name_at, prefix_at, route_at, route_by, routed_at}

online_prefix : Online inside prefix_at
unfolding prefix_at
online_prefix = online_value why.Host (in_word prefix_of) (in_word_in_line _)

prefix_shrinks : Shrinks prefix_at
unfolding prefix_at
prefix_shrinks = value_shrinks why.Host (in_word prefix_of) (in_word_in_line _)

online_interface : Online inside leaving_name_at
unfolding leaving_name_at
online_interface = online_value why.Plain (in_word interface_named) (in_word_in_line _)

online_leaving : (lined : Bool) → Online across (leaving_at lined)
unfolding leaving_at
online_leaving true = online_skipping leaving_name_at (online_across leaving_name_at online_interface)
online_leaving false = online_across leaving_name_at online_interface

online_behind : (lined : Bool) (p : Network) → Online across (chain (leaving_at lined) (λ name. done (route_by p name)))
online_behind lined p = online_chain (leaving_at lined) (λ name. done (route_by p name)) (online_leaving lined) (λ name. online_done (route_by p name))

online_route : (lined : Bool) → Online across (route_at lined)
unfolding route_at
online_route lined = online_chain prefix_at (λ p. chain (leaving_at lined) (λ name. done (route_by p name))) (online_across prefix_at online_prefix) (online_behind lined)

route_shrinks : (lined : Bool) → Shrinks (route_at lined)
unfolding route_at
route_shrinks lined = chain_shrinks across prefix_at (λ p. chain (leaving_at lined) (λ name. done (route_by p name))) prefix_shrinks (online_behind lined)

pub online_routed : (lined : Bool) (d : Drafted) → Online across (routed_at lined d)
unfolding routed_at
online_routed lined d = online_chain (route_at lined) (λ r. done (with_route r d)) (online_route lined) (λ r. online_done (with_route r d))

pub routed_shrinks : (lined : Bool) (d : Drafted) → Shrinks (routed_at lined d)
unfolding routed_at
routed_shrinks lined d = chain_shrinks across (route_at lined) (λ r. done (with_route r d)) (route_shrinks lined) (λ r. online_done (with_route r d))
