-- What the rules of a text ask of a packet, and what they make of it.
use Rattle.std.specs.Prelude.{ℕ, ◌==◌, ◌&&◌, Bool, true, false, Option, Some, None, is_none, unwrap_or, List}
use Rattle.std.specs.Option.{option_and_then, option_or}
use Rattle.std.specs.Str.{bytes_eq}
use Rattle.pfs_addr_values.specs.Packets.{PacketView, came_in_on, with_tag}
use Rattle.pfs_addr_values.specs.declared.packets.TagNo.{TagNo}
use Rattle.pfs_conf_values.specs.Configs.{rule_in, tag_named}
use Rattle.pfs_conf_values.specs.Translations.{no_translation}
use Rattle.pfs_conf_values.specs.declared.actions.Action.{Action}
use Rattle.pfs_conf_values.specs.declared.actions.Action.TheVariants as action
use Rattle.pfs_conf_values.specs.declared.filters.Came.{Came}
use Rattle.pfs_conf_values.specs.declared.filters.Interface.{Interface}
use Rattle.pfs_conf_values.specs.declared.filters.Tagged.{Tagged}
use Rattle.pfs_conf_values.specs.declared.items.Item.{Item}
use Rattle.pfs_conf_values.specs.declared.items.ItemKind.{ItemKind}
use Rattle.pfs_conf_values.specs.declared.items.ItemKind.TheVariants as what
use Rattle.pfs_conf_values.specs.declared.items.Rule.{Rule}
use Rattle.pfs_conf_values.specs.declared.translations.Translation.{Translation}
use Rattle.pfs_eval.specs.Entries.{Entry}
use Rattle.pfs_eval.specs.Matching.{matches_item, turned_if}
use Rattle.pfs_eval.specs.Translating.{TakenKeys, translated}
use Rattle.pfs_eval.specs.Verdict.{Asking}

-- ---- the tags of a rule; a tag that no rule gives is not known

-- the tag that it asks for, where it asks for one
abbrev pub asked_tag : List Item → ItemKind → Option TagNo
asked_tag items kind =
    option_and_then (λ (t : Tagged). tag_named items t.name) (option_and_then (λ (r : Rule). r.came.tagged) (rule_in kind))

-- the tag that it gives, where it gives one
abbrev pub given_tag : List Item → ItemKind → Option TagNo
given_tag items kind = option_and_then (tag_named items) (option_and_then (λ (r : Rule). r.tag) (rule_in kind))

-- ---- what a rule asks of how a packet came

-- two tags are the same: both known, and by one number
abbrev pub is_same_tag : Option TagNo → Option TagNo → Bool
is_same_tag (Some s) (Some t) = s.0 == t.0
is_same_tag _ _ = false

-- `tagged NAME`, where this is the tag asked for: the packet has it; with a `!` another, or none (pf.conf(5), PARAMETERS, "tagged")
abbrev pub tagged_holds : Option TagNo → Option Tagged → Option TagNo → Bool
tagged_holds asked None tag = true
tagged_holds asked (Some t) tag = turned_if t.negated (is_same_tag asked tag)

-- `received-on IF`: the packet came in there; with a `!` on another interface, or it is not known (pf.conf(5), PARAMETERS, "received-on")
abbrev pub is_this_interface : List ℕ → Option (List ℕ) → Bool
is_this_interface name None = false
is_this_interface name (Some ifname) = bytes_eq name ifname

abbrev pub received_on_holds : Option Interface → Option (List ℕ) → Bool
received_on_holds None ifname = true
received_on_holds (Some i) ifname = turned_if i.negated (is_this_interface i.name ifname)

abbrev pub came_holds : Option TagNo → Came → PacketView → Bool
came_holds asked c p = tagged_holds asked c.tagged p.tag && received_on_holds c.received_on (came_in_on p)

-- an anchor asks nothing of it
abbrev pub came_to : Option TagNo → PacketView → ItemKind → Bool
came_to asked p (what.Rule r) = came_holds asked r.came p
came_to asked p (what.Anchor a) = true

-- ---- what a rule that matches makes of a packet

-- it gives it its tag, or leaves it the one before (pf.conf(5), PARAMETERS, "tag")
abbrev pub marked_by : Option TagNo → PacketView → PacketView
marked_by given p = with_tag p (option_or given p.tag)

-- and then, if it is a `match` rule, translates it (pf.conf(5), TRANSLATION)
abbrev pub by_match : Action → Translation → Translation
by_match action.Match t = t
by_match _ t = no_translation

abbrev pub translation_at_once : ItemKind → Translation
translation_at_once (what.Rule r) = by_match r.action r.translation
translation_at_once (what.Anchor a) = no_translation

-- so it loses it, where no port is left; then the packet has its tag, and its own addresses
abbrev pub is_lost_at_once : TakenKeys → Option TagNo → ItemKind → PacketView → Bool
is_lost_at_once taken given kind p = is_none (translated taken (translation_at_once kind) (marked_by given p))

abbrev pub made_by : TakenKeys → Option TagNo → ItemKind → PacketView → PacketView
made_by taken given kind p = let q = marked_by given p in unwrap_or (translated taken (translation_at_once kind) q) q

-- ---- what the rule that decides makes of a packet

-- a `pass` rule translates it, a `block` rule leaves it as it is, and a `match` rule decides only where it lost it
abbrev pub by_decision : TakenKeys → Action → Translation → PacketView → Option PacketView
by_decision taken action.Match t p = None
by_decision taken action.Block t p = Some p
by_decision taken action.Pass t p = translated taken t p
by_decision taken (action.Keep o) t p = translated taken t p

-- an anchor decides nothing
abbrev pub decided_by : TakenKeys → ItemKind → PacketView → Option PacketView
decided_by taken (what.Rule r) p = by_decision taken r.action r.translation p
decided_by taken (what.Anchor a) p = Some p

-- ---- what all items of a text ask, where the tables have these entries, and states these keys

abbrev pub asking : List Item → List (List Entry) → TakenKeys → Asking
asking items tables taken = record {
  holds = λ p i. matches_item tables p i;
  came = λ p i. came_to (asked_tag items i.what) p i.what;
  marked = λ p i. made_by taken (given_tag items i.what) i.what p;
  lost = λ p i. is_lost_at_once taken (given_tag items i.what) i.what p;
  passed = λ p i. decided_by taken i.what p;
}
