-- What the grammar reads the lines of rules and anchors as.
use Rattle.std.specs.Prelude.{ℕ, false, List, Option, Some}
use Rattle.pfs_conf_values.specs.declared.actions.Action.{Action}
use Rattle.pfs_conf_values.specs.declared.actions.Action.TheVariants as action
use Rattle.pfs_conf_values.specs.declared.filters.Came.{Came}
use Rattle.pfs_conf_values.specs.declared.items.Anchor.{Anchor}
use Rattle.pfs_conf_values.specs.declared.items.Rule.{Rule}
use Rattle.pfs_conf_values.specs.declared.tables.TableDef.{TableDef}
use Rattle.pfs_conf_filters.specs.declared.phrases.Extras.{Extras}
use Rattle.pfs_conf_filters.specs.declared.phrases.Verb.{Verb}
use Rattle.pfs_conf_filters.specs.declared.phrases.Verb.TheVariants as verb
use Rattle.pfs_conf.specs.declared.phrases.AnchorText.{AnchorText}
use Rattle.pfs_conf.specs.declared.phrases.RuleText.{RuleText}
use Rattle.pfs_conf_round_trip.proofs.Said.{parameters_said, state_said}

abbrev pub verb_said : Action → Verb
verb_said action.Match = verb.Match
verb_said action.Block = verb.Block false
verb_said _ = verb.Pass

-- what a rule has behind its parameters
abbrev pub extras_said : Option (List ℕ) → Came → Extras
extras_said tag came = record { tag = tag; tagged = came.tagged; received_on = came.received_on }

-- a rule, as it is written
abbrev pub rule_phrase : List TableDef → Rule → RuleText
rule_phrase tables r = record {
  verb = verb_said r.action;
  parameters = parameters_said tables r.quick r.filter;
  clauses = record { flags = Some r.filter.flags; extras = extras_said r.tag r.came; translation = r.translation; state = state_said tables r.action };
}

-- the head of an anchor, as it is written
abbrev pub anchor_phrase : List TableDef → Anchor → AnchorText
anchor_phrase tables a = record { name = a.name; parameters = parameters_said tables a.quick a.filter; flags = Some a.filter.flags }
