-- The lines of rules and anchors are read again.
use Rattle.std.proofs.Common.{◌≡◌, ◌∙◌, ℕ, suc, Bool, true, false, All, List, [], ◌∷◌, ◌++◌, length, Option, Some, None, IfSome, is_some, ◌||◌, refl, sym, ap, subst, append_assoc}
use borrow.Author.Tests.{clash}
use Rattle.std.specs.Prelude.{codes}
use Rattle.pfs_conf_tokens.specs.declared.keys.Key.TheVariants as key
use Rattle.pfs_conf_tokens.specs.Grammar.{Until, ends, goes, present}
use Rattle.pfs_conf_tokens.specs.Lexis.{tokens}
use Rattle.pfs_conf_tokens.specs.Tokens.{token, Tok}
use Rattle.pfs_conf_tokens.proofs.ShownLaws.{breaks, quoted_then, space_then}
use Rattle.pfs_conf_tokens.proofs.WordKeys.{key_of_Anchor, key_of_Block, key_of_Pass, key_of_Match, key_of_Tag, key_of_Tagged, key_of_ReceivedOn}
use Rattle.pfs_addr_values.specs.Names.{is_name}
use Rattle.pfs_conf_values.specs.Invariants.{IsTable}
use Rattle.pfs_conf_values.specs.LoadRules.{IsAction, IsAnchor, IsRule, IsCame, IsInterface, IsNatTo, IsQuick, IsRdrTo, IsTag, IsTranslation, MayTranslate}
use Rattle.pfs_conf_values.specs.Translations.{no_translation, translates_by}
use Rattle.pfs_conf_values.specs.declared.translations.NatTo.{NatTo}
use Rattle.pfs_conf_values.specs.declared.translations.RdrTo.{RdrTo}
use Rattle.pfs_conf_values.specs.declared.translations.Translation.{Translation}
use Rattle.pfs_conf_values.specs.Order.{repeats_by}
use Rattle.pfs_conf_values.specs.declared.actions.Action.{Action}
use Rattle.pfs_conf_values.specs.declared.actions.Action.TheVariants as action
use Rattle.pfs_conf_values.specs.declared.filters.FlagTest.{FlagTest}
use Rattle.pfs_conf_values.specs.declared.items.Anchor.{Anchor}
use Rattle.pfs_conf_values.specs.declared.items.Rule.{Rule}
use Rattle.pfs_conf_values.specs.declared.tables.TableDef.{TableDef}
use Rattle.pfs_conf_filters.specs.Grammar.{VerbOf, block, none, pass, matching, ExtraOf, affirmed, negated, tag, tagged, received_on, may_translate, no_extras, statement_of}
use Rattle.pfs_conf_filters.specs.declared.phrases.Statement.TheVariants as statement
use Rattle.pfs_conf.specs.Grammar.{AnchorNameOf, AnchorOf, ClauseOf, RuleOf, flags, named, state, unnamed, extra, translation}
use Rattle.pfs_conf.specs.Statements.{no_clauses}
use Rattle.pfs_conf.specs.declared.phrases.Clauses.{Clauses}
use Rattle.pfs_conf.specs.declared.progress.Progress.{Progress}
use Rattle.pfs_conf_show.specs.Filters.{dir_text, family_text, flags_text, hosts_text, on_text, proto_text, quick_text, asked_text, nat_to_text, rdr_to_text, tag_text, tagged_text, received_on_text}
use Rattle.pfs_conf_show.specs.Options.{kept_text, options_text, state_text}
use Rattle.pfs_conf_show.specs.Texts.{anchor_text, name_text, rule_text, verb_text}
use Rattle.pfs_conf_round_trip.proofs.Said.{state_said}
use Rattle.pfs_conf_round_trip.proofs.StatementsSaid.{anchor_phrase, rule_phrase, verb_said, extras_said}
use Rattle.pfs_conf_round_trip.proofs.FilterPhrases.{flags_break, flags_read, head_break, head_reads, interface_says, tag_says}
use Rattle.pfs_conf_round_trip.proofs.Names.{name_again, name_bytes, name_quoted}
use Rattle.pfs_conf_round_trip.proofs.OptionPhrases.{keep_state_reads, no_state_reads}
use Rattle.pfs_conf_round_trip.proofs.TranslationPhrases.{nat_to_break, nat_to_reads, rdr_to_break, rdr_to_reads}
use Rattle.pfs_conf_round_trip.proofs.Pieces.{at, line_end, mark_behind, word_first, word_between, word_space}
use Rattle.pfs_conf_values.specs.declared.filters.Came.{Came}
use Rattle.pfs_conf_values.specs.declared.filters.Interface.{Interface}
use Rattle.pfs_conf_values.specs.declared.filters.Tagged.{Tagged}
use Rattle.pfs_conf_filters.specs.declared.phrases.Extras.{Extras}
use Rattle.pfs_conf_filters.specs.declared.phrases.Verb.{Verb}
use Rattle.pfs_conf_filters.specs.Reading.{interface, tag_test}
use Rattle.pfs_conf.specs.PhraseBounds.{MayBeQuick}

-- ---- rules

verb_reads : (a : Action) (line : ℕ) (more : List ℕ) → breaks more ≡ true → VerbOf (tokens 0 false line (verb_text a ++ more)) (verb_said a) (at line more)
verb_reads action.Match line more b = matching (word_first false line (codes "match") more refl b key_of_Match)
verb_reads action.Block line more b = block (word_first false line (codes "block") more refl b key_of_Block) none
verb_reads action.Pass line more b = pass (word_first false line (codes "pass") more refl b key_of_Pass)
verb_reads (action.Keep o) line more b = pass (word_first false line (codes "pass") more refl b key_of_Pass)

may_be_quick : (a : Action) (quick : Bool) → IsQuick a quick → MayBeQuick (statement_of (verb_said a)) quick
may_be_quick action.Match quick h = h
may_be_quick action.Block quick h = tt
may_be_quick action.Pass quick h = tt
may_be_quick (action.Keep o) quick h = tt

state_break : (tables : List TableDef) (a : Action) (more : List ℕ) → breaks (state_text tables a ++ 10 ∷ more) ≡ true
state_break tables action.Match more = refl
state_break tables action.Block more = refl
state_break tables action.Pass more = refl
state_break tables (action.Keep o) more = by o.synproxy
  where
    by : (s : Bool) → breaks ((kept_text s ++ options_text tables o) ++ 10 ∷ more) ≡ true
    by false = refl
    by true = refl

-- flags that are given, extras and a translation
abbrev before_state : FlagTest → Extras → Translation → Clauses
before_state f e n = record { flags = Some f; extras = e; translation = n; state = None }

-- and a state clause or none
abbrev clauses_said : List TableDef → FlagTest → Extras → Translation → Action → Clauses
clauses_said tables f e n a = record { flags = Some f; extras = e; translation = n; state = state_said tables a }

state_reads : (tables : List TableDef) (f : FlagTest) (e : Extras) (n : Translation) (a : Action) (line : ℕ) (more : List ℕ) → All IsTable tables → IsAction (length tables) a
    → Until key.LineEnd (ClauseOf (verb_said a)) (before_state f e n) (at line (state_text tables a ++ 10 ∷ more)) (clauses_said tables f e n a) (tokens 0 false (suc line) more)
state_reads tables f e n action.Match line more t h = ends (line_end true line more)
state_reads tables f e n action.Block line more t h = ends (line_end true line more)
state_reads tables f e n action.Pass line more t h = goes (state refl refl (no_state_reads line (10 ∷ more) refl)) (ends (line_end true line more))
state_reads tables f e n (action.Keep o) line more t h =
    let P : List ℕ → Type 0 = λ z. Until key.LineEnd (ClauseOf (verb_said (action.Keep o))) (before_state f e n) (at line z) (clauses_said tables f e n (action.Keep o)) (tokens 0 false (suc line) more) in
    subst P (sym (append_assoc (kept_text o.synproxy) (options_text tables o) (10 ∷ more)))
    (goes (state refl refl (keep_state_reads tables o line (10 ∷ more) t h refl)) (ends (line_end true line more)))

-- ---- what a rule has behind its parameters

tag_reads : (e : Extras) (n : List ℕ) (line : ℕ) (more : List ℕ) → e.tag ≡ None → IsTag n → breaks more ≡ true
    → ExtraOf e (at line (tag_text (Some n) ++ more)) (record e { tag = Some n }) (at line more)
tag_reads e n line more f h b = tag f (word_between line (codes "tag") (n ++ more) refl key_of_Tag) (tag_says line n more h b)

tagged_reads : (e : Extras) (n : List ℕ) (negation : Bool) (line : ℕ) (more : List ℕ) → e.tagged ≡ None → IsTag n → breaks more ≡ true
    → ExtraOf e (at line (asked_text negation (codes "tagged ") n ++ more)) (record e { tagged = Some (tag_test n negation) }) (at line more)
tagged_reads e n true line more f h b =
    tagged f (negated (mark_behind line 33 (codes "tagged" ++ 32 ∷ (n ++ more)) refl)) (word_space true line (codes "tagged") (n ++ more) refl key_of_Tagged) (tag_says line n more h b)
tagged_reads e n false line more f h b = tagged f affirmed (word_between line (codes "tagged") (n ++ more) refl key_of_Tagged) (tag_says line n more h b)

received_on_reads : (e : Extras) (n : List ℕ) (negation : Bool) (line : ℕ) (more : List ℕ) → e.received_on ≡ None → IsInterface (interface n negation) → breaks more ≡ true
    → ExtraOf e (at line (asked_text negation (codes "received-on ") n ++ more)) (record e { received_on = Some (interface n negation) }) (at line more)
received_on_reads e n true line more f h b =
    received_on f (negated (mark_behind line 33 (codes "received-on" ++ 32 ∷ (n ++ more)) refl)) (word_space true line (codes "received-on") (n ++ more) refl key_of_ReceivedOn)
    (interface_says n line more h.name h.not_any h.not_rdomain b)
received_on_reads e n false line more f h b =
    received_on f affirmed (word_between line (codes "received-on") (n ++ more) refl key_of_ReceivedOn) (interface_says n line more h.name h.not_any h.not_rdomain b)

asked_break : (negation : Bool) (w n more : List ℕ) → breaks (asked_text negation w n ++ more) ≡ true
asked_break negation w n more = refl

tag_break : (o : Option (List ℕ)) (more : List ℕ) → breaks more ≡ true → breaks (tag_text o ++ more) ≡ true
tag_break None more b = b
tag_break (Some n) more b = refl

tagged_break : (o : Option Tagged) (more : List ℕ) → breaks more ≡ true → breaks (tagged_text o ++ more) ≡ true
tagged_break None more b = b
tagged_break (Some t) more b = asked_break t.negated (codes "tagged ") t.name more

received_on_break : (o : Option Interface) (more : List ℕ) → breaks more ≡ true → breaks (received_on_text o ++ more) ≡ true
received_on_break None more b = b
received_on_break (Some i) more b = asked_break i.negated (codes "received-on ") i.name more

-- what is read of a rule from here on
abbrev Goes : Verb → FlagTest → Extras → List Tok → Clauses → List Tok → Type 0
Goes v f e ts c left = Until key.LineEnd (ClauseOf v) (before_state f e no_translation) ts c left

abbrev given : Option (List ℕ) → Option Tagged → Option Interface → Extras
given o t i = record { tag = o; tagged = t; received_on = i }

tag_goes : (v : Verb) (f : FlagTest) (o : Option (List ℕ)) (line : ℕ) (more : List ℕ) {c : Clauses} {left : List Tok} → IfSome o IsTag → breaks more ≡ true
    → Goes v f (given o None None) (at line more) c left → Goes v f no_extras (at line (tag_text o ++ more)) c left
tag_goes v f None line more h b u = u
tag_goes v f (Some n) line more h b u = goes (extra (tag_reads no_extras n line more refl h b)) u

tagged_goes : (v : Verb) (f : FlagTest) (o : Option (List ℕ)) (t : Option Tagged) (line : ℕ) (more : List ℕ) {c : Clauses} {left : List Tok} → IfSome t (λ x. IsTag x.name) → breaks more ≡ true
    → Goes v f (given o t None) (at line more) c left → Goes v f (given o None None) (at line (tagged_text t ++ more)) c left
tagged_goes v f o None line more h b u = u
tagged_goes v f o (Some t) line more h b u = goes (extra (tagged_reads (given o None None) t.name t.negated line more refl h b)) u

received_on_goes : (v : Verb) (f : FlagTest) (o : Option (List ℕ)) (t : Option Tagged) (i : Option Interface) (line : ℕ) (more : List ℕ) {c : Clauses} {left : List Tok} → IfSome i IsInterface → breaks more ≡ true
    → Goes v f (given o t i) (at line more) c left → Goes v f (given o t None) (at line (received_on_text i ++ more)) c left
received_on_goes v f o t None line more h b u = u
received_on_goes v f o t (Some i) line more h b u = goes (extra (received_on_reads (given o t None) i.name i.negated line more refl h b)) u

-- all of it
extras_go : (v : Verb) (f : FlagTest) (o : Option (List ℕ)) (came : Came) (line : ℕ) (more : List ℕ) {c : Clauses} {left : List Tok} → IfSome o IsTag → IsCame came → breaks more ≡ true
    → Goes v f (extras_said o came) (at line more) c left → Goes v f no_extras (at line (tag_text o ++ (tagged_text came.tagged ++ (received_on_text came.received_on ++ more)))) c left
extras_go v f o came line more h k b u =
    let behind_tagged = received_on_text came.received_on ++ more in
    let b_tagged : breaks behind_tagged ≡ true = received_on_break came.received_on more b in
    let b_tag : breaks (tagged_text came.tagged ++ behind_tagged) ≡ true = tagged_break came.tagged behind_tagged b_tagged in
    tag_goes v f o line (tagged_text came.tagged ++ behind_tagged) h b_tag
    (tagged_goes v f o came.tagged line behind_tagged k.tagged b_tagged
    (received_on_goes v f o came.tagged came.received_on line more k.received_on b u))

extras_break : (o : Option (List ℕ)) (came : Came) (more : List ℕ) → breaks more ≡ true → breaks (tag_text o ++ (tagged_text came.tagged ++ (received_on_text came.received_on ++ more))) ≡ true
extras_break o came more b = tag_break o _ (tagged_break came.tagged _ (received_on_break came.received_on more b))

-- ---- what a rule translates

-- where an action translates, its verb may
may_say : (a : Action) (n : Translation) → MayTranslate a n → translates_by n ≡ true → may_translate (verb_said a) ≡ true
may_say action.Match n h e = refl
may_say action.Block n h e = absurd (clash (sym h ∙ e))
may_say action.Pass n h e = refl
may_say (action.Keep o) n h e = refl

or_true : (b : Bool) → (b || true) ≡ true
or_true true = refl
or_true false = refl

-- what is read of a rule from here on, where so much of its translation is read
abbrev Translates : Verb → FlagTest → Extras → Translation → List Tok → Clauses → List Tok → Type 0
Translates v f e n ts c left = Until key.LineEnd (ClauseOf v) (before_state f e n) ts c left

abbrev translation_of : Option NatTo → Option RdrTo → Translation
translation_of n r = record { nat_to = n; rdr_to = r }

nat_to_goes : (v : Verb) (f : FlagTest) (e : Extras) (n : Option NatTo) (line : ℕ) (more : List ℕ) {c : Clauses} {left : List Tok} → (is_some n ≡ true → may_translate v ≡ true) → IfSome n IsNatTo → breaks more ≡ true
    → Translates v f e (translation_of n None) (at line more) c left → Translates v f e no_translation (at line (nat_to_text n ++ more)) c left
nat_to_goes v f e None line more m h b u = u
nat_to_goes v f e (Some n) line more m h b u = goes (translation (m refl) (nat_to_reads no_translation n line more refl h b)) u

rdr_to_goes : (v : Verb) (f : FlagTest) (e : Extras) (n : Option NatTo) (r : Option RdrTo) (line : ℕ) (more : List ℕ) {c : Clauses} {left : List Tok} → (is_some r ≡ true → may_translate v ≡ true) → IfSome r IsRdrTo → breaks more ≡ true
    → Translates v f e (translation_of n r) (at line more) c left → Translates v f e (translation_of n None) (at line (rdr_to_text r ++ more)) c left
rdr_to_goes v f e n None line more m h b u = u
rdr_to_goes v f e n (Some r) line more m h b u = goes (translation (m refl) (rdr_to_reads (translation_of n None) r line more refl h b)) u

translation_goes : (a : Action) (f : FlagTest) (e : Extras) (n : Translation) (line : ℕ) (more : List ℕ) {c : Clauses} {left : List Tok} → IsTranslation n → MayTranslate a n → breaks more ≡ true
    → Translates (verb_said a) f e n (at line more) c left → Translates (verb_said a) f e no_translation (at line (nat_to_text n.nat_to ++ (rdr_to_text n.rdr_to ++ more))) c left
translation_goes a f e n line more h m b u =
    nat_to_goes (verb_said a) f e n.nat_to line (rdr_to_text n.rdr_to ++ more) (λ k. may_say a n m (ap (λ x. x || is_some n.rdr_to) k)) h.nat_to (rdr_to_break n.rdr_to more b)
    (rdr_to_goes (verb_said a) f e n.nat_to n.rdr_to line more (λ k. may_say a n m (ap (λ x. is_some n.nat_to || x) k ∙ or_true (is_some n.nat_to))) h.rdr_to b u)

translation_break : (n : Translation) (more : List ℕ) → breaks more ≡ true → breaks (nat_to_text n.nat_to ++ (rdr_to_text n.rdr_to ++ more)) ≡ true
translation_break n more b = nat_to_break n.nat_to _ (rdr_to_break n.rdr_to more b)

clauses_read : (tables : List TableDef) (r : Rule) (line : ℕ) (more : List ℕ) → All IsTable tables → IsRule (length tables) r
    → Until key.LineEnd (ClauseOf (verb_said r.action)) no_clauses
    (at line (flags_text r.filter.flags ++ (tag_text r.tag ++ (tagged_text r.came.tagged ++ (received_on_text r.came.received_on ++ (nat_to_text r.translation.nat_to ++ (rdr_to_text r.translation.rdr_to ++ (state_text tables r.action ++ 10 ∷ more))))))))
    (clauses_said tables r.filter.flags (extras_said r.tag r.came) r.translation r.action) (tokens 0 false (suc line) more)
clauses_read tables r line more t h =
    let f = r.filter.flags in
    let n = r.translation in
    let end = state_text tables r.action ++ 10 ∷ more in
    let behind = nat_to_text n.nat_to ++ (rdr_to_text n.rdr_to ++ end) in
    let b = state_break tables r.action more in
    let k = translation_break n end b in
    goes (flags refl (flags_read f line _ h.filter.flags (extras_break r.tag r.came behind k)))
    (extras_go (verb_said r.action) f r.tag r.came line behind h.tag h.came k
    (translation_goes r.action f (extras_said r.tag r.came) n line end h.translating.translation h.translating.may b (state_reads tables f (extras_said r.tag r.came) n r.action line more t h.action)))

-- a text of many parts, and what follows it
rule_parts : (verb dir quick on family proto hosts test gives asks came nat rdr clause end more : List ℕ)
    → (verb ++ ((dir ++ (quick ++ (on ++ (family ++ (proto ++ (hosts ++ test)))))) ++ ((gives ++ (asks ++ came)) ++ ((nat ++ rdr) ++ (clause ++ end))))) ++ more
    ≡ verb ++ (dir ++ (quick ++ (on ++ (family ++ (proto ++ (hosts ++ (test ++ (gives ++ (asks ++ (came ++ (nat ++ (rdr ++ (clause ++ (end ++ more))))))))))))))
rule_parts verb dir quick on family proto hosts test gives asks came nat rdr clause end more = simp append_assoc

-- the line of a rule
pub rule_reads : (tables : List TableDef) (r : Rule) (line : ℕ) (more : List ℕ) → All IsTable tables → IsRule (length tables) r
    → RuleOf (tokens 0 false line (rule_text tables r ++ more)) (rule_phrase tables r) (tokens 0 false (suc line) more)
rule_reads tables r line more t h =
    let f = r.filter in
    let behind = flags_text f.flags ++ (tag_text r.tag ++ (tagged_text r.came.tagged ++ (received_on_text r.came.received_on ++ (nat_to_text r.translation.nat_to ++ (rdr_to_text r.translation.rdr_to ++ (state_text tables r.action ++ 10 ∷ more)))))) in
    let parameters = dir_text f.dir ++ (quick_text r.quick ++ (on_text f.on ++ (family_text f.family ++ (proto_text f.proto ++ (hosts_text tables f.from f.to ++ behind))))) in
    let P : List ℕ → Type 0 = λ z. RuleOf (tokens 0 false line z) (rule_phrase tables r) (tokens 0 false (suc line) more) in
    subst P (sym (rule_parts (verb_text r.action) (dir_text f.dir) (quick_text r.quick) (on_text f.on) (family_text f.family) (proto_text f.proto)
    (hosts_text tables f.from f.to) (flags_text f.flags) (tag_text r.tag) (tagged_text r.came.tagged) (received_on_text r.came.received_on) (nat_to_text r.translation.nat_to) (rdr_to_text r.translation.rdr_to) (state_text tables r.action) (codes "\n") more)) (record {
      a = at line parameters;
      b = at line behind;
      verb = verb_reads r.action line parameters (head_break tables r.quick f behind);
      parameters = head_reads (statement_of (verb_said r.action)) tables r.quick f line behind t h.filter (may_be_quick r.action r.quick h.quick) (flags_break f.flags _);
      clauses = clauses_read tables r line more t h;
    })

-- ---- anchors

name_reads : (p : Progress) (n : Option (List ℕ)) (line : ℕ) (more : List ℕ) → IfSome n (λ name. is_name 63 name ≡ true) → repeats_by p.depth n p.draft.items ≡ false
    → AnchorNameOf p (at line (name_text n ++ more)) n (at line more)
name_reads p None line more h fresh = unnamed
name_reads p (Some name) line more h fresh =
    named {t = token line key.Quoted name} (
    space_then true line ((34 ∷ (name ++ 34 ∷ [])) ++ more)
    ∙ (ap (λ (z : List ℕ). at line (34 ∷ z)) (append_assoc name (34 ∷ []) more) ∙ quoted_then true line name more (name_quoted name (name_bytes 63 name h)))
    ) refl (name_again 63 name h) fresh

name_break : (n : Option (List ℕ)) (more : List ℕ) → breaks more ≡ true → breaks (name_text n ++ more) ≡ true
name_break None more b = b
name_break (Some name) more b = refl

anchor_parts : (word name dir quick on family proto hosts test end more : List ℕ)
    → (word ++ (name ++ ((dir ++ (quick ++ (on ++ (family ++ (proto ++ (hosts ++ test)))))) ++ end))) ++ more
    ≡ word ++ (name ++ (dir ++ (quick ++ (on ++ (family ++ (proto ++ (hosts ++ (test ++ (end ++ more)))))))))
anchor_parts word name dir quick on family proto hosts test end more = simp append_assoc

-- the head of an anchor, up to the end of its line
pub anchor_reads : (tables : List TableDef) (p : Progress) (a : Anchor) (line : ℕ) (more : List ℕ) → All IsTable tables → IsAnchor (length tables) a
    → repeats_by p.depth a.name p.draft.items ≡ false
    → AnchorOf p (tokens 0 false line (anchor_text tables a ++ more)) (anchor_phrase tables a) (at line (10 ∷ more))
anchor_reads tables p a line more t h fresh =
    let f = a.filter in
    let brace = 32 ∷ 123 ∷ 10 ∷ more in
    let behind = flags_text f.flags ++ brace in
    let parameters = dir_text f.dir ++ (quick_text a.quick ++ (on_text f.on ++ (family_text f.family ++ (proto_text f.proto ++ (hosts_text tables f.from f.to ++ behind))))) in
    let P : List ℕ → Type 0 = λ z. AnchorOf p (tokens 0 false line z) (anchor_phrase tables a) (at line (10 ∷ more)) in
    subst P (sym (anchor_parts (codes "anchor") (name_text a.name) (dir_text f.dir) (quick_text a.quick) (on_text f.on) (family_text f.family) (proto_text f.proto)
    (hosts_text tables f.from f.to) (flags_text f.flags) (codes " {\n") more)) (record {
      behind_word = at line (name_text a.name ++ parameters);
      behind_name = at line parameters;
      behind_parameters = at line behind;
      brace = at line brace;
      word = word_first false line (codes "anchor") (name_text a.name ++ parameters) refl (name_break a.name parameters (head_break tables a.quick f behind)) key_of_Anchor;
      name = name_reads p a.name line parameters h.name fresh;
      parameters = head_reads statement.Anchor tables a.quick f line behind t h.filter tt (flags_break f.flags brace);
      flags = present (flags_read f.flags line brace h.filter.flags refl);
      opens = mark_behind line 123 (10 ∷ more) refl;
    })
