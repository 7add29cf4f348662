-- The statements of a canonical text: each is read, and leads to what the text says up to there.
use Rattle.std.proofs.Common.{◌≡◌, ◌∙◌, ◌≤◌, ◌<◌, ◌-◌, ◌+◌, ℕ, zero, suc, Bool, true, false, All, List, [], ◌∷◌, ◌++◌, length, map, Option, refl, sym, ap, subst, arith, append_assoc, append-nil, length-append}
use Rattle.std.specs.Prelude.{codes, unwrap_or}
use Rattle.std.specs.List.{IsDistinct, flat_map}
use Rattle.std.specs.Str.{bytes_eq}
use Rattle.std.proofs.lemmas.List.Elements.{All-head, All-tail}
use Rattle.pfs_conf_tokens.specs.declared.keys.Key.TheVariants as key
use Rattle.pfs_conf_tokens.specs.Grammar.{UpTo, stands, steps}
use Rattle.pfs_conf_tokens.specs.Lexis.{tokens}
use Rattle.pfs_conf_tokens.specs.Tokens.{Tok, head, token}
use Rattle.pfs_conf_tokens.specs.Words.{key_of_text}
use Rattle.pfs_conf_tokens.proofs.ShownLaws.{end_then}
use Rattle.pfs_conf_tokens.proofs.WordKeys.{key_of_Table}
use Rattle.pfs_conf_values.specs.Configs.{table_names}
use Rattle.pfs_conf_values.specs.Invariants.{IsTable}
use Rattle.pfs_conf_values.specs.Order.{AreNamedOnce, IsPreorder, next_depth, repeats_name}
use Rattle.pfs_conf_settings.specs.Drafts.{Drafted, is_defined, with_item, with_table}
use Rattle.pfs_conf_values.specs.Entries.{TextEntry}
use Rattle.pfs_conf_values.specs.LoadRules.{IsItem, IsItemAt}
use Rattle.pfs_conf_values.specs.declared.items.Anchor.{Anchor}
use Rattle.pfs_conf_values.specs.declared.items.Item.{Item}
use Rattle.pfs_conf_values.specs.declared.items.Rule.{Rule}
use Rattle.pfs_conf_values.specs.declared.items.ItemKind.{ItemKind}
use Rattle.pfs_conf_values.specs.declared.items.ItemKind.TheVariants as what
use Rattle.pfs_conf_values.specs.declared.limits.Limits.{Limits}
use Rattle.pfs_conf_values.specs.declared.profiles.Profile.{Profile}
use Rattle.pfs_conf_values.specs.declared.routes.Route.{Route}
use Rattle.pfs_conf_values.specs.declared.syncookies.Syncookies.{Syncookies}
use Rattle.pfs_conf_values.specs.declared.tables.TableDef.{TableDef}
use Rattle.pfs_conf.specs.Grammar.{StatementOf, anchor, close, rule, table}
use Rattle.pfs_conf.specs.Statements.{anchor_said, name_hosts, name_rule, rule_said}
use Rattle.pfs_conf.specs.declared.progress.Progress.{Progress}
use Rattle.pfs_conf_show.specs.Pieces.{bracketed_list}
use Rattle.pfs_conf_show.specs.Tables.{angled_name, const_text, entry_text, table_text}
use Rattle.pfs_conf_show.specs.Texts.{anchor_text, braces_text, items_text, rule_text, what_text}
use Rattle.pfs_conf_round_trip.proofs.Said.{parts_said}
use Rattle.pfs_conf_round_trip.proofs.StatementsSaid.{anchor_phrase, rule_phrase}
use Rattle.pfs_conf_round_trip.proofs.FilterPhrases.{angle_closes, angle_names, angle_opens}
use Rattle.pfs_conf_round_trip.proofs.ItemPhrases.{anchor_reads, rule_reads}
use Rattle.pfs_conf_round_trip.proofs.Names.{key_of_word, name_again}
use Rattle.pfs_conf_round_trip.proofs.Numbering.{AreTablesNumbered, drafted, next_new, next_table}
use Rattle.pfs_conf_round_trip.proofs.Pieces.{at, line_end, mark, word_space}
use Rattle.pfs_conf_round_trip.proofs.RulesAgain.{anchor_again, anchor_kept, anchor_name, rule_again, rule_kept, rule_name}
use Rattle.pfs_conf_round_trip.proofs.TablePhrases.{parts_read}

-- from here on there are statements up to the end of the text, each anchor is closed, and then this has been said
pub record EndsSaid (whole : Drafted) (p : Progress) (ts : List Tok) : Type 0 where
  pub said : Progress
  pub left : List Tok
  pub statements : UpTo key.End StatementOf p ts said left
  pub all_closed : said.depth ≡ 0
  pub says : said.draft ≡ whole

-- a statement in front
pub stated : {whole : Drafted} {p q : Progress} {ts mid : List Tok} → StatementOf p ts q mid → EndsSaid whole q mid → EndsSaid whole p ts
stated s e = record { said = e.said; left = e.left; statements = steps s e.statements; all_closed = e.all_closed; says = e.says }

-- how far reading is
abbrev pub reached : Drafted → ℕ → List ℕ → Progress
reached d depth lines = record { draft = d; depth = depth; lines = lines }

-- from every line on, whatever the lines before
abbrev pub EndsFrom : Drafted → Drafted → ℕ → List ℕ → Type 0
EndsFrom whole d depth text = (line : ℕ) (lines : List ℕ) → EndsSaid whole (reached d depth lines) (tokens 0 false line text)

-- ---- tables

table_parts : (word name c body end more : List ℕ) → (word ++ (name ++ (c ++ (body ++ end)))) ++ more ≡ word ++ (name ++ (c ++ (body ++ (end ++ more))))
table_parts word name c body end more = simp append_assoc

-- the parts that are read mean the table
table_again : (name : List ℕ) (c : Bool) (es : List TextEntry)
    → ◌≡◌ {A = TableDef} (record { name = name; is_const = (parts_said c es).is_const; entries = unwrap_or (parts_said c es).entries [] }) (record { name = name; is_const = c; entries = es })
table_again name c [] = refl
table_again name c (e ∷ es) = refl

table_reads : (d : Drafted) (t : TableDef) (line : ℕ) (lines : List ℕ) (more : List ℕ) → IsTable t → is_defined t.name d ≡ false
    → StatementOf (reached d 0 lines) (tokens 0 false line (table_text t ++ more)) (reached (with_table t d) 0 lines) (tokens 0 false (suc line) more)
table_reads d t line lines more h new =
    let body = bracketed_list (codes " { ") (codes " }") (map entry_text t.entries) in
    let parts = const_text t.is_const ++ (body ++ 10 ∷ more) in
    let P : List ℕ → Type 0 = λ z. StatementOf (reached d 0 lines) (tokens 0 false line z) (reached (with_table t d) 0 lines) (tokens 0 false (suc line) more) in
    let Q : TableDef → Type 0 = λ z. StatementOf (reached d 0 lines) (tokens 0 false line (codes "table " ++ (angled_name t.name ++ parts))) (reached (with_table z d) 0 lines) (tokens 0 false (suc line) more) in
    subst P (sym (table_parts (codes "table ") (angled_name t.name) (const_text t.is_const) body (codes "\n") more))
    (subst Q (table_again t.name t.is_const t.entries)
    (table t.name (parts_said t.is_const t.entries) refl (word_space false line (codes "table") (angled_name t.name ++ parts) refl key_of_Table) (
      record {
        inner = at line (t.name ++ 62 ∷ parts);
        behind = at line (62 ∷ parts);
        opens = angle_opens true line t.name parts;
        named = (token line (key_of_text t.name) t.name, angle_names line t.name parts h.name, key_of_word t.name, name_again 31 t.name h.name);
        closes = angle_closes line parts;
      },
      new,
    ) (parts_read t.is_const t.entries line more h.networks h.distinct) (line_end true line more)))

-- the tables that are left, after those that are defined
pub tables_read : (whole : Drafted) (profile : Profile) (syncookies : Syncookies) (routes : List Route) (limits : Limits) (timeouts : List (Option ℕ)) (before rest : List TableDef) (more : List ℕ) → All IsTable rest
    → IsDistinct bytes_eq (table_names (before ++ rest)) → EndsFrom whole (drafted profile syncookies routes limits timeouts (before ++ rest) []) 0 more
    → EndsFrom whole (drafted profile syncookies routes limits timeouts before []) 0 (flat_map table_text rest ++ more)
tables_read whole profile syncookies routes limits timeouts before [] more h distinct e line lines =
    subst (λ (z : List TableDef). EndsSaid whole (reached (drafted profile syncookies routes limits timeouts z []) 0 lines) (tokens 0 false line more)) (append-nil before) (e line lines)
tables_read whole profile syncookies routes limits timeouts before (t ∷ rest) more h distinct e line lines =
    let joined : (before ++ t ∷ []) ++ rest ≡ before ++ t ∷ rest = append_assoc before (t ∷ []) rest in
    let D : List TableDef → Type 0 = λ z. IsDistinct bytes_eq (table_names z) in
    let E : List TableDef → Type 0 = λ z. EndsFrom whole (drafted profile syncookies routes limits timeouts z []) 0 more in
    let left = flat_map table_text rest ++ more in
    let others = tables_read whole profile syncookies routes limits timeouts (before ++ t ∷ []) rest more (All-tail IsTable t rest h) (subst D (sym joined) distinct) (subst E (sym joined) e) (suc line) lines in
    let S : Drafted → Type 0 = λ z. EndsSaid whole (reached z 0 lines) (tokens 0 false (suc line) left) in
    let P : List ℕ → Type 0 = λ z. EndsSaid whole (reached (drafted profile syncookies routes limits timeouts before []) 0 lines) (tokens 0 false line z) in
    subst P (sym (append_assoc (table_text t) (flat_map table_text rest) more))
    (stated (table_reads (drafted profile syncookies routes limits timeouts before []) t line lines left (All-head IsTable t rest h) (next_new profile syncookies routes limits timeouts before rest t distinct))
    (subst S (sym (next_table profile syncookies routes limits timeouts before rest t distinct)) others))

-- ---- items

close_reads : (d : Drafted) (depth line : ℕ) (lines : List ℕ) (more : List ℕ) → 1 ≤ depth
    → StatementOf (reached d depth lines) (tokens 0 false line (codes "}\n" ++ more)) (reached d (depth - 1) lines) (tokens 0 false (suc line) more)
close_reads d depth line lines more h = close h (mark false line 125 (10 ∷ more) refl) (line_end true line more)

-- anchors are closed
braces_read : (whole d : Drafted) (n depth : ℕ) (more : List ℕ) → n ≤ depth → EndsFrom whole d (depth - n) more → EndsFrom whole d depth (braces_text n ++ more)
braces_read whole d zero depth more h e line lines =
    let all : depth - 0 ≡ depth = omega arith in
    let E : ℕ → Type 0 = λ z. EndsFrom whole d z more in
    subst E all e line lines
braces_read whole d (suc n) depth more h e line lines =
    let less : (depth - 1) - n ≡ depth - suc n = omega arith in
    let E : ℕ → Type 0 = λ z. EndsFrom whole d z more in
    stated (close_reads d depth line lines (braces_text n ++ more) (omega (arith, h)))
    (braces_read whole d n (depth - 1) more (omega (arith, h)) (subst E (sym less) e) (suc line) lines)

-- the end of the text
end_reads : (d : Drafted) → EndsFrom d d 0 []
end_reads d line lines = record { said = reached d 0 lines; left = tokens 0 false line []; statements = stands (ap (λ (z : List Tok). (head z).key) (end_then line)); all_closed = refl; says = refl }

-- the line of an item is read, and the item is appended to the others
item_line : (profile : Profile) (syncookies : Syncookies) (routes : List Route) (limits : Limits) (timeouts : List (Option ℕ)) (tables : List TableDef) (before : List Item) (i : Item) (line : ℕ) (lines : List ℕ) (more : List ℕ)
    → All IsTable tables → AreTablesNumbered tables → IsItem (length tables) i → length before < 10000 → repeats_name i before ≡ false
    → (ls : List ℕ) × StatementOf (reached (drafted profile syncookies routes limits timeouts tables before) i.depth lines) (tokens 0 false line (what_text tables i.what ++ more))
    (reached (drafted profile syncookies routes limits timeouts tables (before ++ i ∷ [])) (next_depth i) ls) (tokens 0 false (suc line) more)
item_line profile syncookies routes limits timeouts tables before i line lines more t names h few fresh = go i.depth i.what h fresh
  where
    d : Drafted
    d = drafted profile syncookies routes limits timeouts tables before

    item : ℕ → ItemKind → Item
    item depth w = record { depth = depth; what = w }

    go : (depth : ℕ) (w : ItemKind) → IsItemAt (length tables) depth w → repeats_name (item depth w) before ≡ false
        → (ls : List ℕ) × StatementOf (reached d depth lines) (tokens 0 false line (what_text tables w ++ more))
        (reached (drafted profile syncookies routes limits timeouts tables (before ++ item depth w ∷ [])) (next_depth (item depth w)) ls) (tokens 0 false (suc line) more)
    go depth (what.Rule r) k f =
        let ts = tokens 0 false line (rule_text tables r ++ more) in
        let S : Drafted → Type 0 = λ z. StatementOf (reached d depth lines) ts (reached z depth (lines ++ (head ts).line ∷ [])) (tokens 0 false (suc line) more) in
        let same : with_item (item depth (what.Rule (rule_said (rule_phrase tables r) d))) (name_rule (rule_phrase tables r) d) ≡ drafted profile syncookies routes limits timeouts tables (before ++ item depth (what.Rule r) ∷ []) =
        ap (λ (x : Rule). with_item (item depth (what.Rule x)) (name_rule (rule_phrase tables r) d)) (rule_again profile syncookies routes limits timeouts tables before r names k.1)
        ∙ ap (with_item (item depth (what.Rule r))) (rule_name profile syncookies routes limits timeouts tables before r names k.1) in
        (lines ++ (head ts).line ∷ [], subst S same (rule (rule_phrase tables r) (rule_reads tables r line more t k.1) (rule_kept tables r d k.1 few)))
    go depth (what.Anchor a) k f =
        let ts = tokens 0 false line (anchor_text tables a ++ more) in
        let S : Drafted → Type 0 = λ z. StatementOf (reached d depth lines) ts (reached z (depth + 1) (lines ++ (head ts).line ∷ [])) (tokens 0 false (suc line) more) in
        let same : with_item (item depth (what.Anchor (anchor_said (anchor_phrase tables a) d))) (name_hosts (anchor_phrase tables a).parameters.hosts d) ≡ drafted profile syncookies routes limits timeouts tables (before ++ item depth (what.Anchor a) ∷ []) =
        ap (λ (x : Anchor). with_item (item depth (what.Anchor x)) (name_hosts (anchor_phrase tables a).parameters.hosts d)) (anchor_again profile syncookies routes limits timeouts tables before a names k.1)
        ∙ ap (with_item (item depth (what.Anchor a))) (anchor_name profile syncookies routes limits timeouts tables before a names k.1) in (
          lines ++ (head ts).line ∷ [],
          subst S same (anchor (anchor_phrase tables a) (anchor_reads tables (reached d depth lines) a line more t k.1 f) (anchor_kept tables a depth d k.1 k.0 few) (line_end true line more)),
        )

-- the items that are left, after those that are read
pub items_read : (profile : Profile) (syncookies : Syncookies) (routes : List Route) (limits : Limits) (timeouts : List (Option ℕ)) (tables : List TableDef) (before rest : List Item) (depth : ℕ) → All IsTable tables
    → AreTablesNumbered tables → All (IsItem (length tables)) rest → length (before ++ rest) ≤ 10000 → IsPreorder depth rest → AreNamedOnce before rest
    → EndsFrom (drafted profile syncookies routes limits timeouts tables (before ++ rest)) (drafted profile syncookies routes limits timeouts tables before) depth (items_text tables depth rest)
items_read profile syncookies routes limits timeouts tables before [] depth t names h few order once line lines =
    let whole = drafted profile syncookies routes limits timeouts tables (before ++ []) in
    let d = drafted profile syncookies routes limits timeouts tables before in
    let none : depth - depth ≡ 0 = omega arith in
    let E : ℕ → Type 0 = λ z. EndsFrom whole d z [] in
    let D : List Item → Type 0 = λ z. EndsFrom (drafted profile syncookies routes limits timeouts tables z) d 0 [] in
    let P : List ℕ → Type 0 = λ z. EndsSaid whole (reached d depth lines) (tokens 0 false line z) in
    subst P (append-nil (braces_text depth))
    (braces_read whole d depth depth [] (omega arith) (subst E (sym none) (subst D (sym (append-nil before)) (end_reads d))) line lines)
items_read profile syncookies routes limits timeouts tables before (i ∷ rest) depth t names h few order once line lines =
    let whole = drafted profile syncookies routes limits timeouts tables (before ++ i ∷ rest) in
    let d = drafted profile syncookies routes limits timeouts tables before in
    let left = items_text tables (next_depth i) rest in
    let up : depth - (depth - i.depth) ≡ i.depth = omega (arith, order.0) in
    let count : length before < 10000 = omega (arith, few, length-append before (i ∷ rest)) in
    let joined : (before ++ i ∷ []) ++ rest ≡ before ++ i ∷ rest = append_assoc before (i ∷ []) rest in
    let W : List Item → Type 0 = λ z. EndsFrom (drafted profile syncookies routes limits timeouts tables z) (drafted profile syncookies routes limits timeouts tables (before ++ i ∷ [])) (next_depth i) left in
    let others : W (before ++ i ∷ rest) =
    subst W joined
    (items_read profile syncookies routes limits timeouts tables (before ++ i ∷ []) rest (next_depth i) t names (All-tail (IsItem (length tables)) i rest h)
    (subst (λ (z : List Item). length z ≤ 10000) (sym joined) few) order.1 once.1) in
    let E : ℕ → Type 0 = λ z. EndsFrom whole d z (what_text tables i.what ++ left) in
    braces_read whole d (depth - i.depth) depth (what_text tables i.what ++ left) (omega arith)
    (subst E (sym up) (λ l ls.
    let s = item_line profile syncookies routes limits timeouts tables before i l ls left t names (All-head (IsItem (length tables)) i rest h) count once.0 in
    stated s.1 (others (suc l) s.0))) line lines
