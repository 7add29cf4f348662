-- The readers of a table's parts look no further than the token in front of what they leave.
use Rattle.std.proofs.Common.{◌≡◌, Bool, true, false, List, [], ◌∷◌, ◌++◌, Option, Some, None, refl, if◌then◌else◌}
use Rattle.pfs_conf_tokens.specs.declared.keys.Key.{Key}
use Rattle.pfs_conf_tokens.specs.declared.keys.Key.TheVariants as key
use Rattle.pfs_conf_tokens.specs.declared.refusals.Why.TheVariants as why
use Rattle.pfs_conf_tokens.specs.Tokens.{Tok}
use Rattle.pfs_conf_tokens.specs.Keys.{ends_line, is_word_key, in_line}
use Rattle.pfs_conf_tokens.specs.Reading.{closes_braces, Act, refuse, chain, done, list_all, next_of, skipping}
use Rattle.pfs_conf_tokens.proofs.Laws.{Taking, OnlineAct, Online, inside, across, online_done, online_chain, online_taking, online_front, once_taking, front_shrinks, chain_shrinks, chain_shrinks_behind, Shrinks, online_across, online_up_to_all}
use Rattle.pfs_conf_tokens.proofs.ReaderLaws.{closes_braces_before_end, online_list, next_shrinks, online_skipping, skipping_shrinks, word_in_line}
use Rattle.pfs_addr_values.specs.Prefixes.{Network}
use Rattle.pfs_addr.specs.Texts.{prefix_of}
use Rattle.pfs_conf_values.specs.Entries.{TextEntry, sign_of}
use Rattle.pfs_conf_settings.specs.declared.tables.Parts.{Parts}
use Rattle.pfs_conf_settings.specs.Tables.{sign_by, sign_at, again, entry_joined, entries_with, entry_by, entry_at, lined_entry_at, entries_by, braced_entries_at, unless, part_by, part_at, parts_at}
use Rattle.pfs_conf_settings.specs.TableGrammar.{no_parts}

-- ---- an entry

negation_act : (k : Key) → OnlineAct inside k (sign_by k)
negation_act key.Not = (refl, online_done true)
negation_act _ = online_done false

pub online_negation : Online inside sign_at
unfolding sign_at
online_negation = online_front (λ t. sign_by t.key) (λ t. negation_act t.key)

again_taking : (k : Key) (entries : List TextEntry) (negated held : Bool) → in_line k ≡ true → Taking inside k (again entries negated held)
again_taking k entries true true h = (h, online_done entries)
again_taking k entries false false h = (h, online_done entries)
again_taking k entries true false h = tt
again_taking k entries false true h = tt

joined_taking : (k : Key) (entries : List TextEntry) (negated : Bool) (p : Network) (o : Option Bool) → in_line k ≡ true → Taking inside k (entry_joined entries negated p o)
joined_taking k entries negated p None h = (h, online_done (entries ++ (p, negated) ∷ []))
joined_taking k entries negated p (Some held) h = again_taking k entries negated held h

entered_taking : (k : Key) (entries : List TextEntry) (negated : Bool) (o : Option Network) → in_line k ≡ true → Taking inside k (entries_with entries negated o)
entered_taking k entries negated None h = tt
entered_taking k entries negated (Some p) h = joined_taking k entries negated p (sign_of entries p) h

entry_taking : (entries : List TextEntry) (negated : Bool) (t : Tok) → Taking inside t.key (entry_by entries negated t)
entry_taking entries negated t = go (is_word_key t.key) refl
  where
    go : (b : Bool) → is_word_key t.key ≡ b → Taking inside t.key (if b then entries_with entries negated (prefix_of t.text) else refuse why.Host)
    go true e = entered_taking t.key entries negated (prefix_of t.text) (word_in_line t.key e)
    go false e = tt

pub online_entry : (entries : List TextEntry) (negated : Bool) → Online inside (entry_at entries negated)
unfolding entry_at
online_entry entries negated = online_taking (λ t. entry_by entries negated t) (λ t. entry_taking entries negated t)

pub entry_shrinks : (entries : List TextEntry) (negated : Bool) → Shrinks (entry_at entries negated)
unfolding entry_at
entry_shrinks entries negated = front_shrinks inside (λ t. entry_by entries negated t) (λ t. entry_taking entries negated t)

-- line ends after an entry
online_behind : (entries : List TextEntry) → Online across (skipping (done entries))
online_behind entries = online_skipping (done entries) (online_done entries)

online_signed : (entries : List TextEntry) (negated : Bool) → Online across (skipping (chain (entry_at entries negated) (λ more. skipping (done more))))
online_signed entries negated =
    online_skipping (chain (entry_at entries negated) (λ more. skipping (done more)))
    (online_chain (entry_at entries negated) (λ more. skipping (done more)) (online_across (entry_at entries negated) (online_entry entries negated)) online_behind)

pub online_lined_entry : (entries : List TextEntry) → Online across (lined_entry_at entries)
unfolding lined_entry_at
online_lined_entry entries =
    online_skipping (chain sign_at (λ negated. skipping (chain (entry_at entries negated) (λ more. skipping (done more)))))
    (online_chain sign_at (λ negated. skipping (chain (entry_at entries negated) (λ more. skipping (done more)))) (online_across sign_at online_negation) (online_signed entries))

signed_shrinks : (entries : List TextEntry) (negated : Bool) → Shrinks (skipping (chain (entry_at entries negated) (λ more. skipping (done more))))
signed_shrinks entries negated =
    skipping_shrinks (chain (entry_at entries negated) (λ more. skipping (done more)))
    (chain_shrinks across (entry_at entries negated) (λ more. skipping (done more)) (entry_shrinks entries negated) online_behind)

pub lined_entry_shrinks : (entries : List TextEntry) → Shrinks (lined_entry_at entries)
unfolding lined_entry_at
lined_entry_shrinks entries =
    skipping_shrinks (chain sign_at (λ negated. skipping (chain (entry_at entries negated) (λ more. skipping (done more)))))
    (chain_shrinks_behind across sign_at (λ negated. skipping (chain (entry_at entries negated) (λ more. skipping (done more)))) (online_across sign_at online_negation) (signed_shrinks entries))

pub next_entry_shrinks : (entries : List TextEntry) → Shrinks (next_of lined_entry_at entries)
next_entry_shrinks entries = next_shrinks lined_entry_at lined_entry_shrinks entries

-- ---- the entries in braces

online_listed : Online across (list_all closes_braces lined_entry_at [])
online_listed = online_list closes_braces lined_entry_at closes_braces_before_end lined_entry_shrinks online_lined_entry []

entries_act : (k : Key) → OnlineAct across k (entries_by k)
entries_act key.CloseBrace = (refl, online_done [])
entries_act _ = online_listed

pub online_entries : Online across braced_entries_at
unfolding braced_entries_at
online_entries = online_skipping _ (online_front (λ t. entries_by t.key) (λ t. entries_act t.key))

-- ---- the parts

unless_taking : {A : Type 0} (k : Key) (b : Bool) (a : Act A) → Taking across k a → Taking across k (unless b a)
unless_taking k true a h = tt
unless_taking k false a h = h

part_taking : (p : Parts) (k : Key) → Taking across k (part_by p k)
part_taking p key.Persist = unless_taking key.Persist p.persist _ (refl, online_done (record p { persist = true }))
part_taking p key.Const = unless_taking key.Const p.is_const _ (refl, online_done (record p { is_const = true }))
part_taking p key.Counters = unless_taking key.Counters p.counters _ (refl, online_done (record p { counters = true }))
part_taking p key.OpenBrace =
    once_taking across key.OpenBrace p.entries _ (refl, online_chain braced_entries_at _ online_entries (λ entries. online_done (record p { entries = Some entries })))
part_taking p _ = tt

pub online_part : (p : Parts) → Online across (part_at p)
unfolding part_at
online_part p = online_taking (λ t. part_by p t.key) (λ t. part_taking p t.key)

pub part_shrinks : (p : Parts) → Shrinks (part_at p)
unfolding part_at
part_shrinks p = front_shrinks across (λ t. part_by p t.key) (λ t. part_taking p t.key)

pub online_parts : Online across parts_at
unfolding parts_at
online_parts = online_up_to_all ends_line part_at part_shrinks online_part no_parts
