-- How the parts of a table's definition are read. Line ends are ignored between any two tokens in its braces. (not promised)
use Rattle.std.specs.Prelude.{Bool, true, false, Option, Some, None, if◌then◌else◌, List, [], ◌∷◌, ◌++◌}
use Rattle.pfs_conf_tokens.specs.declared.keys.Key.{Key}
use Rattle.pfs_conf_tokens.specs.declared.keys.Key.TheVariants as key
use Rattle.pfs_conf_tokens.specs.declared.refusals.Why.TheVariants as why
use Rattle.pfs_conf_tokens.specs.Tokens.{Tok}
use Rattle.pfs_conf_tokens.specs.Keys.{is_word_key, ends_line}
use Rattle.pfs_conf_tokens.specs.Reading.{closes_braces, Reader, Act, take, stay, refuse, on_front, done, chain, once, list_all, up_to_all, skipping}
use Rattle.pfs_addr_values.specs.Prefixes.{Network}
use Rattle.pfs_addr.specs.Texts.{prefix_of}
use Rattle.pfs_conf_values.specs.Entries.{TextEntry, sign_of}
use Rattle.pfs_conf_settings.specs.declared.tables.Parts.{Parts}
use Rattle.pfs_conf_settings.specs.TableGrammar.{no_parts}

-- whether a `!` is in front
abbrev pub sign_by : Key → Act Bool
sign_by key.Not = take (done true)
sign_by _ = stay (done false)

unfoldable pub sign_at : Reader Bool
sign_at ts = on_front (λ t. sign_by t.key) ts

-- whether two entries are both negated, or neither
abbrev pub is_same_sign : Bool → Bool → Bool
is_same_sign true true = true
is_same_sign false false = true
is_same_sign _ _ = false

-- an entry that is there already is held once if it has the same sign, and is refused if it has the other
abbrev pub again : List TextEntry → Bool → Bool → Act (List TextEntry)
again entries true true = take (done entries)
again entries false false = take (done entries)
again entries _ _ = refuse why.Again

abbrev pub entry_joined : List TextEntry → Bool → Network → Option Bool → Act (List TextEntry)
entry_joined entries negated p None = take (done (entries ++ (p, negated) ∷ []))
entry_joined entries negated p (Some held) = again entries negated held

abbrev pub entries_with : List TextEntry → Bool → Option Network → Act (List TextEntry)
entries_with entries negated None = refuse why.Host
entries_with entries negated (Some p) = entry_joined entries negated p (sign_of entries p)

abbrev pub entry_by : List TextEntry → Bool → Tok → Act (List TextEntry)
entry_by entries negated t = if is_word_key t.key then entries_with entries negated (prefix_of t.text) else refuse why.Host

unfoldable pub entry_at : List TextEntry → Bool → Reader (List TextEntry)
entry_at entries negated ts = on_front (λ t. entry_by entries negated t) ts

-- an entry among line ends
unfoldable pub lined_entry_at : List TextEntry → Reader (List TextEntry)
lined_entry_at entries ts = skipping (chain sign_at (λ negated. skipping (chain (entry_at entries negated) (λ more. skipping (done more))))) ts

-- the entries in braces, after the opening one
abbrev pub entries_by : Key → Act (List TextEntry)
entries_by key.CloseBrace = take (done [])
entries_by _ = stay (list_all closes_braces lined_entry_at [])

unfoldable pub braced_entries_at : Reader (List TextEntry)
braced_entries_at ts = skipping (on_front (λ t. entries_by t.key)) ts

-- a part of a definition, each at most once
abbrev pub unless : {A : Type 0} → Bool → Act A → Act A
unless true a = refuse why.Again
unless false a = a

abbrev pub part_by : Parts → Key → Act Parts
part_by p key.Persist = unless p.persist (take (done (record p { persist = true })))
part_by p key.Const = unless p.is_const (take (done (record p { is_const = true })))
part_by p key.Counters = unless p.counters (take (done (record p { counters = true })))
part_by p key.OpenBrace = once p.entries (take (chain braced_entries_at (λ entries. done (record p { entries = Some entries }))))
part_by p _ = refuse why.Plain

unfoldable pub part_at : Parts → Reader Parts
part_at p ts = on_front (λ t. part_by p t.key) ts

-- the parts up to the line end, which stays
unfoldable pub parts_at : Reader Parts
parts_at ts = up_to_all ends_line part_at no_parts ts
