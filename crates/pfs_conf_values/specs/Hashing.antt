-- What a hasher is fed with before the keys: all that a configuration says, or a text.
use Rattle.std.specs.Prelude.{ℕ, [], ◌∷◌, ◌++◌, List, fold, length}
use Rattle.std.specs.Hash as fed
use Rattle.std.specs.Hash.{HashWrites}
use Rattle.std.specs.Hash.DefaultHasher as sip
use Rattle.std.specs.Hash.FoldHasher as folding
use Rattle.std.specs.declared.hash.DefaultHasher.{DefaultHasher}
use Rattle.pfs_addr_values.specs.contracts.prefixes.PrefixHash.TheImpl as prefix
use Rattle.pfs_conf_values.specs.Configs.{Conf}
use Rattle.pfs_conf_values.specs.Entries.{TextEntry}
use Rattle.pfs_conf_values.specs.contracts.items.ItemHash.TheImpl as item
use Rattle.pfs_conf_values.specs.contracts.limits.LimitsHash.TheImpl as limits
use Rattle.pfs_conf_values.specs.contracts.profiles.ProfileHash.TheImpl as profile
use Rattle.pfs_conf_values.specs.contracts.routes.RouteHash.TheImpl as route
use Rattle.pfs_conf_values.specs.contracts.syncookies.SyncookiesHash.TheImpl as syncookies
use Rattle.pfs_conf_values.specs.contracts.timeouts.TimeoutsHash.TheImpl as timeouts
use Rattle.pfs_conf_values.specs.declared.items.Item.{Item}
use Rattle.pfs_conf_values.specs.declared.tables.TableDef.{TableDef}

-- a hasher after these writes
abbrev pub after_writes : DefaultHasher → HashWrites → DefaultHasher
after_writes s writes = fold sip.write s writes

-- what is written of an entry: its prefix, and whether it is negated
abbrev pub entry_writes : TextEntry → HashWrites
entry_writes e = (prefix.ghosts).hash_input e.0 ++ fed.bool e.1

-- a hasher after a table: its name, whether it is `const`, and its entries
abbrev pub after_table : DefaultHasher → TableDef → DefaultHasher
after_table s t = after_writes s (fed.slice fed.u8 t.name ++ fed.bool t.is_const ++ fed.slice entry_writes t.entries)

-- a hasher after tables: how many they are, and each
abbrev pub after_tables : DefaultHasher → List TableDef → DefaultHasher
after_tables s tables = fold after_table (after_writes s (fed.usize (length tables))) tables

-- all that an item says, in one word: what is written of it, multiplied and folded
abbrev pub item_word : Item → ℕ
item_word i = folding.finish (fold folding.write folding.initial ((item.ghosts).hash_input i))

-- a hasher after items: how many they are, and the word of each
abbrev pub after_item : DefaultHasher → Item → DefaultHasher
after_item s i = after_writes s (fed.u64 (item_word i))

abbrev pub after_items : DefaultHasher → List Item → DefaultHasher
after_items s items = fold after_item (after_writes s (fed.usize (length items))) items

-- a hasher after a configuration: profile, SYN cookies, routes, limits, timeouts, tables, items
abbrev pub after_conf : DefaultHasher → Conf → DefaultHasher
after_conf s conf =
    let asked = (profile.ghosts).hash_input conf.profile ++ (syncookies.ghosts).hash_input conf.syncookies in
    let ways = asked ++ fed.slice (route.ghosts).hash_input conf.routes in
    let head = ways ++ ((limits.ghosts).hash_input conf.limits ++ (timeouts.ghosts).hash_input conf.timeouts) in
    after_items (after_tables (after_writes s head) conf.tables) conf.items

-- a hasher after a text: its bytes
abbrev pub after_text : DefaultHasher → List ℕ → DefaultHasher
after_text s text = after_writes s (text ∷ [])

-- A new hasher that is fed with what another answers: eight bytes, so the keys after them begin on a whole word, which SipHash
-- takes in fewer steps.
abbrev pub begun_with : DefaultHasher → DefaultHasher
begun_with s = after_writes sip.initial (fed.u64 (sip.finish s))

-- the hasher of a configuration, and that of a text
abbrev pub hasher_of : Conf → DefaultHasher
hasher_of conf = begun_with (after_conf sip.initial conf)

abbrev pub hasher_of_text : List ℕ → DefaultHasher
hasher_of_text text = begun_with (after_text sip.initial text)
