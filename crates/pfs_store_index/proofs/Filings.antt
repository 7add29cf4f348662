-- What a state is filed under: its source, or both ends of its key.
use Rattle.std.proofs.Common.{◌≡◌, subst}
use Rattle.pfs_addr_values.specs.declared.packets.Dir.{Dir}
use Rattle.pfs_addr_values.specs.declared.packets.Dir.TheVariants as dir
use Rattle.pfs_conf_values.specs.declared.profiles.Profile.TheVariants as profile
use Rattle.pfs_store_contract.specs.declared.records.State.{State}
use Rattle.pfs_store_index.specs.Filed.{HasFiled, HasPair, LosesFiled, LosesPair, ordered_source}
use Rattle.pfs_store_index.specs.declared.flush_index.FlushIndex.{FlushIndex}
use Rattle.pfs_store_index.specs.declared.sources.Source.{Source}

-- what holds of both directions holds of each
pub ends : (P : Dir → Type 0) → P dir.In → P dir.Out → (d : Dir) → P d
ends P h k dir.In = h
ends P h k dir.Out = k

-- ---- by the source

pub source-has : (s : State) (old new : FlushIndex) (o : Source) → o ≡ ordered_source s.source → HasPair (o, s.number) old.first new.first → HasFiled profile.Own s old new
source-has s old new o e h = λ d. subst (λ (x : Source). HasPair (x, s.number) old.first new.first) e h

pub source-loses : (s : State) (old new : FlushIndex) (o : Source) → o ≡ ordered_source s.source → LosesPair (o, s.number) old.first new.first → LosesFiled profile.Own s old new
source-loses s old new o e h = λ d. subst (λ (x : Source). LosesPair (x, s.number) old.first new.first) e h

-- ---- by both ends

pub ends-have : (s : State) (old new : FlushIndex) (a b : Source) → a ≡ ordered_source s.key.a.addr → b ≡ ordered_source s.key.b.addr
    → HasPair (a, s.number) old.first new.first × HasPair (b, s.number) old.second new.second → HasFiled profile.OpenBsd74 s old new
ends-have s old new a b e f h =
    ends _ (subst (λ (x : Source). HasPair (x, s.number) old.first new.first) e h.0) (subst (λ (x : Source). HasPair (x, s.number) old.second new.second) f h.1)

pub ends-lose : (s : State) (old new : FlushIndex) (a b : Source) → a ≡ ordered_source s.key.a.addr → b ≡ ordered_source s.key.b.addr
    → LosesPair (a, s.number) old.first new.first → LosesPair (b, s.number) old.second new.second → LosesFiled profile.OpenBsd74 s old new
ends-lose s old new a b e f h k =
    ends _ (subst (λ (x : Source). LosesPair (x, s.number) old.first new.first) e h) (subst (λ (x : Source). LosesPair (x, s.number) old.second new.second) f k)
