-- What captures give, and what of them was read. (own)
use Rattle.std.specs.Prelude.{ℕ, ◌≡◌, ◌⊎◌, List, [], ◌∷◌, map, Option, Some, None, ⊤}
use Rattle.pfs_streams.specs.Feeds.{FeedView, HasFailed, read_failures}
use Rattle.pfs_capture.specs.Captures.{most_items}
use Rattle.pfs_capture.specs.Instants.{start_instant}
use Rattle.pfs_capture.specs.Merging.{Given}
use Rattle.pfs_capture.specs.declared.captures.Capture.{Capture}
use Rattle.pfs_capture.specs.declared.captures.NextKnown.TheVariants as next

-- a capture of which nothing was read
abbrev pub IsUnread : {R : Type 0} → Capture R → Type 0
IsUnread c = (c.form ≡ None) × (c.next ≡ next.Unasked) × (c.last ≡ start_instant) × (c.items ≡ most_items)

-- it was taken at these interfaces, and its reader will give these bytes
abbrev pub IsGiven : {R : Type 0} → (FeedView R → Option (List ℕ)) → Capture R → Given → Type 0
IsGiven remaining c g = IsUnread c × (c.points.items ≡ g.points) × (remaining c.reader ≡ Some g.octets)

abbrev pub AreGiven : {R : Type 0} → (FeedView R → Option (List ℕ)) → List (Capture R) → List Given → Type 0
AreGiven remaining [] [] = ⊤
AreGiven remaining (c ∷ cs) (g ∷ gs) = IsGiven remaining c g × AreGiven remaining cs gs
AreGiven remaining cs gs = ⊥

-- what of each is unread
abbrev pub lefts_of : {R : Type 0} → (FeedView R → Option (List ℕ)) → List (Capture R) → List (Option (List ℕ))
lefts_of remaining cs = map (λ c. remaining c.reader) cs

-- how many reads of each failed
abbrev pub failures_of : {R : Type 0} → List (Capture R) → List ℕ
failures_of cs = map (λ c. read_failures c.reader) cs

-- a read of one of them failed
abbrev pub SomeFailed : {R : Type 0} → List (Capture R) → Type 0
SomeFailed [] = ⊥
SomeFailed (c ∷ cs) = HasFailed c.reader ⊎ SomeFailed cs
