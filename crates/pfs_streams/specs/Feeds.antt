-- What a feed is, and when a read of it is a read of its reader. (own)
use Rattle.std.specs.Prelude.{◌≡◌, ◌⊎◌, ◌<◌, ℕ, Bool, false, List, [], Option, Some, if◌then◌else◌}
use Rattle.std.specs.Borrow.{MutBor}

-- what a contract sees of a feed
pub record FeedView (R : Type 0) : Type 0 where
  pub reader : R
  pub bound : ℕ
  pub made : ℕ
  pub failures : ℕ
  pub ended : Bool

-- the bytes that a feed will give: none after its end, else those of its reader
abbrev pub unread : {R : Type 0} → (R → Option (List ℕ)) → FeedView R → Option (List ℕ)
unread remaining f = if f.ended then Some [] else remaining f.reader

-- the same of a feed whose reader is lent
abbrev pub unread_behind : {R : Type 0} → (R → Option (List ℕ)) → FeedView (MutBor R) → Option (List ℕ)
unread_behind remaining f = unread (λ r. remaining r.now) f

-- the reader, with what was read of it taken off
abbrev pub reader_of : {R : Type 0} → FeedView R → R
reader_of f = f.reader

-- the most reads that are made of the reader
abbrev pub bound_of : {R : Type 0} → FeedView R → ℕ
bound_of f = f.bound

-- the reads that were made of the reader
abbrev pub reads_of : {R : Type 0} → FeedView R → ℕ
reads_of f = f.made

-- the reads of the reader that failed
abbrev pub read_failures : {R : Type 0} → FeedView R → ℕ
read_failures f = f.failures

-- whether a read of the reader, into a buffer with room, gave no byte
abbrev pub has_ended : {R : Type 0} → FeedView R → Bool
has_ended f = f.ended

-- a feed that has read nothing
abbrev pub IsFresh : {R : Type 0} → FeedView R → Type 0
IsFresh f = (f.made ≡ 0) × (f.ended ≡ false) × (f.failures ≡ 0)

-- all reads of the bound are made, and each gave a byte
abbrev pub IsSpent : {R : Type 0} → FeedView R → Type 0
IsSpent f = (f.made ≡ f.bound) × (f.ended ≡ false) × (f.failures ≡ 0)

-- a read of the reader failed, or all reads of the bound are made
abbrev pub HasFailed : {R : Type 0} → FeedView R → Type 0
HasFailed f = (0 < f.failures) ⊎ IsSpent f

-- no read of the reader failed, and it ended, or reads of the bound are left
abbrev pub IsSound : {R : Type 0} → FeedView R → Type 0
IsSound f = (f.failures ≡ 0) × (IsSpent f → ⊥)

-- the next read into a buffer with room is one of the reader
abbrev pub MayRead : {R : Type 0} → FeedView R → Type 0
MayRead f = (f.made < f.bound) × (f.ended ≡ false) × (f.failures ≡ 0)

-- the reader is not read again, though it did not end: it failed, or all reads are made
abbrev pub IsClosed : {R : Type 0} → FeedView R → Type 0
IsClosed f = (f.ended ≡ false) × ((0 < f.failures) ⊎ (f.made ≡ f.bound))

-- of so many reads of which so many failed, the first did not
abbrev pub BeganWell : ℕ → ℕ → Type 0
BeganWell made failures = (0 < made) × (0 < failures → 1 < made)

-- the same bound, reads made, failures and end; the readers may be of two types
abbrev pub SameReads : {R S : Type 0} → FeedView R → FeedView S → Type 0
SameReads f g = (g.bound ≡ f.bound) × (g.made ≡ f.made) × (g.failures ≡ f.failures) × (g.ended ≡ f.ended)

-- a feed has this bound, these reads made, these failures and this end
abbrev pub HasReads : {R : Type 0} → FeedView R → ℕ → ℕ → ℕ → Bool → Type 0
HasReads f bound made failures ended = (bound ≡ f.bound) × (made ≡ f.made) × (failures ≡ f.failures) × (ended ≡ f.ended)
