-- What a sink is. (own)
use Rattle.std.specs.Prelude.{◌≡◌, ◌≤◌, ◌+◌, ◌-◌, ◌^◌, ℕ, Bool, true, false, List, Option, min}

-- what a contract sees of a sink
pub record SinkView (W : Type 0) : Type 0 where
  pub writer : W
  pub failures : ℕ
  pub flushes : ℕ
  pub by_lines : Bool
  pub unflushed : Bool

-- the writer, with what was written
abbrev pub writer_of : {W : Type 0} → SinkView W → W
writer_of s = s.writer

-- the writes and flushes that failed
abbrev pub write_failures : {W : Type 0} → SinkView W → ℕ
write_failures s = s.failures

-- how often the writer was asked to flush
abbrev pub flushes_of : {W : Type 0} → SinkView W → ℕ
flushes_of s = s.flushes

-- what the writer of a sink holds, where it says
abbrev pub bytes_held : {W : Type 0} → (W → Option (List ℕ)) → SinkView W → Option (List ℕ)
bytes_held contents s = contents s.writer

-- one more of a count, which stays at the greatest number of 64 bits
abbrev pub one_more : ℕ → ℕ
one_more n = min (n + 1) (2 ^ 64 - 1)

-- whether each text is flushed as soon as it is written whole
abbrev pub is_by_lines : {W : Type 0} → SinkView W → Bool
is_by_lines s = s.by_lines

-- whether a byte was written after the last flush that worked
abbrev pub is_unflushed : {W : Type 0} → SinkView W → Bool
is_unflushed s = s.unflushed

-- a sink that is not by lines was not flushed between the two
abbrev pub NotFlushed : {W : Type 0} → SinkView W → SinkView W → Type 0
NotFlushed before after = (after.by_lines ≡ before.by_lines) × (before.by_lines ≡ false → after.flushes ≡ before.flushes)

-- a sink that is not by lines was flushed at most once between the two
abbrev pub FlushedOnce : {W : Type 0} → SinkView W → SinkView W → Type 0
FlushedOnce before after = before.by_lines ≡ false → after.flushes ≤ before.flushes + 1

-- a sink by lines has passed on all that was written to it
abbrev pub OwesNoFlush : {W : Type 0} → SinkView W → Type 0
OwesNoFlush s = s.by_lines ≡ true → s.unflushed ≡ false
