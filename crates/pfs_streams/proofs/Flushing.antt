-- How often a sink is flushed over some calls.
use Rattle.std.proofs.Common.{◌≡◌, ◌≤◌, ◌∙◌, ◌+◌, arith}
use Rattle.pfs_streams.specs.Sinks.{SinkView, FlushedOnce, NotFlushed}

-- not in the one call, nor in the next
pub not-flushed : {W : Type 0} (a b c : SinkView W) → NotFlushed a b → NotFlushed b c → NotFlushed a c
not-flushed a b c first next = (next.0 ∙ first.0, λ e. next.1 (first.0 ∙ e) ∙ first.1 e)

-- not in the one call, and at most once in the next
pub then-flushed : {W : Type 0} (a b c : SinkView W) → NotFlushed a b → FlushedOnce b c → FlushedOnce a c
then-flushed a b c first next e =
    let few : c.flushes ≤ b.flushes + 1 = next (first.0 ∙ e) in
    let same : b.flushes ≡ a.flushes = first.1 e in
    omega (arith, few, same)

-- not at all
pub never-flushed : {W : Type 0} (a b : SinkView W) → NotFlushed a b → FlushedOnce a b
never-flushed a b none e = let same : b.flushes ≡ a.flushes = none.1 e in omega (arith, same)

pub unwritten-flushed : {W : Type 0} (a : SinkView W) → FlushedOnce a a
unwritten-flushed a e = omega arith
