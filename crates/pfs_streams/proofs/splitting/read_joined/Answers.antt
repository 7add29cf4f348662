-- Answers of read_joined: the start, and a byte more; rules and trace at the split line and the end, and rules of which no more is kept.
use Rattle.std.proofs.Common.{rules, arith, refl, sym, ap, ◌≡◌, ◌∙◌, ◌∷◌, [], ◌+◌, ◌++◌, length, length-append, take, slice_index_or}
use Rattle.pfs_streams.specs.Joined.{split_joined}
use Rattle.pfs_streams.proofs.Joining.{joins-start, joins-end, joins-more, joins-split, joins-full, joins-past, past-now, one-byte, splits-not, mark-after}
use Rattle.pfs_streams.proofs.splitting.read_joined.Goals as goal

pub bytes-init : goal.bytes-init
bytes-init g c =
    let none : c.new-kept.result.items ≡ [] = search rules in
    record {
      few = rw none (omega arith);
      mark = omega arith;
      so_far = λ xs e. joins-start xs _ _ e none;
    }

pub returns-in-Ok-eq0-clause-rules : goal.returns-in-Ok-eq0-clause-rules
returns-in-Ok-eq0-clause-rules g c xs e =
    let bytes = rw c.in-Ok-eq0.field-0-test at c.in-Ok-eq0.ensures.bytes in
    (joins-end xs _ _ c.bytes.kept.items _ c.bytes.place (c.bytes.invariant.so_far xs e) bytes.0 (bytes.1 refl (omega arith)) c.without_mark.ensures).0

pub returns-in-Ok-eq0-clause-trace : goal.returns-in-Ok-eq0-clause-trace
returns-in-Ok-eq0-clause-trace g c xs e short =
    let bytes = rw c.in-Ok-eq0.field-0-test at c.in-Ok-eq0.ensures.bytes in
    (joins-end xs _ _ c.bytes.kept.items _ c.bytes.place (c.bytes.invariant.so_far xs e) bytes.0 (bytes.1 refl (omega arith)) c.without_mark.ensures).1

pub returns-in-Ok-eq0-clause-past : goal.returns-in-Ok-eq0-clause-past
returns-in-Ok-eq0-clause-past g c xs e few =
    let bytes = rw c.in-Ok-eq0.field-0-test at c.in-Ok-eq0.ensures.bytes in
    past-now (split_joined xs) _ (joins-end xs _ _ c.bytes.kept.items _ c.bytes.place (c.bytes.invariant.so_far xs e) bytes.0 (bytes.1 refl (omega arith)) c.without_mark.ensures).1

pub returns-then-splits-clause-rules : goal.returns-then-splits-clause-rules
returns-then-splits-clause-rules g c xs e =
    let byte : take c.in-Ok.field-0 c.read.new.buf ≡ slice_index_or c.read.new.buf 0 0 ∷ [] = one-byte c.in-Ok.field-0 c.read.new.buf (search rules) (search rules) c.in-Ok.field-0-test.1 in
    let took = rw byte at c.in-Ok.ensures.bytes.0 in
    (joins-split xs _ _ c.bytes.kept.items _ c.bytes.place (slice_index_or c.read.new.buf 0 0) (c.bytes.invariant.so_far xs e) (sym c.splits.ensures ∙ c.if-splits.true) took c.without_mark-then-splits.ensures).0

pub returns-then-splits-clause-trace : goal.returns-then-splits-clause-trace
returns-then-splits-clause-trace g c xs e short =
    let byte : take c.in-Ok.field-0 c.read.new.buf ≡ slice_index_or c.read.new.buf 0 0 ∷ [] = one-byte c.in-Ok.field-0 c.read.new.buf (search rules) (search rules) c.in-Ok.field-0-test.1 in
    let took = rw byte at c.in-Ok.ensures.bytes.0 in
    (joins-split xs _ _ c.bytes.kept.items _ c.bytes.place (slice_index_or c.read.new.buf 0 0) (c.bytes.invariant.so_far xs e) (sym c.splits.ensures ∙ c.if-splits.true) took c.without_mark-then-splits.ensures).1

pub returns-then-splits-clause-past : goal.returns-then-splits-clause-past
returns-then-splits-clause-past g c xs e few =
    let byte : take c.in-Ok.field-0 c.read.new.buf ≡ slice_index_or c.read.new.buf 0 0 ∷ [] = one-byte c.in-Ok.field-0 c.read.new.buf (search rules) (search rules) c.in-Ok.field-0-test.1 in
    let took = rw byte at c.in-Ok.ensures.bytes.0 in
    past-now (split_joined xs) _
    (joins-split xs _ _ c.bytes.kept.items _ c.bytes.place (slice_index_or c.read.new.buf 0 0) (c.bytes.invariant.so_far xs e) (sym c.splits.ensures ∙ c.if-splits.true) took c.without_mark-then-splits.ensures).1

pub bytes-preserved : goal.bytes-preserved
bytes-preserved g c =
    let byte : take c.in-Ok.field-0 c.read.new.buf ≡ slice_index_or c.read.new.buf 0 0 ∷ [] = one-byte c.in-Ok.field-0 c.read.new.buf (search rules) (search rules) c.in-Ok.field-0-test.1 in
    let took = rw byte at c.in-Ok.ensures.bytes.0 in
    let more : c.push.new.self.items ≡ c.bytes.kept.items ++ slice_index_or c.read.new.buf 0 0 ∷ [] = search rules in
    let size : length c.push.new.self.items ≡ length c.bytes.kept.items + 1 = ap length more ∙ length-append c.bytes.kept.items (slice_index_or c.read.new.buf 0 0 ∷ []) in
    let goes_on = sym c.splits.ensures ∙ c.if-splits.false in
    record {
      few = omega (arith, size, c.len.ensures, c.bytes-test.true);
      mark = rw c.after-place.ensures (mark-after c.bytes.place (slice_index_or c.read.new.buf 0 0) c.bytes.kept.items c.push.new.self.items c.bytes.invariant.mark more);
      so_far = λ xs e. rw c.after-place.ensures (joins-more xs _ _ c.bytes.kept.items c.push.new.self.items c.bytes.place (slice_index_or c.read.new.buf 0 0) (c.bytes.invariant.so_far xs e)
          (splits-not c.bytes.place (slice_index_or c.read.new.buf 0 0) goes_on) took more);
    }

pub returns-in-Ok-read_on-clause-rules : goal.returns-in-Ok-read_on-clause-rules
returns-in-Ok-read_on-clause-rules g c xs e =
    (joins-full xs _ c.bytes.kept.items c.bytes.place (c.bytes.invariant.so_far xs e) (omega (arith, c.len.ensures, c.bytes-test.false))).0

pub returns-in-Ok-read_on-clause-past : goal.returns-in-Ok-read_on-clause-past
returns-in-Ok-read_on-clause-past g c xs e few =
    joins-past xs _ _ c.bytes.kept.items c.bytes.place (c.bytes.invariant.so_far xs e) c.in-Ok-read_on.ensures.past few
