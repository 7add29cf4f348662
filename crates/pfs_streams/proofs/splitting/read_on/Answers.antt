-- Answers of read_on: one chunk more; the split line in a chunk, the end, and where turns run out (`past`).
use Rattle.std.proofs.Common.{arith, refl, sym, ◌∙◌, ◌<◌, length, length-take, take}
use Rattle.pfs_streams.proofs.Joining.{on-start, on-more, on-split, on-end, on-count}
use Rattle.pfs_streams.proofs.splitting.read_on.Goals as goal

pub chunks-init : goal.chunks-init
chunks-init g c = record { so_far = λ xs e. on-start c.args.place xs _ e }

pub returns-in-Ok-eq0 : goal.returns-in-Ok-eq0
returns-in-Ok-eq0 g c = record {
  past = λ xs e few.
      let bytes = rw c.in-Ok-eq0.field-0-test at c.in-Ok-eq0.ensures.bytes in
      on-end c.args.place xs _ _ c.chunks.place c.chunks.counter (c.chunks.invariant.so_far xs e) bytes.0 (bytes.1 refl (omega arith));
}

pub returns-in-None : goal.returns-in-None
returns-in-None g c = record {
  past = λ xs e few.
      on-split c.args.place xs _ _ c.chunks.place c.chunks.counter _ (c.chunks.invariant.so_far xs e) c.in-Ok.ensures.bytes.0 (sym c.in-None.is ∙ c.over.ensures);
}

pub chunks-preserved : goal.chunks-preserved
chunks-preserved g c =
    let some : 0 < length (take c.in-Ok.n c.read.new.buf) = simp length-take (omega (arith, c.in-Ok.n-test.1, c.in-Ok.ensures.bound)) in
    record {
      so_far = λ xs e.
          on-more c.args.place xs _ _ c.chunks.place c.in-Some.after c.chunks.counter _ (c.chunks.invariant.so_far xs e) c.in-Ok.ensures.bytes.0 some (sym c.in-Some.is ∙ c.over.ensures);
    }

pub returns : goal.returns
returns g c = record {
  past = λ xs e few. on-count c.args.place xs _ c.chunks.place c.chunks.counter (c.chunks.invariant.so_far xs e) (omega (arith, c.chunks-test.false)) few;
}
