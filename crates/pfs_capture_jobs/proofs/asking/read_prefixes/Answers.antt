-- Answers of read_prefixes: each text is read, or one can't be.
use Rattle.std.proofs.Common.{rules, ◌∙◌, refl, sym}
use Rattle.pfs_addr.specs.Texts.{prefix_of}
use Rattle.pfs_capture_jobs.proofs.ReadingLaws.{read-behind, read-end, read-stop}
use Rattle.pfs_capture_jobs.proofs.asking.read_prefixes.Goals as goal

pub returns-in-None-clause-err : goal.returns-in-None-clause-err
returns-in-None-clause-err c = (
  refl,
  read-behind prefix_of (λ t. t.now) c.args.texts.now ∙ (c.loop-text.invariant ∙ read-stop prefix_of (λ t. t.now) c.args.texts.now c.loop-text.text-index c.as_bytes.result.now _ c.loop-text.prefixes.items
      c.as_bytes.ensures.value (sym c.in-None.ensures.value) (search rules)),
)

pub returns-clause-ok : goal.returns-clause-ok
returns-clause-ok c =
    read-behind prefix_of (λ t. t.now) c.args.texts.now ∙ (c.loop-text.invariant ∙ read-end (λ t. prefix_of t.now) c.args.texts.now c.loop-text.text-index c.loop-text.prefixes.items (search rules))
