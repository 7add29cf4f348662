-- Answers of read_macs: each text is read, or one can't be.
use Rattle.std.proofs.Common.{rules, ◌∙◌, refl, sym}
use Rattle.pfs_capture_packets.specs.Ways.{mac_of}
use Rattle.pfs_capture_jobs.proofs.ReadingLaws.{read-behind, read-end, read-next, read-stop}
use Rattle.pfs_capture_jobs.proofs.asking.read_macs.Goals as goal

pub loop-text-preserved : goal.loop-text-preserved
loop-text-preserved c =
    c.loop-text.invariant ∙ read-next mac_of (λ t. t.now) c.args.texts.now c.loop-text.text-index c.as_bytes.result.now _ c.in-Some.mac c.loop-text.macs.items c.extend_from_slice.new.self.items c.as_bytes.ensures.value
    (sym c.in-Some.ensures) (search rules) (search rules)

pub returns-in-None-clause-err : goal.returns-in-None-clause-err
returns-in-None-clause-err c = (
  refl,
  read-behind mac_of (λ t. t.now) c.args.texts.now ∙ (c.loop-text.invariant ∙ read-stop mac_of (λ t. t.now) c.args.texts.now c.loop-text.text-index c.as_bytes.result.now _ c.loop-text.macs.items
      c.as_bytes.ensures.value (sym c.in-None.ensures) (search rules)),
)

pub returns-clause-ok : goal.returns-clause-ok
returns-clause-ok c =
    read-behind mac_of (λ t. t.now) c.args.texts.now ∙ (c.loop-text.invariant ∙ read-end (λ t. mac_of t.now) c.args.texts.now c.loop-text.text-index c.loop-text.macs.items (search rules))
