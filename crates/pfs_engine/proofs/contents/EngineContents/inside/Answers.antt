-- Answers of EngineContents::inside: where no rule translates, a packet is inside as it was seen.
use Rattle.std.proofs.Common.{◌∙◌, ap, sym}
use Rattle.pfs_conf_values.specs.Configs.{translates}
use Rattle.pfs_engine.specs.Contents.{ContentsView}
use Rattle.pfs_engine.proofs.Numbered.{plain-inside}
use Rattle.pfs_engine.proofs.contents.EngineContents.inside.Goals as goal

pub returns-then-not-translates : goal.returns-then-not-translates
returns-then-not-translates g c =
    let here = ap (λ (v : ContentsView _). translates v.config) c.self.view_is in
    sym (plain-inside c.args.self.now.config c.args.self.now.held.world c.args.packet.now c.requires.plain (sym here ∙ sym c.if-not-translates.ensures))
