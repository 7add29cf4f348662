-- Answer of whole_round: so many slices come back to where the round is.
use Rattle.std.proofs.Common.{◌∙◌, sym}
use Rattle.pfs_store_index.proofs.Turning.{round-ends}
use Rattle.pfs_store_records.proofs.Walking.{length-keys}
use Rattle.pfs_store_index.proofs.rounds.whole_round.Goals as goal

pub returns-clause-whole : goal.returns-clause-whole
returns-clause-whole c = round-ends c.args.places.now.entries c.len-numbers.result c.saturating_sub.result c.args.share c.requires.share (c.len-numbers.ensures.len ∙ sym (length-keys c.args.places.now.entries)) c.saturating_sub.ensures
