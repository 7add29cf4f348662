-- Each skip by itself.
use Rattle.pfs_eval.specs.declared.comparing.Parameter.TheVariants as parameter
use Rattle.pfs_eval.proofs.skips.Skips.joined.Goals as goal

pub returns : goal.returns
returns c parameter.Interface = c.past.ensures
returns c parameter.Direction = c.past-2.ensures
returns c parameter.Family = c.past-3.ensures
returns c parameter.Protocol = c.past-4.ensures
returns c parameter.SourceHost = c.past-5.ensures
returns c parameter.DestinationHost = c.past-6.ensures
returns c parameter.SourcePort = c.past-7.ensures
returns c parameter.DestinationPort = c.past-8.ensures
returns c parameter.Flags = c.past-9.ensures
