-- Answers of on_holds: the word of a short name says it whole.
use Rattle.pfs_eval.specs.Matching.{filter_of}
use Rattle.pfs_eval.proofs.Glancing.{is-other, is-this}
use Rattle.pfs_eval.proofs.comparing.on_holds.Goals as goal

pub returns-in-This : goal.returns-in-This
returns-in-This c =
    is-this (filter_of c.args.what.now).on c.args.glance.now.on c.args.glance.now.word c.args.name c.args.packet.now.ifname c.in-This.is c.requires.kept c.requires.name

pub returns-in-Other : goal.returns-in-Other
returns-in-Other c =
    is-other (filter_of c.args.what.now).on c.args.glance.now.on c.args.glance.now.word c.args.name c.args.packet.now.ifname c.in-Other.is c.requires.kept c.requires.name
