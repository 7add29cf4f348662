-- Answers of Records::remove: with the record its keys leave (`records`).
use Rattle.std.proofs.Common.{◌∙◌, List, ap, filter, map, subst, sym}
use Rattle.pfs_store_contract.specs.Worlds.{holds_number}
use Rattle.pfs_store_records.specs.ApartKeys.{whole_record}
use Rattle.pfs_store_records.specs.Records.{IsRising, Placed, leaves_number, states_of}
use Rattle.pfs_store_records.proofs.Joining.{filter-joined, held-removed-aside, holds-joined, numbers-joined}
use Rattle.pfs_store_records.proofs.RecordLaws.{states-filter}
use Rattle.pfs_store_records.proofs.records.Records.remove.Goals as goal

pub remove-requires : goal.remove-requires
remove-requires c =
    sym (holds-joined c.args.number c.self.inside.aside c.self.inside.packed) ∙ ap (λ (ps : List Placed). holds_number (states_of ps) c.args.number) c.self.view_is ∙ c.requires

pub invariant_of-self : goal.invariant_of-self
invariant_of-self c =
    rw c.remove.ensures.records (held-removed-aside c.args.number c.self.inside.aside c.remove-2.new.self c.self.inside.packed c.remove-2.ensures c.self.invariant)

pub returns-clause-records : goal.returns-clause-records
returns-clause-records c =
    ap (map (whole_record c.remove-2.new.self)) c.remove.ensures.records ∙ filter-joined c.args.number c.self.inside.aside c.remove-2.new.self c.self.inside.packed c.remove-2.ensures
    ∙ ap (filter (leaves_number c.args.number)) c.self.view_is

pub returns-clause-states : goal.returns-clause-states
returns-clause-states c = ap states_of (returns-clause-records c) ∙ states-filter c.args.number c.args.self.now

pub returns-clause-rising : goal.returns-clause-rising
returns-clause-rising c = subst IsRising (sym (numbers-joined c.remove-2.new.self c.remove.new.self)) c.remove.ensures.rising
