-- Answers of Records::renew_at: the keys stay where a state is renewed.
use Rattle.std.proofs.Common.{◌∙◌, List, ap, map, sym}
use Rattle.std.specs.List.{list_any}
use Rattle.pfs_store_records.specs.ApartKeys.{whole_record}
use Rattle.pfs_store_records.specs.Records.{Placed, renewed_at, stands_at, states_of}
use Rattle.pfs_store_records.proofs.Joining.{held-numbers, numbers-renewed-at, renew-joined, stands-joined}
use Rattle.pfs_store_records.proofs.records.Records.renew_at.Goals as goal

pub renew_at-requires : goal.renew_at-requires
renew_at-requires c = record {
  held = sym (stands-joined c.args.place c.self.inside.aside c.self.inside.packed) ∙ ap (λ (ps : List Placed). list_any (stands_at c.args.place) ps) c.self.view_is ∙ c.requires.held;
}

pub invariant_of-self : goal.invariant_of-self
invariant_of-self c =
    rw c.renew_at.ensures.records
    (λ n h. held-numbers n (states_of (map (renewed_at c.args.place c.args.phase c.args.last) c.self.inside.packed)) (states_of c.self.inside.packed) (numbers-renewed-at c.args.place c.args.phase c.args.last c.self.inside.packed)
    ∙ c.self.invariant n h)

pub returns : goal.returns
returns c = record {
  records = ap (map (whole_record c.self.inside.aside)) c.renew_at.ensures.records ∙ renew-joined c.args.place c.args.phase c.args.last c.self.inside.aside c.self.inside.packed
      ∙ ap (map (renewed_at c.args.place c.args.phase c.args.last)) c.self.view_is;
}
