-- Answer of PlainStore's has_closed: a state of the number is there.
use Rattle.std.proofs.Common.{◌∙◌, ap}
use Rattle.pfs_store_contract.specs.Plain.{Plain}
use Rattle.pfs_store_contract.specs.Worlds.{holds_number}
use Rattle.pfs_store_plain.proofs.HeldLaws.{held-found}
use Rattle.pfs_store_plain.proofs.plain.PlainStoreStore.has_closed.Goals as goal

pub has_closed-requires : goal.has_closed-requires
has_closed-requires c = record {
  held = held-found c.args.found.number.0 c.deref.result.now
      (ap (λ xs. holds_number xs c.args.found.number.0) c.deref.ensures.value ∙ ap (λ (p : Plain). holds_number p.world.states c.args.found.number.0) c.self.view_is ∙ c.requires.held);
}
