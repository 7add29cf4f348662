-- Answers of groups: with a dot there is no address, and else the one that std reads, or none.
use Rattle.std.proofs.Common.{Some, ap, sym, ◌∙◌}
use Rattle.pfs_addr.proofs.GroupLaws.{dots_none, groups_some, groups_none}
use Rattle.pfs_addr_values.specs.declared.addresses.Addr.TheVariants.{V6}
use Rattle.pfs_addr.proofs.addresses.groups.Goals as goal

pub returns-then-contains : goal.returns-then-contains
returns-then-contains c = dots_none c.args.text.now (sym c.if-contains.true ∙ c.contains.ensures.value)

pub returns-in-Ok : goal.returns-in-Ok
returns-in-Ok c =
    ap (λ bytes. Some (V6 bytes)) c.octets.ensures
    ∙ groups_some c.args.text.now c.in-Ok.addr (sym c.if-contains.false ∙ c.contains.ensures.value) c.in-Ok.ensures

pub returns-in-Err : goal.returns-in-Err
returns-in-Err c = groups_none c.args.text.now c.in-Err.ensures
