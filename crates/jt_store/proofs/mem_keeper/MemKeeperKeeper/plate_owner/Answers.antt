use Rattle.std.proofs.Common.{ap, sym, subst, Some, Option}
use Rattle.jt_value.specs.declared.phone.Phone.{Phone}
use Rattle.jt_store.specs.Memory.{KeeperState, tables_of, under}
use Rattle.jt_store.specs.Tables.{IsOwner, plates}
use Rattle.jt_store.proofs.Registering.{owner_is}
use Rattle.jt_store.proofs.mem_keeper.MemKeeperKeeper.plate_owner.Goals as goal

pub returns-clause-answer : goal.returns-clause-answer
returns-clause-answer c =
    let holder = owner_is plates (under c.self.inside.registry) c.args.plate.now c.plate_holder.result c.plate_holder.ensures.holder in (
      ap (λ (k : KeeperState). Some (tables_of k)) c.self.view_is,
      subst (λ (k : KeeperState). IsOwner plates (under k.registered) c.args.plate.now c.owner.result) c.self.view_is
          (subst (λ (o : Option Phone). IsOwner plates (under c.self.inside.registry) c.args.plate.now o) (sym c.owner.ensures) holder),
    )
