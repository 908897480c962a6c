use Rattle.std.proofs.Common.{ap, sym, subst, Some, Option}
use Rattle.jt_value.specs.declared.phone.Phone.{Phone}
use Rattle.jt_store.specs.Memory.{KeeperState, tables_of, under}
use Rattle.jt_store.specs.Tables.{IsOwner, terminals}
use Rattle.jt_store.proofs.Registering.{owner_is}
use Rattle.jt_store.proofs.mem_keeper.MemKeeperKeeper.terminal_owner.Goals as goal

pub returns-clause-answer : goal.returns-clause-answer
returns-clause-answer c =
    let holder = owner_is terminals (under c.self.inside.registry) c.args.terminal.now c.terminal_holder.result c.terminal_holder.ensures.holder in (
      ap (λ (k : KeeperState). Some (tables_of k)) c.self.view_is,
      subst (λ (k : KeeperState). IsOwner terminals (under k.registered) c.args.terminal.now c.owner.result) c.self.view_is
          (subst (λ (o : Option Phone). IsOwner terminals (under c.self.inside.registry) c.args.terminal.now o) (sym c.owner.ensures) holder),
    )
