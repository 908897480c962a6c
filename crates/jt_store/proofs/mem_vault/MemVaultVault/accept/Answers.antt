use Rattle.std.proofs.Common.{sym, ◌≤◌, ◌<◌, ◌+◌, arith}
use Rattle.jt_store.proofs.Stocks.{settled_fits, stock_accepted}
use Rattle.jt_store.proofs.mem_vault.MemVaultVault.accept.Goals as goal

pub overflow_add-self : goal.overflow_add-self
overflow_add-self c =
    let fits : c.self.inside.settled + c.in-Some.unit.now.count ≤ c.self.inside.formed = settled_fits _ c.self.inside.formed c.self.inside.settled c.self.inside.limit c.in-Some.unit.now c.self.invariant (sym c.in-Some.ensures.item) in
    omega arith

pub invariant_of-self-2 : goal.invariant_of-self-2
invariant_of-self-2 c =
    let mark : c.self.inside.mark < 65536 = omega arith in
    let serial : c.in-Some.unit.now.serial < 65536 = omega arith in
    stock_accepted _ c.self.inside.formed c.self.inside.settled c.self.inside.limit c.in-Some.unit.now c.self.invariant mark serial (sym c.in-Some.ensures.item)
