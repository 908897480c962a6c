use Rattle.std.proofs.Common.{subst, sym, ◌++◌, ◌∷◌, [], ◌∙◌, ◌<◌, ◌+◌, ◌%◌, ap, arith, List}
use Rattle.jt_store.specs.declared.unit.Unit.{Unit as OneUnit}
use Rattle.jt_store.specs.Memory.{IsStock, Stock}
use Rattle.jt_store.specs.Vaults.{MayCommit}
use Rattle.jt_store.proofs.Stocks.{stock_formed}
use Rattle.jt_store.proofs.mem_vault.MemVaultVault.form.Goals as goal

pub invariant_of-self-2 : goal.invariant_of-self-2
invariant_of-self-2 c =
    let mark : c.self.inside.mark < 65536 = omega arith in
    let may = subst (λ (s : Stock). MayCommit s.held c.args.unit.now) (sym c.self.view_is) c.requires.may in
    let copied = c.in_ok-push.ensures.ok ∙ ap (λ (u : OneUnit). c.self.inside.units ++ u ∷ []) c.in_ok-copy.ensures.cases in
    let formed = stock_formed _ c.self.inside.formed c.self.inside.settled c.self.inside.limit c.args.unit.now c.self.invariant mark c.requires.unit may in
    subst (λ (units : List OneUnit). IsStock (record { recorded = c.self.inside.fixes; units = units; accepted = c.self.inside.accepted; mark = c.self.inside.mark; next = (c.args.unit.now.serial + 1) % 65536; code = c.self.inside.code }) (c.self.inside.formed + c.args.unit.now.count) c.self.inside.settled c.self.inside.limit) (sym copied) formed
