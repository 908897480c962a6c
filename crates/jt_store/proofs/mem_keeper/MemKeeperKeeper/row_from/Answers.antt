use Rattle.std.proofs.Common.{sym, subst, Option, List, ◌≤◌, ◌<◌, ◌^◌}
use Rattle.std.specs.Prelude.{IfSome}
use Rattle.jt_value.specs.Sameness.{key_of}
use Rattle.jt_store.specs.declared.row.Row.{Row}
use Rattle.jt_store.specs.Tables.{AreRows}
use Rattle.jt_store.proofs.Rising.{found_low}
use Rattle.jt_store.proofs.mem_keeper.MemKeeperKeeper.row_from.Goals as goal

pub returns-clause-within : goal.returns-clause-within
returns-clause-within c =
    let are = subst (λ (rows : List Row). AreRows c.self.inside.limit rows) (sym c.rows_of.ensures) (c.self.invariant.1 (key_of c.args.phone.now)) in
    let found = found_low c.self.inside.limit c.args.number c.rows_of.result.now c.self.invariant.0 are _ c.find_from.ensures in
    subst (λ (o : Option Row). IfSome o (λ row. (c.args.number ≤ row.number) × (row.number < 2 ^ 47))) (sym c.in_ok-found.ensures) found
