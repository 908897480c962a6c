use Rattle.std.proofs.Common.{◌≡◌, ◌++◌, ◌∷◌, [], arith, ap, ◌∙◌, subst, sym}
use Rattle.std.proofs.lemmas.Grind.{common_steps}
use Rattle.dewfelt_board.specs.Order.{without}
use Rattle.dewfelt_board.specs.declared.change.Change.{Change}
use Rattle.dewfelt_board.proofs.Orders.{Once, once_renewed, rising_append}
use Rattle.dewfelt_board.proofs.order.Order.renew.Goals as goal

pub invariant_of-self-2 : goal.invariant_of-self-2
invariant_of-self-2 c =
    let told : Change = record { number = c.in_ok-number.number; digits = c.args.digits } in
    let longer : c.push.new.self.items ≡ c.take_out.new.self.changes.items ++ told ∷ [] = grind (arith, common_steps) in
    let renewed : c.push.new.self.items ≡ without c.args.digits c.args.self.now.changes.items ++ told ∷ [] = longer ∙ ap (λ l. l ++ told ∷ []) c.take_out.ensures.changes in
    record {
      rising = rw longer (rising_append 0 c.take_out.new.self.last told c.take_out.new.self.changes.items (omega arith) c.take_out.new.self.rising);
      once = subst Once (sym renewed) (once_renewed told c.args.self.now.changes.items c.args.self.now.once);
    }
