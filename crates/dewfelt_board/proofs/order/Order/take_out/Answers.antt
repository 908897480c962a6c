use Rattle.std.proofs.Common.{rules, ◌≡◌, not, subst, sym}
use Rattle.std.specs.Str.{bytes_eq}
use Rattle.std.proofs.lemmas.Fn.{filter_same}
use Rattle.dewfelt_board.specs.declared.change.Change.{Change}
use Rattle.dewfelt_board.specs.Order.{without}
use Rattle.dewfelt_board.proofs.Orders.{Once, once_without, rising_filter}
use Rattle.dewfelt_board.proofs.order.Order.take_out.Goals as goal

pub returns-clause-changes : goal.returns-clause-changes
returns-clause-changes c = filter_same _ _ _ (λ x b f' k. search rules) _ _ c.retain.ensures.filtered

pub invariant_of-self : goal.invariant_of-self
invariant_of-self c =
    let left : c.retain.new.self.items ≡ without c.args.digits.now c.args.self.now.changes.items
    = filter_same _ _ _ (λ x b f' k. search rules) _ _ c.retain.ensures.filtered in
    record {
      rising = rw left (rising_filter (λ (x : Change). not (bytes_eq x.digits c.args.digits.now)) 0 c.args.self.now.last c.args.self.now.changes.items c.args.self.now.rising);
      once = subst Once (sym left) (once_without c.args.digits.now c.args.self.now.changes.items c.args.self.now.once);
    }
