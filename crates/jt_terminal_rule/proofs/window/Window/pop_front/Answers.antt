use Rattle.std.proofs.Common.{◌∙◌}
use Rattle.jt_terminal_rule.proofs.Windows.{first_gone, still_full}
use Rattle.jt_terminal_rule.proofs.window.Window.pop_front.Goals as goal

pub invariant_of-self : goal.invariant_of-self
invariant_of-self g c =
    let capacity = rw c.pop_front-first.ensures.items at c.move_up.ensures.capacity in
    let more = rw c.pop_front-first.ensures.items at c.move_up.ensures.more in
    let list = rw c.pop_front-first.ensures.items at c.move_up.ensures.list in
    (capacity ∙ c.self.invariant.0, still_full c.self.inside.ring.items c.self.inside.behind c.move_up.new.ring.items c.move_up.new.behind c.self.inside.ring.capacity c.self.invariant.0 c.self.invariant.1 more list)

pub returns : goal.returns
returns g c =
    let list = rw c.pop_front-first.ensures.items at c.move_up.ensures.list in
    first_gone c.self.inside.ring.items c.self.inside.behind c.args.self.now c.move_up.new.ring.items c.move_up.new.behind c.pop_front-first.result c.pop_front-first.ensures.value c.self.invariant.1 c.self.view_is list
