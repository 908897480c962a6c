use Rattle.jt_terminal_rule.proofs.Windows.{none_in}
use Rattle.jt_terminal_rule.proofs.window.Window.is_empty.Goals as goal

pub returns : goal.returns
returns g c = none_in c.self.inside.ring.items c.self.inside.behind c.args.self.now c.is_empty.result c.is_empty.ensures c.self.invariant.1 c.self.view_is
