use Rattle.jt_order_command.proofs.Heard.{early, hears}
use Rattle.jt_order_command.proofs.hearing.OrderPlayerHearer.hear.Goals as goal

pub returns-clause-hears : goal.returns-clause-hears
returns-clause-hears c =
    hears c.args.self.now _ c.args._number c.args.line.now _ _ c.requires.within c.hear_line.result c.hear_line.ensures.does

pub returns-clause-early : goal.returns-clause-early
returns-clause-early c = early c.hear_line.result c.args.self.now _ _ _ _ c.hear_line.ensures.does
