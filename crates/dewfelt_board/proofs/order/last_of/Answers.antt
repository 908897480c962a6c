use Rattle.std.proofs.Common.{sym}
use Rattle.dewfelt_board.proofs.Orders.{last_found, last_none}
use Rattle.dewfelt_board.proofs.order.last_of.Goals as goal

pub returns-in-Some : goal.returns-in-Some
returns-in-Some c = sym (last_found c.args.before c.args.changes.now c.in-Some.change.now (sym c.in-Some.ensures.value))

pub returns-in-None : goal.returns-in-None
returns-in-None c = sym (last_none c.args.before c.args.changes.now (sym c.in-None.ensures.value))
