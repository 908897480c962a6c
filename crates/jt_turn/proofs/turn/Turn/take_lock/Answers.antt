use Rattle.std.proofs.Common.{sym, ◌∙◌, arith, ◌==◌}
use prog.Atomic.{either}
use Rattle.jt_turn.proofs.Allowed.{allows_aside}
use Rattle.jt_turn.proofs.turn.Turn.take_lock.Goals as goal

pub compare_exchange-found-requires : goal.compare_exchange-found-requires
compare_exchange-found-requires g c = (c.requires.table ∙ sym c.self.view_is, omega (arith, c.self.invariant.0), rw c.self.invariant.1 (allows_aside g.D.Desk.history g.D.Desk.faults g.D.Desk.opening c.args.seat.now.id 6 c.args.seat.now.me (λ n. either (n == 0) c.args.taken n)))
