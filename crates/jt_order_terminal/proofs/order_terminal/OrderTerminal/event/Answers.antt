use Rattle.jt_order_terminal.proofs.order_terminal.OrderTerminal.event.Goals as goal
use Rattle.jt_order_terminal.proofs.order_terminal.OrderTerminal.event.Goals.{in-Ok, in-Err}

pub returns-clause-late : goal.returns-clause-late
returns-clause-late g c = λ now since at e. rw (← c.self.view_is)
    (elim c.match-event.branch [
      | in-Ok w ↦ rw w.result-is (λ end. w.in-Ok.ensures.late now since at e end)
      | in-Err w ↦ rw w.result-is tt
    ])
