use Rattle.jt_terminal_steps.proofs.window.+fill.Given as goal

abbrev pub decreases-fill : goal.decreases-fill
decreases-fill g l = l.room
