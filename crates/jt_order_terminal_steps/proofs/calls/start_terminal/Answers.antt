use Rattle.jt_order_terminal_steps.proofs.Calling.{started_again, started_first}
use Rattle.jt_order_terminal_steps.proofs.calls.start_terminal.Goals as goal

pub returns-in-Ok-clause-again : goal.returns-in-Ok-clause-again
returns-in-Ok-clause-again g c w old settings stands vault kept good own is sound =
    let ok = c.in-Ok.ensures.ok in
    started_again g.V.Vault.holds g.G.OrderLog.holds c.law_order_terminal.ensures.start w old settings c.args.terminal c.args.log c.in-Ok.started (ok.0, ok.1, ok.4) c.in-Ok.ensures.ledger stands vault kept good own is sound

pub returns-in-Ok-clause-first : goal.returns-in-Ok-clause-first
returns-in-Ok-clause-first g c setting settings vault kept is sound =
    let ok = c.in-Ok.ensures.ok in
    started_first g.V.Vault.holds g.G.OrderLog.holds c.law_order_terminal.ensures.first setting settings c.args.terminal c.args.log c.in-Ok.started (ok.0, ok.1, ok.4) c.in-Ok.ensures.ledger vault kept is sound
