use Rattle.jt_order_terminal_steps.proofs.Calling.{restarted, unstarted}
use Rattle.jt_order_terminal_steps.proofs.calls.restart_terminal.Goals as goal

pub returns-in-Ok-clause-ok : goal.returns-in-Ok-clause-ok
returns-in-Ok-clause-ok g c w told own =
    let e = c.restart.ensures in
    restarted g.V.Vault.holds g.G.OrderLog.holds c.law_order_terminal.ensures.start w c.args.settings c.args.terminal.now c.restart.new.self told e.holds c.requires own c.in-Ok.ensures.ok c.in-Ok.ensures.stream.0 e.ledger c.in-Ok.ensures.sound

pub returns-in-Err-clause-err : goal.returns-in-Err-clause-err
returns-in-Err-clause-err g c w told =
    let e = c.restart.ensures in
    unstarted g.V.Vault.holds g.G.OrderLog.holds w c.args.terminal.now c.restart.new.self told e.holds c.in-Err.ensures.err
