use Rattle.jt_order_terminal_steps.proofs.Calling.{met_in_part, met_whole}
use Rattle.jt_order_terminal_steps.proofs.calls.meet_event.Goals as goal

pub returns-in-Ok-clause-ok : goal.returns-in-Ok-clause-ok
returns-in-Ok-clause-ok g c w told =
    let e = c.event.ensures in
    met_whole g.V.Vault.holds g.G.OrderLog.holds w c.args.terminal.now c.event.new.self told c.args.event c.requires.no_message e.settings e.sound e.log e.opened e.same c.law_order_terminal.ensures.event
    c.in-Ok.actions.frames c.in-Ok.ensures.state c.in-Ok.ensures.vault c.in-Ok.ensures.frames

pub returns-in-Err-clause-err : goal.returns-in-Err-clause-err
returns-in-Err-clause-err g c w told =
    let e = c.event.ensures in
    met_in_part g.V.Vault.holds g.G.OrderLog.holds w c.args.terminal.now c.event.new.self told c.args.event c.requires.no_message e.settings e.sound e.log e.opened e.same c.law_order_terminal.ensures.failed_event
    c.in-Err.ensures.cut c.in-Err.ensures.down
