use Rattle.std.proofs.Common.{Some, ap, sym, ◌∙◌, subst}
use Rattle.jt_order.specs.Memory.{LogStock}
use Rattle.jt_order_terminal.specs.Ledgers.{IsLedgerOf}
use Rattle.jt_store.specs.Memory.{Stock}
use Rattle.jt_terminal_steps.specs.Running.{IsSound, TerminalValue}
use Rattle.jt_order_play.proofs.Starting.{is_new}
use Rattle.jt_order_play.proofs.stage.new_order_terminal.Goals as goal

pub returns-in-Ok-clause-new : goal.returns-in-Ok-clause-new
returns-in-Ok-clause-new c =
    let ok = c.in-Ok.ensures.ok in
    is_new c.args.settings c.in_ok-terminal.terminal c.in-Ok.terminal c.in_ok-terminal.ensures.new ok.0 (ok.1 ∙ ap (λ (l : LogStock). Some l.performed) c.new-2.ensures)
    (subst (λ (l : LogStock). IsLedgerOf l.performed c.in-Ok.terminal.ledger) c.new-2.ensures c.in-Ok.ensures.ledger)

pub returns-in-Ok-clause-sound : goal.returns-in-Ok-clause-sound
returns-in-Ok-clause-sound c =
    subst (λ (t : TerminalValue Stock). IsSound (Some t.vault.held) t.state) (sym c.in-Ok.ensures.ok.0) c.in_ok-terminal.ensures.sound
