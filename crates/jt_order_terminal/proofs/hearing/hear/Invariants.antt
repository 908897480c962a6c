use Rattle.std.proofs.Common.{◌≡◌, ◌≤◌, ◌+◌, ◌-◌, length, take, None}
use Rattle.jt_terminal_steps.specs.AfterError.{AreSameParams}
use Rattle.jt_terminal_steps.specs.Running.{IsSame}
use Rattle.jt_order_terminal.specs.Feeding.{HasFed, IsSteadySoFar, KeepsLedger, KeepsSound, scene}
use Rattle.jt_order_terminal.proofs.hearing.hear.Given as goal

abbrev pub invariant-loop-taken : goal.invariant-loop-taken
invariant-loop-taken g l = record {
  within : l.taken ≤ length l.octets;
  fed : HasFed l.fn.stream.splitter l.stream.splitter (scene l.fn.terminal.state l.fn.ledger (g.V.Vault.holds l.fn.terminal.vault) (g.G.OrderLog.holds l.fn.log) l.fn.said) (scene l.terminal.state l.ledger (g.V.Vault.holds l.terminal.vault) (g.G.OrderLog.holds l.log) l.said) (take l.taken l.octets) None;
  place : l.stream.splitter.place ≡ l.fn.stream.splitter.place + l.taken;
  keeps : KeepsLedger l.fn.ledger l.ledger (g.G.OrderLog.holds l.fn.log) (g.G.OrderLog.holds l.log);
  sound : KeepsSound (g.V.Vault.holds l.fn.terminal.vault) l.fn.terminal.state (g.V.Vault.holds l.terminal.vault) l.terminal.state;
  same : IsSame l.fn.terminal.state l.terminal.state;
  params : AreSameParams l.fn.terminal.state l.terminal.state;
  limit : g.V.Vault.limit l.terminal.vault ≡ g.V.Vault.limit l.fn.terminal.vault;
  vault_steady : IsSteadySoFar (g.V.Vault.faults l.fn.terminal.vault) (g.V.Vault.faults l.terminal.vault) (g.V.Vault.may_fail l.fn.terminal.vault) (g.V.Vault.may_fail l.terminal.vault);
  log_steady : IsSteadySoFar (g.G.OrderLog.faults l.fn.log) (g.G.OrderLog.faults l.log) (g.G.OrderLog.may_fail l.fn.log) (g.G.OrderLog.may_fail l.log);
}

abbrev pub decreases-loop-taken : goal.decreases-loop-taken
decreases-loop-taken g l = length l.octets - l.taken
