use Rattle.std.proofs.Common.{◌≡◌, ◌≤◌, ◌+◌, ◌-◌, length, take, None}
use Rattle.jt_terminal_steps.specs.Running.{IsSame, IsSound}
use Rattle.jt_terminal.specs.Feeding.{HasFed, IsSteadySoFar, scene}
use Rattle.jt_terminal.proofs.feeding.hear.Given as goal

abbrev pub invariant-loop-taken : goal.invariant-loop-taken
invariant-loop-taken g l = record {
  within : l.taken ≤ length l.octets;
  fed : HasFed (scene l.fn.stream.splitter l.fn.assembler l.fn.state (g.V.Vault.holds l.fn.vault) l.fn.out l.fn.told) (scene l.stream.splitter l.assembler l.state (g.V.Vault.holds l.vault) l.out l.told) (take l.taken l.octets) None;
  place : l.stream.splitter.place ≡ l.fn.stream.splitter.place + l.taken;
  sound : IsSound (g.V.Vault.holds l.vault) l.state;
  same : IsSame l.fn.state l.state;
  steady : IsSteadySoFar (g.V.Vault.faults l.fn.vault) (g.V.Vault.faults l.vault) (g.V.Vault.limit l.fn.vault) (g.V.Vault.limit l.vault) (g.V.Vault.may_fail l.fn.vault) (g.V.Vault.may_fail l.vault);
}

abbrev pub decreases-loop-taken : goal.decreases-loop-taken
decreases-loop-taken g l = length l.octets - l.taken
