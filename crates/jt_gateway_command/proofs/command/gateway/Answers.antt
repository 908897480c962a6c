use Rattle.jt_gateway_command.proofs.Runs.{runs_nothing}
use Rattle.jt_gateway_command.proofs.command.gateway.Goals as goal

pub returns-in_default-clause-runs : goal.returns-in_default-clause-runs
returns-in_default-clause-runs g c = runs_nothing _ _
