use Rattle.jt_terminal_steps.specs.Running.{IsStarted}
use Rattle.jt_report_command.proofs.Completing.{runs_well}
use Rattle.jt_report_command.proofs.laws.law_of_answered_runs.Goals as goal

pub returns : goal.returns
returns c settings tries left left_now written written_now old now ended least has fine dial vault runs read write =
    runs_well (IsStarted settings old.held) tries left left_now old now written written_now ended least has fine dial vault read write runs
