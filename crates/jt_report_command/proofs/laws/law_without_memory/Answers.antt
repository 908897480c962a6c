use Rattle.jt_terminal_steps.specs.Running.{IsStarted}
use Rattle.jt_terminal_rule.specs.PlainSettings.{settings_of}
use Rattle.jt_report_command.proofs.Runs.{runs_none}
use Rattle.jt_report_command.proofs.laws.law_without_memory.Goals as goal

pub returns : goal.returns
returns c phone plate terminal tries left written scene = runs_none (IsStarted (settings_of phone plate terminal) scene.held) tries left scene written
