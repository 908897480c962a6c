use Rattle.std.proofs.Common.{refl}
use Rattle.jt_report_command.specs.Example.{a_script, a_terminal, still_clock}
use Rattle.jt_report_command.proofs.Example.{holds_acceptances, is_soon}
use Rattle.jt_report_command.proofs.laws.law_of_one_script.Goals as goal

pub returns-clause-holds : goal.returns-clause-holds
returns-clause-holds c = holds_acceptances

pub returns-clause-answers : goal.returns-clause-answers
returns-clause-answers c = c.law_of_accepting_scripts.ensures.soon a_terminal a_script still_clock refl holds_acceptances is_soon
