use Rattle.jt_report_command.proofs.Answered.{all_answered}
use Rattle.jt_report_command.proofs.laws.law_of_answers.Goals as goal

pub returns : goal.returns
returns c tries outcome old now least has fine dial vault reports = all_answered old now has fine dial vault tries outcome least reports
