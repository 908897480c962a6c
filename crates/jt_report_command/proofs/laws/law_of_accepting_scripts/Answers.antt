use Rattle.jt_report_command.proofs.Scripted.{answers_in_time, answers_soon}
use Rattle.jt_report_command.proofs.Started.{started_down}
use Rattle.jt_report_command.proofs.laws.law_of_accepting_scripts.Goals as goal

pub returns-clause-in_time : goal.returns-clause-in_time
returns-clause-in_time c terminal octets time down has is = answers_in_time terminal octets time down has c.law_frames.ensures.frames c.law_front.ensures.unplaced is

pub returns-clause-soon : goal.returns-clause-soon
returns-clause-soon c terminal octets time down has is = answers_soon terminal octets time down has c.law_frames.ensures.frames c.law_front.ensures.unplaced is

pub returns-clause-started : goal.returns-clause-started
returns-clause-started c settings held started fixes is = started_down settings held started fixes is
