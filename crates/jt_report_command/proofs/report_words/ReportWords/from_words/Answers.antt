use Rattle.std.proofs.Common.{sym, subst}
use Rattle.jt_report_command.specs.ReportWords.{TellsWords}
use Rattle.jt_report_command.proofs.report_words.ReportWords.from_words.Goals as goal

pub returns-in-Some-clause-that_one : goal.returns-in-Some-clause-that_one
returns-in-Some-clause-that_one c = λ told words.
    c.tell.ensures.that_one told (subst (λ w. TellsWords w told) (sym (c.in-Some.ensures.each words.written words.words_are)) words.tells)

pub returns-in-None-clause-that_one : goal.returns-in-None-clause-that_one
returns-in-None-clause-that_one c = λ told words. absurd (c.in-None.ensures.each words.written words.words_are)
