use Rattle.jt_report_command.proofs.Passing.{none_known}
use Rattle.jt_report_command.proofs.options.first_option.Goals as goal

pub returns-clause-none : goal.returns-clause-none
returns-clause-none c = λ e. none_known _ (c.named.ensures.none c.in-None.is) (c.named-2.ensures.none c.in-None-named.is)
    (c.named-3.ensures.none c.in-None-named-2.is) (c.named-4.ensures.none c.in-None-named-3.is) (c.named-5.ensures.none c.in-None-named-4.is)
    (c.named-6.ensures.none c.in-None-named-5.is) (c.named-7.ensures.none e)
