use Rattle.jt_obeying.proofs.Performing.{as_the_terminal, editions_leave_the_same}
use Rattle.jt_obeying.proofs.laws.law_performing.Goals as goal

pub returns : goal.returns
returns c = record { terminal = as_the_terminal; editions = editions_leave_the_same }
