use Rattle.jt_obeying.proofs.Obeyed.{reached_obeyed, each_issued, none_refused, each_sent_in_turn, one_under_way}
use Rattle.jt_obeying.proofs.laws.law_obeyed.Goals as goal

pub returns : goal.returns
returns c = record { obeyed = reached_obeyed; issued = each_issued; none_refused = none_refused; in_turn = each_sent_in_turn; under_way = one_under_way }
