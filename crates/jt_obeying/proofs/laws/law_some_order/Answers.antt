use Rattle.jt_obeying.proofs.Happening.{some_order, some_sent_again, some_over, some_again, two_orders}
use Rattle.jt_obeying.proofs.laws.law_some_order.Goals as goal

pub returns : goal.returns
returns c = record { obeyed = some_order; two = two_orders; lost = some_sent_again; over_a_fault = some_over; again = some_again }
