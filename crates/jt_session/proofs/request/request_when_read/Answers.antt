use Rattle.std.proofs.Common.{arith}
use Rattle.jt_session.proofs.Asking.{asked_read}
use Rattle.jt_session.proofs.request.request_when_read.Goals as goal

pub returns-in_ok-request-in-Ok : goal.returns-in_ok-request-in-Ok
returns-in_ok-request-in-Ok c = asked_read c.law_of_bodies.ensures.one_to_one c.args.header.now c.args.body.now c.in-Ok.message c.in_ok-request-in-Ok.request (λ i. omega (arith, c.type_inv.body i)) c.in-Ok.ensures.answer c.in_ok-request-in-Ok.ensures
