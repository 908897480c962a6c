use Rattle.std.proofs.Common.{arith}
use Rattle.jt_terminal.proofs.Judging.{read_is}
use Rattle.jt_terminal.proofs.feeding.hear_body.Goals as goal

pub returns-in-Ok-clause-ok : goal.returns-in-Ok-clause-ok
returns-in-Ok-clause-ok g c = rw (read_is c.law_of_bodies.ensures.one_to_one c.args.header.now c.args.body.now c.in-Ok.message (λ i. omega (arith, c.type_inv.body i)) c.in-Ok.ensures.answer) c.hear_message.ensures.ok

pub returns-in-Ok-clause-err : goal.returns-in-Ok-clause-err
returns-in-Ok-clause-err g c = rw (read_is c.law_of_bodies.ensures.one_to_one c.args.header.now c.args.body.now c.in-Ok.message (λ i. omega (arith, c.type_inv.body i)) c.in-Ok.ensures.answer) c.hear_message.ensures.err

pub returns-in-Ok-clause-told : goal.returns-in-Ok-clause-told
returns-in-Ok-clause-told g c = rw (read_is c.law_of_bodies.ensures.one_to_one c.args.header.now c.args.body.now c.in-Ok.message (λ i. omega (arith, c.type_inv.body i)) c.in-Ok.ensures.answer) c.hear_message.ensures.told

pub returns-in-Ok-clause-lists : goal.returns-in-Ok-clause-lists
returns-in-Ok-clause-lists g c = rw (read_is c.law_of_bodies.ensures.one_to_one c.args.header.now c.args.body.now c.in-Ok.message (λ i. omega (arith, c.type_inv.body i)) c.in-Ok.ensures.answer) c.hear_message.ensures.lists
