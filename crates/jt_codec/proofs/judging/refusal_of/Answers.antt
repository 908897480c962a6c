use Rattle.std.proofs.Common.{arith}
use Rattle.jt_codec.proofs.BodyLaws.{body_law}
use Rattle.jt_codec.proofs.judging.refusal_of.Goals as goal

pub in_content-requires : goal.in_content-requires
in_content-requires c =
    let h = c.args.header.now in
    let law = body_law h.edition h.id in
    let is = c.in-Err-Refused.is in
    let field = rw is at c.in-Err-Refused.field-0-is in
    let read = rw (is, field) at c.requires.judged in
    let refuses = law.refused c.args.octets.now 0 c.in-Err-Refused.refusal (λ i. omega (arith, c.type_inv.octets i)) (omega arith) read in
    omega (arith, (law.placed c.args.octets.now 0 c.in-Err-Refused.refusal (omega arith) refuses).1, c.start_of_body.ensures.small, c.requires.short)
