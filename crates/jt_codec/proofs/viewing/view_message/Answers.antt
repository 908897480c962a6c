use Rattle.std.proofs.Common.{ap, Err, ◌∙◌, sym, arith}
use Rattle.jt_value.specs.declared.refusal.Refusal.{Refusal}
use Rattle.jt_codec.proofs.BodyLaws.{body_law}
use Rattle.jt_codec.proofs.FrameLaws.{read_at, refused_at}
use Rattle.jt_codec.proofs.viewing.view_message.Goals as goal

pub in_content-requires : goal.in_content-requires
in_content-requires c =
    let h = c.args.header.now in
    let refuses = rw c.in-Some-Err.field-0-is at c.in-Some-Err.ensures.answer in
    omega (arith, ((body_law h.edition h.id).placed c.args.body.now 0 c.in-Some-Err.refusal (omega arith) refuses).1)

pub returns-in-Some-Ok-clause-answer : goal.returns-in-Some-Ok-clause-answer
returns-in-Some-Ok-clause-answer c =
    let h = c.args.header.now in
    read_at h.packet h.edition h.id c.args.body.now _ c.if-is_some.ensures (rw c.in-Some-Ok.field-0-is at c.in-Some-Ok.ensures.answer)

pub returns-in-Some-Err-clause-answer : goal.returns-in-Some-Err-clause-answer
returns-in-Some-Err-clause-answer c =
    let h = c.args.header.now in
    let refuses = rw c.in-Some-Err.field-0-is at c.in-Some-Err.ensures.answer in
    refused_at h.packet h.edition h.id c.start_of_body.result c.args.body.now c.in-Some-Err.refusal c.if-is_some.ensures (λ _. c.start_of_body.ensures.value) refuses
    ∙ ap (λ (r : Refusal). Err r) (sym c.in_content.ensures)
