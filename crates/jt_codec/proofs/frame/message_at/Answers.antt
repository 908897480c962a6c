use Rattle.std.proofs.Common.{ap, Err, ◌∙◌, sym}
use Rattle.jt_value.specs.declared.refusal.Refusal.{Refusal}
use Rattle.jt_codec.proofs.FrameLaws.{read_at, refused_at}
use Rattle.jt_codec.proofs.frame.message_at.Goals as goal

pub returns-in-Ok : goal.returns-in-Ok
returns-in-Ok c =
    let h = c.args.header.now in
    read_at h.packet h.edition h.id c.args.body.now c.in-Ok.message c.if-is_some.ensures c.in-Ok.ensures.answer

pub returns-in-Err-Refused : goal.returns-in-Err-Refused
returns-in-Err-Refused c =
    let h = c.args.header.now in
    refused_at h.packet h.edition h.id c.args.start c.args.body.now c.in-Err-Refused.refusal c.if-is_some.ensures c.requires.start (rw c.in-Err-Refused.field-0-is at c.in-Err-Refused.ensures.answer)
    ∙ ap (λ (r : Refusal). Err r) (sym c.in_content.ensures)
