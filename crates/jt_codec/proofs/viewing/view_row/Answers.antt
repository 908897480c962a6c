use Rattle.jt_codec.proofs.BodyLaws.{opaque_octets}
use Rattle.jt_codec.proofs.viewing.view_row.Goals as goal

pub returns-in_default-clause-answer : goal.returns-in_default-clause-answer
returns-in_default-clause-answer c =
    let fits = c.is_opaque.ensures.0 c.if-is_opaque.true in
    record { fits = fits; parts = opaque_octets c.args.edition c.args.id c.args.octets.now fits }
