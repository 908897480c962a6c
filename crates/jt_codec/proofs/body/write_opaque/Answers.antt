use Rattle.std.proofs.Common.{◌∙◌}
use Rattle.jt_codec.proofs.BodyLaws.{opaque_octets}
use Rattle.jt_codec.proofs.body.write_opaque.Goals as goal

pub returns : goal.returns
returns c = c.in_ok-copy.ensures ∙ opaque_octets c.args.edition c.args.id c.args.body.now c.requires
