use Rattle.std.proofs.Common.{arith}
use Rattle.jt_layout.proofs.Answering.{answers_plainly}
use Rattle.jt_codec.specs.Layouts.{track}
use Rattle.jt_codec.proofs.BodyLaws.{track_law}
use Rattle.jt_codec.proofs.track.view_track.Goals as goal

pub returns : goal.returns
returns c = answers_plainly track track_law (λ fields. fields) c.args.octets.now c.track_in.result (λ i. omega (arith, c.type_inv.octets i)) c.track_in.ensures
