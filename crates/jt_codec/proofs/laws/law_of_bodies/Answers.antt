use Rattle.jt_layout.proofs.Answering.{one_to_one}
use Rattle.jt_codec.specs.Bodies.{body}
use Rattle.jt_codec.proofs.BodyLaws.{body_law, body_under}
use Rattle.jt_codec.proofs.laws.law_of_bodies.Goals as goal

pub returns-clause-one_to_one : goal.returns-clause-one_to_one
returns-clause-one_to_one c = λ edition id. one_to_one (body edition id) (body_law edition id)

pub returns-clause-ids : goal.returns-clause-ids
returns-clause-ids c = λ edition id message fits. body_under edition id message fits
