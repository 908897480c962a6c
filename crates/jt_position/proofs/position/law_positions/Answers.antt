use Rattle.jt_layout.proofs.Answering.{one_to_one}
use Rattle.jt_position.specs.Positions.{position}
use Rattle.jt_position.proofs.ItemLaws.{position_law}
use Rattle.jt_position.proofs.ViewLaws.{raw_stands}
use Rattle.jt_position.proofs.position.law_positions.Goals as goal

pub returns : goal.returns
returns c = record {
  one_to_one = one_to_one position position_law;
  places = raw_stands;
}
