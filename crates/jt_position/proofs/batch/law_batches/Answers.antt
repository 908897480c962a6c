use Rattle.jt_layout.proofs.Answering.{one_to_one}
use Rattle.jt_position.specs.Positions.{batch}
use Rattle.jt_position.proofs.ItemLaws.{batch_law}
use Rattle.jt_position.proofs.ViewLaws.{raw_stands_in_batch}
use Rattle.jt_position.proofs.batch.law_batches.Goals as goal

pub returns : goal.returns
returns c = record {
  one_to_one = one_to_one batch batch_law;
  places = raw_stands_in_batch;
}
