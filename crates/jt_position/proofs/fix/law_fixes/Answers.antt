use Rattle.std.proofs.Common.{append-nil}
use Rattle.std.proofs.lemmas.List.Concat.{flat_map-append}
use Rattle.jt_position.specs.Fixes.{fixes_of}
use Rattle.jt_position.proofs.FixLaws.{of_a_position, of_a_batch, none_of_a_refused_position, none_of_a_refused_batch, none_of_another_id}
use Rattle.jt_position.proofs.fix.law_fixes.Goals as goal

pub returns : goal.returns
returns c = record {
  of_a_position = of_a_position;
  of_a_batch = of_a_batch;
  none_of_a_refused_position = none_of_a_refused_position;
  none_of_a_refused_batch = none_of_a_refused_batch;
  none_of_another_id = none_of_another_id;
  of_one = λ row. append-nil (fixes_of row);
  in_a_row = λ rows more. flat_map-append fixes_of rows more;
}
