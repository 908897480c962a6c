use Rattle.std.proofs.Common.{refl}
use Rattle.jt_view.specs.HexInput.{first_wrong, digits, unpaired}
use Rattle.jt_view.proofs.hex_reader.HexReader.new.Goals as goal

pub returns : goal.returns
unfolding first_wrong digits unpaired
returns c = record { right = refl; waits = refl }
