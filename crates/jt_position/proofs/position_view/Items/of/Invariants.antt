use Rattle.std.proofs.Common.{◌≡◌, ◌-◌, List, length}
use Rattle.jt_layout.specs.Layout.{read_to_the_end}
use Rattle.jt_layout.proofs.Loops.{RestLeft}
use Rattle.jt_position.specs.declared.item.Item.{Item}
use Rattle.jt_position.specs.Positions.{item}
use Rattle.jt_position.proofs.position_view.Items.of.Given as goal

abbrev pub invariant-loop-ahead : goal.invariant-loop-ahead
invariant-loop-ahead l = record {
  octets : l.ahead.octets ≡ l.reader.octets;
  so_far : (front : List Item) × RestLeft item.read l.reader.octets front l.ahead.place (read_to_the_end item.read l.reader.octets l.reader.place);
}

abbrev pub decreases-loop-ahead : goal.decreases-loop-ahead
decreases-loop-ahead l = length l.ahead.octets - l.ahead.place
