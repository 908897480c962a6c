use Rattle.std.proofs.Common.{◌≡◌, ◌-◌, List}
use Rattle.jt_layout.specs.Layout.{read_times, sized, word}
use Rattle.jt_layout.proofs.Loops.{SoManyLeft}
use Rattle.jt_position.specs.declared.position.Position.{Position}
use Rattle.jt_position.specs.Positions.{position}
use Rattle.jt_position.proofs.batch_view.Positions.of.Given as goal

abbrev pub invariant-loop : goal.invariant-loop
invariant-loop l = record {
  octets : l.reader.octets ≡ l.fn.reader.octets;
  so_far : (front : List Position) × SoManyLeft (sized word position).read l.fn.reader.octets front (l.count - l.counter) l.reader.place (read_times (sized word position).read l.count l.fn.reader.octets l.fn.reader.place);
}
