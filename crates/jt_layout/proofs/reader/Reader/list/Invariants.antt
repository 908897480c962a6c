use Rattle.std.proofs.Common.{◌≡◌, ◌-◌}
use Rattle.jt_layout.specs.Layout.{read_times}
use Rattle.jt_layout.proofs.Loops.{SoManyLeft}
use Rattle.jt_layout.proofs.reader.Reader.list.Given as goal

abbrev pub invariant-loop : goal.invariant-loop
invariant-loop g l = record {
  octets : l.self.octets ≡ l.fn.self.octets;
  so_far : SoManyLeft (g.T.Element.layout).read l.fn.self.octets l.list (l.count - l.counter) l.self.place (read_times (g.T.Element.layout).read l.count l.fn.self.octets l.fn.self.place);
}
