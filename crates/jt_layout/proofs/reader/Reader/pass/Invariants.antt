use Rattle.std.proofs.Common.{◌≡◌, ◌-◌, List}
use Rattle.jt_layout.specs.Layout.{read_times}
use Rattle.jt_layout.proofs.Loops.{SoManyLeft}
use Rattle.jt_layout.proofs.reader.Reader.pass.Given as goal

abbrev pub invariant-loop : goal.invariant-loop
invariant-loop g l =
    (l.self.octets ≡ l.fn.self.octets)
    × ((front : List _) × SoManyLeft (g.T.Element.layout).read l.fn.self.octets front (l.count - l.counter) l.self.place (read_times (g.T.Element.layout).read l.count l.fn.self.octets l.fn.self.place))
