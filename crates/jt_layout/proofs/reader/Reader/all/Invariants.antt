use Rattle.std.proofs.Common.{◌≡◌, ◌-◌, length}
use Rattle.jt_layout.specs.Layout.{read_to_the_end}
use Rattle.jt_layout.proofs.Loops.{RestLeft}
use Rattle.jt_layout.proofs.reader.Reader.all.Given as goal

abbrev pub invariant-loop-alloc : goal.invariant-loop-alloc
invariant-loop-alloc g l = record {
  octets : l.self.octets ≡ l.fn.self.octets;
  so_far : RestLeft (g.T.Element.layout).read l.fn.self.octets l.list l.self.place (read_to_the_end (g.T.Element.layout).read l.fn.self.octets l.fn.self.place);
}

abbrev pub decreases-loop-alloc : goal.decreases-loop-alloc
decreases-loop-alloc g l = length l.self.octets - l.self.place
