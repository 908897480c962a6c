use Rattle.std.proofs.Common.{◌<◌, sym, ◌∙◌, arith}
use Rattle.jt_position.proofs.BatchViewLaws.{no_position, stepped}
use Rattle.jt_position.proofs.ViewLaws.{progress}
use Rattle.jt_position.specs.BatchViews.{position_in_view}
use Rattle.jt_position.proofs.batch_view.PositionsIterator.next.Goals as goal

pub returns-then-self-eq0-clause-steps : goal.returns-then-self-eq0-clause-steps
returns-then-self-eq0-clause-steps c =
    let none = sym c.self.view_is ∙ rw c.if-self-eq0.true (no_position c.self.inside.reader.octets c.self.inside.reader.place) in
    (none, none)

pub read_sized-requires : goal.read_sized-requires
read_sized-requires c = c.self.invariant.1

pub invariant_of-self : goal.invariant_of-self
invariant_of-self c =
    let at = c.self.inside.reader in
    let some : 0 < c.self.inside.left = omega (arith, c.if-self-eq0.false) in (
      (stepped c.self.inside.left at.octets at.place c.read_sized.new.reader.octets c.read_sized.new.reader.place c.args.self.now c.read_sized.result c.ok.result c.read_sized.ensures.octets some c.read_sized.ensures.value c.self.invariant.0 c.self.view_is c.ok.ensures.value).0,
      rw c.read_sized.ensures.octets c.self.invariant.1,
    )

pub returns-clause-steps : goal.returns-clause-steps
returns-clause-steps c =
    let at = c.self.inside.reader in
    let some : 0 < c.self.inside.left = omega (arith, c.if-self-eq0.false) in
    (stepped c.self.inside.left at.octets at.place c.read_sized.new.reader.octets c.read_sized.new.reader.place c.args.self.now c.read_sized.result c.ok.result c.read_sized.ensures.octets some c.read_sized.ensures.value c.self.invariant.0 c.self.view_is c.ok.ensures.value).1

pub returns-clause-goes : goal.returns-clause-goes
returns-clause-goes c =
    let at = c.self.inside.reader in
    let some : 0 < c.self.inside.left = omega (arith, c.if-self-eq0.false) in
    progress position_in_view c.args.self.now _ c.ok.result (stepped c.self.inside.left at.octets at.place c.read_sized.new.reader.octets c.read_sized.new.reader.place c.args.self.now c.read_sized.result c.ok.result c.read_sized.ensures.octets some c.read_sized.ensures.value c.self.invariant.0 c.self.view_is c.ok.ensures.value).1
