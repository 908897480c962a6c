use Rattle.std.proofs.Common.{length, sym, ◌∙◌}
use Rattle.jt_layout.proofs.Loops.{more_left}
use Rattle.jt_position.specs.Views.{item_in_view}
use Rattle.jt_position.proofs.ViewLaws.{no_item, stepped, progress}
use Rattle.jt_position.proofs.position_view.ItemsIterator.next.Goals as goal

pub returns-then-is_at_end-clause-steps : goal.returns-then-is_at_end-clause-steps
returns-then-is_at_end-clause-steps c =
    let none = sym c.self.view_is ∙ no_item c.self.inside.reader.octets c.self.inside.reader.place (c.is_at_end.ensures.0 c.if-is_at_end.true) in
    (none, none)

pub invariant_of-self : goal.invariant_of-self
invariant_of-self c =
    let at = c.self.inside.reader in
    let lt = more_left c.is_at_end.result at.place (length at.octets) c.is_at_end.ensures c.if-is_at_end.false in (
      (stepped at.octets at.place c.read.new.reader.octets c.read.new.reader.place c.args.self.now c.read.result c.ok.result c.read.ensures.octets lt c.read.ensures.value c.self.invariant.0 c.self.view_is c.ok.ensures.value).0,
      rw c.read.ensures.octets c.self.invariant.1,
    )

pub returns-clause-steps : goal.returns-clause-steps
returns-clause-steps c =
    let at = c.self.inside.reader in
    let lt = more_left c.is_at_end.result at.place (length at.octets) c.is_at_end.ensures c.if-is_at_end.false in
    (stepped at.octets at.place c.read.new.reader.octets c.read.new.reader.place c.args.self.now c.read.result c.ok.result c.read.ensures.octets lt c.read.ensures.value c.self.invariant.0 c.self.view_is c.ok.ensures.value).1

pub returns-clause-goes : goal.returns-clause-goes
returns-clause-goes c =
    let at = c.self.inside.reader in
    let lt = more_left c.is_at_end.result at.place (length at.octets) c.is_at_end.ensures c.if-is_at_end.false in
    progress item_in_view c.args.self.now _ c.ok.result (stepped at.octets at.place c.read.new.reader.octets c.read.new.reader.place c.args.self.now c.read.result c.ok.result c.read.ensures.octets lt c.read.ensures.value c.self.invariant.0 c.self.view_is c.ok.ensures.value).1
