use Rattle.std.proofs.Common.{not, sym, ap, ◌∙◌}
use Rattle.jt_subpacket.specs.Partials.{Partial}
use Rattle.jt_subpacket.proofs.Missing.{then_completed, else_completed}
use Rattle.jt_subpacket.proofs.partial.PartialMessage.is_completed_by.Goals as goal

pub returns-then-not-has : goal.returns-then-not-has
returns-then-not-has c =
    then_completed c.args.self.now c.args.number c.count.result c.self.inside.key.total c.requires.kept c.requires.low c.requires.high
    (sym c.has.ensures ∙ c.if-not-has.true) c.count.ensures (ap (λ (p : Partial). p.key.total) c.self.view_is)

pub returns-else-not-has : goal.returns-else-not-has
returns-else-not-has c = else_completed c.args.self.now c.args.number _ c.requires.kept (sym c.has.ensures ∙ c.if-not-has.false) (ap not c.if-not-has.false)
