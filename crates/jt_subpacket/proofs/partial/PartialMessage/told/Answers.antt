use Rattle.std.proofs.Common.{ap}
use Rattle.jt_subpacket.specs.Partials.{Partial}
use Rattle.jt_subpacket.proofs.Fates.{asks}
use Rattle.jt_subpacket.proofs.partial.PartialMessage.told.Goals as goal

pub returns-then-number-self : goal.returns-then-number-self
returns-then-number-self c =
    asks c.self.inside.key c.args.self.now c.args.number c.in_ok-missing_beside.field-0 (ap (λ (p : Partial). p.key) c.self.view_is) c.if-number-self.true c.in_ok-missing_beside.ensures
