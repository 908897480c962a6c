use Rattle.std.proofs.Common.{None, refl}
use Rattle.jt_value.proofs.OctetLists.{AreOctets-nil}
use Rattle.jt_order_session.proofs.Walking.{have_none}
use Rattle.jt_order_session.proofs.order_session.OrderSession.new.Goals as goal

pub invariant_of-result : goal.invariant_of-result
invariant_of-result c = (
  λ x e. absurd cc,
  λ on.
      have_none (record { session = c.args.session; stream = c.new.result.splitter; first = None; sent = None })
      (record { octets = AreOctets-nil; session = c.requires.stream; stream = c.new.ensures.stream; waiting = c.requires.waiting; first = refl }),
)
