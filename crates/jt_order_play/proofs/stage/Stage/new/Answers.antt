use Rattle.std.proofs.Common.{ap, sym, subst}
use Rattle.jt_value.specs.declared.limits.TheConstants.{ROW_LIMIT}
use Rattle.jt_order.specs.Memory.{BookStock}
use Rattle.jt_order_octets.specs.Reaching.{Reached}
use Rattle.jt_order_play.specs.Playing.{OrderPlay}
use Rattle.jt_order_play.proofs.Starting.{first_reached, new_is, new_stage}
use Rattle.jt_order_play.proofs.stage.Stage.new.Goals as goal

pub invariant_of-result : goal.invariant_of-result
invariant_of-result c =
    rw (c.new-3.ensures.items) (new_stage c.args.settings c.args.fleet c.args.secret c.in_ok-terminal.terminal c.in_ok-hub.hub c.new-2.result.book c.in_ok-terminal.ensures.new c.in_ok-hub.ensures (ap (λ (b : BookStock). b.book) c.new-2.ensures) c.in_ok-terminal.ensures.sound)

pub returns-clause-new : goal.returns-clause-new
returns-clause-new c =
    new_is c.args.settings c.args.fleet c.args.secret c.in_ok-terminal.terminal c.in_ok-hub.hub c.new-2.result.book c.in_ok-terminal.ensures.new c.in_ok-hub.ensures (ap (λ (b : BookStock). b.book) c.new-2.ensures)
    c.new-3.result.items c.new-4.result.items c.new-5.result.items c.new-3.ensures.items c.new-4.ensures.items c.new-5.ensures.items

pub returns-clause-reached : goal.returns-clause-reached
returns-clause-reached c = subst (λ (p : OrderPlay). Reached p.world) (sym (returns-clause-new c)) (first_reached c.args.settings (record { fleet = c.args.fleet; secret = c.args.secret; limit = ROW_LIMIT }) c.requires.good)
