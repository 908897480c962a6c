use Rattle.std.proofs.Common.{◌≡◌, ◌↔◌, true, false, ap, sym, ◌∙◌, subst}
use Rattle.std.specs.Prelude.{Err, IfOk, OnOk}
use Rattle.jt_order.specs.declared.book.TheConstants.{ORDER_LIMIT}
use Rattle.jt_play.proofs.Scenes.{at_full_is}
use Rattle.jt_play.proofs.Worlds.{on_ok}
use Rattle.jt_order_play.specs.declared.error.OrderWorldError.TheVariants as refused
use Rattle.jt_order_play.specs.Playing.{ComesTo, OrderPlay, finds_full, is_opened}
use Rattle.jt_order_play.specs.Scripts.{Names, OrderScene}
use Rattle.jt_order_play.proofs.Scenes.{named_not_full, no_line_is, own_history, refusals, same_refused, scene_on}
use Rattle.jt_order_play.proofs.world.OrderWorld.step.Goals as goal

pub step-done-requires-clause-own : goal.step-done-requires-clause-own
step-done-requires-clause-own c = own_history c.law_order_world.ensures.phone c.self.inside.stage c.self.inside.identity c.self.invariant

pub invariant_of-self : goal.invariant_of-self
invariant_of-self c = scene_on c.self.inside.stage c.step-done.new.self c.self.inside.identity c.self.invariant c.step-done.ensures.leads

pub returns-clause-ok : goal.returns-clause-ok
returns-clause-ok c = subst (λ (v : OrderScene). OnOk c.answer.result (ComesTo v.identity.e2013 v.play c.args.event c.step-done.new.self)) c.self.view_is (on_ok c.answer.result c.step-done.ensures.ok c.answer.ensures.done)

pub returns-clause-no_line : goal.returns-clause-no_line
returns-clause-no_line c line =
    let both = no_line_is c.self.inside.stage.world c.args.event c.step-done.result c.step-done.ensures.no_line c.step-done.ensures.number line in
    let same = c.answer.ensures.no_line line in
    subst (λ (v : OrderScene). (c.answer.result ≡ Err (refused.NoLine line)) ↔ (Names c.args.event line × (is_opened v.play.world line ≡ false))) c.self.view_is (λ a. both.0 (same.0 a), λ b. same.1 (both.1 b))

pub returns-clause-full : goal.returns-clause-full
returns-clause-full c limit is =
    subst (λ (v : OrderScene). (limit ≡ ORDER_LIMIT) × (finds_full v.play.world c.args.event ≡ true)) c.self.view_is (c.step-done.ensures.full limit ((c.answer.ensures.full limit).0 is))

pub returns-clause-at_full : goal.returns-clause-at_full
returns-clause-at_full c found =
    let w = c.self.inside.stage.world in
    at_full_is refused.NoLine refused.Full refused.Memory ORDER_LIMIT (finds_full w c.args.event) c.answer.result refusals
    (on_ok c.answer.result (λ is. subst (λ r. IfOk r (λ done. finds_full w c.args.event ≡ false)) is c.step-done.ensures.room) c.answer.ensures.done)
    (λ line is. named_not_full w c.args.event line (c.step-done.ensures.number line ((c.answer.ensures.no_line line).0 is)))
    (λ limit is. (c.step-done.ensures.full limit ((c.answer.ensures.full limit).0 is)).0)
    (subst (λ (v : OrderScene). finds_full v.play.world c.args.event ≡ true) (sym c.self.view_is) found)

pub returns-clause-same : goal.returns-clause-same
returns-clause-same c error is other =
    let s = c.self.inside in
    let play = same_refused c.answer.result c.step-done.result (c.step-done.new.self ≡ s.stage) c.answer.ensures.no_line c.answer.ensures.full c.step-done.ensures.same error is other in
    ap (λ (p : OrderPlay). record { play = p; identity = s.identity }) play ∙ c.self.view_is
