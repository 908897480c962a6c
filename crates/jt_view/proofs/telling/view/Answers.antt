use Rattle.std.proofs.Common.{◌≡◌, ◌-◌, length, take, drop, arith}
use Rattle.std.proofs.lemmas.Grind.{common_steps}
use Rattle.jt_view.proofs.EntriesTold.{viewing_none, viewing_more}
use Rattle.jt_view.proofs.telling.view.Goals as goal

pub loop-at-init : goal.loop-at-init
loop-at-init c = viewing_none _ _ _

pub loop-at-preserved : goal.loop-at-preserved
loop-at-preserved c =
    let octets = c.args.octets.now in
    let at = c.loop-at.at in
    let rest : take (length octets - at) (drop at octets) ≡ drop at octets = grind (arith, common_steps) in
    let views = rw rest at c.in_ok-at.ensures.views in
    viewing_more _ _ _ _ _ _ _ _ _ _ c.loop-at.invariant (rw rest at c.in_ok-at.ensures.some.1) c.in_ok-at.ensures.place views.brings views.text_is
