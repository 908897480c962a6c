use Rattle.std.proofs.Common.{◌-◌, length, drop, arith, length-drop}
use Rattle.std.proofs.lemmas.List.{take_all}
use Rattle.jt_input.proofs.LinesHeard.{taken_none, taken_more, taken_all, taken_last, settles_with}
use Rattle.jt_input.proofs.line_teller.LineTellerTeller.take.Goals as goal

pub loop-taken-init : goal.loop-taken-init
loop-taken-init g c = (taken_none c.law_lines.ensures.front _ _ _ _ _ _, c.requires.can)

pub returns-in-More-clause-takes : goal.returns-in-More-clause-takes
returns-in-More-clause-takes g c =
    let steps = rw (c.in-More.is) at c.in_ok-step.ensures.steps in
    (taken_all c.law_lines.ensures.front _ _ _ _ _ _ _ _ _ _ _ _ _ _ _ c.loop-taken.invariant.0 steps).goes

pub loop-taken-preserved : goal.loop-taken-preserved
loop-taken-preserved g c =
    let steps = rw (c.in-Heard.is) at c.in_ok-step.ensures.steps in (
      taken_more c.law_lines.ensures.front _ _ _ _ _ _ _ _ _ _ _ c.loop-taken.rest.now _ _ _ _ c.in-Heard.taken
          (take_all (length c.loop-taken.rest.now - c.in-Heard.taken) (drop c.in-Heard.taken c.loop-taken.rest.now) (omega (arith, length-drop c.in-Heard.taken c.loop-taken.rest.now)))
          c.loop-taken.invariant.0 steps.1,
      c.in_ok-step.ensures.can,
    )

pub returns-in-Settled-clause-takes : goal.returns-in-Settled-clause-takes
returns-in-Settled-clause-takes g c =
    let steps = rw (c.in-Settled.is) at c.in_ok-step.ensures.steps in
    settles_with c.law_lines.ensures.front _ _ _ _ _ _ _ _ _ _ _ c.in_ok-step.ensures.can
    (taken_last c.law_lines.ensures.front _ _ _ _ _ _ _ _ _ _ _ _ _ _ _ c.loop-taken.invariant.0 steps)
