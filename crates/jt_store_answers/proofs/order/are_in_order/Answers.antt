use Rattle.std.proofs.Common.{arith, sym, subst, ◌∙◌, ◌+◌}
use Rattle.jt_store_answers.proofs.Testing.{IsTested, MayStand, all_tested, more, refused}
use Rattle.jt_store_answers.proofs.order.are_in_order.Goals as goal
use Rattle.jt_store_answers.proofs.order.are_in_order.Goals.{then-far-low-via-then-far-low, then-far-low-via-else-far-low+then-far-gt-UNIT_WINDOW, then-far-low-via-else-far-low+else-far-gt-UNIT_WINDOW+then-not-is_unit}

pub returns-then-far-low : goal.returns-then-far-low
returns-then-far-low c = record {
  exact =
      refused c.args.mark c.args.next c.loop-unit.low c.loop-unit.unit-index c.args.units.now c.args.code.now c.unit-item.result _ c.loop-unit-test.true c.unit-item.is c.loop-unit.invariant
      (λ may. elim c.then-far-low.branch [
        | then-far-low-via-then-far-low w ↦ absurd (omega (arith, w.if-far-low.true, may.from, c.gap-far.ensures.gap))
        | then-far-low-via-else-far-low+then-far-gt-UNIT_WINDOW w ↦ absurd (omega (arith, w.if-far-gt-UNIT_WINDOW.true, may.near, c.gap-far.ensures.gap))
        | then-far-low-via-else-far-low+else-far-gt-UNIT_WINDOW+then-not-is_unit w ↦ sym w.if-not-is_unit.true ∙ w.is_unit.ensures.exact.1 may.counted
      ]);
}

pub loop-unit-preserved : goal.loop-unit-preserved
loop-unit-preserved c =
    let may : MayStand c.args.mark c.loop-unit.low c.unit-item.result = record { from = omega (arith, c.if-far-low.false, c.gap-far.ensures.gap); near = omega (arith, c.if-far-gt-UNIT_WINDOW.false, c.gap-far.ensures.gap); counted = c.is_unit.ensures.exact.0 c.if-not-is_unit.false } in
    subst (λ far. IsTested c.args.mark (far + 1) (c.loop-unit.unit-index + 1) c.args.units.now) (sym c.gap-far.ensures.gap)
    (more c.args.mark c.loop-unit.low c.loop-unit.unit-index c.args.units.now c.unit-item.result _ c.loop-unit-test.true c.unit-item.is may c.loop-unit.invariant)

pub returns : goal.returns
returns c = record {
  exact =
      all_tested c.args.mark c.args.next c.loop-unit.low c.loop-unit.unit-index c.args.units.now c.args.code.now c.is_behind.result (omega (arith, c.loop-unit.auto.unit-index-end, c.loop-unit-test.false)) c.loop-unit.invariant c.is_behind.ensures;
}
