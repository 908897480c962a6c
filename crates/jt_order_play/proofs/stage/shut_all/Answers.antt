use Rattle.std.proofs.Common.{◌<◌, ◌≡◌, List, length, get_or, set, arith, ap, ◌∙◌}
use Rattle.std.proofs.lemmas.List.{length-set}
use Rattle.jt_order_play.specs.Holding.{LineOfOrders}
use Rattle.jt_order_play.proofs.Shutting.{front_length, front_next}
use Rattle.jt_order_play.proofs.stage.shut_all.Goals as goal

pub loop-place-preserved : goal.loop-place-preserved
loop-place-preserved c =
    let l = c.loop-place in
    let lines = c.args.lines.now.items in
    let old = c.index_mut.result.now in
    let same : length l.lines.items ≡ length lines = ap (λ (ls : List LineOfOrders). length ls) l.invariant.done ∙ front_length l.place lines in
    let lt : l.place < length lines = omega (arith, c.loop-place-test.true, l.invariant.many, same) in
    record {
      within = omega (arith, c.loop-place-test.true);
      many = length-set l.lines.items l.place c.shut.new.self ∙ l.invariant.many;
      done = ap (λ (ls : List LineOfOrders). set ls l.place c.shut.new.self) l.invariant.done
          ∙ front_next l.place lines old c.shut.new.self lt (c.index_mut.ensures.value ∙ ap (λ (ls : List LineOfOrders). get_or ls l.place old) l.invariant.done) c.shut.ensures;
    }
