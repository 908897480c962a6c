use Rattle.std.proofs.Common.{◌+◌, ◌-◌, ◌<◌, ◌≡◌, length, arith, ◌∙◌, subst}
use Rattle.jt_play.specs.Holding.{lines_in}
use Rattle.jt_order_play.specs.Holding.{plain_lines}
use Rattle.jt_order_play.specs.Playing.{OrderPlay}
use Rattle.jt_order_play.proofs.Standing.{many_lines}
use Rattle.jt_order_play.proofs.Upward.{up_goes}
use Rattle.jt_order_play.proofs.stage.Stage.up_newest.Goals as goal

pub up-requires : goal.up-requires
up-requires c =
    let s = c.self.inside in
    let many : c.len-count.result ≡ length s.lines.items = c.len-count.ensures ∙ Prim.search in
    let some = c.if-count-gt0.true in
    let within : c.len-count.result - 1 < length (lines_in (plain_lines s.lines.items)) = let e = many_lines s.lines.items in omega (arith, many, some, e) in
    record { opened = subst (λ (p : OrderPlay). c.len-count.result - 1 < length p.world.base.lines) c.self.view_is within; reached = c.requires.reached }

pub returns-then-count-gt0-clause-whole : goal.returns-then-count-gt0-clause-whole
returns-then-count-gt0-clause-whole c done =
    let s = c.self.inside in
    let many : c.len-count.result ≡ length s.lines.items = c.len-count.ensures ∙ Prim.search in
    let some = c.if-count-gt0.true in
    let last : length (lines_in (plain_lines s.lines.items)) ≡ (c.len-count.result - 1) + 1 = let e = many_lines s.lines.items in omega (arith, many, some, e) in
    c.up.ensures.whole done ∙ up_goes c.args.self.now (c.len-count.result - 1) (subst (λ (p : OrderPlay). length p.world.base.lines ≡ (c.len-count.result - 1) + 1) c.self.view_is last)
