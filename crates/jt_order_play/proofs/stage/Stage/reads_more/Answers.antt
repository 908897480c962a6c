use Rattle.std.proofs.Common.{◌+◌, ◌-◌, ◌<◌, ◌≡◌, length, arith, sym, ◌∙◌, subst}
use Rattle.jt_play.specs.Holding.{past_of}
use Rattle.jt_play.specs.Playing.{has_left}
use Rattle.jt_order_play.specs.Holding.{order_play_of, told_places}
use Rattle.jt_order_play.specs.Playing.{OrderPlay, reads_more}
use Rattle.jt_order_play.proofs.Composing.{more_line}
use Rattle.jt_order_play.proofs.Standing.{line_there, many_lines}
use Rattle.jt_order_play.proofs.stage.Stage.reads_more.Goals as goal

pub returns : goal.returns
returns c =
    let s = c.self.inside in
    let past = past_of s.past.items in
    let told = told_places s.told.items in
    let count = c.len-count.result in
    let place = count - 1 in
    let many : count ≡ length s.lines.items = c.len-count.ensures ∙ Prim.search in
    let some = c.if-count-eq0.false in
    let lt : place < length s.lines.items = omega (arith, many, some) in
    let p = order_play_of s.terminal s.hub s.book.book s.lines.items past told s.clock in
    let last : length p.world.base.lines ≡ place + 1 = let e = many_lines s.lines.items in omega (arith, many, some, e) in
    let line = c.index.result.now.plain.line in
    c.has_down.ensures ∙ sym (subst (λ (p : OrderPlay). reads_more p ≡ has_left line.down) c.self.view_is
    (more_line p place line last (line_there s.terminal s.hears s.hub s.book.book s.issued s.lines.items past told s.clock place c.index.result.now c.self.invariant lt c.index.ensures) (sym c.is_up.ensures ∙ c.if-not-is_up.false)))
