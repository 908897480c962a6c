use Rattle.std.proofs.Common.{◌+◌, ◌-◌, ◌<◌, ◌≡◌, length, arith, sym, ◌∙◌, subst}
use Rattle.std.proofs.lemmas.Bool.{and_parts}
use Rattle.jt_octets.specs.World.{Line, line_at, newest}
use Rattle.jt_play.specs.Holding.{past_of}
use Rattle.jt_play.specs.Playing.{has_left}
use Rattle.jt_order_play.specs.Holding.{order_play_of, told_places}
use Rattle.jt_order_play.specs.Playing.{OrderPlay}
use Rattle.jt_order_play.proofs.Standing.{line_there, many_lines}
use Rattle.jt_order_play.proofs.stage.Stage.read_next.Goals as goal

pub read_at-requires : goal.read_at-requires
read_at-requires c =
    let s = c.self.inside in
    let past = past_of s.past.items in
    let told = told_places s.told.items in
    let count = c.len-count.result in
    let place = count - 1 in
    let many : count ≡ length s.lines.items = c.len-count.ensures ∙ Prim.search in
    let some = c.if-count-eq0.false in
    let lt : place < length s.lines.items = omega (arith, many, some) in
    let p = order_play_of s.terminal s.hub s.book.book s.lines.items past told s.clock in
    let last : length p.world.base.lines ≡ place + 1 = let e = many_lines s.lines.items in omega (arith, many, some, e) in
    let here : line_at p.world.base.lines place ≡ c.index.result.now.plain.line = line_there s.terminal s.hears s.hub s.book.book s.issued s.lines.items past told s.clock place c.index.result.now c.self.invariant lt c.index.ensures in
    let may = c.may_read.ensures c.if-not-may_read.false in
    record {
      last = subst (λ (q : OrderPlay). length q.world.base.lines ≡ place + 1) c.self.view_is last;
      in_use = (and_parts c.args.self.now.world.base.terminal.using (has_left (newest c.args.self.now.world.base).down) (sym c.reads_more.ensures ∙ c.if-not-reads_more.false)).0;
      left = subst (λ (q : OrderPlay). (line_at q.world.base.lines place).down.taken < length (line_at q.world.base.lines place).down.octets) c.self.view_is (subst (λ (l : Line). l.down.taken < length l.down.octets) (sym here) may.0);
      short = subst (λ (q : OrderPlay). (line_at q.world.base.lines place).down.taken + 1 < 9223372036854775808) c.self.view_is (subst (λ (l : Line). l.down.taken + 1 < 9223372036854775808) (sym here) may.1);
      reached = c.requires.reached;
    }

pub returns-clause-whole : goal.returns-clause-whole
returns-clause-whole c = (sym c.reads_more.ensures ∙ c.if-not-reads_more.false, c.in_ok-read_at.ensures.whole)
