use Rattle.std.proofs.Common.{◌≡◌}
use Rattle.jt_octets.specs.World.{Line}
use Rattle.jt_play.specs.Holding.{past_of}
use Rattle.jt_order_play.specs.Holding.{told_places}
use Rattle.jt_order_play.specs.Playing.{goes_on}
use Rattle.jt_order_play.proofs.Standing.{fact_back, lt_of}
use Rattle.jt_order_play.proofs.stage.Stage.takes_more.Goals as goal

pub returns : goal.returns
returns c =
    let s = c.self.inside in
    let past = past_of s.past.items in
    let told = told_places s.told.items in
    let lt = lt_of s.terminal s.hub s.book.book s.lines.items past told s.clock c.args.place c.args.self.now c.self.view_is c.requires.opened in
    fact_back (λ (l : Line). c.may_take.result ≡ goes_on l) s.terminal s.hears s.hub s.book.book s.issued s.lines.items past told s.clock c.args.place c.index.result.now c.self.invariant c.args.self.now c.self.view_is lt c.index.ensures c.may_take.ensures
