use Rattle.std.specs.Prelude.{◌≡◌, length}
use Rattle.jt_order_octets.specs.Reaching.{Leads}
use Rattle.jt_order_play.specs.Playing.{takes, with_world}
use Rattle.jt_order_play.proofs.stage.Stage.take_many.Given as goal

abbrev pub invariant-loop-left : goal.invariant-loop-left
invariant-loop-left l = record {
  leads : Leads l.fn.self.world l.self.world;
  count : length l.self.world.base.lines ≡ length l.fn.self.world.base.lines;
  rest : takes l.left l.self.world l.place ≡ takes l.most l.fn.self.world l.place;
  same : l.self ≡ with_world l.fn.self l.self.world;
}

abbrev pub decreases-loop-left : goal.decreases-loop-left
decreases-loop-left l = l.left
