use Rattle.std.specs.Prelude.{◌≡◌, ◌<◌, length}
use Rattle.jt_octets.specs.Reaching.{Leads}
use Rattle.jt_play.specs.Holding.{phone_in, recorded_in}
use Rattle.jt_play.specs.Playing.{takes}
use Rattle.jt_play.proofs.stage.Stage.take_many.Given as goal

abbrev pub invariant-loop-left : goal.invariant-loop-left
invariant-loop-left l = record {
  leads : Leads l.fn.self.world l.self.world;
  recorded : recorded_in l.self ≡ recorded_in l.fn.self;
  phone : phone_in l.self ≡ phone_in l.fn.self;
  count : length l.self.world.lines ≡ length l.fn.self.world.lines;
  rest : takes l.left l.self.world l.place ≡ takes l.most l.fn.self.world l.place;
  same : l.self ≡ record l.fn.self { world = l.self.world };
}

abbrev pub decreases-loop-left : goal.decreases-loop-left
decreases-loop-left l = l.left
