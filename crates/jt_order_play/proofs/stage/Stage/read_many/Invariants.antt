use Rattle.std.specs.Prelude.{◌≡◌}
use Rattle.jt_order_octets.specs.Reaching.{Leads}
use Rattle.jt_order_play.specs.Playing.{reads}
use Rattle.jt_order_play.proofs.stage.Stage.read_many.Given as goal

abbrev pub invariant-loop-left : goal.invariant-loop-left
invariant-loop-left l = record {
  leads : Leads l.fn.self.world l.self.world;
  rest : reads l.left l.self ≡ reads l.most l.fn.self;
}

abbrev pub decreases-loop-left : goal.decreases-loop-left
decreases-loop-left l = l.left
