use Rattle.std.specs.Prelude.{◌≡◌}
use Rattle.jt_octets.specs.Reaching.{Leads}
use Rattle.jt_play.specs.Holding.{phone_in, recorded_in}
use Rattle.jt_play.specs.Playing.{reads}
use Rattle.jt_play.proofs.stage.Stage.read_many.Given as goal

abbrev pub invariant-loop-left : goal.invariant-loop-left
invariant-loop-left l = record {
  leads : Leads l.fn.self.world l.self.world;
  recorded : recorded_in l.self ≡ recorded_in l.fn.self;
  phone : phone_in l.self ≡ phone_in l.fn.self;
  rest : reads l.left l.self ≡ reads l.most l.fn.self;
}

abbrev pub decreases-loop-left : goal.decreases-loop-left
decreases-loop-left l = l.left
