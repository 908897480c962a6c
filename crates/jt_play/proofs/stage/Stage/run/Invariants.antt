use Rattle.std.specs.Prelude.{◌≡◌}
use Rattle.jt_octets.specs.Reaching.{Leads}
use Rattle.jt_play.specs.Holding.{phone_in, recorded_in}
use Rattle.jt_terminal_rule.specs.declared.state.Event.TheVariants.{Tick}
use Rattle.jt_play.specs.Playing.{meets}
use Rattle.jt_play.proofs.Running.{WentRounds}
use Rattle.jt_play.proofs.stage.Stage.run.Given as goal

abbrev pub invariant-loop-alloc : goal.invariant-loop-alloc
invariant-loop-alloc l = record {
  leads : Leads l.fn.self.world l.self.world;
  recorded : recorded_in l.self ≡ recorded_in l.fn.self;
  phone : phone_in l.self ≡ phone_in l.fn.self;
  went : WentRounds (meets l.fn.self (Tick l.fn.self.clock)) l.self;
}

abbrev pub decreases-loop-alloc : goal.decreases-loop-alloc
decreases-loop-alloc l = l.left
