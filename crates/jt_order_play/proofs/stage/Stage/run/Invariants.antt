use Rattle.jt_order_octets.specs.Reaching.{Leads}
use Rattle.jt_terminal_rule.specs.declared.state.Event.TheVariants.{Tick}
use Rattle.jt_order_play.specs.Playing.{meets}
use Rattle.jt_order_play.proofs.Composing.{WentRounds}
use Rattle.jt_order_play.proofs.stage.Stage.run.Given as goal

abbrev pub invariant-loop-alloc : goal.invariant-loop-alloc
invariant-loop-alloc l = record {
  leads : Leads l.fn.self.world l.self.world;
  went : WentRounds (meets l.fn.self (Tick l.fn.self.clock)) l.self l.left;
}

abbrev pub decreases-loop-alloc : goal.decreases-loop-alloc
decreases-loop-alloc l = l.left
