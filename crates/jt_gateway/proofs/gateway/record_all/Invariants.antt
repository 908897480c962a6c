use Rattle.jt_octets.specs.Reaching.{Leads}
use Rattle.jt_gateway.specs.Gateway.{IsOf2019}
use Rattle.jt_gateway.proofs.Pumping.{At}
use Rattle.jt_gateway.proofs.gateway.record_all.Given as goal

abbrev pub invariant-loop-fix : goal.invariant-loop-fix
invariant-loop-fix l = record {
  at : At l.fn.world l.world l.fixes l.fix-index;
  edition : IsOf2019 l.fn.world → IsOf2019 l.world;
  leads : Leads l.fn.world.play.world l.world.play.world;
}
