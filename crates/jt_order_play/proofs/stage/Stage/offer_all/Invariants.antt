use Rattle.std.specs.Prelude.{◌≡◌, ◌≤◌, ◌-◌, length}
use Rattle.jt_order_octets.specs.Reaching.{Leads}
use Rattle.jt_order_play.specs.Playing.{offers_upto, with_world}
use Rattle.jt_order_play.proofs.stage.Stage.offer_all.Given as goal

abbrev pub invariant-loop-place : goal.invariant-loop-place
invariant-loop-place l = record {
  leads : Leads l.fn.self.world l.self.world;
  count : length l.self.world.base.lines ≡ length l.fn.self.world.base.lines;
  many : length l.fn.self.world.base.lines ≡ l.count;
  within : l.place ≤ l.count;
  done : l.self ≡ with_world l.fn.self (offers_upto l.place l.fn.self.world);
}

abbrev pub decreases-loop-place : goal.decreases-loop-place
decreases-loop-place l = l.count - l.place
