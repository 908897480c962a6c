use Rattle.std.proofs.Common.{◌≤◌, ◌+◌, subst}
use native.Mathlib.Omega.{arith}
use Rattle.jt_platform.proofs.Acting.{room_more}
use Rattle.jt_platform.proofs.Making.{places_more}
use Rattle.jt_platform.proofs.hub.Hub.reserve.Goals as goal

pub invariant_of-self-2 : goal.invariant_of-self-2
invariant_of-self-2 g c =
    let inside = c.self.inside in
    let below = c.if-upto-self.false in
    let above : inside.reserved ≤ c.args.upto = omega (arith, below) in
    let ensured = c.in_ok-reserve.ensures in
    rw (ensured.entries, ensured.index, c.place_closes.ensures.entries, c.from.ensures) (
      c.self.invariant.0,
      room_more inside.log.entries inside.reserved inside.owed inside.log.spare c.args.upto c.reserve.new.self.spare c.self.invariant.1 above (subst (λ n. inside.owed + n ≤ c.reserve.new.self.spare) c.from.ensures ensured.room),
      c.self.invariant.2,
      places_more inside.log.index c.place_closes.new.self.index inside.reserved c.args.upto c.self.invariant.3 c.place_closes.ensures.kept c.in_ok-place_closes.ensures.made,
    )
