use Rattle.std.proofs.Common.{None, subst, sym}
use Rattle.jt_store.specs.Memory.{under}
use Rattle.jt_store.specs.Tables.{IsHolder, plates}
use Rattle.dewfelt_fleet.specs.Fleets.{FleetValue}
use Rattle.dewfelt_fleet.proofs.Apart.{apart_plate}
use Rattle.dewfelt_fleet.proofs.fleet.Fleet.add_plate.Goals as goal

pub invariant_of-self-2 : goal.invariant_of-self-2
invariant_of-self-2 c =
    apart_plate c.self.inside.plates c.add.new.self c.self.inside.terminals (under c.self.inside.bound) c.args.plate.now c.in_ok-add.ensures.ok
    (subst (λ (f : FleetValue). IsHolder plates (under f.bound) c.args.plate.now None) (sym c.self.view_is) (c.binds_plate.ensures.free c.if-binds_plate.false)) c.self.invariant
