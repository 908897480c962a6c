use Rattle.std.proofs.Common.{None, subst, sym}
use Rattle.jt_store.specs.Memory.{under}
use Rattle.jt_store.specs.Tables.{IsHolder, plates}
use Rattle.dewfelt_fleet.specs.Fleets.{FleetValue}
use Rattle.dewfelt_fleet.proofs.fleet.Fleet.binds_plate.Goals as goal

pub returns-in-Some-clause-bound : goal.returns-in-Some-clause-bound
returns-in-Some-clause-bound c = λ e none.
    subst (λ (f : FleetValue). IsHolder plates (under f.bound) c.args.plate.now None) (sym c.self.view_is) none
    c.in-Some.field-0 c.in-Some.ensures.holder.0
