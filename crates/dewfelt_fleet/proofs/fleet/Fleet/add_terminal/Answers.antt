use Rattle.std.proofs.Common.{None, subst, sym}
use Rattle.jt_store.specs.Memory.{under}
use Rattle.jt_store.specs.Tables.{IsHolder, terminals}
use Rattle.dewfelt_fleet.specs.Fleets.{FleetValue}
use Rattle.dewfelt_fleet.proofs.Apart.{apart_terminal}
use Rattle.dewfelt_fleet.proofs.fleet.Fleet.add_terminal.Goals as goal

pub invariant_of-self-2 : goal.invariant_of-self-2
invariant_of-self-2 c =
    apart_terminal c.self.inside.plates c.self.inside.terminals c.add.new.self (under c.self.inside.bound) c.args.terminal.now c.in_ok-add.ensures.ok
    (subst (λ (f : FleetValue). IsHolder terminals (under f.bound) c.args.terminal.now None) (sym c.self.view_is) (c.binds_terminal.ensures.free c.if-binds_terminal.false)) c.self.invariant
