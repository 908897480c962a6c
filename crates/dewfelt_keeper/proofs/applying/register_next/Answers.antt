use Rattle.jt_value.specs.Sameness.{key_of}
use Rattle.dewfelt_keeper.proofs.Calls.{may_where}
use Rattle.dewfelt_keeper.proofs.applying.register_next.Goals as goal

pub register_own-requires-clause-may : goal.register_own-requires-clause-may
register_own-requires-clause-may g c =
    may_where c.args.fleet.now (g.K.Keeper.tables c.args.keeper.now) (key_of c.in-Some.phone) c.in-Some.own.now c.in-Some.ensures.names c.in-Some.ensures.apart c.requires c.in-Some.ensures.bound
