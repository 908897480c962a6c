use Rattle.std.specs.Option.{option_map}
use Rattle.jt_value.specs.Sameness.{key_of}
use Rattle.dewfelt_keeper.specs.Rules.{Becomes}
use Rattle.dewfelt_keeper.specs.Sweeps.{BindsUpTo}
use Rattle.dewfelt_keeper.proofs.applying.register_bound.Given as goal

abbrev pub invariant-loop : goal.invariant-loop
invariant-loop g l = Becomes (g.K.Keeper.tables l.fn.keeper) (g.K.Keeper.tables l.keeper) (BindsUpTo l.fleet (option_map key_of l.after))
