use Rattle.std.specs.Option.{option_map}
use Rattle.jt_value.specs.Sameness.{key_of}
use Rattle.dewfelt_keeper.specs.Rules.{AreBehind, Becomes}
use Rattle.dewfelt_keeper.specs.Sweeps.{ForgetsUpTo}
use Rattle.dewfelt_keeper.proofs.applying.forget_others.Given as goal

abbrev pub invariant-loop : goal.invariant-loop
invariant-loop g l = record {
  upto : Becomes (g.K.Keeper.tables l.fn.keeper) (g.K.Keeper.tables l.keeper) (ForgetsUpTo l.fleet (option_map key_of l.after) l.fn.forgotten l.forgotten);
  behind : AreBehind l.fn.forgotten l.forgotten;
}
