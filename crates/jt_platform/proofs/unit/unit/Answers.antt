use Rattle.std.proofs.Common.{refl, ◌∙◌}
use Rattle.jt_value.specs.Sameness.{key_of}
use Rattle.jt_platform.proofs.Storing.{anew_done}
use Rattle.jt_platform.proofs.unit.unit.Goals as goal

pub returns-in-Ok-None-clause-done : goal.returns-in-Ok-None-clause-done
returns-in-Ok-None-clause-done g c =
    anew_done (g.P.Keeper.tables c.args.keeper.now) (g.P.Keeper.tables c.last.new.self) (g.P.Keeper.tables c.repeated.new.keeper) (g.P.Keeper.tables c.store.new.keeper)
    (g.P.Keeper.limit c.args.keeper.now) (g.P.Keeper.limit c.repeated.new.keeper) (key_of c.args.phone.now) c.args.serial c.args.id c.in-Back.anew c.args.body.now c.as_slice.result.now c.args.body.now
    c.in-Ok.last c.in-Back.candidate c.in-Ok-None.field-0 c.store.result
    c.in-Ok.ensures.answer.0 c.in-Ok.ensures.answer.1 c.in-Ok-None.ensures.answer.0 c.in-Ok-None.ensures.answer.1 c.in-Ok-None.field-0-is c.as_slice.ensures
    (c.repeated.ensures.limit ∙ c.last.ensures.limit) refl c.in-Back.ensures.place c.store.ensures.done
