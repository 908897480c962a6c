use Rattle.dewfelt_keeper.proofs.Calls.{listed_still}
use Rattle.dewfelt_keeper.proofs.applying.settle.Goals as goal

pub returns-clause-listed : goal.returns-clause-listed
returns-clause-listed g c =
    listed_still _ _ (g.K.Keeper.tables c.forget_others.new.keeper) _ c.forget_others.ensures.listed c.register_bound.ensures.stays
