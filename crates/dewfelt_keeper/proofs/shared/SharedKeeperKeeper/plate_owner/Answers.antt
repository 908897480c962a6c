use Rattle.jt_store.specs.Tables.{Tables, IsOwner, plates}
use Rattle.jt_store_answers.proofs.Untelling.{reads}
use Rattle.dewfelt_keeper.proofs.shared.SharedKeeperKeeper.plate_owner.Goals as goal

pub returns-clause-answer : goal.returns-clause-answer
returns-clause-answer g c = reads c.answered.result c.answered.ensures.untold (λ (t : Tables) found. IsOwner plates t.registered c.args.plate.now found)
