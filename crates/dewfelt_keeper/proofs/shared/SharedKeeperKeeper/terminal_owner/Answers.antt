use Rattle.jt_store.specs.Tables.{Tables, IsOwner, terminals}
use Rattle.jt_store_answers.proofs.Untelling.{reads}
use Rattle.dewfelt_keeper.proofs.shared.SharedKeeperKeeper.terminal_owner.Goals as goal

pub returns-clause-answer : goal.returns-clause-answer
returns-clause-answer g c = reads c.answered.result c.answered.ensures.untold (λ (t : Tables) found. IsOwner terminals t.registered c.args.terminal.now found)
