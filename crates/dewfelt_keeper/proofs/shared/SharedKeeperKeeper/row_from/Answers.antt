use Rattle.jt_value.specs.Sameness.{key_of}
use Rattle.jt_store.specs.Tables.{Tables, FindsFrom}
use Rattle.jt_store_answers.proofs.Untelling.{reads}
use Rattle.dewfelt_keeper.proofs.shared.SharedKeeperKeeper.row_from.Goals as goal

pub returns-clause-answer : goal.returns-clause-answer
returns-clause-answer g c = reads c.answered.result c.answered.ensures.untold (λ (t : Tables) found. FindsFrom (t.rows (key_of c.args.phone.now)) c.args.number found)
