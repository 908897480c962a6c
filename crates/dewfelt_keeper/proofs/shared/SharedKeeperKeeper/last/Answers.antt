use Rattle.std.proofs.Common.{◌≡◌}
use Rattle.jt_value.specs.Sameness.{key_of}
use Rattle.jt_store.specs.Tables.{Tables, last_of}
use Rattle.jt_store_answers.proofs.Untelling.{reads}
use Rattle.dewfelt_keeper.proofs.shared.SharedKeeperKeeper.last.Goals as goal

pub returns-clause-answer : goal.returns-clause-answer
returns-clause-answer g c = reads c.answered.result c.answered.ensures.untold (λ (t : Tables) last. last ≡ last_of (t.rows (key_of c.args.phone.now)))
