use Rattle.std.specs.Option.{option_copied, option_map}
use Rattle.jt_value.specs.Sameness.{key_of}
use Rattle.jt_store.specs.Tables.{Tables, FindsNext}
use Rattle.jt_store_answers.proofs.Untelling.{reads}
use Rattle.jt_sql.proofs.adopted_keeper.AdoptedKeeperRegistrations.next_registered.Goals as goal

pub returns-clause-answer : goal.returns-clause-answer
returns-clause-answer g c = reads c.answered.result c.answered.ensures.untold (λ (t : Tables) found. FindsNext t.registered (option_map key_of (option_copied c.args.after)) found)
