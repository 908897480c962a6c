use Rattle.jt_store.specs.Vaults.{IsLoaded}
use Rattle.jt_store_answers.proofs.Untelling.{reads}
use Rattle.jt_sql.proofs.adopted_vault.AdoptedVaultVault.load.Goals as goal

pub returns-clause-answer : goal.returns-clause-answer
returns-clause-answer g c = reads c.answered.result c.answered.ensures.untold IsLoaded
