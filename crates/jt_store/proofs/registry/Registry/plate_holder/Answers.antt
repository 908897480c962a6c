use Rattle.std.proofs.Common.{subst}
use Rattle.jt_store.specs.Memory.{under}
use Rattle.jt_store.specs.Tables.{AreNamedOnce}
use Rattle.jt_store.proofs.Registering.{named_once}
use Rattle.jt_store.proofs.registry.Registry.plate_holder.Goals as goal

pub returns-clause-names : goal.returns-clause-names
returns-clause-names c = subst (λ pairs. AreNamedOnce (under pairs)) c.self.view_is (named_once _ _ _ c.self.invariant)
