use Rattle.std.proofs.Common.{◌∙◌, ap, subst, sym}
use Rattle.jt_store.specs.Memory.{under}
use Rattle.jt_store.specs.Tables.{AreNamedOnce}
use Rattle.jt_store.proofs.Registering.{named_once, none_at}
use Rattle.jt_store.proofs.registry.Registry.next.Goals as goal

pub returns-in-Some-clause-names : goal.returns-in-Some-clause-names
returns-in-Some-clause-names c = subst (λ pairs. AreNamedOnce (under pairs)) c.self.view_is (named_once _ _ _ c.self.invariant)

pub returns-in-None-clause-names : goal.returns-in-None-clause-names
returns-in-None-clause-names c = subst (λ pairs. AreNamedOnce (under pairs)) c.self.view_is (named_once _ _ _ c.self.invariant)

pub returns-in-None-clause-none : goal.returns-in-None-clause-none
returns-in-None-clause-none c =
    none_at c.first.result _ _ (λ none q behind. ap (λ pairs. under pairs q) (sym c.self.view_is) ∙ none q) c.first.ensures.none
