use Rattle.std.proofs.Common.{◌≡◌, length, refl, ◌∙◌, subst}
use Rattle.jt_store.specs.Vaults.{accepted_count}
use Rattle.jt_play.specs.Holding.{recorded_in}
use Rattle.jt_play.specs.Playing.{Play}
use Rattle.jt_play.specs.Scripts.{at_most_u64}
use Rattle.jt_play.proofs.stage.Stage.counts.Goals as goal

pub returns-clause-counts : goal.returns-clause-counts
returns-clause-counts c =
    let counts = c.counts.ensures.counts in
    let told = c.counts.ensures.told in
    subst (λ (p : Play). (c.counts.result.0 ≡ at_most_u64 (length p.held.recorded)) × (c.counts.result.1 ≡ at_most_u64 (accepted_count p.held))) c.self.view_is (counts.0 ∙ told.recorded, counts.1 ∙ told.accepted)

pub returns-clause-held : goal.returns-clause-held
returns-clause-held c = subst (λ (p : Play). p.held.recorded ≡ recorded_in p) c.self.view_is refl
