use Rattle.std.proofs.Common.{sym, ap, ◌∙◌}
use Rattle.std.proofs.lemmas.Bool.{false≢true}
use Rattle.jt_value.specs.Sameness.{key_of}
use Rattle.jt_platform.specs.History.{newest, live}
use Rattle.jt_platform.specs.Hub.{opening_of}
use Rattle.jt_platform.proofs.Closing.{closed_is_dead}
use Rattle.jt_platform.proofs.hub.Hub.holds.Goals as goal

pub returns-then-is_closed : goal.returns-then-is_closed
returns-then-is_closed g c =
    let inside = c.self.inside in
    let dead = closed_is_dead (opening_of (g.P.Keeper.tables inside.start.value) (g.P.Keeper.limit inside.start.value) inside.fleet inside.secret) (key_of c.args.phone.now) (newest inside.log.entries) c.args.session c.self.invariant.2 (sym c.is_closed.ensures ∙ c.if-is_closed.true) in (
      λ e. absurd (false≢true e),
      λ x. absurd (false≢true (sym dead ∙ (ap (λ v. live (key_of c.args.phone.now) (newest v.history) c.args.session) c.self.view_is ∙ x.0))),
    )
