use Rattle.std.proofs.Common.{sym, subst, ap, ◌∙◌}
use Rattle.jt_value.specs.Sameness.{key_of}
use Rattle.jt_platform.specs.Index.{Indexed, Keeps, live_in}
use Rattle.jt_platform.proofs.Places.{ForgetsLive, forgets_live}
use Rattle.jt_platform.proofs.index.Index.forget_live.Goals as goal

pub returns-then-not-is_live : goal.returns-then-not-is_live
returns-then-not-is_live c =
    let inside = c.self.inside in
    let key = key_of c.args.phone.now in
    let old : Indexed = record { holders = inside.holders; lives = inside.lives; closes = inside.closes } in
    let new : Indexed = record { holders = inside.holders; lives = c.forget.new.self; closes = inside.closes } in
    subst (λ x. Keeps x new) c.self.view_is
    (forgets_live old c.forget.new.self c.args.session key (ap (λ x. live_in x key c.args.session) c.self.view_is ∙ sym c.is_live.ensures ∙ c.if-not-is_live.true)
    (subst (ForgetsLive old new c.args.session) c.digits.ensures (λ other s. c.forget.ensures (s, other))))
