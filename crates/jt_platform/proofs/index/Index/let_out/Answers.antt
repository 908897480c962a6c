use Rattle.std.proofs.Common.{refl, subst}
use Rattle.jt_value.specs.Sameness.{key_of}
use Rattle.jt_platform.specs.Index.{Indexed, LetsOut}
use Rattle.jt_platform.proofs.Places.{ForgetsLive, lets_out}
use Rattle.jt_platform.proofs.index.Index.let_out.Goals as goal

pub returns : goal.returns
returns c =
    let inside = c.self.inside in
    let key = key_of c.args.phone.now in
    let old : Indexed = record { holders = inside.holders; lives = inside.lives; closes = inside.closes } in
    let new : Indexed = record { holders = inside.holders; lives = c.forget.new.self; closes = inside.closes } in
    subst (λ x. LetsOut x new c.args.session key) c.self.view_is
    (lets_out old new c.args.session key refl (subst (ForgetsLive old new c.args.session) c.digits.ensures (λ other s. c.forget.ensures (s, other))) refl)
