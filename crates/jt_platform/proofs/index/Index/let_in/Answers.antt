use Rattle.std.proofs.Common.{true, refl, sym, subst, ◌∙◌, ap}
use Rattle.jt_value.specs.Sameness.{key_of}
use Rattle.jt_platform.specs.Index.{Indexed, LetsIn, live_in}
use Rattle.jt_platform.proofs.Places.{SetsHolder, SetsLive, lets_in, lets_in_again}
use Rattle.jt_platform.proofs.index.Index.let_in.Goals as goal

pub returns-in-Ok-set : goal.returns-in-Ok-set
returns-in-Ok-set c =
    let inside = c.self.inside in
    let key = key_of c.args.phone.now in
    let old : Indexed = record { holders = inside.holders; lives = inside.lives; closes = inside.closes } in
    let new : Indexed = record { holders = c.set-then-not-was.new.self; lives = c.set.new.self; closes = inside.closes } in
    subst (λ x. LetsIn x new c.args.session key) c.self.view_is
    (lets_in old new c.args.session key (ap (λ x. live_in x key c.args.session) c.self.view_is ∙ sym c.is_live-was.ensures ∙ c.if-not-was.true) refl
    (subst (SetsLive old new c.args.session true) c.digits.ensures (λ other s. c.in-Ok.ensures.ok (s, other)))
    (subst (SetsHolder old new c.args.session) c.digits-then-not-was.ensures (λ other. c.in-Ok-set.ensures.ok other)))

pub returns-else-not-was : goal.returns-else-not-was
returns-else-not-was c =
    let inside = c.self.inside in
    let key = key_of c.args.phone.now in
    let old : Indexed = record { holders = inside.holders; lives = inside.lives; closes = inside.closes } in
    let new : Indexed = record { holders = inside.holders; lives = c.set.new.self; closes = inside.closes } in
    subst (λ x. LetsIn x new c.args.session key) c.self.view_is
    (lets_in_again old new c.args.session key (ap (λ x. live_in x key c.args.session) c.self.view_is ∙ sym c.is_live-was.ensures ∙ c.if-not-was.false) refl
    (subst (SetsLive old new c.args.session true) c.digits.ensures (λ other s. c.in-Ok.ensures.ok (s, other))) refl)
