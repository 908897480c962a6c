use Rattle.std.proofs.Common.{refl, subst}
use Rattle.jt_platform.specs.Index.{Keeps}
use Rattle.jt_platform.proofs.index.Index.place_auth.Goals as goal

pub returns-in_err-place-clause-keeps : goal.returns-in_err-place-clause-keeps
returns-in_err-place-clause-keeps c =
    subst (λ old. Keeps old (record { holders = c.place.new.self; lives = c.self.inside.lives; closes = c.self.inside.closes })) c.self.view_is
    (record { closes = λ s. refl; lives = λ key s. refl; holders = λ key. c.place.ensures.same key; places = λ s there. there })

pub returns-clause-keeps : goal.returns-clause-keeps
returns-clause-keeps c =
    subst (λ old. Keeps old (record { holders = c.place.new.self; lives = c.place-2.new.self; closes = c.self.inside.closes })) c.self.view_is
    (record { closes = λ s. refl; lives = λ key s. c.place-2.ensures.same (s, key); holders = λ key. c.place.ensures.same key; places = λ s there. there })
