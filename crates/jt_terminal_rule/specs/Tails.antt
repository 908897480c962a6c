-- The tail of a terminal's authentications. To be believed.
use Rattle.std.specs.Prelude.{◌≡◌, Option, None, IsSomeAnd}
use Rattle.jt_value.specs.declared.phone.Edition.{Edition}
use Rattle.jt_value.specs.declared.phone.Edition.TheVariants.{E2013, E2019}
use Rattle.jt_register.specs.Registration.{auth_tail}
use Rattle.jt_register.specs.declared.auth.AuthTail.{AuthTail}

-- a tail in 2019 alone
abbrev pub IsTail : Edition → Option AuthTail → Type 0
IsTail E2013 tail = tail ≡ None
IsTail E2019 tail = IsSomeAnd tail auth_tail.Fits
