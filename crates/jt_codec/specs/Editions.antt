-- Which edition it is, as a test. To be believed.
use Rattle.std.specs.Prelude.{Bool, true, false}
use Rattle.jt_value.specs.declared.phone.Edition.{Edition}
use Rattle.jt_value.specs.declared.phone.Edition.TheVariants.{E2013, E2019}

abbrev pub is_2013 : Edition → Bool
is_2013 E2013 = true
is_2013 E2019 = false

abbrev pub is_2019 : Edition → Bool
is_2019 E2013 = false
is_2019 E2019 = true
