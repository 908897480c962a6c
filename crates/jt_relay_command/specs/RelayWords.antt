-- The words of `relay`: this project's own. To be believed.
use Rattle.std.specs.Prelude.{◌≡◌, ℕ, List, ◌∷◌, codes, Some}
use Rattle.jt_value.specs.declared.phone.Phone.{Phone}
use Rattle.jt_words.specs.OptionWords.{IsOption}
use Rattle.jt_words.specs.PhoneDigits.{phone_with_digits}

-- `relay`, then the phone, in twelve digits where it is one of 2013 and in twenty where it is one of 2019
pub record AreWords (phone : Phone) (words : List (List ℕ)) : Type 0 where
  pub option : List (List ℕ)
  pub digits : List ℕ
  pub command : words ≡ codes "relay" ∷ option
  pub value : IsOption (codes "phone") digits option
  pub tells : phone_with_digits digits ≡ Some phone
