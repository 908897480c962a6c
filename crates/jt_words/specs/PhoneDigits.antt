-- Phones as decimal digits: this project's own form. To be believed.
use Rattle.std.specs.Prelude.{ℕ, ◌==◌, Bool, if◌then◌else◌, List, length, Option, Some, None, is_none, Result, Ok, Err}
use Rattle.hex.specs.Hex.{decode_sized}
use Rattle.jt_value.specs.Phone.{field_len, digits_of, first_bad}
use Rattle.jt_value.specs.declared.phone.Edition.{Edition}
use Rattle.jt_value.specs.declared.phone.Edition.TheVariants.{E2013, E2019}
use Rattle.jt_value.specs.declared.phone.Phone.{Phone}
use Rattle.jt_words.specs.declared.phone_digits.TheConstants.{DIGITS_IN_2013, DIGITS_IN_2019}

-- the octets of an answer that pass a test
abbrev pub some_of : {E : Type 0} → (List ℕ → Bool) → Result (List ℕ) E → Option (List ℕ)
some_of test (Ok octets) = if test octets then Some octets else None
some_of test (Err error) = None

-- the phone whose field these octets are
abbrev pub phone_of : Edition → Option (List ℕ) → Option Phone
phone_of edition None = None
phone_of edition (Some field) = Some (record { edition = edition; digits = digits_of edition field })

-- a phone of this edition, written as the digits of its field: decimal digits, twelve in 2013 and twenty in 2019
unfoldable pub phone_in : Edition → List ℕ → Option Phone
phone_in edition text = phone_of edition (some_of (λ field. is_none (first_bad field)) (decode_sized text (field_len edition)))

-- a phone of the edition that the number of digits tells: of 2013 where it is written in twelve, of 2019 where in twenty
abbrev pub phone_with_digits : List ℕ → Option Phone
phone_with_digits text =
    if length text == DIGITS_IN_2013 then phone_in E2013 text
    else if length text == DIGITS_IN_2019 then phone_in E2019 text
    else None
