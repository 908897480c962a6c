-- What words of `report` tell is good.
use Rattle.std.proofs.Math.Dec.{leb}
use Rattle.std.proofs.lemmas.Bool.{leb-true}
use Rattle.std.proofs.Common.{◌≡◌, ◌≤◌, ◌&&◌, if◌then◌else◌, nat_le, ℕ, Bool, true, false, List, length, Option, Some, None, Result, Ok, Err, is_none, refl, ap, subst, ◌∙◌}
use Rattle.hex.specs.Hex.{decode_of, decode_sized}
use Rattle.jt_header.specs.Content.{IsPhone}
use Rattle.jt_value.specs.Phone.{digits_of, field_len, first_bad}
use Rattle.jt_value.specs.declared.phone.Edition.{Edition}
use Rattle.jt_value.specs.declared.phone.Edition.TheVariants.{E2013, E2019}
use Rattle.jt_value.specs.declared.phone.Phone.{Phone}
use Rattle.jt_register.specs.Registration.{terminal_len}
use Rattle.jt_report_command.specs.ReportWords.{AreSpoken, ReportValues}
use Rattle.jt_report_command.specs.Values.{octets_in, plate_most, terminal_most}
use Rattle.jt_words.specs.PhoneDigits.{phone_in, phone_of, some_of}

first_holds : (a b : Bool) → (a && b) ≡ true → a ≡ true
first_holds true b h = refl
first_holds false b h = h

then_holds : (a b : Bool) → (a && b) ≡ true → b ≡ true
then_holds true b h = h
then_holds false b h = absurd (cc h)

-- an answer that passed a test
passed : {E : Type 0} (test : List ℕ → Bool) (answer : Result (List ℕ) E) (octets : List ℕ) → some_of test answer ≡ Some octets → test octets ≡ true
passed test (Err error) octets is = absurd (cc is)
passed test (Ok found) octets is = by_test (test found) refl is
  where
    by_test : (b : Bool) → test found ≡ b → (if b then Some found else None) ≡ Some octets → test octets ≡ true
    by_test true holds e = let same : found ≡ octets = cc e in subst (λ (o : List ℕ). test o ≡ true) same holds
    by_test false holds e = absurd (cc e)

-- octets that were read are not too many
few : (most : ℕ) (text octets : List ℕ) → octets_in most text ≡ Some octets → length octets ≤ most
unfolding octets_in
few most text octets is =
    let both = passed (λ octets. nat_le 1 (length octets) && nat_le (length octets) most) (decode_of text) octets is in
    leb-true (length octets) most (then_holds (leb 1 (length octets)) (leb (length octets) most) both)

no_first : (bad : Option ℕ) → is_none bad ≡ true → bad ≡ None
no_first None e = refl
no_first (Some place) e = absurd (cc e)

-- a field with a digit in each half octet is a phone's
from_field : (edition : Edition) (field : List ℕ) → length (digits_of edition field) ≡ 10 → first_bad field ≡ None → IsPhone (record { edition = edition; digits = digits_of edition field })
from_field E2013 field ten good = record { len = ten; padded = refl; decimal = good }
from_field E2019 field ten good = record { len = ten; padded = refl; decimal = good }

from_some : (edition : Edition) (answer : Option (List ℕ)) (phone : Phone) → ((field : List ℕ) → answer ≡ Some field → first_bad field ≡ None) → phone_of edition answer ≡ Some phone
    → length phone.digits ≡ 10 → IsPhone phone
from_some edition None phone good is ten = absurd (cc is)
from_some edition (Some field) phone good is ten =
    let same : ◌≡◌ {A = Phone} (record { edition = edition; digits = digits_of edition field }) phone = cc is in
    subst IsPhone same (from_field edition field (ap (λ (p : Phone). length p.digits) same ∙ ten) (good field refl))

is_phone : (edition : Edition) (text : List ℕ) (phone : Phone) → phone_in edition text ≡ Some phone → length phone.digits ≡ 10 → IsPhone phone
unfolding phone_in
is_phone edition text phone is ten =
    from_some edition (some_of (λ field. is_none (first_bad field)) (decode_sized text (field_len edition))) phone
    (λ field found. no_first (first_bad field) (passed (λ field. is_none (first_bad field)) (decode_sized text (field_len edition)) field found)) is ten

same_most : (edition : Edition) → terminal_most edition ≡ terminal_len edition
same_most E2013 = refl
same_most E2019 = refl

pub spoken_phone : (told : ReportValues) → AreSpoken told → length told.phone.digits ≡ 10 → IsPhone told.phone
spoken_phone told spoken ten = is_phone told.phone.edition spoken.1.written.phone told.phone spoken.1.tells.phone ten

pub spoken_plate : (told : ReportValues) → AreSpoken told → length told.plate ≤ 255
spoken_plate told spoken = few plate_most spoken.1.written.plate told.plate spoken.1.tells.plate

pub spoken_terminal : (told : ReportValues) → AreSpoken told → length told.terminal ≤ terminal_len told.phone.edition
spoken_terminal told spoken =
    subst (λ (most : ℕ). length told.terminal ≤ most) (same_most told.phone.edition) (few (terminal_most told.phone.edition) spoken.1.written.terminal told.terminal spoken.1.tells.terminal)

pub spoken_tries : (told : ReportValues) → AreSpoken told → 1 ≤ told.tries
spoken_tries told spoken = spoken.1.tells.tries.1
