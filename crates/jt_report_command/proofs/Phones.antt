-- What the values tell is one thing.
use Rattle.std.proofs.Common.{◌≡◌, ℕ, List, Option, Some, None, sym, ap, subst, ◌∙◌, is_none}
use Rattle.hex.specs.Hex.{decode_sized}
use Rattle.jt_value.specs.Phone.{field_len, first_bad, digits_of}
use Rattle.jt_value.specs.declared.phone.Edition.{Edition}
use Rattle.jt_value.specs.declared.phone.Phone.{Phone}
use Rattle.jt_report_command.specs.ReportWords.{ReportValues, TellsWords, Written as WrittenAs}
use Rattle.jt_report_command.specs.Telling.{TellsPlain}
use Rattle.jt_report_command.specs.Values.{edition_in}
use Rattle.jt_words.specs.PhoneDigits.{phone_in, phone_of, some_of}
use Rattle.jt_report_command.specs.declared.report_words.Plain.{Plain}

pub some_same : {A : Type 0} (one other : A) → Some one ≡ Some other → one ≡ other
some_same one other e = cc e

-- a phone that was read is of the edition in which it was read
from_some : (edition : Edition) (field : Option (List ℕ)) (phone : Phone) → phone_of edition field ≡ Some phone → phone.edition ≡ edition
from_some edition None phone is = absurd (cc is)
from_some edition (Some field) phone is = sym (ap (λ (p : Phone). p.edition) (some_same (record { edition = edition; digits = digits_of edition field }) phone is))

phone_edition : (edition : Edition) (digits : List ℕ) (phone : Phone) → phone_in edition digits ≡ Some phone → phone.edition ≡ edition
unfolding phone_in
phone_edition edition digits phone is =
    from_some edition (some_of (λ (field : List ℕ). is_none (first_bad field)) (decode_sized digits (field_len edition))) phone is

pub edition_same : (text : Option (List ℕ)) (edition : Edition) (digits : List ℕ) (phone : Phone) → Some edition ≡ edition_in text → Some phone ≡ phone_in edition digits
    → (edition_in text ≡ Some phone.edition) × (phone_in phone.edition digits ≡ Some phone)
edition_same text edition digits phone named read =
    let same : phone.edition ≡ edition = phone_edition edition digits phone (sym read) in (
      sym named ∙ ap (λ (e : Edition). Some e) (sym same),
      subst (λ (e : Edition). phone_in e digits ≡ Some phone) (sym same) (sym read),
    )

-- what is told without memory
abbrev pub plain_of : ReportValues → Plain
plain_of told = record { port = told.port; phone = told.phone; tries = told.tries }

pub plain_from : (written : WrittenAs) (told : ReportValues) → TellsWords written told → TellsPlain written (plain_of told)
plain_from written told t = record { port = t.port; edition = t.edition; phone = t.phone; tries = t.tries }

pub same_told : (host : List ℕ) (plain : Plain) (plate terminal : List ℕ) (told : ReportValues) → host ≡ told.host → plain ≡ plain_of told → plate ≡ told.plate → terminal ≡ told.terminal
    → ◌≡◌ {A = ReportValues} (record { host = host; port = plain.port; phone = plain.phone; plate = plate; terminal = terminal; tries = plain.tries }) told
same_told host plain plate terminal told h p q t = λ i. record { host = h i; port = (p i).port; phone = (p i).phone; plate = q i; terminal = t i; tries = (p i).tries }
