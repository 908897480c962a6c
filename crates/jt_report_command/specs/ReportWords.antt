-- The words of `report`: this project's own. To be believed.
use Rattle.std.specs.Prelude.{◌≡◌, ◌≤◌, ℕ, List, [], ◌∷◌, codes, Option, Some, IsTrue, option_to_list}
use Rattle.std.specs.Fmt.{decimal}
use Rattle.jt_value.specs.declared.limits.TheConstants.{PORT_LIMIT}
use Rattle.jt_value.specs.declared.phone.Phone.{Phone}
use Rattle.jt_report_command.specs.Options.{AreOptions, values_of}
use Rattle.jt_report_command.specs.Values.{is_host, edition_in, octets_in, plate_most, terminal_most}
use Rattle.jt_words.specs.PhoneDigits.{phone_in}

-- the values of the options, as they are written
pub record Written : Type 0 where
  pub host : List ℕ
  pub port : List ℕ
  pub phone : List ℕ
  pub plate : List ℕ
  pub terminal : List ℕ
  pub tries : List ℕ
  pub edition : Option (List ℕ)

-- The words are options in any order. Each name has one value, but the edition may have none.
pub record AreWritten (written : Written) (words : List (List ℕ)) : Type 0 where
  pub options : List (List ℕ × List ℕ)
  pub whole : AreOptions options words
  pub host : values_of (codes "host") options ≡ written.host ∷ []
  pub port : values_of (codes "port") options ≡ written.port ∷ []
  pub phone : values_of (codes "phone") options ≡ written.phone ∷ []
  pub plate : values_of (codes "plate") options ≡ written.plate ∷ []
  pub terminal : values_of (codes "terminal") options ≡ written.terminal ∷ []
  pub tries : values_of (codes "tries") options ≡ written.tries ∷ []
  pub edition : values_of (codes "edition") options ≡ option_to_list written.edition

-- what `report` is told
pub record ReportValues : Type 0 where
  pub host : List ℕ
  pub port : ℕ
  pub phone : Phone
  pub plate : List ℕ
  pub terminal : List ℕ
  pub tries : ℕ

-- What the values tell. Numbers are written in decimal digits, without a sign and without a leading zero.
pub record TellsWords (written : Written) (told : ReportValues) : Type 0 where
  pub host : (written.host ≡ told.host) × IsTrue (is_host told.host)
  pub port : (written.port ≡ decimal told.port) × (1 ≤ told.port) × (told.port ≤ PORT_LIMIT)
  pub edition : edition_in written.edition ≡ Some told.phone.edition
  pub phone : phone_in told.phone.edition written.phone ≡ Some told.phone
  pub plate : octets_in plate_most written.plate ≡ Some told.plate
  pub terminal : octets_in (terminal_most told.phone.edition) written.terminal ≡ Some told.terminal
  pub tries : (written.tries ≡ decimal told.tries) × (1 ≤ told.tries) × (told.tries ≤ 100)

-- `report`, and then the options with these values
pub record AreCommand (written : Written) (words : List (List ℕ)) : Type 0 where
  pub options : List (List ℕ)
  pub command : words ≡ codes "report" ∷ options
  pub values : AreWritten written options

-- the words of `report` that tell this
pub record AreWords (told : ReportValues) (words : List (List ℕ)) : Type 0 where
  pub written : Written
  pub words_are : AreCommand written words
  pub tells : TellsWords written told

-- there are words of `report` that tell this
abbrev pub AreSpoken : ReportValues → Type 0
AreSpoken told = (words : List (List ℕ)) × AreWords told words
