-- The values of the program as those that the definitions speak of.
use Rattle.std.specs.Prelude.{◌≡◌, ◌≤◌, Some, string_bytes, option_copied}
use Rattle.std.specs.Fmt.{decimal}
use Rattle.jt_value.specs.declared.limits.TheConstants.{PORT_LIMIT}
use Rattle.jt_report_command.specs.ReportWords.{ReportValues, Written as WrittenAs}
use Rattle.jt_report_command.specs.Values.{edition_in}
use Rattle.jt_words.specs.PhoneDigits.{phone_in}
use Rattle.jt_report_command.specs.declared.report_words.ReportWords.{ReportWords}
use Rattle.jt_report_command.specs.declared.report_words.Written.{Written}
use Rattle.jt_report_command.specs.declared.report_words.Plain.{Plain}

-- what the answer tells
abbrev pub values_in_words : ReportWords → ReportValues
values_in_words words = record { host = string_bytes words.host; port = words.port; phone = words.phone; plate = words.plate; terminal = words.terminal; tries = words.tries }

-- the values as lists of octets
abbrev pub written_of : Written → WrittenAs
written_of written = record {
  host = written.host.now;
  port = written.port.now;
  phone = written.phone.now;
  plate = written.plate.now;
  terminal = written.terminal.now;
  tries = written.tries.now;
  edition = option_copied written.edition;
}

-- what those values tell that take no memory
pub record TellsPlain (written : WrittenAs) (plain : Plain) : Type 0 where
  pub port : (written.port ≡ decimal plain.port) × (1 ≤ plain.port) × (plain.port ≤ PORT_LIMIT)
  pub edition : edition_in written.edition ≡ Some plain.phone.edition
  pub phone : phone_in plain.phone.edition written.phone ≡ Some plain.phone
  pub tries : (written.tries ≡ decimal plain.tries) × (1 ≤ plain.tries) × (plain.tries ≤ 100)
