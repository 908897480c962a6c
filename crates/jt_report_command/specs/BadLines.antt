-- The texts of bad lines of fixes: this project's own. To be believed.
use Rattle.std.specs.Prelude.{ℕ, List, [], ◌++◌, codes}
use Rattle.std.specs.Fmt.{decimal}
use Rattle.jt_value.specs.declared.refusal.Refusal.{Refusal}
use Rattle.jt_text.specs.Refusals.{refusal_line}
use Rattle.jt_report_command.specs.declared.line.FixLine.{FixLine}
use Rattle.jt_report_command.specs.declared.line.FixLine.TheVariants.{Passed, Fix, BadHex, Long, Refused}

-- the line of this number is not an even number of hexadecimal digits alone
unfoldable pub hex_line : ℕ → List ℕ
hex_line number = codes "line " ++ decimal number ++ codes " refused hex\n"

-- it is too many octets
unfoldable pub long_line : ℕ → List ℕ
long_line number = codes "line " ++ decimal number ++ codes " refused long\n"

-- it is no position, which is told as any refusal, with the number in place of its place
unfoldable pub no_position_line : ℕ → Refusal → List ℕ
no_position_line number refusal = codes "line " ++ refusal_line (record { at = number; inside = refusal.inside; why = refusal.why })

-- a line that is passed over, or a fix, has no text
abbrev pub bad_line_of : ℕ → FixLine → List ℕ
bad_line_of number Passed = []
bad_line_of number (Fix fix) = []
bad_line_of number BadHex = hex_line number
bad_line_of number Long = long_line number
bad_line_of number (Refused refusal) = no_position_line number refusal
