-- What a line of fixes says: this project's own forms. To be believed.
use Rattle.std.specs.Prelude.{◌≡◌, ◌≤◌, ◌<◌, ℕ, Bool, true, false, List, length, Result, Ok, Err}
use Rattle.hex.specs.Hex.{decode_of}
use Rattle.hex.specs.declared.error.FromHexError.{FromHexError}
use Rattle.jt_input.specs.Spelling.{is_passed}
use Rattle.jt_position.specs.Fixes.{IsFix, fix_limit}
use Rattle.jt_position.specs.Positions.{position}
use Rattle.jt_report_command.specs.declared.line.FixLine.{FixLine}
use Rattle.jt_report_command.specs.declared.line.FixLine.TheVariants.{Passed, Fix, BadHex, Long, Refused}

-- octets are a fix, or too many, or no position, for this reason
abbrev pub SaysOfOctets : List ℕ → FixLine → Type 0
SaysOfOctets octets Passed = ⊥
SaysOfOctets octets (Fix fix) = (fix ≡ octets) × IsFix octets
SaysOfOctets octets BadHex = ⊥
SaysOfOctets octets Long = fix_limit < length octets
SaysOfOctets octets (Refused refusal) = (length octets ≤ fix_limit) × position.Refuses octets 0 refusal

-- the octets that pairs of hexadecimal digits write, or anything else
abbrev pub SaysOfDigits : Result (List ℕ) FromHexError → FixLine → Type 0
SaysOfDigits (Ok octets) said = SaysOfOctets octets said
SaysOfDigits (Err error) said = said ≡ BadHex

abbrev pub SaysIf : Bool → List ℕ → FixLine → Type 0
SaysIf true line said = said ≡ Passed
SaysIf false line said = SaysOfDigits (decode_of line) said

-- empty lines and comments are passed over; each other line is the hexadecimal digits of a fix, of either case, and no more
abbrev pub Says : List ℕ → FixLine → Type 0
Says line said = SaysIf (is_passed line) line said
