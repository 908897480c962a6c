-- The line of a refusal: this project's texts. To be believed.
use Rattle.std.specs.Prelude.{ℕ, List, [], ◌++◌, codes}
use Rattle.std.specs.Fmt.{decimal}
use Rattle.jt_value.specs.declared.refusal.Refusal.{Refusal}
use Rattle.jt_value.specs.declared.refusal.Why.{Why}
use Rattle.jt_value.specs.declared.refusal.Why.TheVariants.{Stray, EmptyFrame, TooLong, BadEscape, TooShort, CheckMismatch, Encrypted, LengthMismatch, PhoneDigit, BadPacketNumber, Truncated, Trailing, BadCount}
use Rattle.jt_text.specs.Values.{byte_digits}

-- a reason's name
abbrev pub why_name : Why → List ℕ
why_name Stray = codes "Stray"
why_name EmptyFrame = codes "EmptyFrame"
why_name TooLong = codes "TooLong"
why_name BadEscape = codes "BadEscape"
why_name TooShort = codes "TooShort"
why_name (CheckMismatch computed found) = codes "CheckMismatch"
why_name Encrypted = codes "Encrypted"
why_name (LengthMismatch declared actual) = codes "LengthMismatch"
why_name PhoneDigit = codes "PhoneDigit"
why_name BadPacketNumber = codes "BadPacketNumber"
why_name Truncated = codes "Truncated"
why_name Trailing = codes "Trailing"
why_name BadCount = codes "BadCount"

-- the two values that a reason compares, if it does: check octets in hexadecimal digits, lengths in decimal
abbrev pub why_values : Why → List ℕ
why_values (CheckMismatch computed found) = codes " computed=" ++ byte_digits computed ++ codes " found=" ++ byte_digits found
why_values (LengthMismatch declared actual) = codes " declared=" ++ decimal declared ++ codes " actual=" ++ decimal actual
why_values Stray = []
why_values EmptyFrame = []
why_values TooLong = []
why_values BadEscape = []
why_values TooShort = []
why_values Encrypted = []
why_values PhoneDigit = []
why_values BadPacketNumber = []
why_values Truncated = []
why_values Trailing = []
why_values BadCount = []

-- place, offset, reason
unfoldable pub refusal_line : Refusal → List ℕ
refusal_line refusal =
    decimal refusal.at ++ codes "+" ++ decimal refusal.inside ++ codes " refused " ++ why_name refusal.why ++ why_values refusal.why ++ codes "\n"
