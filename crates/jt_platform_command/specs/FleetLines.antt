-- What a line of a fleet says: this project's own forms. To be believed.
use Rattle.std.specs.Prelude.{ℕ, Bool, if◌then◌else◌, List, [], ◌∷◌, length, take, drop, codes, Result, Ok, Err, Option, Some, None}
use Rattle.std.specs.Str.{bytes_eq}
use Rattle.hex.specs.Hex.{decode_of}
use Rattle.jt_input.specs.Spelling.{is_passed}
use Rattle.jt_platform_command.specs.declared.line.FleetLine.{FleetLine}
use Rattle.jt_platform_command.specs.declared.line.FleetLine.TheVariants.{Passed, Secret, Plate, Terminal, Bad}

abbrev pub ok_of : {E : Type 0} → Result (List ℕ) E → Option (List ℕ)
ok_of (Ok octets) = Some octets
ok_of (Err error) = None

-- octets that are written as hexadecimal digits, of either case, two for each; there is at least one
abbrev pub octets_in : List ℕ → Option (List ℕ)
octets_in [] = None
octets_in (digit ∷ digits) = ok_of (decode_of (digit ∷ digits))

-- a secret may have no octets, and then it is written `-`
unfoldable pub secret_in : List ℕ → Option (List ℕ)
secret_in word = if bytes_eq word (codes "-") then Some [] else octets_in word

abbrev pub begins : List ℕ → List ℕ → Bool
begins front line = bytes_eq (take (length front) line) front

-- a line of this kind, if its octets are written as they must be
abbrev pub line_of : (List ℕ → FleetLine) → Option (List ℕ) → FleetLine
line_of kind None = Bad
line_of kind (Some octets) = kind octets

-- empty lines and comments are passed over; the other lines are `secret X`, `plate X` and `terminal X`
unfoldable pub said_by : List ℕ → FleetLine
said_by line =
    if is_passed line then Passed
    else if begins (codes "secret ") line then line_of Secret (secret_in (drop 7 line))
    else if begins (codes "plate ") line then line_of Plate (octets_in (drop 6 line))
    else if begins (codes "terminal ") line then line_of Terminal (octets_in (drop 9 line))
    else Bad
