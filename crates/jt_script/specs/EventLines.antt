-- What a line of a script says: this project's own forms. To be believed.
use Rattle.std.specs.Prelude.{ℕ, ◌==◌, nat_le, if◌then◌else◌, Bool, ◌&&◌, List, [], ◌∷◌, length, codes, Option, Some, None, Result, Ok, Err}
use Rattle.std.specs.Fmt.{decimal}
use Rattle.std.specs.List.{slice_split}
use Rattle.std.specs.Option.{option_map, option_and_then}
use Rattle.std.specs.Str.{bytes_eq}
use Rattle.std.specs.Str.Parse.{digits_value}
use Rattle.hex.specs.Hex.{decode_of}
use Rattle.hex.specs.declared.error.FromHexError.{FromHexError}
use Rattle.jt_value.specs.declared.limits.TheConstants.{BODY_LIMIT}
use Rattle.jt_value.specs.declared.phone.Edition.{Edition}
use Rattle.jt_value.specs.declared.phone.Edition.TheVariants.{E2013, E2019}
use Rattle.jt_position.specs.Views.{is_position}
use Rattle.jt_input.specs.Spelling.{is_passed}
use Rattle.jt_input.specs.Text.{is_within}
use Rattle.jt_script.specs.declared.world_event.WorldEvent.{WorldEvent}
use Rattle.jt_script.specs.declared.world_event.WorldEvent.TheVariants.{Fix, Raw, Open, Up, Down, Tick, Beat, Run, Cut, Lost, RestartTerminal, RestartPlatform, RestartAs}
use Rattle.jt_script.specs.declared.reading.EventLine.{EventLine}
use Rattle.jt_script.specs.declared.reading.EventLine.TheVariants.{Passed, Event, Bad}

-- ---- words

-- The words of a line, which one space each separates. There is an empty word where two spaces follow one another, and where a
-- space begins or ends the line.
abbrev pub words : List ℕ → List (List ℕ)
words line = slice_split (λ octet. octet == 32) line

-- the number, if it is at most so great, and its decimal is this word
abbrev pub written : ℕ → List ℕ → ℕ → Option ℕ
written most word number = if bytes_eq word (decimal number) && nat_le number most then Some number else None

-- the number up to the greatest that a word writes in decimal digits, without a sign and without a leading zero
unfoldable pub number_in : ℕ → List ℕ → Option ℕ
number_in most word = written most word (digits_value 10 word)

-- a number of octets up to 1,000,000,000, or all of them
unfoldable pub amount_in : List ℕ → Option (Option ℕ)
amount_in word = if bytes_eq word (codes "all") then Some None else option_map (λ count. Some count) (number_in 1000000000 word)

unfoldable pub edition_in : List ℕ → Option Edition
edition_in word =
    if bytes_eq word (codes "2013") then Some E2013
    else if bytes_eq word (codes "2019") then Some E2019
    else None

abbrev pub if_decoded : Result (List ℕ) FromHexError → Option (List ℕ)
if_decoded (Ok octets) = Some octets
if_decoded (Err error) = None

-- the octets that pairs of hexadecimal digits write, of either case
unfoldable pub octets_in : List ℕ → Option (List ℕ)
octets_in word = if_decoded (decode_of word)

-- octets that are a fix: a position report's body of at most 1,023 octets
unfoldable pub fix_if : List ℕ → Option (List ℕ)
fix_if octets = if nat_le (length octets) BODY_LIMIT && is_position octets then Some octets else None

-- the fix whose octets a word writes so
unfoldable pub fix_in : List ℕ → Option (List ℕ)
fix_in word = option_and_then fix_if (octets_in word)

-- ---- lines

-- a line of one word
unfoldable pub event_of_one : List ℕ → Option WorldEvent
event_of_one word =
    if bytes_eq word (codes "open") then Some Open
    else if bytes_eq word (codes "run") then Some Run
    else if bytes_eq word (codes "lost") then Some Lost
    else None

-- who starts anew
unfoldable pub restart_of : List ℕ → Option WorldEvent
restart_of value =
    if bytes_eq value (codes "terminal") then Some RestartTerminal
    else if bytes_eq value (codes "platform") then Some RestartPlatform
    else None

-- a word and its value, which takes no memory
unfoldable pub event_of_valued : List ℕ → List ℕ → Option WorldEvent
event_of_valued word value =
    if bytes_eq word (codes "fix") then option_map Fix (number_in 89999999 value)
    else if bytes_eq word (codes "down") then option_map Down (amount_in value)
    else if bytes_eq word (codes "tick") then option_map Tick (number_in 4294967295 value)
    else if bytes_eq word (codes "beat") then option_map Beat (number_in 100000 value)
    else if bytes_eq word (codes "cut") then option_map Cut (number_in 4294967295 value)
    else if bytes_eq word (codes "restart") then restart_of value
    else None

-- a line of two words
unfoldable pub event_of_two : List ℕ → List ℕ → Option WorldEvent
event_of_two word value = if bytes_eq word (codes "raw") then option_map Raw (fix_in value) else event_of_valued word value

-- the number of a line of communication, and how many of its octets
unfoldable pub up_of : List ℕ → List ℕ → Option WorldEvent
up_of line count = option_and_then (λ number. option_map (λ octets. Up number octets) (amount_in count)) (number_in 4294967295 line)

-- a line of three words
unfoldable pub event_of_three : List ℕ → List ℕ → List ℕ → Option WorldEvent
event_of_three word second third =
    if bytes_eq word (codes "up") then up_of second third
    else if bytes_eq word (codes "restart") && bytes_eq second (codes "terminal") then option_map RestartAs (edition_in third)
    else None

-- the event that a line of these words is, if it is any
abbrev pub event_of : List (List ℕ) → Option WorldEvent
event_of [] = None
event_of (word ∷ []) = event_of_one word
event_of (word ∷ second ∷ []) = event_of_two word second
event_of (word ∷ second ∷ third ∷ []) = event_of_three word second third
event_of (word ∷ second ∷ third ∷ fourth ∷ more) = None

-- a line that is no event is bad
abbrev pub event_or_bad : Option WorldEvent → EventLine
event_or_bad None = Bad
event_or_bad (Some event) = Event event

-- what a line says
unfoldable pub says : List ℕ → EventLine
says line = if is_passed line then Passed else event_or_bad (event_of (words line))

-- what the line of this number says, and one beyond the limits is bad whatever it says
unfoldable pub meaning : ℕ → List ℕ → EventLine
meaning number line = if is_within number line then says line else Bad
