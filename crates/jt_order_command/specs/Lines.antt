-- What a line of a script of orders says: this project's own forms. To be believed.
use Rattle.std.specs.Prelude.{ℕ, ◌==◌, nat_le, if◌then◌else◌, Bool, ◌&&◌, List, [], ◌∷◌, length, take, drop, codes, is_ok, Option, Some, None}
use Rattle.std.specs.Int.{w16, from_be_bytes}
use Rattle.std.specs.Option.{option_and_then}
use Rattle.std.specs.Str.{bytes_eq}
use Rattle.jt_value.specs.declared.limits.TheConstants.{BODY_LIMIT}
use Rattle.jt_value.specs.declared.phone.Edition.TheVariants.{E2013}
use Rattle.jt_codec.specs.Bodies.{body}
use Rattle.jt_input.specs.Text.{is_within}
use Rattle.jt_script.specs.EventLines.{octets_in, says, words}
use Rattle.jt_script.specs.declared.reading.EventLine.{EventLine}
use Rattle.jt_script.specs.declared.reading.EventLine.TheVariants as script
use Rattle.jt_script.specs.declared.world_event.WorldEvent.{WorldEvent}
use Rattle.jt_script.specs.declared.world_event.WorldEvent.TheVariants as line
use Rattle.jt_order.specs.Orders.{is_order_id}
use Rattle.jt_order_play.specs.declared.event.OrderEvent.TheVariants as asked
use Rattle.jt_order_command.specs.declared.reading.OrderLine.{OrderLine}
use Rattle.jt_order_command.specs.declared.reading.OrderLine.TheVariants.{Passed, Event, Bad}

-- ---- `issue ID X`

-- two octets are an id
abbrev pub id_if : List ℕ → Option ℕ
id_if octets = if length octets == 2 then Some (from_be_bytes w16 octets) else None

-- the id that four hexadecimal digits write, of either case
unfoldable pub id_in : List ℕ → Option ℕ
id_in word = option_and_then id_if (octets_in word)

-- the body that pairs of hexadecimal digits write, of either case; `-` writes the one of no octets, and no digits write none
unfoldable pub body_in : List ℕ → Option (List ℕ)
body_in word =
    if bytes_eq word (codes "-") then Some []
    else if length word == 0 then None
    else octets_in word

-- An order has an order's id and a body of at most 1,023 octets that the table of bodies of 2013 reads.
abbrev pub is_order : ℕ → List ℕ → Bool
is_order id octets = is_order_id id && (nat_le (length octets) BODY_LIMIT && is_ok ((body E2013 id).read octets 0))

unfoldable pub order_said : ℕ → List ℕ → OrderLine
order_said id octets = if is_order id octets then Event (asked.Issue (record { id = id; body = octets })) else Bad

-- a line with something else in the place of an id or of a body is bad
abbrev pub issue_said : Option ℕ → Option (List ℕ) → OrderLine
issue_said (Some id) (Some octets) = order_said id octets
issue_said (Some id) None = Bad
issue_said None octets = Bad

-- two words stand behind `issue`
abbrev pub issue_of : List (List ℕ) → OrderLine
issue_of [] = Bad
issue_of (id ∷ []) = Bad
issue_of (id ∷ octets ∷ []) = issue_said (id_in id) (body_in octets)
issue_of (id ∷ octets ∷ other ∷ more) = Bad

-- ---- lines of a rehearsal

-- A terminal of orders records nothing, beats at no line of its own, and stays in its edition.
abbrev pub event_of : WorldEvent → OrderLine
event_of (line.Fix latitude) = Bad
event_of (line.Raw fix) = Bad
event_of line.Open = Event asked.Open
event_of (line.Up number count) = Event (asked.Up number count)
event_of (line.Down count) = Event (asked.Down count)
event_of (line.Tick by) = Event (asked.Tick by)
event_of (line.Beat times) = Bad
event_of line.Run = Event asked.Run
event_of (line.Cut number) = Event (asked.Cut number)
event_of line.Lost = Event asked.Lost
event_of line.RestartTerminal = Event asked.RestartTerminal
event_of line.RestartPlatform = Event asked.RestartPlatform
event_of (line.RestartAs edition) = Bad

abbrev pub rehearsal_of : EventLine → OrderLine
rehearsal_of script.Passed = Passed
rehearsal_of (script.Event event) = event_of event
rehearsal_of script.Bad = Bad

-- ---- lines

abbrev pub has_front : List ℕ → List ℕ → Bool
has_front front line = bytes_eq (take (length front) line) front

-- what a line says
unfoldable pub order_says : List ℕ → OrderLine
order_says line = if has_front (codes "issue ") line then issue_of (words (drop 6 line)) else rehearsal_of (says line)

-- the line of this number: beyond the limits of a text input it is bad
unfoldable pub meaning : ℕ → List ℕ → OrderLine
meaning number line = if is_within number line then order_says line else Bad
