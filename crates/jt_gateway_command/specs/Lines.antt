-- What a line of a gateway's script says: this project's own forms. To be believed.
use Rattle.std.specs.Prelude.{ℕ, Bool, true, false, if◌then◌else◌, List, length, take, drop, codes}
use Rattle.std.specs.Str.{bytes_eq}
use Rattle.jt_input.specs.Spelling.{is_passed}
use Rattle.jt_input.specs.Text.{is_within}
use Rattle.jt_script.specs.EventLines.{says}
use Rattle.jt_script.specs.declared.reading.EventLine.{EventLine}
use Rattle.jt_script.specs.declared.reading.EventLine.TheVariants as script
use Rattle.jt_script.specs.declared.world_event.WorldEvent.{WorldEvent}
use Rattle.jt_script.specs.declared.world_event.WorldEvent.TheVariants as line
use Rattle.jt_gateway.specs.Gateway.{MayAsk, is_line_of_b}
use Rattle.jt_gateway.specs.declared.event.GatewayEvent.{GatewayEvent}
use Rattle.jt_gateway.specs.declared.event.GatewayEvent.TheVariants as asked
use Rattle.jt_gateway_command.specs.declared.reading.GatewayLine.{GatewayLine}
use Rattle.jt_gateway_command.specs.declared.reading.GatewayLine.TheVariants.{Passed, Event, Bad}

-- the terminal of world a stays one of 2013
abbrev pub is_line_of_a : WorldEvent → Bool
is_line_of_a (line.RestartAs edition) = false
is_line_of_a other = true

-- an event of one of the worlds, if it is one of its lines; a line that is passed over stands in neither
abbrev pub event_in : (WorldEvent → Bool) → (WorldEvent → GatewayEvent) → EventLine → GatewayLine
event_in is_line in_world (script.Event event) = if is_line event then Event (in_world event) else Bad
event_in is_line in_world script.Passed = Bad
event_in is_line in_world script.Bad = Bad

abbrev pub says_in_a : List ℕ → GatewayLine
says_in_a rest = event_in is_line_of_a asked.A (says rest)

abbrev pub says_in_b : List ℕ → GatewayLine
says_in_b rest = event_in is_line_of_b asked.B (says rest)

abbrev pub begins : List ℕ → List ℕ → Bool
begins front line = bytes_eq (take (length front) line) front

-- Empty lines and comments are passed over; the other lines are `pump`, `restart middle`, and a line of a rehearsal behind `a ` or `b `.
unfoldable pub gateway_says : List ℕ → GatewayLine
gateway_says line =
    if is_passed line then Passed
    else if bytes_eq line (codes "pump") then Event asked.Pump
    else if bytes_eq line (codes "restart middle") then Event asked.RestartMiddle
    else if begins (codes "a ") line then says_in_a (drop 2 line)
    else if begins (codes "b ") line then says_in_b (drop 2 line)
    else Bad

-- the line of this number: beyond the limits of a text input it is bad
unfoldable pub meaning : ℕ → List ℕ → GatewayLine
meaning number line = if is_within number line then gateway_says line else Bad

-- what a line asks may be asked: a step for the proofs
abbrev pub MaySay : GatewayLine → Type 0
MaySay Passed = Unit {0}
MaySay (Event event) = MayAsk event
MaySay Bad = Unit {0}
