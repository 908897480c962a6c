-- What a gateway's script leads to, and what is printed of it: this project's own. To be believed.
use Rattle.std.specs.Prelude.{ℕ, ◌+◌, if◌then◌else◌, Bool, false, List, [], ◌∷◌, None}
use Rattle.jt_value.specs.declared.limits.TheConstants.{FIX_LIMIT}
use Rattle.jt_play.specs.Playing.{names_no_line}
use Rattle.jt_input.specs.EarlyEnds.{full_line}
use Rattle.jt_input.specs.Lines.{Outcome, answer_of, bad_outcome, printing}
use Rattle.jt_input.specs.Reply.{Reply}
use Rattle.jt_input.specs.Text.{lines_of}
use Rattle.jt_input.specs.declared.status.Status.TheVariants.{Done, StoreFault}
use Rattle.jt_gateway.specs.Gateway.{GatewayScene, first_gateway, gateway_after_line, gateway_at_full, gateway_full}
use Rattle.jt_gateway.specs.declared.event.GatewayEvent.{GatewayEvent}
use Rattle.jt_gateway.specs.declared.event.GatewayEvent.TheVariants as asked
use Rattle.jt_gateway_command.specs.Lines.{meaning}
use Rattle.jt_gateway_command.specs.Texts.{end_line, event_text}
use Rattle.jt_gateway_command.specs.declared.reading.GatewayLine.{GatewayLine}
use Rattle.jt_gateway_command.specs.declared.reading.GatewayLine.TheVariants.{Passed, Event, Bad}

-- an event names a line of communication that was not opened in its world
abbrev pub gateway_names_no_line : GatewayScene → GatewayEvent → Bool
gateway_names_no_line g (asked.A event) = names_no_line g.a.play.world event
gateway_names_no_line g (asked.B event) = names_no_line g.b.play.world event
gateway_names_no_line g asked.Pump = false
gateway_names_no_line g asked.RestartMiddle = false

-- the script ends with this gateway, since a vault is full
abbrev pub full_outcome : GatewayScene → Outcome GatewayScene
full_outcome g = record { left = g; text = full_line FIX_LIMIT; bad = None; status = StoreFault }

-- A line is passed over, leads to the next gateway, or ends the script: as the bad line of this number, also where it names a line of
-- communication that was not opened, or where a vault is full.
abbrev pub after_line : GatewayScene → ℕ → (GatewayScene → Outcome GatewayScene) → GatewayLine → Outcome GatewayScene
after_line g number next Passed = next g
after_line g number next (Event event) =
    if gateway_names_no_line g event then bad_outcome g number
    else if gateway_full g event then full_outcome (gateway_at_full g event)
    else printing (event_text g event (gateway_after_line g event)) (next (gateway_after_line g event))
after_line g number next Bad = bad_outcome g number

-- what comes of these lines, the first of which has this number
abbrev pub outcome_of : GatewayScene → ℕ → List (List ℕ) → Outcome GatewayScene
outcome_of g number [] = record { left = g; text = end_line g; bad = None; status = Done }
outcome_of g number (line ∷ more) = after_line g number (λ next. outcome_of next (number + 1) more) (meaning number line)

-- what is printed of a script, and the status
unfoldable pub gateway_reply : List ℕ → Reply
gateway_reply script = answer_of outcome_of first_gateway script

-- the gateway to which a script led
abbrev pub gateway_of : List ℕ → GatewayScene
gateway_of script = (outcome_of first_gateway 1 (lines_of script)).left
