-- A script that holds, in order, the acceptances of all that a terminal sends, before any of its waits has passed (this project's own). To
-- be believed.
use Rattle.std.specs.Prelude.{◌≡◌, ◌<◌, ◌≤◌, ◌⊎◌, ◌+◌, ◌*◌, ℕ, List, [], ◌∷◌, All, None, Bool, true, false}
use Rattle.std.specs.List.{flat_map}
use Rattle.jt_value.specs.declared.ids.TheConstants.{AUTH}
use Rattle.jt_value.specs.declared.results.TheConstants.{SUCCESS}
use Rattle.jt_escape.specs.Frame.{framed}
use Rattle.jt_escape.specs.Span.{IsContent}
use Rattle.jt_header.specs.declared.header.Header.{Header}
use Rattle.jt_stream.specs.Unplaced.{Message as Frame, of_content}
use Rattle.jt_register.specs.declared.reply.RegisterReply.{RegisterReply}
use Rattle.jt_codec.specs.declared.message.Message.{Message}
use Rattle.jt_codec.specs.declared.message.Message.TheVariants as message
use Rattle.jt_store.specs.declared.unit.Unit.{Unit as OneUnit}
use Rattle.jt_outside.specs.Time.{Time, TellsAll, first_moment}
use Rattle.jt_terminal_rule.specs.Messages.{is_acceptance}
use Rattle.jt_terminal_rule.specs.Rule.{Whole, has_passed, is_registered, is_silent, rule}
use Rattle.jt_terminal_rule.specs.declared.state.State.{State}
use Rattle.jt_terminal_rule.specs.declared.state.Timing.{Timing}
use Rattle.jt_terminal_rule.specs.declared.state.Event.TheVariants.{Opened, Received}
use Rattle.jt_terminal_rule.specs.declared.state.Phase.{Phase}
use Rattle.jt_terminal_rule.specs.declared.state.Phase.TheVariants.{Down, Registering, Authenticating, Live}
use Rattle.jt_terminal.specs.Line.{of_body}
use Rattle.jt_agent.specs.Course.{Move, Ticks, course, is_done}
use Rattle.jt_report_command.specs.Answered.{HearsFront}

-- the frame of this content is heard as this message, which came in one packet
pub record IsHeardAs (content : List ℕ) (h : Header) (m : Message) : Type 0 where
  pub good : IsContent content
  pub body : List ℕ
  pub frame : of_content content ≡ Frame h body
  pub whole : h.packet ≡ None
  pub message : of_body h body ≡ Whole h m

-- the message accepts the oldest of these units, of which so many were sent
abbrev pub AcceptsOldest : ℕ → List OneUnit → Message → Type 0
AcceptsOldest sent [] m = ⊥
AcceptsOldest sent (unit ∷ more) m =
    (0 < sent) × (result : ℕ) × (m ≡ message.PlatformAck unit.serial unit.id result)
    × (is_acceptance (record { reply = unit.serial; id = unit.id; result = result }) ≡ true)

-- The message accepts what a terminal in this phase waits for: its registration, which it answers with a code; its authentication; or the
-- oldest of its units, of which so many were sent.
abbrev pub Accepts : Phase → ℕ → List OneUnit → Message → Type 0
Accepts Down sent units m = ⊥
Accepts (Registering serial) sent units m =
    (reply : RegisterReply) × (m ≡ message.RegisterReply reply) × (reply.reply ≡ serial)
    × (is_registered reply ≡ true)
Accepts (Authenticating serial) sent units m = m ≡ message.PlatformAck serial AUTH SUCCESS
Accepts (Live serial) sent units m = AcceptsOldest sent units m

-- Frames of these contents accept, one after another, all that a terminal sends that stands so: the first what it waits for now, each
-- further one what it waits for behind those before it. Behind the last one every recorded fix is accepted.
abbrev pub AcceptsAll : State → List (List ℕ) → Type 0
AcceptsAll s [] = is_done s ≡ true
AcceptsAll s (content ∷ contents) =
    (h : Header) × (m : Message) × IsHeardAs content h m × Accepts s.phase s.sent s.units m
    × AcceptsAll (rule s (Received h m)).state contents

-- a terminal that is Live is so silent that it sends a heartbeat
abbrev pub is_due : Phase → State → Bool
is_due Down s = false
is_due (Registering serial) s = false
is_due (Authenticating serial) s = false
is_due (Live serial) s = is_silent s

-- Whatever the terminal heard of the octets before, in whatever pieces: no wait has passed at the clock's next moment, and no heartbeat is due.
abbrev pub IsInTime : State → List ℕ → Time → Type 0
IsInTime t octets time =
    (moves : List Move) (now : ℕ) → HearsFront t octets time (Ticks now ∷ moves)
    → let s = record (course t moves).state { time = now } in
    (has_passed s ≡ false) × (is_due s.phase s ≡ false)

-- No answer of the clock comes a first wait behind its first one, and a heartbeat is not due before.
pub record IsSoon (timing : Timing) (time : Time) : Type 0 where
  pub wait : (now : Time) (moments : List ℕ) → TellsAll time now moments
      → All (λ (moment : ℕ). moment < first_moment moments + 1000 * timing.answer) moments
  pub heartbeat : (timing.heartbeat ≡ 0) ⊎ (timing.answer ≤ timing.heartbeat)

-- The octets are frames, in order the acceptances of all that the terminal sends on a line that is opened now.
pub record HoldsAcceptances (t : State) (octets : List ℕ) : Type 0 where
  pub contents : List (List ℕ)
  pub frames : octets ≡ flat_map framed contents
  pub accepts : AcceptsAll (rule t Opened).state contents
