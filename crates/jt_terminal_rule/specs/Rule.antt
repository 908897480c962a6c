-- The terminal's rule: what it does at each event, as a function of its state (this project's own). To be believed.
-- Registration, authentication, heartbeat and general response are the standard's.
use Rattle.std.specs.Prelude.{ℕ, zero, suc, ◌+◌, ◌-◌, ◌*◌, ◌^◌, min, List, [], ◌∷◌, ◌++◌, drop, length, slice_get, Option, None, Some, Bool, true, false, not, ◌==◌, ◌&&◌, nat_lt, nat_le, if◌then◌else◌}
use Rattle.std.specs.FinMap.{empty}
use Rattle.std.specs.Option.{option_map, unwrap_or}
use Rattle.jt_value.specs.declared.limits.TheConstants.{CODE_LIMIT, SERIAL_WINDOW, UNIT_WINDOW}
use Rattle.jt_value.specs.Serials.{gap_of, serial_of}
use Rattle.jt_value.specs.declared.ids.TheConstants.{AUTH, HEARTBEAT, REGISTER}
use Rattle.jt_header.specs.declared.header.Header.{Header}
use Rattle.jt_register.specs.declared.reply.RegisterReply.{RegisterReply}
use Rattle.jt_codec.specs.Bodies.{body_octets}
use Rattle.jt_codec.specs.declared.message.Message.{Message}
use Rattle.jt_codec.specs.declared.message.Message.TheVariants as message
use Rattle.jt_store.specs.declared.unit.Unit.{Unit as OneUnit}
use Rattle.jt_store.specs.declared.unit.Loaded.{Loaded}
use Rattle.jt_store.specs.Vaults.{Change, Forms, Accepts, Sets}
use Rattle.jt_terminal_rule.specs.declared.settings.Settings.{Settings}
use Rattle.jt_terminal_rule.specs.declared.state.State.{State}
use Rattle.jt_terminal_rule.specs.declared.state.Timing.{Timing}
use Rattle.jt_terminal_rule.specs.declared.state.Wait.{Wait}
use Rattle.jt_terminal_rule.specs.declared.state.Event.{Event}
use Rattle.jt_terminal_rule.specs.declared.state.Event.TheVariants.{Opened, Received, Tick, Lost, Beat}
use Rattle.jt_terminal_rule.specs.declared.state.Phase.{Phase}
use Rattle.jt_terminal_rule.specs.declared.state.Phase.TheVariants.{Down, Registering, Authenticating, Live}
use Rattle.jt_terminal_rule.specs.declared.state.GiveUp.{GiveUp}
use Rattle.jt_terminal_rule.specs.declared.state.GiveUp.TheVariants.{Denied, TimedOut}
use Rattle.jt_terminal_rule.specs.Forming.{unit_of}
use Rattle.jt_terminal_rule.specs.declared.state.Acknowledgement.{Acknowledgement}
use Rattle.jt_terminal_rule.specs.Messages.{is_acceptance, header_of, frame_of, register_octets, auth_octets}
use Rattle.jt_params.specs.declared.param.Param.{Param}
use Rattle.jt_params.specs.Tables.{param_of}
use Rattle.jt_params.specs.declared.param.ParamValue.TheVariants.{Dword}
use Rattle.jt_subpacket.specs.Parts.{Message as Packet}
use Rattle.jt_subpacket.specs.Steps.{packets_of}
use Rattle.jt_regions.specs.Changes.{no_regions}
use Rattle.jt_terminal_rule.specs.Tables.{set_params}
use Rattle.jt_terminal_rule.specs.declared.state.AnswerKind.{AnswerKind}
use Rattle.jt_terminal_rule.specs.Answers.{Answer, id_of_answer, answer_to, answer_to_refused, answer_to_lack}

-- ---- what a terminal keeps

-- the parameters that a terminal begins with
abbrev pub timing_of : Settings → Timing
timing_of settings = record { heartbeat = settings.heartbeat; answer = settings.answer; repeats = settings.repeats }

-- a time as a parameter of a table
abbrev pub time_param : ℕ → ℕ → Param
time_param id number = param_of id (Dword number)

-- the times that a terminal begins with, as parameters of a table
abbrev pub first_params : Settings → List Param
first_params settings = time_param 0x0001 settings.heartbeat ∷ time_param 0x0002 settings.answer ∷ time_param 0x0003 settings.repeats ∷ []

-- a terminal that starts over what its vault loads: the serial that is next is the one that was committed
abbrev pub start_state : Settings → Loaded → State
start_state settings loaded = record {
  settings = settings;
  phase = Down;
  time = 0;
  timing = timing_of settings;
  params = set_params (first_params settings) empty;
  regions = no_regions;
  last = None;
  wait = record { since = 0; last = 0; sendings = 0; first = 0; repeats = 0 };
  said = 0;
  units = loaded.units;
  sent = 0;
  waiting = loaded.fixes;
  mark = loaded.mark;
  next = loaded.next;
  code = loaded.code;
  recorded = loaded.recorded;
  accepted = loaded.accepted;
}

-- a count that has risen by this much stays at 2^64 - 1
abbrev pub capped_sum : ℕ → ℕ → ℕ
capped_sum count by = min (count + by) (2 ^ 64 - 1)

-- a fix is recorded, and waits
abbrev pub with_fix : State → List ℕ → State
with_fix s fix = record s { waiting = s.waiting ++ fix ∷ []; recorded = capped_sum s.recorded 1; last = Some fix }

-- the platform's response that was just read, if it was one
abbrev pub response_in : Message → Option Acknowledgement
response_in (message.PlatformAck reply id result) = Some (record { reply = reply; id = id; result = result })
response_in _ = None

abbrev pub response : Event → Option Acknowledgement
response Opened = None
response (Received h m) = response_in m
response (Tick now) = None
response Lost = None
response Beat = None

-- ---- what it does

pub data Step : Type 0 where
  -- a unit that is not accepted is sent; so many older ones are not accepted either
  Sends : ℕ → OneUnit → Step
  -- another message is sent
  Says : Header → List ℕ → Step
  -- the vault commits a change
  Changes : Change → Step
  -- a line is in use; none is in use any more
  Opens : Step
  Loses : Step

-- what an event leads to: the new state, the steps in order, and why the line was given up, if it was
pub record Ruled : Type 0 where
  pub state : State
  pub steps : List Step
  pub end : Option GiveUp

abbrev pub stays : State → Ruled
stays s = record { state = s; steps = []; end = None }

-- one rule, and then another
abbrev pub and_then : Ruled → (State → Ruled) → Ruled
and_then r more = record { state = (more r.state).state; steps = r.steps ++ (more r.state).steps; end = (more r.state).end }

-- the frames of the messages that are sent, in order
abbrev pub sends : Settings → List Step → List (List ℕ)
sends settings [] = []
sends settings (Sends older unit ∷ steps) = frame_of (header_of settings.phone unit.id unit.serial) unit.body ∷ sends settings steps
sends settings (Says h body ∷ steps) = frame_of h body ∷ sends settings steps
sends settings (Changes change ∷ steps) = sends settings steps
sends settings (Opens ∷ steps) = sends settings steps
sends settings (Loses ∷ steps) = sends settings steps

-- ---- serials

-- A control message takes the next serial, and moves it on unless the gap from the mark is 32,766 or more: the last place before a gap
-- of 32,767 is kept for a unit.
abbrev pub after_control : State → ℕ
after_control s = if nat_lt (gap_of s.mark s.next) UNIT_WINDOW then serial_of (s.next + 1) else s.next

-- The same of a message in so many packets, which takes a serial for each of them, but not past that gap.
abbrev pub after_packets : State → ℕ → ℕ
after_packets s count = if nat_lt (gap_of s.mark s.next) UNIT_WINDOW then serial_of (s.next + min count (UNIT_WINDOW - gap_of s.mark s.next)) else s.next

-- ---- waits

-- how long the wait behind so many sendings is: the first one, and each further one the wait before it times the number of sendings
abbrev pub wait_behind : ℕ → ℕ → ℕ
wait_behind first zero = 0
wait_behind first (suc zero) = first
wait_behind first (suc (suc k)) = min (wait_behind first (suc k) * (k + 2)) (2 ^ 62)

-- a first sending now
abbrev pub first_wait : State → Wait
first_wait s = record { since = s.time; last = s.time; sendings = 1; first = 1000 * s.timing.answer; repeats = s.timing.repeats }

abbrev pub repeat_wait : State → Wait
repeat_wait s = record s.wait { last = s.time; sendings = s.wait.sendings + 1 }

-- an answer is waited for
abbrev pub is_waiting : Phase → ℕ → Bool
is_waiting Down sent = false
is_waiting (Registering serial) sent = true
is_waiting (Authenticating serial) sent = true
is_waiting (Live serial) sent = nat_lt 0 sent

-- the wait behind the last sending has passed
abbrev pub has_passed : State → Bool
has_passed s = is_waiting s.phase s.sent && nat_le (s.wait.last + wait_behind s.wait.first s.wait.sendings) s.time

-- ---- the end of a line

abbrev pub down : State → State
down s = record s { phase = Down; sent = 0 }

abbrev pub gives_up : State → List Step → GiveUp → Ruled
gives_up s steps cause = record { state = down s; steps = steps ++ Loses ∷ []; end = Some cause }

abbrev pub on_loss : State → Ruled
on_loss s = record { state = down s; steps = Loses ∷ []; end = None }

-- ---- registration and authentication

-- a control message was sent: the state waits so in this phase
abbrev pub after_saying : State → Phase → Wait → State
after_saying s p w = record s { phase = p; wait = w; said = s.time; next = after_control s }

abbrev pub registers : State → Ruled
registers s = record {
  state = record s { phase = Registering s.next; wait = first_wait s; said = s.time; next = after_control s };
  steps = Says (header_of s.settings.phone REGISTER s.next) (register_octets s.settings) ∷ [];
  end = None;
}

abbrev pub authenticates : State → List ℕ → Ruled
authenticates s code = record {
  state = record s { phase = Authenticating s.next; wait = first_wait s; said = s.time; next = after_control s };
  steps = Says (header_of s.settings.phone AUTH s.next) (auth_octets s.settings code) ∷ [];
  end = None;
}

-- with a stored code the terminal authenticates itself, and without one it registers
abbrev pub introduce : State → Option (List ℕ) → Ruled
introduce s None = registers s
introduce s (Some code) = authenticates s code

-- nothing was sent on a line that was just opened
abbrev pub on_open : State → Ruled
on_open s = and_then (record { state = record s { sent = 0 }; steps = Opens ∷ []; end = None }) (λ t. introduce t s.code)

-- ---- the window

abbrev pub window : ℕ
window = 16

-- a unit that is sent where none was sent begins the wait
abbrev pub one_sent : State → State
one_sent s = record s { sent = s.sent + 1; wait = if s.sent == 0 then first_wait s else s.wait; said = s.time }

-- the unit of the fixes that wait is formed and sent, if there are fixes and the gap leaves it a serial
abbrev pub form_unit : State → List (List ℕ) → Option Ruled
form_unit s [] = None
form_unit s (fix ∷ more) =
    if nat_lt (gap_of s.mark s.next) SERIAL_WINDOW
    then (let unit = unit_of s.next fix (fix ∷ more) in Some (record {
      state = one_sent (record s { units = s.units ++ unit ∷ []; waiting = drop unit.count (fix ∷ more); next = serial_of (s.next + 1) });
      steps = Changes (Forms unit) ∷ Sends s.sent unit ∷ [];
      end = None;
    }))
    else None

-- the next unit that was not sent on this line is sent; where there is none, one is formed
abbrev pub send_unit : State → Option OneUnit → Option Ruled
send_unit s (Some unit) = Some (record { state = one_sent s; steps = Sends s.sent unit ∷ []; end = None })
send_unit s None = form_unit s s.waiting

abbrev pub send_next : State → Option Ruled
send_next s = if nat_lt s.sent window then send_unit s (slice_get s.units s.sent) else None

abbrev pub or_stays : State → Option Ruled → (State → Ruled) → Ruled
or_stays s None more = stays s
or_stays s (Some r) more = and_then r more

-- so many units are sent at most
abbrev pub fill : ℕ → State → Ruled
fill zero s = stays s
fill (suc n) s = or_stays s (send_next s) (fill n)

abbrev pub fill_window : State → Ruled
fill_window s = fill window s

-- ---- the platform's answers

-- the reply gives a code, which may have at most 255 octets (this project's own limit)
abbrev pub is_registered : RegisterReply → Bool
is_registered reply = (reply.result == 0) && nat_le (length reply.code) CODE_LIMIT

-- the code is stored, and the terminal authenticates itself with it
abbrev pub store_code : State → List ℕ → Ruled
store_code s code = and_then (record { state = record s { code = Some code }; steps = Changes (Sets (Some code)) ∷ []; end = None }) (λ t. authenticates t code)

-- the reply to a registration
abbrev pub take_reply : State → RegisterReply → List ℕ → Ruled
take_reply s reply octets = if is_registered reply then store_code s reply.code else gives_up s [] (Denied octets)

-- the code is removed, and the line given up
abbrev pub forget_code : State → List ℕ → Ruled
forget_code s octets = gives_up (record s { code = None }) (Changes (Sets None) ∷ []) (Denied octets)

-- the response to an authentication of this serial
abbrev pub on_auth_response : State → ℕ → ℕ → List ℕ → Ruled
on_auth_response s serial result octets =
    if result == 0
    then fill_window (record s { phase = Live serial })
    else forget_code s octets

abbrev pub names : Acknowledgement → OneUnit → Bool
names ack unit = (ack.reply == unit.serial) && (ack.id == unit.id)

-- the oldest unit is accepted, and a wait for the next one begins
abbrev pub after_acceptance : State → OneUnit → List OneUnit → State
after_acceptance s unit more = record s { units = more; sent = s.sent - 1; mark = unit.serial; wait = first_wait s; accepted = capped_sum s.accepted unit.count }

abbrev pub accept_oldest : State → OneUnit → List OneUnit → Ruled
accept_oldest s unit more = and_then (record { state = after_acceptance s unit more; steps = Changes Accepts ∷ []; end = None }) fill_window

-- a response while the terminal is Live
abbrev pub on_unit_response : State → List OneUnit → Acknowledgement → List ℕ → Ruled
on_unit_response s [] ack octets = fill_window s
on_unit_response s (unit ∷ more) ack octets =
    if nat_lt 0 s.sent && names ack unit
    then (if is_acceptance ack then accept_oldest s unit more else gives_up s [] (Denied octets))
    else fill_window s

-- a response, by the phase
abbrev pub on_response : Phase → State → Acknowledgement → List ℕ → Ruled
on_response Down s ack octets = stays s
on_response (Registering serial) s ack octets = stays s
on_response (Authenticating serial) s ack octets = if (ack.id == AUTH) && (ack.reply == serial) then on_auth_response s serial ack.result octets else stays s
on_response (Live serial) s ack octets = on_unit_response s s.units ack octets

-- a reply to a registration, by the phase
abbrev pub on_register_reply : Phase → State → RegisterReply → List ℕ → Ruled
on_register_reply (Registering serial) s reply octets = if reply.reply == serial then take_reply s reply octets else stays s
on_register_reply Down s reply octets = stays s
on_register_reply (Authenticating serial) s reply octets = stays s
on_register_reply (Live serial) s reply octets = fill_window s

-- ---- answers

abbrev pub says_each : List Packet → List Step
says_each [] = []
says_each (packet ∷ packets) = Says packet.0 packet.1 ∷ says_each packets

-- The most octets of a message, which no answer comes near: 256 packets.
abbrev pub message_limit : ℕ
message_limit = 261888

-- the packets of an answer; a short one has one packet without packet fields
abbrev pub answer_packets : State → AnswerKind → List ℕ → List Packet
answer_packets s kind octets =
    if nat_le (length octets) message_limit then packets_of (header_of s.settings.phone (id_of_answer kind) s.next) octets else []

abbrev pub says_packets : State → List Packet → Ruled
says_packets s packets = record { state = record s { said = s.time; next = after_packets s (length packets) }; steps = says_each packets; end = None }

abbrev pub says_answer : State → Option (AnswerKind × List ℕ) → Ruled
says_answer s None = stays s
says_answer s (Some says) = says_packets s (answer_packets s says.0 says.1)

abbrev pub changed_by : State → Answer → State
changed_by s a = record s { timing = a.timing; params = a.params; regions = a.regions }

abbrev pub answers : State → Answer → Ruled
answers s a = says_answer (changed_by s a) a.says

-- a terminal that is Live answers, and then fills its window
abbrev pub answer_if_live : Phase → State → Answer → Ruled
answer_if_live Down s a = stays s
answer_if_live (Registering serial) s a = stays s
answer_if_live (Authenticating serial) s a = stays s
answer_if_live (Live serial) s a = and_then (answers s a) fill_window

-- a message of the platform
abbrev pub on_message : State → Header → Message → Ruled
on_message s h (message.PlatformAck reply id result) =
    on_response s.phase s (record { reply = reply; id = id; result = result }) (body_octets h.edition (message.PlatformAck reply id result))
on_message s h (message.RegisterReply reply) = on_register_reply s.phase s reply (body_octets h.edition (message.RegisterReply reply))
on_message s h m = answer_if_live s.phase s (answer_to s h m)

-- What a terminal hears on its line: a message, a body that is refused under its header, the last packet of a message whose others lack
-- (the serial of packet 1 and the numbers), or a packet of too many.
pub data Heard : Type 0 where
  Whole : Header → Message → Heard
  Refused : Header → Heard
  Lacks : Header → ℕ → List ℕ → Heard
  TooMany : Header → Heard

abbrev pub on_hearing : State → Heard → Ruled
on_hearing s (Whole h m) = on_message s h m
on_hearing s (Refused h) = answer_if_live s.phase s (answer_to_refused s h)
on_hearing s (Lacks h first numbers) = answer_if_live s.phase s (answer_to_lack s s.settings.phone.edition first numbers)
on_hearing s (TooMany h) = answer_if_live s.phase s (answer_to_refused s h)

-- ---- heartbeats and moments

abbrev pub say_heartbeat : State → Ruled
say_heartbeat s = record {
  state = record s { said = s.time; next = after_control s };
  steps = Says (header_of s.settings.phone HEARTBEAT s.next) [] ∷ [];
  end = None;
}

-- nothing was sent for as long as parameter 0x0001 says, which is not 0
abbrev pub is_silent : State → Bool
is_silent s = not (s.timing.heartbeat == 0) && nat_le (s.said + 1000 * s.timing.heartbeat) s.time

abbrev pub heartbeat_if_silent : State → Ruled
heartbeat_if_silent s = if is_silent s then say_heartbeat s else stays s

-- a heartbeat that is asked for
abbrev pub on_beat : Phase → State → Ruled
on_beat Down s = stays s
on_beat (Registering serial) s = stays s
on_beat (Authenticating serial) s = stays s
on_beat (Live serial) s = and_then (say_heartbeat s) fill_window

-- what is waited for, sent again with the same octets under the same serial
abbrev pub oldest_again : List OneUnit → List Step
oldest_again [] = []
oldest_again (unit ∷ more) = Sends 0 unit ∷ []

abbrev pub steps_again : State → Phase → List Step
steps_again s Down = []
steps_again s (Registering serial) = Says (header_of s.settings.phone REGISTER serial) (register_octets s.settings) ∷ []
steps_again s (Authenticating serial) = Says (header_of s.settings.phone AUTH serial) (auth_octets s.settings (unwrap_or s.code [])) ∷ []
steps_again s (Live serial) = oldest_again s.units

abbrev pub repeat_sending : State → Ruled
repeat_sending s = record { state = record s { wait = repeat_wait s; said = s.time }; steps = steps_again s s.phase; end = None }

-- a Live terminal looks at its heartbeat, and then fills its window
abbrev pub watch_and_fill : Phase → State → Ruled
watch_and_fill Down s = stays s
watch_and_fill (Registering serial) s = stays s
watch_and_fill (Authenticating serial) s = stays s
watch_and_fill (Live serial) s = and_then (heartbeat_if_silent s) fill_window

-- waits come first: one repeat at most, or the line is given up
abbrev pub on_tick : State → Ruled
on_tick s =
    if has_passed s
    then (if nat_le s.wait.sendings s.wait.repeats then and_then (repeat_sending s) (watch_and_fill s.phase) else gives_up s [] (TimedOut s.wait.since s.time))
    else watch_and_fill s.phase s

-- the rule
abbrev pub rule : State → Event → Ruled
rule s Opened = on_open s
rule s (Received h m) = on_message s h m
rule s (Tick now) = on_tick (record s { time = now })
rule s Lost = on_loss s
rule s Beat = on_beat s.phase s

-- ---- what the terminal is told

-- how many units stand before the first of so many that the response names
abbrev pub first_named : Acknowledgement → ℕ → List OneUnit → Option ℕ
first_named ack zero units = None
first_named ack (suc n) [] = None
first_named ack (suc n) (unit ∷ units) = if names ack unit then Some 0 else option_map suc (first_named ack n units)

-- how many units that are not accepted stand before the one whose acceptance this response tells, if it tells one: that unit was sent on
-- this line. The rule accepts it where none stands before it.
abbrev pub named_place : State → Option Acknowledgement → Option ℕ
named_place s None = None
named_place s (Some ack) = if is_acceptance ack then first_named ack s.sent s.units else None
