-- What a terminal answers to the platform while it is Live (the standard's messages; which of them are performed is this project's own).
-- To be believed.
use Rattle.std.specs.Prelude.{ℕ, ◌+◌, nat_le, ◌==◌, true, if◌then◌else◌, List, [], ◌∷◌, ◌++◌, length, Option, None, Some}
use Rattle.std.specs.Int.{w16, to_be_bytes}
use Rattle.jt_value.specs.declared.phone.Edition.{Edition}
use Rattle.jt_value.specs.declared.phone.Edition.TheVariants.{E2013, E2019}
use Rattle.jt_header.specs.declared.header.Header.{Header}
use Rattle.jt_params.specs.declared.param.Param.{Param}
use Rattle.jt_params.specs.Tables.{Table, dword_of, listed, selected}
use Rattle.jt_regions.specs.declared.change.RegionChange.{RegionChange}
use Rattle.jt_regions.specs.declared.change.RegionChange.TheVariants as change
use Rattle.jt_regions.specs.Tables.{Regions}
use Rattle.jt_codec.specs.Bodies.{body_octets}
use Rattle.jt_codec.specs.declared.message.Message.{Message}
use Rattle.jt_codec.specs.declared.message.Message.TheVariants as message
use Rattle.jt_terminal_rule.specs.declared.state.State.{State}
use Rattle.jt_terminal_rule.specs.declared.state.Timing.{Timing}
use Rattle.jt_terminal_rule.specs.declared.state.AnswerKind.{AnswerKind}
use Rattle.jt_terminal_rule.specs.declared.state.AnswerKind.TheVariants.{General, Parameters, Position, Packets}
use Rattle.jt_value.specs.declared.limits.TheConstants.{BODY_LIMIT}
use Rattle.jt_value.specs.declared.ids.TheConstants.{PARAMS, POSITION_REPLY, TERMINAL_ACK, TERMINAL_RESEND}
use Rattle.jt_regions.specs.Changes.{regions_after}
use Rattle.jt_terminal_rule.specs.Tables.{params_after}

-- the id of a message that a terminal answers with
abbrev pub id_of_answer : AnswerKind → ℕ
id_of_answer General = TERMINAL_ACK
id_of_answer Parameters = PARAMS
id_of_answer Position = POSITION_REPLY
id_of_answer Packets = TERMINAL_RESEND

-- the terminal's times and tables afterwards, and the message and the body that it answers with, if it answers
pub record Answer : Type 0 where
  pub timing : Timing
  pub params : Table
  pub regions : Regions
  pub says : Option (AnswerKind × List ℕ)

-- times and tables stay
abbrev pub only_says : State → Option (AnswerKind × List ℕ) → Answer
only_says s says = record { timing = s.timing; params = s.params; regions = s.regions; says = says }

-- ---- general responses

-- the general response that names the message, with this result: 0 success, 1 failure, 2 message error, 3 not supported
abbrev pub response_to : State → Header → ℕ → AnswerKind × List ℕ
response_to s h result = (General, body_octets s.settings.phone.edition (message.TerminalAck h.serial h.id result))

abbrev pub responds : State → Header → ℕ → Answer
responds s h result = only_says s (Some (response_to s h result))

-- ---- parameters

-- A typed parameter 0x0001, 0x0002 or 0x0003 is the time from now on. A raw one changes none, so that the last typed value stays.
abbrev pub typed_time : Timing → ℕ → Option ℕ → Timing
typed_time t id None = t
typed_time t id (Some n) =
    if id == 0x0001 then record t { heartbeat = n }
    else if id == 0x0002 then record t { answer = n }
    else if id == 0x0003 then record t { repeats = n }
    else t

abbrev pub timing_after : List Param → Timing → Timing
timing_after [] t = t
timing_after (p ∷ params) t = timing_after params (typed_time t p.id (dword_of p.value))

-- the table takes the parameters, or would have too many
abbrev pub takes_params : State → Header → List Param → Option Table → Answer
takes_params s h params None = responds s h 1
takes_params s h params (Some table) = record { timing = timing_after params s.timing; params = table; regions = s.regions; says = Some (response_to s h 0) }

-- these parameters
abbrev pub tells_params : State → Header → List Param → Answer
tells_params s h params = only_says s (Some (Parameters, body_octets s.settings.phone.edition (message.Params h.serial params)))

-- ---- positions

-- the last recorded fix, behind the serial that is answered; failure where there is none or the body is too long for one packet
abbrev pub tells_position : State → Header → Option (List ℕ) → Answer
tells_position s h None = responds s h 1
tells_position s h (Some fix) =
    if nat_le (2 + length fix) BODY_LIMIT then only_says s (Some (Position, to_be_bytes w16 h.serial ++ fix)) else responds s h 1

-- ---- regions

-- the table takes the change, or does not
abbrev pub takes_regions : State → Header → Option Regions → Answer
takes_regions s h None = responds s h 1
takes_regions s h (Some regions) = record { timing = s.timing; params = s.params; regions = regions; says = Some (response_to s h 0) }

abbrev pub takes_change : State → Header → RegionChange → Answer
takes_change s h c = takes_regions s h (regions_after c s.regions)

-- ---- the table of answers

-- What a message is answered with. Responses and replies are heard elsewhere, and no packets are kept that could be sent again.
abbrev pub answer_to : State → Header → Message → Answer
answer_to s h (message.SetParams params) = takes_params s h params (params_after params s.params)
answer_to s h message.QueryParams = tells_params s h (listed s.params)
answer_to s h (message.QuerySome ids) = tells_params s h (selected s.params ids)
answer_to s h message.QueryPosition = tells_position s h s.last
answer_to s h (message.Text flag kind text) = responds s h 0
answer_to s h (message.Circles setting list) = takes_change s h (change.Circles setting list)
answer_to s h (message.Rectangles setting list) = takes_change s h (change.Rectangles setting list)
answer_to s h (message.Polygon polygon) = takes_change s h (change.Polygon polygon)
answer_to s h (message.Route route) = takes_change s h (change.Route route)
answer_to s h (message.Delete kind ids) = takes_change s h (change.Delete kind ids)
answer_to s h (message.PlatformAck reply id result) = only_says s None
answer_to s h (message.RegisterReply reply) = only_says s None
answer_to s h (message.Resend resend) = only_says s None
answer_to s h _ = responds s h 3

-- a body that is refused, and a packet of too many, is answered with a message error
abbrev pub answer_to_refused : State → Header → Answer
answer_to_refused s h = responds s h 2

-- The last packet of a message whose others lack is answered with their numbers, counted in two octets, in 2019 alone.
abbrev pub answer_to_lack : State → Edition → ℕ → List ℕ → Answer
answer_to_lack s E2013 first numbers = only_says s None
answer_to_lack s E2019 first numbers =
    only_says s (Some (Packets, body_octets E2019 (message.TerminalResend (record { first = first; wide = true; numbers = numbers }))))
