-- The steps of the world of orders over octets: which may come, and what each leaves (this project's own). To be believed. They are those of
-- the world without orders, the issue of an order and its sending; the session and the terminal do more at what an octet completes.
use Rattle.std.specs.Prelude.{◌≡◌, ◌≢◌, ℕ, suc, ◌<◌, Bool, true, false, List, [], ◌∷◌, ◌++◌, length, set, Option, None, Some}
use Rattle.std.specs.Option.{option_to_list}
use Rattle.jt_value.specs.Sameness.{key_of}
use Rattle.jt_value.specs.Serials.{serial_of}
use Rattle.jt_header.specs.declared.header.Header.{Header}
use Rattle.jt_stream.specs.Unplaced.{Unplaced, Message as Frame}
use Rattle.jt_codec.specs.declared.message.Message.{Message}
use Rattle.jt_platform.specs.History.{live, holder}
use Rattle.jt_platform.specs.declared.request.Reply.TheVariants as say
use Rattle.jt_session.specs.Talk.{Way, Goes}
use Rattle.jt_terminal_rule.specs.declared.state.Acknowledgement.{Acknowledgement}
use Rattle.jt_terminal_rule.specs.Law.{response_heard}
use Rattle.jt_terminal_rule.specs.Rule.{Whole}
use Rattle.jt_terminal_rule.specs.Steps.{TerminalStep, MayStep, hears, unit_named_by}
use Rattle.jt_terminal_rule.specs.Steps as step
use Rattle.jt_terminal_answers.specs.Performing.{HeldTables, message_outcome}
use Rattle.jt_order.specs.Orders.{OrderOf, IsOrder}
use Rattle.jt_order.specs.declared.performed.Performed.{Performed}
use Rattle.jt_order.specs.declared.rules.Ruling.{Ruling}
use Rattle.jt_order.specs.declared.rules.Ruling.TheVariants.{Again, Performs, Refuses}
use Rattle.jt_obeying.specs.Orders.{no_tables, order_at, ruling, tables_of}
use Rattle.jt_obeying.specs.Performing.{terminal_performing}
use Rattle.jt_order_turns.specs.Headers.{answer_frame, order_frame}
use Rattle.jt_order_turns.specs.Heard.{Heard, Ordered, Other, Nothing, heard_at}
use Rattle.jt_order_turns.specs.Frames.{order_in}
use Rattle.jt_order_turns.specs.Turns.{IsResponse, NamesNoOrder}
use Rattle.jt_octets.specs.World.{World, Line, completed_item, line_at, newest, newest_place, with_one_taken, written}
use Rattle.jt_octets.specs.Steps.{MayAccept, MayCut, MayTake, accepting, after_step, writing}
use Rattle.jt_octets.specs.Steps as plain
use Rattle.jt_order_octets.specs.World.{OrderWorld, first_read, sent_at}

-- what the book is told of what an octet completes
pub data Telling : Type 0 where
  -- this result, since it answers the oldest order that is not answered
  Tells : ℕ → Telling
  -- nothing, since it does not
  TellsNothing : Telling
  -- nothing although it does: the book failed, or memory was wanted, now or before in the same call; or the platform was stopped between the
  -- entry and the book
  BookFails : Telling

pub data Event : Type 0 where
  -- an order is put at the end of the book
  Issues : OrderOf → Event
  -- the terminal takes a step, and what it writes goes up the line in use
  Does : TerminalStep → Event
  -- the session of the line in this place takes one more octet, and goes on so at what it completes; and what the book is told of that
  Up : ℕ → Way → Telling → Event
  -- the oldest order that is not answered is sent on the line in this place
  Offers : ℕ → Event
  -- The terminal reads one more octet of the line in use. Then, if so, it takes the acceptance that the octet completes; to an order it
  -- responds, unless vault, log or memory failed behind it or the terminal was stopped.
  Down : (takes responds : Bool) → Event
  -- the platform's end of the line in this place is closed
  Cut : ℕ → Event
  -- all ends at the platform are gone without an entry, and a new hub begins over what the keeper has; the book stays
  RestartPlatform : Event

-- ---- the terminal

-- what it says is no general response that names an order
abbrev pub NamesNone : TerminalStep → Type 0
NamesNone (step.Says h body) = NamesNoOrder (Frame h body)
NamesNone s = Unit {0}

-- nothing was sent on a line that was just opened
abbrev pub sent_by : OrderWorld → TerminalStep → List (Option ℕ)
sent_by w step.Opens = w.sent ++ None ∷ []
sent_by w s = w.sent

-- a terminal that starts again makes its tables from its log
abbrev pub tables_by : OrderWorld → TerminalStep → HeldTables
tables_by w (step.Restarts phone) = tables_of terminal_performing no_tables w.log
tables_by w s = w.tables

-- ---- what the terminal reads

abbrev pub heard_if : Option Unplaced → Heard
heard_if None = Nothing
heard_if (Some item) = heard_at item

-- what the next octet of the line in use completes, to the order terminal
abbrev pub heard_next : OrderWorld → Heard
heard_next w = heard_if (completed_item (newest w.base).down)

-- the platform's response that this is, if it is one
abbrev pub response_of : Heard → Option Acknowledgement
response_of (Other h m) = response_heard (Whole h m)
response_of heard = None

pub record MayRead (w : OrderWorld) (takes : Bool) : Type 0 where
  pub in_use : w.base.terminal.using ≡ true
  pub some : 0 < length w.base.lines
  pub left : (newest w.base).down.taken < length (newest w.base).down.octets
  pub accepts : let just = response_of (heard_next w) in MayAccept (hears w.base.terminal just) just takes

-- the wrapped terminal has heard this, if the octet completed anything that it hears
abbrev pub with_one_read : World → Option Acknowledgement → Bool → World
with_one_read w just takes = record w {
  terminal = accepting (hears w.terminal just) takes;
  lines = set w.lines (newest_place w.lines) (record (newest w) { down = with_one_taken (newest w).down });
  told = option_to_list (unit_named_by w.terminal just) ++ w.told;
}

-- ---- an order that it reads

-- the order, with the result that its message has over the present tables
abbrev pub performed_at : OrderWorld → Header → List ℕ → Message → Performed
performed_at w h octets m = record { order = order_in h octets; result = (message_outcome w.tables m).0 }

-- what a ruling on it makes of the log, the tables and the record
abbrev pub log_by_ruling : OrderWorld → Header → List ℕ → Message → Ruling → List Performed
log_by_ruling w h octets m (Again result) = w.log
log_by_ruling w h octets m Performs = w.log ++ performed_at w h octets m ∷ []
log_by_ruling w h octets m Refuses = w.log

abbrev pub tables_by_ruling : OrderWorld → Message → Ruling → HeldTables
tables_by_ruling w m (Again result) = w.tables
tables_by_ruling w m Performs = (message_outcome w.tables m).1
tables_by_ruling w m Refuses = w.tables

abbrev pub refused_by_ruling : OrderWorld → Header → Ruling → List ℕ
refused_by_ruling w h (Again result) = w.refused
refused_by_ruling w h Performs = w.refused
refused_by_ruling w h Refuses = h.serial ∷ w.refused

-- and the result of the response
abbrev pub result_by_ruling : OrderWorld → Message → Ruling → ℕ
result_by_ruling w m (Again result) = result
result_by_ruling w m Performs = (message_outcome w.tables m).0
result_by_ruling w m Refuses = 1

-- the response goes up the line in use, or is never sent
abbrev pub with_response : Bool → World → List ℕ → World
with_response true w octets = record w { lines = writing w.lines octets }
with_response false w octets = w

abbrev pub after_order : OrderWorld → Header → List ℕ → Message → Ruling → Bool → OrderWorld
after_order w h octets m r responds = record w {
  base = with_response responds (with_one_read w.base None false) (answer_frame h (result_by_ruling w m r));
  log = log_by_ruling w h octets m r;
  tables = tables_by_ruling w m r;
  refused = refused_by_ruling w h r;
}

-- the terminal has read this, if the octet completed anything; an order by the three rules
abbrev pub after_read : OrderWorld → Heard → (takes responds : Bool) → OrderWorld
after_read w (Ordered h octets m) takes responds = after_order w h octets m (ruling w.log h.serial (order_in h octets)) responds
after_read w (Other h m) takes responds = record w { base = with_one_read w.base (response_heard (Whole h m)) takes }
after_read w Nothing takes responds = record w { base = with_one_read w.base None takes }

-- ---- the session

-- a frame of the line in this place is a general response in one piece that names the oldest order that is not answered, with this result; and
-- this order was sent last on that line
pub record NamesOldest (w : OrderWorld) (place result : ℕ) (h : Header) (octets : List ℕ) : Type 0 where
  pub waits : length w.results < length w.issued
  pub sent : sent_at w place ≡ Some (length w.results)
  pub response : IsResponse h octets (serial_of (length w.results)) (order_at w.issued (length w.results)).id result

-- what the octet completes answers that order, with this result: it is such a frame, and its entry says Accepted
abbrev pub AnswersOldest : OrderWorld → ℕ → ℕ → Option Unplaced → Way → Type 0
AnswersOldest w place result (Some (Frame h octets)) (Goes (Some say.Accepted)) = NamesOldest w place result h octets
AnswersOldest w place result item way = ⊥

-- The book is told exactly where this answers that order, unless that fails.
abbrev pub MayTell : OrderWorld → ℕ → Option Unplaced → Way → Telling → Type 0
MayTell w place item way (Tells result) = AnswersOldest w place result item way
MayTell w place item way TellsNothing = (result : ℕ) → AnswersOldest w place result item way → ⊥
MayTell w place item way BookFails = (result : ℕ) × AnswersOldest w place result item way

-- the results in the book, once it was told so
abbrev pub results_after : List ℕ → Telling → List ℕ
results_after results (Tells result) = results ++ result ∷ []
results_after results TellsNothing = results
results_after results BookFails = results

-- A session that is live for the phone of its first frame, and holds it, sends the oldest order that is not answered, if it did not send that
-- order last.
pub record MayOffer (w : OrderWorld) (place : ℕ) : Type 0 where
  pub opened : place < length w.base.lines
  pub is_open : (line_at w.base.lines place).is_open ≡ true
  pub waits : length w.results < length w.issued
  pub first : Header
  pub read : first_read w place ≡ Some first
  pub live : live (key_of first.phone) w.base.history (suc place) ≡ true
  pub holds : holder (key_of first.phone) w.base.history ≡ Some (suc place)
  pub new : sent_at w place ≢ Some (length w.results)

-- the frame of that order, by the first frame that the session read
abbrev pub oldest_frame : OrderWorld → Option Header → List ℕ
oldest_frame w None = []
oldest_frame w (Some first) = order_frame first (length w.results) (order_at w.issued (length w.results))

abbrev pub with_order_written : Line → List ℕ → Line
with_order_written line octets = record line { down = written line.down octets }

abbrev pub after_offer : OrderWorld → ℕ → OrderWorld
after_offer w place = record w {
  base = record w.base { lines = set w.base.lines place (with_order_written (line_at w.base.lines place) (oldest_frame w (first_read w place))) };
  sent = set w.sent place (Some (length w.results));
}

-- ---- all steps

abbrev pub MayCome : OrderWorld → Event → Type 0
MayCome w (Issues order) = IsOrder order
MayCome w (Does s) = MayStep w.base.terminal None s × NamesNone s
MayCome w (Up place way telling) = MayTake w.base place way × MayTell w place (completed_item (line_at w.base.lines place).up) way telling
MayCome w (Offers place) = MayOffer w place
MayCome w (Down takes responds) = MayRead w takes
MayCome w (Cut place) = MayCut w.base place
MayCome w RestartPlatform = Unit {0}

-- the world after a step
abbrev pub after : OrderWorld → Event → OrderWorld
after w (Issues order) = record w { issued = w.issued ++ order ∷ [] }
after w (Does s) = record w { base = after_step w.base s; sent = sent_by w s; tables = tables_by w s }
after w (Up place way telling) = record w { base = plain.after w.base (plain.Up place way); results = results_after w.results telling }
after w (Offers place) = after_offer w place
after w (Down takes responds) = after_read w (heard_next w) takes responds
after w (Cut place) = record w { base = plain.after w.base (plain.Cut place) }
after w RestartPlatform = record w { base = plain.after w.base plain.RestartPlatform }
