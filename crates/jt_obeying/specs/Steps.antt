-- What may happen, and what it leaves (this project's own). To be believed.
use Rattle.std.specs.Prelude.{◌≡◌, ℕ, ◌<◌, suc, List, [], ◌∷◌, ◌++◌, length, Bool, true, false, if◌then◌else◌, Contains, Some}
use Rattle.jt_value.specs.Serials.{serial_of}
use Rattle.jt_value.specs.Sameness.{key_of}
use Rattle.jt_value.specs.declared.ids.TheConstants.{TERMINAL_ACK}
use Rattle.jt_value.specs.declared.phone.Edition.{Edition}
use Rattle.jt_platform.specs.declared.request.Request.{Request}
use Rattle.jt_platform.specs.declared.request.Request.TheVariants as ask
use Rattle.jt_platform.specs.declared.request.Reply.{Reply}
use Rattle.jt_platform.specs.declared.request.Reply.TheVariants as say
use Rattle.jt_platform.specs.declared.request.Entry.{Entry}
use Rattle.jt_platform.specs.History.{live, holder}
use Rattle.jt_platform.specs.Allowed.{Allowed, makes_entry}
use Rattle.jt_platform.specs.Laws.{shelf_of}
use Rattle.jt_order.specs.Orders.{OrderOf, IsOrder}
use Rattle.jt_order.specs.declared.performed.Performed.{Performed}
use Rattle.jt_order.specs.declared.rules.Ruling.{Ruling}
use Rattle.jt_order.specs.declared.rules.Ruling.TheVariants.{Again, Performs, Refuses}
use Rattle.jt_delivery.specs.World.{IsOpened}
use Rattle.jt_delivery.specs.Steps.{entry, is_fenced}
use Rattle.jt_terminal_answers.specs.Performing.{HeldTables}
use Rattle.jt_obeying.specs.Orders.{order_at, performed_over, tables_behind, no_tables, tables_of, ruling}
use Rattle.jt_obeying.specs.World.{Up, Answer, OtherMessage, Down, OrderMessage, OtherAnswer, Line, OrderWorld, new_line, put, opening}

-- how a session goes on at a message, and what it writes itself
pub data Outcome : Type 0 where
  -- it asked this, was replied so, and an entry was made
  Answered : Request → Reply → List Down → Outcome
  -- it asked nothing
  Quiet : List Down → Outcome
  -- it stopped: the keeper was full or failed, or memory was wanted; no entry was made, and nothing written
  Stopped : Outcome

-- what the book is told of a message
pub data Telling : Type 0 where
  -- the result, since the message answers the oldest order that is not answered
  TellsResult : Telling
  -- nothing, since it does not
  TellsNothing : Telling
  -- nothing although it does: the book failed, or memory was wanted, now or before in the same call; or the platform was stopped between the
  -- entry and the book
  BookFails : Telling

-- what may happen
pub data Event : Type 0 where
  -- an order is put at the end of the book
  Issues : OrderOf → Event
  -- a new line is in use
  Opens : Event
  -- the terminal sends a message that answers no order
  Says : Event
  -- on the line of this number the session takes this message, and those are left; how it goes on; and what the book is told
  Takes : (number : ℕ) → Up → List Up → Outcome → Telling → Event
  -- on the line of this number the oldest order that is not answered is sent
  Offers : ℕ → Event
  -- the terminal reads this message, and those are left; to an order it responds by the three rules
  Hears : Down → List Down → Event
  -- the terminal reads an order whose body it refuses, and passes over it; and those are left
  Passes : Down → List Down → Event
  -- The terminal reads this message, and those are left. An order may be performed by the three rules, but is not responded to, since the
  -- vault, the log or memory failed behind it, or the terminal was stopped.
  Misses : Down → List Down → Event
  -- no line is in use any more
  Loses : Event
  -- the terminal starts again, in this edition, and makes its tables from its log
  RestartsTerminal : Edition → Event
  -- the platform's end of the line of this number is closed
  Cuts : ℕ → Event
  -- all ends at the platform are gone, and a new hub begins over what the keeper has; the book stays
  RestartsPlatform : Event

-- ---- the session

-- The request that a message makes, if it makes one. It is of a phone of the same digits, in whichever edition.
abbrev pub IsRequest : List ℕ → Up → Request → Type 0
IsRequest key (Answer place result) (ask.Other phone id) = (key_of phone ≡ key) × (id ≡ TERMINAL_ACK)
IsRequest key OtherMessage (ask.Register phone register) = key_of phone ≡ key
IsRequest key OtherMessage (ask.Auth phone code) = key_of phone ≡ key
IsRequest key OtherMessage (ask.Unit phone serial id body) = key_of phone ≡ key
IsRequest key OtherMessage (ask.Other phone id) = key_of phone ≡ key
IsRequest key message request = ⊥

-- there is no message, or one alone, which is no order
abbrev pub AtMostOneOther : List Down → Type 0
AtMostOneOther [] = Unit {0}
AtMostOneOther (OtherAnswer ∷ []) = Unit {0}
AtMostOneOther (OtherAnswer ∷ next ∷ more) = ⊥
AtMostOneOther (OrderMessage place ∷ more) = ⊥

-- What a session writes itself at a message and the reply to it. The answer to an order is a 0x0001, which is answered neither where its entry
-- says Accepted nor where the session is not live.
abbrev pub IsWritten : Up → Reply → List Down → Type 0
IsWritten (Answer place result) say.Accepted answers = answers ≡ []
IsWritten (Answer place result) say.NotLive answers = answers ≡ []
IsWritten message reply answers = AtMostOneOther answers

-- The reply is one that the history allows and that makes an entry. Only what answers no order may ask nothing. A session may stop at any
-- message.
abbrev pub MayAnswer : OrderWorld → ℕ → Up → Outcome → Type 0
MayAnswer w number message (Answered request reply answers) =
    IsRequest w.key message request × (makes_entry reply ≡ true) × Allowed (opening w) w.history number request reply × IsWritten message reply answers
MayAnswer w number (Answer place result) (Quiet answers) = ⊥
MayAnswer w number OtherMessage (Quiet answers) = AtMostOneOther answers
MayAnswer w number message Stopped = Unit {0}

-- an open session that has not ended takes the first message that waits
pub record MayTake (w : OrderWorld) (number : ℕ) (message : Up) (rest : List Up) : Type 0 where
  pub opened : IsOpened w.count number
  pub is_open : (w.lines number).is_open ≡ true
  pub going : (w.lines number).ended ≡ false
  pub first : (w.lines number).waiting ≡ message ∷ rest

-- an answer to the order of a place names serial and id of the oldest order that is not answered, which was sent on this line
pub record NamesOldest (w : OrderWorld) (number place : ℕ) : Type 0 where
  pub waits : length w.results < length w.issued
  pub serial : serial_of place ≡ serial_of (length w.results)
  pub id : (order_at w.issued place).id ≡ (order_at w.issued (length w.results)).id
  pub sent : Contains (w.lines number).sent (length w.results)

-- the message answers the oldest order that is not answered: it names it so, and its entry says Accepted
abbrev pub AnswersOldest : OrderWorld → ℕ → Up → Outcome → Type 0
AnswersOldest w number (Answer place result) (Answered request reply answers) = (reply ≡ say.Accepted) × NamesOldest w number place
AnswersOldest w number message outcome = ⊥

-- The book is told exactly where the message answers the oldest order, unless that fails.
abbrev pub MayTell : OrderWorld → ℕ → Up → Outcome → Telling → Type 0
MayTell w number message outcome TellsResult = AnswersOldest w number message outcome
MayTell w number message outcome TellsNothing = AnswersOldest w number message outcome → ⊥
MayTell w number message outcome BookFails = AnswersOldest w number message outcome

-- A session that is live and holds the phone sends the oldest order that is not answered, if it did not send it before.
pub record MayOffer (w : OrderWorld) (number : ℕ) : Type 0 where
  pub opened : IsOpened w.count number
  pub is_open : (w.lines number).is_open ≡ true
  pub waits : length w.results < length w.issued
  pub live : live w.key w.history number ≡ true
  pub holds : holder w.key w.history ≡ Some number
  pub new : Contains (w.lines number).sent (length w.results) → ⊥

-- ---- the terminal

-- the terminal refuses the body of an order that it reads in its own edition
abbrev pub has_refused_body : OrderWorld → Down → Bool
has_refused_body w (OrderMessage place) = w.performing.refuses w.edition (order_at w.issued place)
has_refused_body w OtherAnswer = false

-- it reads the first message that waits on the line in use
pub record MayRead (w : OrderWorld) (message : Down) (rest : List Down) : Type 0 where
  pub in_use : w.using ≡ true
  pub first : (w.lines w.count).unread ≡ message ∷ rest

-- ---- which event may come

-- the event may come in this world
abbrev pub May : OrderWorld → Event → Type 0
May w (Issues order) = IsOrder order
May w Opens = Unit {0}
May w Says = w.using ≡ true
May w (Takes number message rest outcome telling) = MayTake w number message rest × MayAnswer w number message outcome × MayTell w number message outcome telling
May w (Offers number) = MayOffer w number
May w (Hears message rest) = MayRead w message rest × (has_refused_body w message ≡ false)
May w (Passes message rest) = MayRead w message rest × (has_refused_body w message ≡ true)
May w (Misses message rest) = MayRead w message rest
May w Loses = Unit {0}
May w (RestartsTerminal edition) = Unit {0}
May w (Cuts number) = IsOpened w.count number × ((w.lines number).is_open ≡ true)
May w RestartsPlatform = Unit {0}

-- ---- the world after it

-- the line with one more message of the terminal; with one more message read; with one more order; with its platform's end closed
abbrev pub says : Line → Up → Line
says line message = record line { waiting = line.waiting ++ message ∷ [] }

abbrev pub reads : Line → Down → List Down → Line
reads line message rest = record line { read = message ∷ line.read; unread = rest }

abbrev pub sends_order : Line → ℕ → Line
sends_order line place = record line { unread = line.unread ++ OrderMessage place ∷ []; sent = place ∷ line.sent }

abbrev pub closed_line : Line → Line
closed_line line = record line { is_open = false }

-- what a session writes
abbrev pub answers_written : Outcome → List Down
answers_written (Answered request reply answers) = answers
answers_written (Quiet answers) = answers
answers_written Stopped = []

-- it ends by itself where another session holds the phone, and where it stopped
abbrev pub ends : Outcome → Bool
ends (Answered request reply answers) = is_fenced reply
ends (Quiet answers) = false
ends Stopped = true

-- the line behind one more message
abbrev pub line_after_message : Line → Up → List Up → Outcome → Line
line_after_message line message rest outcome = record line { gone = message ∷ line.gone; waiting = rest; unread = line.unread ++ answers_written outcome; ended = ends outcome }

-- the entry that was made, if one was
abbrev pub entries : ℕ → Outcome → List Entry
entries number (Answered request reply answers) = entry number request reply ∷ []
entries number (Quiet answers) = []
entries number Stopped = []

-- the results in the book behind a message of which it was told this
abbrev pub results_after : List ℕ → Up → Telling → List ℕ
results_after results (Answer place result) TellsResult = results ++ result ∷ []
results_after results message telling = results

-- no line is in use
abbrev pub without_line : OrderWorld → OrderWorld
without_line w = record w { using = false }

-- the ruling on the order of a place
abbrev pub ruling_on : OrderWorld → ℕ → Ruling
ruling_on w place = ruling w.log (serial_of place) (order_at w.issued place)

-- the order of a place, with the result that it has over the present tables
abbrev pub performed_at : OrderWorld → ℕ → Performed
performed_at w place = performed_over w.performing w.edition w.tables (order_at w.issued place)

-- what a ruling on it makes of the log, the tables and the record
abbrev pub log_by : OrderWorld → ℕ → Ruling → List Performed
log_by w place (Again result) = w.log
log_by w place Performs = w.log ++ performed_at w place ∷ []
log_by w place Refuses = w.log

abbrev pub tables_by : OrderWorld → ℕ → Ruling → HeldTables
tables_by w place (Again result) = w.tables
tables_by w place Performs = tables_behind w.performing w.tables (performed_at w place)
tables_by w place Refuses = w.tables

abbrev pub refused_by : OrderWorld → ℕ → Ruling → List ℕ
refused_by w place (Again result) = w.refused
refused_by w place Performs = w.refused
refused_by w place Refuses = place ∷ w.refused

-- and the result of the response
abbrev pub result_by : OrderWorld → ℕ → Ruling → ℕ
result_by w place (Again result) = result
result_by w place Performs = (performed_at w place).result
result_by w place Refuses = 1

-- by a ruling on the order of a place, with this line in use put anew
abbrev pub world_by : OrderWorld → ℕ → Ruling → Line → OrderWorld
world_by w place r line = record w { log = log_by w place r; tables = tables_by w place r; refused = refused_by w place r; lines = put w.lines w.count line }

-- a message is read, and passed over
abbrev pub after_passing : OrderWorld → Down → List Down → OrderWorld
after_passing w message rest = record w { lines = put w.lines w.count (reads (w.lines w.count) message rest) }

-- a message is read, and an order responded to
abbrev pub after_hearing : OrderWorld → Down → List Down → OrderWorld
after_hearing w OtherAnswer rest = after_passing w OtherAnswer rest
after_hearing w (OrderMessage place) rest =
    world_by w place (ruling_on w place) (says (reads (w.lines w.count) (OrderMessage place) rest) (Answer place (result_by w place (ruling_on w place))))

-- a message is read, and no order responded to, though it may be performed
abbrev pub after_ruling : OrderWorld → Down → List Down → OrderWorld
after_ruling w OtherAnswer rest = after_passing w OtherAnswer rest
after_ruling w (OrderMessage place) rest = world_by w place (ruling_on w place) (reads (w.lines w.count) (OrderMessage place) rest)

-- the same, where a refused body is passed over
abbrev pub after_without_response : OrderWorld → Down → List Down → OrderWorld
after_without_response w message rest = if has_refused_body w message then after_passing w message rest else after_ruling w message rest

-- the world behind an event
abbrev pub after : OrderWorld → Event → OrderWorld
after w (Issues order) = record w { issued = w.issued ++ order ∷ [] }
after w Opens = record w { using = true; count = suc w.count; lines = put w.lines (suc w.count) new_line }
after w Says = record w { lines = put w.lines w.count (says (w.lines w.count) OtherMessage) }
after w (Takes number message rest outcome telling) = record w {
  results = results_after w.results message telling;
  keeper = shelf_of w.key w.keeper (entries number outcome);
  history = entries number outcome ++ w.history;
  lines = put w.lines number (line_after_message (w.lines number) message rest outcome);
}
after w (Offers number) = record w { lines = put w.lines number (sends_order (w.lines number) (length w.results)) }
after w (Hears message rest) = after_hearing w message rest
after w (Passes message rest) = after_passing w message rest
after w (Misses message rest) = after_without_response w message rest
after w Loses = without_line w
after w (RestartsTerminal edition) = record w { using = false; edition = edition; tables = tables_of w.performing no_tables w.log }
after w (Cuts number) = record w { history = entry number ask.Close say.Accepted ∷ w.history; lines = put w.lines number (closed_line (w.lines number)) }
after w RestartsPlatform = record w { history = []; began = w.keeper; lines = λ number. closed_line (w.lines number) }
