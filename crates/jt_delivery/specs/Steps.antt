-- What may happen, and what it leaves (this project's own). To be believed.
use Rattle.std.specs.Prelude.{◌≡◌, ℕ, ◌<◌, ◌≤◌, suc, List, [], ◌∷◌, ◌++◌, length, All, Bool, true, false, if◌then◌else◌, Option, Some, None}
use Rattle.jt_value.specs.Serials.{serial_of}
use Rattle.jt_value.specs.Sameness.{key_of}
use Rattle.jt_position.specs.Fixes.{IsFix}
use Rattle.jt_store.specs.declared.row.Row.{Row}
use Rattle.jt_platform.specs.declared.request.Request.{Request}
use Rattle.jt_platform.specs.declared.request.Request.TheVariants as ask
use Rattle.jt_platform.specs.declared.request.Reply.{Reply}
use Rattle.jt_platform.specs.declared.request.Reply.TheVariants as say
use Rattle.jt_platform.specs.declared.request.Entry.{Entry}
use Rattle.jt_platform.specs.History.{takes}
use Rattle.jt_platform.specs.Allowed.{Allowed, makes_entry}
use Rattle.jt_platform.specs.Laws.{shelf_of}
use Rattle.jt_delivery.specs.World.{Up, Authentication, OtherMessage, Sending, Down, Admission, Acceptance, OtherAnswer, Line, World, new_line, put, IsOpened, opening, row_at, number_at, WasSent, HasAdmission}
use Rattle.jt_store.specs.Units.{MayForm}

-- how a session goes on at a message, and what it writes
pub data Outcome : Type 0 where
  -- it asked this, was replied so, and an entry was made
  Answered : Request → Reply → List Down → Outcome
  -- it asked nothing
  Quiet : List Down → Outcome
  -- it stopped: the keeper was full or failed, or memory was wanted; no entry was made, and nothing written
  Stopped : Outcome

pub data Event : Type 0 where
  -- a fix is put at the end of those recorded
  Records : List ℕ → Event
  -- the next fixes that are in no unit make one
  Forms : Row → Event
  -- a new line is in use
  Opens : Event
  -- the unit of a place is sent
  Sends : ℕ → Event
  -- another message is sent
  Says : Up → Event
  -- on the line of this number the session takes this message, and those are left
  Answers : (number : ℕ) → Up → List Up → Outcome → Event
  -- the terminal reads this answer, and those are left; it is told that the units of these places are accepted
  Hears : Down → List Down → List ℕ → Event
  -- the acceptance of the oldest unit that is not accepted is taken
  Accepts : Event
  -- no line is in use any more
  Loses : Event
  -- the terminal starts again
  Restarts : Event
  -- the platform's end of the line of this number is closed
  Cuts : ℕ → Event
  -- all ends at the platform are gone, and a new hub begins over what the keeper has
  RestartsPlatform : Event

-- ---- the terminal

-- A unit that is not accepted may be sent once the acceptance of a 0x0102 was read on the line in use, and after each older one that is
-- not accepted.
pub record MaySend (w : World) (place : ℕ) : Type 0 where
  pub in_use : w.using ≡ true
  pub admitted : HasAdmission (w.lines w.count).read
  pub waits : w.accepted ≤ place
  pub formed : place < length w.units
  pub in_order : (older : ℕ) → w.accepted ≤ older → older < place → WasSent (w.lines w.count) older

-- Another message is no unit. When it may be sent is not asked: the law holds whenever it is. But a 0x0003 is none of them.
abbrev pub IsNoUnit : Up → Type 0
IsNoUnit Authentication = Unit {0}
IsNoUnit OtherMessage = Unit {0}
IsNoUnit (Sending place formed) = ⊥

-- an acceptance names a unit by its serial and its id
abbrev pub Names : List Row → Down → ℕ → Type 0
Names units (Acceptance of formed) place = (serial_of (number_at units of) ≡ serial_of (number_at units place)) × ((row_at units of).id ≡ (row_at units place).id)
Names units Admission place = ⊥
Names units OtherAnswer place = ⊥

-- the answer names this unit, which was sent on the line in use and is not accepted
pub record IsNamed (w : World) (answer : Down) (place : ℕ) : Type 0 where
  pub names : Names w.units answer place
  pub waits : w.accepted ≤ place
  pub formed : place < length w.units
  pub sent : WasSent (w.lines w.count) place

-- the oldest unit that is not accepted is named by what was read directly before
abbrev pub IsTakenBy : World → Option Down → Type 0
IsTakenBy w None = ⊥
IsTakenBy w (Some answer) = IsNamed w answer w.accepted

-- ---- the session

-- The request that a message makes, if it makes one. It is of a phone of the same digits, in whichever edition.
abbrev pub IsRequest : List ℕ → List Row → Up → Request → Type 0
IsRequest key units Authentication (ask.Auth phone code) = key_of phone ≡ key
IsRequest key units OtherMessage (ask.Register phone register) = key_of phone ≡ key
IsRequest key units OtherMessage (ask.Other phone id) = key_of phone ≡ key
IsRequest key units (Sending place formed) (ask.Unit phone serial id body) =
    (key_of phone ≡ key) × (serial ≡ serial_of (number_at units place)) × (id ≡ (row_at units place).id) × (body ≡ (row_at units place).body)
IsRequest key units message request = ⊥

-- none of these accepts anything
abbrev pub AreOthers : List Down → Type 0
AreOthers [] = Unit {0}
AreOthers (OtherAnswer ∷ more) = AreOthers more
AreOthers (Admission ∷ more) = ⊥
AreOthers (Acceptance place formed ∷ more) = ⊥

-- What is written at a reply: one acceptance for an accepted authentication, and for a unit whose row stands; else none.
abbrev pub IsWritten : Up → Reply → List Down → Type 0
IsWritten Authentication say.Accepted written = written ≡ Admission ∷ []
IsWritten (Sending place formed) (say.Stored n) written = written ≡ Acceptance place formed ∷ []
IsWritten (Sending place formed) (say.Repeat n) written = written ≡ Acceptance place formed ∷ []
IsWritten (Sending place formed) (say.Renumbered n) written = written ≡ Acceptance place formed ∷ []
IsWritten message reply written = AreOthers written

-- The reply is one that the history allows and that makes an entry. Only what is no unit may ask nothing. A session may stop at any
-- message.
abbrev pub MayAnswer : World → ℕ → Up → Outcome → Type 0
MayAnswer w number message (Answered request reply written) =
    IsRequest w.key w.units message request × (makes_entry reply ≡ true) × Allowed (opening w) w.history number request reply × IsWritten message reply written
MayAnswer w number (Sending place formed) (Quiet written) = ⊥
MayAnswer w number Authentication (Quiet written) = AreOthers written
MayAnswer w number OtherMessage (Quiet written) = AreOthers written
MayAnswer w number message Stopped = Unit {0}

-- an open session that has not ended takes the first message that waits
pub record MayTake (w : World) (number : ℕ) (message : Up) (rest : List Up) : Type 0 where
  pub opened : IsOpened w.count number
  pub is_open : (w.lines number).is_open ≡ true
  pub going : (w.lines number).ended ≡ false
  pub first : (w.lines number).waiting ≡ message ∷ rest

-- ---- which event may come

abbrev pub May : World → Event → Type 0
May w (Records fix) = IsFix fix
May w (Forms unit) = MayForm w.units w.accepted w.recorded unit
May w Opens = Unit {0}
May w (Sends place) = MaySend w place
May w (Says message) = (w.using ≡ true) × IsNoUnit message
May w (Answers number message rest outcome) = MayTake w number message rest × MayAnswer w number message outcome
May w (Hears answer rest named) = (w.using ≡ true) × ((w.lines w.count).unread ≡ answer ∷ rest) × All (λ (place : ℕ). IsNamed w answer place) named
May w Accepts = (w.using ≡ true) × IsTakenBy w w.just
May w Loses = Unit {0}
May w Restarts = Unit {0}
May w (Cuts number) = IsOpened w.count number × ((w.lines number).is_open ≡ true)
May w RestartsPlatform = Unit {0}

-- ---- the world after it

-- the line with one more message of the terminal; with one more answer read; with its platform's end closed
abbrev pub says : Line → Up → Line
says line message = record line { waiting = line.waiting ++ message ∷ [] }

abbrev pub reads : Line → Down → List Down → Line
reads line answer rest = record line { read = answer ∷ line.read; unread = rest }

abbrev pub closed_line : Line → Line
closed_line line = record line { is_open = false }

-- what a session writes
abbrev pub written : Outcome → List Down
written (Answered request reply answers) = answers
written (Quiet answers) = answers
written Stopped = []

abbrev pub is_fenced : Reply → Bool
is_fenced (say.Fenced other) = true
is_fenced reply = false

-- it ends by itself where another session holds the phone, and where it stopped
abbrev pub ends : Outcome → Bool
ends (Answered request reply answers) = is_fenced reply
ends (Quiet answers) = false
ends Stopped = true

-- the line behind one more message
abbrev pub line_after_message : Line → Up → List Up → Outcome → Line
line_after_message line message rest outcome = record line { gone = message ∷ line.gone; waiting = rest; unread = line.unread ++ written outcome; ended = ends outcome }

abbrev pub entry : ℕ → Request → Reply → Entry
entry number request reply = record { session = number; request = request; reply = reply }

-- the entry that was made, if one was
abbrev pub entries : ℕ → Outcome → List Entry
entries number (Answered request reply answers) = entry number request reply ∷ []
entries number (Quiet answers) = []
entries number Stopped = []

-- the record of who took the phone: one more line where the entry takes it
abbrev pub takers_after : World → ℕ → Outcome → List ℕ
takers_after w number (Answered request reply answers) = if takes w.key (entry number request reply) w.history then number ∷ w.takers else w.takers
takers_after w number (Quiet answers) = w.takers
takers_after w number Stopped = w.takers

-- the record of the last row's line: this one where a unit's reply adds a row
abbrev pub row_line_after : (before number : ℕ) → Up → Outcome → ℕ
row_line_after before number (Sending place formed) (Answered request (say.Stored n) answers) = number
row_line_after before number (Sending place formed) (Answered request (say.Renumbered n) answers) = number
row_line_after before number message outcome = before

abbrev pub without_line : World → World
without_line w = record w { using = false; just = None }

abbrev pub after : World → Event → World
after w (Records fix) = record w { recorded = w.recorded ++ fix ∷ []; just = None }
after w (Forms unit) = record w { units = w.units ++ unit ∷ []; just = None }
after w Opens = record w { using = true; count = suc w.count; lines = put w.lines (suc w.count) (new_line w.accepted (length w.units)); just = None }
after w (Sends place) = record w { lines = put w.lines w.count (says (w.lines w.count) (Sending place (length w.units))); just = None }
after w (Says message) = record w { lines = put w.lines w.count (says (w.lines w.count) message); just = None }
after w (Answers number message rest outcome) = record w {
  keeper = shelf_of w.key w.keeper (entries number outcome);
  history = entries number outcome ++ w.history;
  takers = takers_after w number outcome;
  row_line = row_line_after w.row_line number message outcome;
  lines = put w.lines number (line_after_message (w.lines number) message rest outcome);
  just = None;
}
after w (Hears answer rest named) = record w { lines = put w.lines w.count (reads (w.lines w.count) answer rest); told = named ++ w.told; just = Some answer }
after w Accepts = record w { accepted = suc w.accepted; just = None }
after w Loses = without_line w
after w Restarts = without_line w
after w (Cuts number) = record w { history = entry number ask.Close say.Accepted ∷ w.history; lines = put w.lines number (closed_line (w.lines number)); just = None }
after w RestartsPlatform = record w { history = []; began = w.keeper; lines = λ number. closed_line (w.lines number); just = None }
