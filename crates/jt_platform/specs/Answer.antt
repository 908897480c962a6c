-- The reply to a request as a function (this project's own). To be believed where a world is played; `law_answers` says that each reply
-- that is allowed is this one.
use Rattle.std.specs.Prelude.{◌<◌, ◌↔◌, ◌+◌, ◌-◌, ℕ, List, [], ◌∷◌, length, Bool, false, ◌==◌, ◌&&◌, ◌||◌, IsTrue, if◌then◌else◌, Option, None, Some, nat_lt, bytes_eq}
use Rattle.jt_value.specs.declared.limits.TheConstants.{SERIAL_WINDOW}
use Rattle.jt_value.specs.Sameness.{key_of}
use Rattle.jt_value.specs.Serials.{Verdict, New, Repeat, Anew, next_with}
use Rattle.jt_store.specs.Tables.{Tables, last_of, plates, terminals}
use Rattle.jt_store.specs.declared.row.Registered.{Registered}
use Rattle.jt_store.specs.declared.row.Row.{Row}
use Rattle.jt_platform.specs.declared.request.Fleet.{Fleet}
use Rattle.jt_platform.specs.declared.request.Request.{Request}
use Rattle.jt_platform.specs.declared.request.Request.TheVariants as ask
use Rattle.jt_platform.specs.declared.request.Reply.{Reply}
use Rattle.jt_platform.specs.declared.request.Reply.TheVariants as say
use Rattle.jt_platform.specs.declared.request.Entry.{Entry}
use Rattle.jt_platform.specs.Codes.{code_for}
use Rattle.jt_platform.specs.History.{live, closed, holder, registration}
use Rattle.jt_platform.specs.Allowed.{Opening, has_plate, has_terminal, IsAnothers}

-- ---- units

-- whether a row has this number, id and body
abbrev pub has_row : List Row → ℕ → List ℕ → ℕ → Bool
has_row [] id body n = false
has_row (r ∷ rows) id body n = ((r.number == n) && ((r.id == id) && bytes_eq r.body body)) || has_row rows id body n

-- the number that a far serial has up to the last row, which is 65,536 below the next one with it, or else a new one
abbrev pub far_verdict : ℕ → ℕ → ℕ → (ℕ → Bool) → Verdict
far_verdict last serial next has = if nat_lt next 65536 then Anew (next_with (last + 65535) serial) else (if has (next - 65536) then Repeat (next - 65536) else Anew (next_with (last + 65535) serial))

-- what a unit is to the rows so far, where `has n` says whether a row of number n has its id and body
abbrev pub verdict_of : Option ℕ → ℕ → (ℕ → Bool) → Verdict
verdict_of None serial has = New serial
verdict_of (Some last) serial has = if nat_lt (last + SERIAL_WINDOW) (next_with last serial) then far_verdict last serial (next_with last serial) has else New (next_with last serial)

abbrev pub if_room : ℕ → ℕ → Reply → Reply
if_room limit count reply = if count == limit then say.ListFull limit else reply

abbrev pub verdict_answer : ℕ → ℕ → Verdict → Reply
verdict_answer limit count (New n) = if_room limit count (say.Stored n)
verdict_answer limit count (Repeat n) = say.Repeat n
verdict_answer limit count (Anew n) = if_room limit count (say.Renumbered n)

abbrev pub unit_answer : ℕ → List Row → ℕ → ℕ → List ℕ → Reply
unit_answer limit rows serial id body = verdict_answer limit (length rows) (verdict_of (last_of rows) serial (has_row rows id body))

-- ---- registrations and authentications

abbrev pub is_so : Option Registered → Registered → Bool
is_so None wanted = false
is_so (Some r) wanted = bytes_eq r.plate wanted.plate && bytes_eq r.terminal wanted.terminal

abbrev pub free_answer : Bool → Bool → List ℕ → Reply
free_answer plate_taken terminal_taken code = if plate_taken then say.Denied 1 else (if terminal_taken then say.Denied 3 else say.Registered code)

abbrev pub fleet_answer : Bool → Bool → Reply → Reply
fleet_answer plate terminal reply = if plate then (if terminal then reply else say.Denied 4) else say.Denied 2

abbrev pub register_answer : Fleet → Option Registered → Bool → Bool → Registered → List ℕ → Reply
register_answer fleet was plate_taken terminal_taken wanted code =
    if is_so was wanted then say.Registered code
    else fleet_answer (has_plate fleet.plates wanted.plate) (has_terminal fleet.terminals wanted.terminal) (free_answer plate_taken terminal_taken code)

abbrev pub auth_answer : Option Registered → Bool → Reply
auth_answer None is_code = say.Denied 1
auth_answer (Some r) is_code = if is_code then say.Accepted else say.Denied 1

-- ---- the session's right

abbrev pub holder_answer : ℕ → Option ℕ → Reply → Reply
holder_answer session None reply = reply
holder_answer session (Some other) reply = if other == session then reply else say.Fenced other

abbrev pub guarded_answer : List ℕ → List Entry → ℕ → Reply → Reply
guarded_answer key h session reply = if live key h session then holder_answer session (holder key h) reply else say.NotLive

-- ---- the reply, over what the history left of the tables. No function can search all phones: whether another phone has the plate or
-- the terminal id are two arguments.

abbrev pub open_answer : Opening → Tables → Bool → Bool → List Entry → ℕ → Request → Reply
open_answer o t plate_taken terminal_taken h session (ask.Register phone register) = register_answer o.fleet (t.registered (key_of phone)) plate_taken terminal_taken (registration register) (code_for o.secret phone)
open_answer o t plate_taken terminal_taken h session (ask.Auth phone code) = auth_answer (t.registered (key_of phone)) (bytes_eq code (code_for o.secret phone))
open_answer o t plate_taken terminal_taken h session (ask.Unit phone serial id body) = guarded_answer (key_of phone) h session (unit_answer o.limit (t.rows (key_of phone)) serial id body)
open_answer o t plate_taken terminal_taken h session (ask.Deregister phone) = guarded_answer (key_of phone) h session say.Accepted
open_answer o t plate_taken terminal_taken h session (ask.Other phone id) = guarded_answer (key_of phone) h session say.Accepted
open_answer o t plate_taken terminal_taken h session ask.Close = say.Accepted

abbrev pub answer : Opening → Tables → Bool → Bool → List Entry → ℕ → Request → Reply
answer o t plate_taken terminal_taken h session ask.Close = say.Accepted
answer o t plate_taken terminal_taken h session request = if closed h session then say.NotLive else open_answer o t plate_taken terminal_taken h session request

-- what the arguments must be: the tests of a registration tell whether another phone has its plate, and its terminal id; a unit's
-- serial is one of sixteen bits
abbrev pub IsAsked : Tables → Bool → Bool → Request → Type 0
IsAsked t plate_taken terminal_taken (ask.Register phone register) =
    (IsTrue plate_taken ↔ IsAnothers plates t (key_of phone) (registration register).plate) × (IsTrue terminal_taken ↔ IsAnothers terminals t (key_of phone) (registration register).terminal)
IsAsked t plate_taken terminal_taken (ask.Unit phone serial id body) = serial < 65536
IsAsked t plate_taken terminal_taken request = Unit {0}
