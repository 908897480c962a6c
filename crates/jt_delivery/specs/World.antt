-- A terminal and a platform with any number of lines between them, in whole messages: what there is (this project's own). To be believed.
use Rattle.std.specs.Prelude.{◌≡◌, ◌⊎◌, ℕ, zero, suc, List, [], ◌∷◌, Bool, true, false, if◌then◌else◌, ◌==◌, ◌≤◌, Option, Some}
use Rattle.jt_store.specs.declared.row.Row.{Row}
use Rattle.jt_store.specs.Verdicts.{Shelf, alone, row_of}
use Rattle.jt_platform.specs.declared.request.Fleet.{Fleet}
use Rattle.jt_platform.specs.declared.request.Entry.{Entry}
use Rattle.jt_platform.specs.Allowed.{Opening}

-- ---- messages. A unit is named by its place: units count from 0 in the order in which they were formed.

-- what the terminal writes on a line
pub data Up : Type 0 where
  -- a 0x0102
  Authentication : Up
  -- any other message that is no unit and no 0x0003
  OtherMessage : Up
  -- the unit of a place, sent when so many units were formed
  Sending : (place formed : ℕ) → Up

-- what the session writes on a line
pub data Down : Type 0 where
  -- the acceptance of a 0x0102
  Admission : Down
  -- the acceptance of a unit, for this sending of it
  Acceptance : (place formed : ℕ) → Down
  -- anything else
  OtherAnswer : Down

-- ---- lines

-- A line of communication. What one end reads is what the other wrote, in order. Of a line that the terminal gave up it reads no more;
-- the session may still take what waits.
pub record Line : Type 0 where
  -- what the session went through, newest first, and what the terminal wrote behind that, oldest first
  pub gone : List Up
  pub waiting : List Up
  -- what the terminal read, newest first, and what the session wrote behind that, oldest first
  pub read : List Down
  pub unread : List Down
  -- whether the platform's end is open
  pub is_open : Bool
  -- whether the session ended by itself
  pub ended : Bool
  -- for the record: how many units were accepted, and how many were formed, when the line was opened
  pub first : ℕ
  pub formed : ℕ

abbrev pub new_line : (first formed : ℕ) → Line
new_line first formed = record { gone = []; waiting = []; read = []; unread = []; is_open = true; ended = false; first = first; formed = formed }

-- this line in the place of the one of this number
abbrev pub put : (ℕ → Line) → ℕ → Line → ℕ → Line
put lines number line k = if k == number then line else lines k

-- ---- the world

-- what every hub of the platform is started with
pub record Setting : Type 0 where
  pub fleet : Fleet
  pub secret : List ℕ
  -- the keeper's limit of rows
  pub limit : ℕ

pub record World : Type 0 where
  -- the digits of the terminal's phone
  pub key : List ℕ
  -- the fixes that the terminal recorded, each as its octets
  pub recorded : List (List ℕ)
  -- the units that it formed of them, with numbers that do not wrap
  pub units : List Row
  -- how many units it holds as accepted
  pub accepted : ℕ
  -- whether the newest line is in use
  pub using : Bool
  -- how many lines were opened, and the lines by their numbers, from 1 on
  pub count : ℕ
  pub lines : ℕ → Line
  pub setting : Setting
  -- what the platform keeps for the phone, and what it kept when the present hub began
  pub keeper : Shelf
  pub began : Shelf
  -- the present hub's entries, newest first
  pub history : List Entry
  -- the places of the units whose acceptance the terminal received
  pub told : List ℕ
  -- what the terminal read in the last step, where that step was such a reading
  pub just : Option Down
  -- for the record: the lines in the order in which their sessions took the phone, newest first; and the line on which the last row's
  -- unit came
  pub takers : List ℕ
  pub row_line : ℕ

-- the number of a line that was opened
abbrev pub IsOpened : ℕ → ℕ → Type 0
IsOpened count number = (1 ≤ number) × (number ≤ count)

-- what the present hub began with
abbrev pub opening : World → Opening
opening w = record { tables = Some (alone w.key w.began); limit = w.setting.limit; fleet = w.setting.fleet; secret = w.setting.secret }

-- ---- units

-- the unit or row of a place, and one without meaning past the end
abbrev pub row_at : List Row → ℕ → Row
row_at [] place = row_of 0 0 []
row_at (row ∷ rows) zero = row
row_at (row ∷ rows) (suc place) = row_at rows place

abbrev pub number_at : List Row → ℕ → ℕ
number_at rows place = (row_at rows place).number

-- ---- what was written

-- the unit of this place is among these messages
abbrev pub IsSentIn : List Up → ℕ → Type 0
IsSentIn [] place = ⊥
IsSentIn (Sending other formed ∷ more) place = (other ≡ place) ⊎ IsSentIn more place
IsSentIn (Authentication ∷ more) place = IsSentIn more place
IsSentIn (OtherMessage ∷ more) place = IsSentIn more place

-- the unit was sent on this line
abbrev pub WasSent : Line → ℕ → Type 0
WasSent line place = IsSentIn line.gone place ⊎ IsSentIn line.waiting place

-- the acceptance of a 0x0102 is among these answers
abbrev pub HasAdmission : List Down → Type 0
HasAdmission [] = ⊥
HasAdmission (Admission ∷ more) = Unit {0}
HasAdmission (Acceptance place formed ∷ more) = HasAdmission more
HasAdmission (OtherAnswer ∷ more) = HasAdmission more
