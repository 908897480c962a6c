-- The rule that each event keeps (this project's own): the seven parts of `Parts` and what else it takes. It speaks of the record beside
-- the world too: how much was accepted and formed when each line was opened and each unit sent, who took the phone in which order, and
-- on which line the last row's unit came. To be believed where `Parts` uses its words.
use Rattle.std.specs.Prelude.{◌≡◌, ◌⊎◌, ℕ, suc, ◌+◌, ◌-◌, ◌<◌, ◌≤◌, max, List, [], ◌∷◌, length, take, All, Bool, true, false, Option, Some, None}
use Rattle.jt_store.specs.declared.row.Row.{Row}
use Rattle.jt_platform.specs.declared.request.Entry.{Entry}
use Rattle.jt_platform.specs.History.{live, closed, holder}
use Rattle.jt_platform.specs.Laws.{shelf_of}
use Rattle.jt_delivery.specs.World.{Up, Authentication, OtherMessage, Sending, Down, Admission, Acceptance, OtherAnswer, Line, World, IsOpened, number_at, WasSent, HasAdmission}
use mathlib.Core.List.{IsPrefix}
use Rattle.jt_value.specs.declared.limits.TheConstants.{UNIT_WINDOW}
use Rattle.jt_store.specs.Units.{past_accepted, fixes_in}
use Rattle.jt_delivery.specs.Claim.{NoneRenumbered}

-- ---- what was sent on a line

-- one past the greatest place that was sent up to the newest of these messages, newest first; `first` where there is none
abbrev pub top : ℕ → List Up → ℕ
top first [] = first
top first (Sending place formed ∷ gone) = max (top first gone) (suc place)
top first (Authentication ∷ gone) = top first gone
top first (OtherMessage ∷ gone) = top first gone

-- how many units were formed when the newest of these units was sent
abbrev pub seen : ℕ → List Up → ℕ
seen formed [] = formed
seen formed (Sending place by ∷ gone) = by
seen formed (Authentication ∷ gone) = seen formed gone
seen formed (OtherMessage ∷ gone) = seen formed gone

-- the same over messages that stand oldest first, from what was before them
abbrev pub end_top : ℕ → List Up → ℕ
end_top before [] = before
end_top before (Sending place formed ∷ more) = end_top (max before (suc place)) more
end_top before (Authentication ∷ more) = end_top before more
end_top before (OtherMessage ∷ more) = end_top before more

abbrev pub end_seen : ℕ → List Up → ℕ
end_seen before [] = before
end_seen before (Sending place formed ∷ more) = end_seen formed more
end_seen before (Authentication ∷ more) = end_seen before more
end_seen before (OtherMessage ∷ more) = end_seen before more

-- one past the greatest place that was sent on the line, gone or waiting
abbrev pub line_top : Line → ℕ
line_top line = end_top (top line.first line.gone) line.waiting

-- What stays true of a sending for good: the units that were formed by then, so many, are near its own.
pub record SendOk (units : List Row) (place formed : ℕ) : Type 0 where
  pub before : place < formed
  pub known : formed ≤ length units
  pub near : number_at units (formed - 1) ≤ number_at units place + (UNIT_WINDOW - 1)

-- What is true of a sending by what was sent before it on its line: up to `before`, and with `seen_by` units formed at the last one.
pub record Follows (units : List Row) (first before seen_by place formed : ℕ) : Type 0 where
  pub good : SendOk units place formed
  pub from_first : first ≤ place
  pub in_order : place ≤ before
  pub later : seen_by ≤ formed

-- each of these follows what was before it: newest first, and oldest first
abbrev pub Gone : List Row → ℕ → ℕ → List Up → Type 0
Gone units first formed [] = Unit {0}
Gone units first formed (Sending place by ∷ gone) = Follows units first (top first gone) (seen formed gone) place by × Gone units first formed gone
Gone units first formed (Authentication ∷ gone) = Gone units first formed gone
Gone units first formed (OtherMessage ∷ gone) = Gone units first formed gone

abbrev pub Waiting : List Row → ℕ → ℕ → ℕ → List Up → Type 0
Waiting units first before seen_by [] = Unit {0}
Waiting units first before seen_by (Sending place by ∷ more) = Follows units first before seen_by place by × Waiting units first (max before (suc place)) by more
Waiting units first before seen_by (Authentication ∷ more) = Waiting units first before seen_by more
Waiting units first before seen_by (OtherMessage ∷ more) = Waiting units first before seen_by more

-- the line carries a unit
abbrev pub Carries : Line → Type 0
Carries line = (place : ℕ) × WasSent line place

-- ---- what was answered on a line

-- each acceptance is of one of the first units, so many
abbrev pub Below : ℕ → List Down → Type 0
Below stored [] = Unit {0}
Below stored (Acceptance place formed ∷ more) = (place < stored) × Below stored more
Below stored (Admission ∷ more) = Below stored more
Below stored (OtherAnswer ∷ more) = Below stored more

-- Acceptances, oldest first, stand in the order of what was formed at their sendings, from `low` to `high`.
abbrev pub Chain : List Row → ℕ → ℕ → List Down → Type 0
Chain units low high [] = low ≤ high
Chain units low high (Acceptance place formed ∷ more) = SendOk units place formed × (low ≤ formed) × Chain units formed high more
Chain units low high (Admission ∷ more) = Chain units low high more
Chain units low high (OtherAnswer ∷ more) = Chain units low high more

-- the places of the units among these messages, and of those accepted among these answers
abbrev pub units_in : List Up → List ℕ
units_in [] = []
units_in (Sending place formed ∷ more) = place ∷ units_in more
units_in (Authentication ∷ more) = units_in more
units_in (OtherMessage ∷ more) = units_in more

abbrev pub accepted_in : List Down → List ℕ
accepted_in [] = []
accepted_in (Acceptance place formed ∷ more) = place ∷ accepted_in more
accepted_in (Admission ∷ more) = accepted_in more
accepted_in (OtherAnswer ∷ more) = accepted_in more

-- a list that stands oldest first on top of one that stands newest first: all of them, newest first
abbrev pub onto : {A : Type 0} → List A → List A → List A
onto [] gone = gone
onto (x ∷ more) gone = onto more (x ∷ gone)

-- Acceptances stand in the order of the units that the session went through. Only after the last unit of a session that is over may one
-- be missing.
abbrev pub AnswersInOrder : Line → Type 0
AnswersInOrder line =
    (units_in line.gone ≡ accepted_in (onto line.unread line.read))
    ⊎ ((place : ℕ) × (units_in line.gone ≡ place ∷ accepted_in (onto line.unread line.read)) × (line.is_open ≡ true → line.ended ≡ true))

-- ---- who took the phone

-- the line took the phone
abbrev pub Took : List ℕ → ℕ → Type 0
Took [] line = ⊥
Took (t ∷ takers) line = (t ≡ line) ⊎ Took takers line

-- the first line took the phone after the second
abbrev pub TookAfter : List ℕ → ℕ → ℕ → Type 0
TookAfter [] line other = ⊥
TookAfter (t ∷ takers) line other = ((t ≡ line) × Took takers other) ⊎ TookAfter takers line other

-- who holds the phone took it last
abbrev pub HolderIs : Option ℕ → List ℕ → Type 0
HolderIs None takers = Unit {0}
HolderIs (Some h) [] = ⊥
HolderIs (Some h) (t ∷ takers) = h ≡ t

-- ---- the parts of the rule

-- numbers rise, each near the one before it, and those that are not accepted near the last accepted one
pub record UnitsOk (units : List Row) (accepted : ℕ) : Type 0 where
  pub rise : (older newer : ℕ) → older < newer → newer < length units → number_at units older < number_at units newer
  pub near_before : (place : ℕ) → suc place < length units → number_at units (suc place) ≤ number_at units place + UNIT_WINDOW
  pub near_first : 0 < length units → number_at units 0 ≤ (UNIT_WINDOW - 1)
  pub near_mark : (place : ℕ) → accepted ≤ place → place < length units → number_at units place ≤ past_accepted units accepted + (UNIT_WINDOW - 1)

-- the rows are the first units, and those that are accepted are among them
pub record RowsOk (units : List Row) (accepted : ℕ) (rows : List Row) : Type 0 where
  pub first_units : rows ≡ take (length rows) units
  pub stored : length rows ≤ length units
  pub accepted_stored : accepted ≤ length rows

-- a line that was opened
pub record LineOk (key : List ℕ) (units : List Row) (accepted stored : ℕ) (takers : List ℕ) (history : List Entry) (number : ℕ) (line : Line) : Type 0 where
  pub first_formed : line.first ≤ line.formed
  pub formed_units : line.formed ≤ length units
  pub first_accepted : line.first ≤ accepted
  -- what was sent on it is in order and near
  pub gone : Gone units line.first line.formed line.gone
  pub waiting : Waiting units line.first (top line.first line.gone) (seen line.formed line.gone) line.waiting
  -- where it carries a unit, the terminal read that it was admitted; where that was written, its session took the phone
  pub admitted : Carries line → HasAdmission line.read
  pub took : HasAdmission line.read ⊎ HasAdmission line.unread → Took takers number
  -- while it is open its session is live exactly where it took the phone, and it is not closed
  pub live_took : line.is_open ≡ true → live key history number ≡ true → Took takers number
  pub took_live : line.is_open ≡ true → Took takers number → live key history number ≡ true
  pub not_closed : line.is_open ≡ true → closed history number ≡ false
  -- a session that goes on stored all that it took
  pub taken : line.is_open ≡ true → line.ended ≡ false → top line.first line.gone ≤ stored
  -- acceptances are of stored units, in order
  pub below : Below stored line.read × Below stored line.unread
  pub order : AnswersInOrder line

-- all that a line carries was formed when a later one was opened
abbrev pub Across : ℕ → (ℕ → Line) → Type 0
Across count lines = (older newer : ℕ) → 1 ≤ older → older < newer → newer ≤ count → line_top (lines older) ≤ (lines newer).formed

pub record TakersOk (key : List ℕ) (count : ℕ) (lines : ℕ → Line) (takers : List ℕ) (history : List Entry) : Type 0 where
  pub opened : (number : ℕ) → Took takers number → IsOpened count number
  pub unopened : (number : ℕ) → count < number → (live key history number ≡ false) × (closed history number ≡ false)
  -- an older line that took the phone after a newer one carries no unit
  pub fence : (number other : ℕ) → TookAfter takers number other → number < other → Carries (lines number) → ⊥
  pub holder_last : HolderIs (holder key history) takers

-- what was accepted when the last row's line was opened, or is gone on it, reaches past the last row's unit; and that line took the phone
pub record LastRowOk (lines : ℕ → Line) (takers : List ℕ) (stored row_line : ℕ) : Type 0 where
  pub by : Took takers row_line
  pub there : stored ≤ top (lines row_line).first (lines row_line).gone

-- the line in use: each unit accepted since it was opened was sent on it, and what is unread on it is in order
pub record InUseOk (units : List Row) (accepted count : ℕ) (line : Line) : Type 0 where
  pub some_line : 1 ≤ count
  pub accepted_sent : accepted ≤ line_top line
  pub chain : Chain units accepted (seen line.formed line.gone) line.unread

-- what the terminal read in the last step
abbrev pub JustOk : List Row → ℕ → ℕ → Bool → Line → Option Down → Type 0
JustOk units accepted stored using line None = Unit {0}
JustOk units accepted stored using line (Some Admission) = Unit {0}
JustOk units accepted stored using line (Some OtherAnswer) = Unit {0}
JustOk units accepted stored using line (Some (Acceptance place formed)) =
    SendOk units place formed × (place < stored) × (accepted ≤ formed) × (using ≡ true) × Chain units formed (seen line.formed line.gone) line.unread

-- ---- the rule

pub record Stands (w : World) : Type 0 where
  pub units : UnitsOk w.units w.accepted
  pub rows : RowsOk w.units w.accepted w.keeper.rows
  pub lines : (number : ℕ) → IsOpened w.count number → LineOk w.key w.units w.accepted (length w.keeper.rows) w.takers w.history number (w.lines number)
  pub across : Across w.count w.lines
  pub takers : TakersOk w.key w.count w.lines w.takers w.history
  pub last_row : 0 < length w.keeper.rows → LastRowOk w.lines w.takers (length w.keeper.rows) w.row_line
  pub in_use : w.using ≡ true → InUseOk w.units w.accepted w.count (w.lines w.count)
  -- units whose acceptance was received are stored, no entry says Renumbered, the keeper is where the history leaves it, and the units
  -- carry the first fixes
  pub told : All (λ (place : ℕ). place < length w.keeper.rows) w.told
  pub answers : NoneRenumbered w.history
  pub keeper : w.keeper ≡ shelf_of w.key w.began w.history
  pub fixes : IsPrefix (fixes_in w.units) w.recorded
  pub just : JustOk w.units w.accepted (length w.keeper.rows) w.using (w.lines w.count) w.just
