-- Seven facts about every world that is reached (this project's own), over messages and numbers that do not wrap. To be believed.
use Rattle.std.specs.Prelude.{◌≡◌, ◌⊎◌, ℕ, suc, ◌+◌, ◌-◌, ◌<◌, ◌≤◌, List, [], ◌∷◌, ◌++◌, length, take, true, false}
use Rattle.jt_value.specs.declared.limits.TheConstants.{UNIT_WINDOW}
use Rattle.jt_platform.specs.declared.request.Entry.{Entry}
use Rattle.jt_platform.specs.History.{live, takes}
use Rattle.jt_delivery.specs.World.{World, Setting, Up, Sending, Down, Acceptance, Line, IsOpened, IsSentIn, HasAdmission, number_at}
use Rattle.jt_store.specs.Units.{past_accepted}
use Rattle.jt_delivery.specs.Steps.{Event, IsNamed, May, after}
use Rattle.jt_delivery.specs.Reaching.{Reached, empty}
use Rattle.jt_delivery.specs.Record.{Carries, TookAfter, Stands, units_in, accepted_in, onto}

-- all that the terminal wrote on a line, and all that the session wrote, newest first
abbrev pub all_up : Line → List Up
all_up line = onto line.waiting line.gone

abbrev pub all_down : Line → List Down
all_down line = onto line.unread line.read

-- a unit was sent on the line behind these older messages, when so many units were formed
abbrev pub IsSending : Line → List Up → ℕ → ℕ → Type 0
IsSending line older place formed = (newer : List Up) × (all_up line ≡ newer ++ Sending place formed ∷ older)

-- The units accepted are no more than the rows, and these no more than the units. The rows are the first units, with their numbers.
pub record CountsInOrder (w : World) : Type 0 where
  pub accepted : w.accepted ≤ length w.keeper.rows
  pub stored : length w.keeper.rows ≤ length w.units
  pub first_units : w.keeper.rows ≡ take (length w.keeper.rows) w.units

-- Each unit's number is at most 32,766 above that of the unit before it, and, if it is not accepted, above that of the last accepted
-- unit. The first is at most 32,765.
pub record Numbers (w : World) : Type 0 where
  pub near_before : (place : ℕ) → suc place < length w.units → number_at w.units (suc place) ≤ number_at w.units place + UNIT_WINDOW
  pub near_mark : (place : ℕ) → w.accepted ≤ place → place < length w.units → number_at w.units place < past_accepted w.units w.accepted + UNIT_WINDOW
  pub first : 0 < length w.units → number_at w.units 0 ≤ (UNIT_WINDOW - 1)

-- On each line a unit is written only after every older unit that was not accepted when the line was opened.
abbrev pub Order : World → Type 0
Order w = (number : ℕ) → IsOpened w.count number → (before : List Up) (place formed : ℕ) → IsSending (w.lines number) before place formed
    → (older : ℕ) → (w.lines number).first ≤ older → older < place → IsSentIn before older

-- For each unit written on a line, every unit that was formed by then has a number at most 32,765 above its own; and every unit formed
-- later is written after it on that line, or not on that line.
pub record Closeness (w : World) : Type 0 where
  pub near : (number : ℕ) → IsOpened w.count number → (before : List Up) (place formed : ℕ) → IsSending (w.lines number) before place formed
      → (other : ℕ) → other < formed → number_at w.units other ≤ number_at w.units place + (UNIT_WINDOW - 1)
  pub later : (number : ℕ) → IsOpened w.count number → (before : List Up) (place formed : ℕ) → IsSending (w.lines number) before place formed
      → (other : ℕ) → formed ≤ other → IsSentIn before other → ⊥

-- an entry of the session in this history takes the phone
abbrev pub TookIn : List ℕ → List Entry → ℕ → Type 0
TookIn key [] session = ⊥
TookIn key (e ∷ older) session = ((e.session ≡ session) × (takes key e older ≡ true)) ⊎ TookIn key older session

-- If a line carries units, the acceptance of its 0x0102 was written on it, and read. If that was written, its session's authentication
-- took the phone in the present history and the session is live, or its platform's end is closed. No line opened earlier took the phone
-- after a later one, unless it carries no unit.
pub record Fence (w : World) : Type 0 where
  pub admitted : (number : ℕ) → IsOpened w.count number → Carries (w.lines number) → HasAdmission (w.lines number).read
  pub took : (number : ℕ) → IsOpened w.count number → HasAdmission (w.lines number).read ⊎ HasAdmission (w.lines number).unread
      → (TookIn w.key w.history number × (live w.key w.history number ≡ true)) ⊎ ((w.lines number).is_open ≡ false)
  pub fence : (number other : ℕ) → TookAfter w.takers number other → number < other → Carries (w.lines number) → ⊥

-- Each acceptance written on a line is of a stored unit, and the acceptances are those of the first units taken on that line, in the
-- order in which they were taken.
pub record Acceptances (w : World) : Type 0 where
  pub stored : (number : ℕ) → IsOpened w.count number → (older newer : List Down) (place formed : ℕ) → all_down (w.lines number) ≡ newer ++ Acceptance place formed ∷ older → place < length w.keeper.rows
  pub in_order : (number : ℕ) → IsOpened w.count number → (rest : List ℕ) × (rest ++ accepted_in (all_down (w.lines number)) ≡ units_in (w.lines number).gone)

-- The number of a unit whose acceptance is not yet read on the line in use is more than that of the last accepted unit less 32,766, and
-- at most 32,766 above it.
pub record Window (w : World) : Type 0 where
  pub above : w.using ≡ true → (before behind : List Down) (place formed : ℕ) → (w.lines w.count).unread ≡ before ++ Acceptance place formed ∷ behind → past_accepted w.units w.accepted ≤ number_at w.units place + UNIT_WINDOW
  pub below : w.using ≡ true → (before behind : List Down) (place formed : ℕ) → (w.lines w.count).unread ≡ before ++ Acceptance place formed ∷ behind → number_at w.units place < past_accepted w.units w.accepted + UNIT_WINDOW

pub record Parts (w : World) : Type 0 where
  pub counts : CountsInOrder w
  pub numbers : Numbers w
  pub order : Order w
  pub closeness : Closeness w
  pub fence : Fence w
  pub acceptances : Acceptances w
  pub window : Window w

-- ---- laws

-- the rule of `Record` stands before all events, and each event keeps it
pub record EventsKeepIt : Type 0 where
  pub begins : (key : List ℕ) (setting : Setting) → Stands (empty key setting)
  pub keeps : (w : World) (event : Event) → Stands w → May w event → Stands (after w event)

abbrev pub PartsFollow : Type 0
PartsFollow = (w : World) → Stands w → Parts w

abbrev pub EachReachedHasParts : Type 0
EachReachedHasParts = (w : World) → Reached w → Parts w

-- an answer that the terminal reads next on the line in use names one unit at most
abbrev pub OneIsNamed : Type 0
OneIsNamed = (w : World) → Stands w → w.using ≡ true → (answer : Down) (rest : List Down) → (w.lines w.count).unread ≡ answer ∷ rest
    → (place other : ℕ) → IsNamed w answer place → IsNamed w answer other → place ≡ other
