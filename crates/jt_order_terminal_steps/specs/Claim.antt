-- What each call of an order terminal does is steps of the world of orders (this project's own). To be believed.
use Rattle.std.specs.Prelude.{◌≡◌, ℕ, ◌≤◌, List, [], ◌∷◌, ◌++◌, ◌⊎◌, All, length, take, true, Option, None, Some}
use Rattle.jt_value.specs.Octets.{AreOctets}
use Rattle.jt_value.specs.Sameness.{key_of}
use Rattle.jt_stream.specs.Unplaced.{Unplaced}
use Rattle.jt_delivery.specs.World.{Setting}
use Rattle.jt_terminal_rule.specs.declared.settings.Settings.{Settings}
use Rattle.jt_terminal_rule.specs.declared.state.State.{State}
use Rattle.jt_terminal_rule.specs.declared.state.Event.{Event}
use Rattle.jt_terminal_rule.specs.declared.state.GiveUp.{GiveUp}
use Rattle.jt_terminal_rule.specs.Law.{nothing_held}
use Rattle.jt_terminal_rule.specs.Machines.{is_up}
use Rattle.jt_terminal_rule.specs.Messages.{AreSettings}
use Rattle.jt_terminal_rule.specs.Steps as step
use Rattle.jt_terminal_steps.specs.Running.{IsSound, IsStarted}
use Rattle.jt_order_terminal.specs.Ledgers.{IsLedgerOf, Ledger}
use Rattle.jt_order_terminal.specs.Terminals.{IsNoMessage, does_at_items, items_behind}
use Rattle.jt_octets.specs.World.{newest, taken_of}
use Rattle.jt_order_octets.specs.World.{OrderWorld, empty}
use Rattle.jt_order_octets.specs.Steps.{Event as WorldEvent, Cut, Does, Down, Issues, MayCome, Offers, RestartPlatform, Up, after}
use Rattle.jt_order_octets.specs.Reaching.{Leads, Reached}
use Rattle.jt_order_terminal_steps.specs.Standing.{AreNext, TerminalParts, TerminalStandsIn, after_call, told_at_items, with_line_at}
use Rattle.jt_order_terminal_steps.specs.Calls.{EventFails, EventIsDone, FeedFails, FeedIsDone, HasStarted}

-- a step is the terminal's own
abbrev pub IsOfTerminal : WorldEvent → Type 0
IsOfTerminal (Does s) = Unit {0}
IsOfTerminal (Down takes responds) = Unit {0}
IsOfTerminal (Issues order) = ⊥
IsOfTerminal (Up place way telling) = ⊥
IsOfTerminal (Offers place) = ⊥
IsOfTerminal (Cut place) = ⊥
IsOfTerminal RestartPlatform = ⊥

-- steps lead to this world, and all steps are the terminal's own; and the terminal stands in that world
pub record LeadsTo (old new : OrderWorld) (t : TerminalParts) : Type 0 where
  pub leads : Leads old new
  pub own : All IsOfTerminal leads.events
  pub stands : TerminalStandsIn new t

-- ---- steps of others

-- A terminal that stands in a world stands in the one behind each step of the platform too.
abbrev pub TerminalStandsOn : Type 0
TerminalStandsOn = (w : OrderWorld) → (event : WorldEvent) (t : TerminalParts) → MayCome w event → (IsOfTerminal event → ⊥) → TerminalStandsIn w t → TerminalStandsIn (after w event) t

-- ---- events

-- An event that was done: the terminal stands then in a world with its frames on the newest line, which is a new one at Opened.
abbrev pub EventIsSteps : Type 0
EventIsSteps = (w : OrderWorld) → (e : Event) (old now : TerminalParts) (frames : List (List ℕ)) → TerminalStandsIn w old → IsNoMessage e → EventIsDone e old now frames
    → LeadsTo w (after_call (with_line_at e w) now 0 frames []) now

-- One that failed: some first changes were committed, no frame is written, and the line in use is lost.
abbrev pub FailedEventIsSteps : Type 0
FailedEventIsSteps = (w : OrderWorld) → (e : Event) (old now : TerminalParts) → TerminalStandsIn w old → IsNoMessage e → EventFails e old now
    → LeadsTo w (after_call (with_line_at e w) now 0 [] []) now

-- ---- starts

-- A terminal that starts anew over what vault and log hold, with settings of the same digits, is the step Restarts.
abbrev pub StartIsAStep : Type 0
StartIsAStep = (w : OrderWorld) → (settings : Settings) (old now : TerminalParts) → TerminalStandsIn w old → AreSettings settings → key_of settings.phone ≡ key_of old.state.settings.phone
    → HasStarted settings old now → LeadsTo w (after w (Does (step.Restarts settings.phone))) now

-- One that starts over an empty vault and an empty log stands in the world in which nothing has happened.
pub record IsFirst (settings : Settings) (now : TerminalParts) : Type 0 where
  pub is : IsStarted settings (Some nothing_held) now.state
  pub held : now.held ≡ nothing_held
  pub log : now.log ≡ []
  pub ledger : IsLedgerOf now.log now.ledger
  pub sound : IsSound (Some now.held) now.state

abbrev pub FirstStartStands : Type 0
FirstStartStands = (settings : Settings) (setting : Setting) (now : TerminalParts) → IsFirst settings now → TerminalStandsIn (empty settings.phone setting) now

-- ---- octets

-- what the terminal is told at these octets, which are the next on its line
abbrev pub units_told : OrderWorld → TerminalParts → List ℕ → List ℕ
units_told w t octets = told_at_items t.state t.ledger t.held (items_behind (taken_of (newest w.base).down) octets)

-- the items that the first so many of these octets complete
abbrev pub items_read : OrderWorld → List ℕ → ℕ → List Unplaced
items_read w octets count = items_behind (taken_of (newest w.base).down) (take count octets)

-- these items end at the one at which the line was given up, for this cause
pub record EndsAtGiveUp (s : State) (l : Ledger) (read : List Unplaced) (cause : GiveUp) : Type 0 where
  pub before : List Unplaced
  pub last : Unplaced
  pub parts : read ≡ before ++ last ∷ []
  pub goes_on : (does_at_items s l before).end ≡ None
  pub ends : (does_at_items s l (before ++ last ∷ [])).end ≡ Some cause

-- Octets were read, all of them unless the line was given up, and else up to the item at which it was: `now` is the terminal then, its frames stand
-- on the line, and it was told the acceptance of these units.
pub record FeedIsRead (w : OrderWorld) (octets : List ℕ) (old now : TerminalParts) (frames : List (List ℕ)) (told : List ℕ) (end : Option GiveUp) : Type 0 where
  pub count : ℕ
  pub few : count ≤ length octets
  pub whole : end ≡ None → count ≡ length octets
  pub upto : (cause : GiveUp) → end ≡ Some cause → EndsAtGiveUp old.state old.ledger (items_read w octets count) cause
  pub to : LeadsTo w (after_call w now count frames told) now

abbrev pub FeedIsSteps : Type 0
FeedIsSteps = (w : OrderWorld) → ∥ Reached w ∥₁ → (octets : List ℕ) (old now : TerminalParts) (frames : List (List ℕ)) (end : Option GiveUp)
    → TerminalStandsIn w old → is_up old.state.phase ≡ true → AreOctets octets → AreNext octets w → FeedIsDone (taken_of (newest w.base).down) octets old now frames end
    → FeedIsRead w octets old now frames (units_told w old octets) end

-- Some first ones of the octets were read. What is done at the items before one was done whole, and at that one in part, whose last octet was read,
-- or was not. What was to be sent for those before stands on the line, which is lost; the call hands it to nobody, so nobody need take it.
pub record FailedFeedIsRead (w : OrderWorld) (octets : List ℕ) (old now : TerminalParts) : Type 0 where
  pub before : List Unplaced
  pub last : Unplaced
  pub rest : List Unplaced
  pub parts : items_behind (taken_of (newest w.base).down) octets ≡ before ++ last ∷ rest
  pub goes_on : (does_at_items old.state old.ledger before).end ≡ None
  pub count : ℕ
  pub told : List ℕ
  pub few : count ≤ length octets
  pub reads : (items_read w octets count ≡ before) ⊎ (items_read w octets count ≡ before ++ last ∷ [])
  pub told_is : told ≡ units_told w old (take count octets)
  pub to : LeadsTo w (after_call w now count (does_at_items old.state old.ledger before).frames told) now

abbrev pub FailedFeedIsSteps : Type 0
FailedFeedIsSteps = (w : OrderWorld) → ∥ Reached w ∥₁ → (octets : List ℕ) (old now : TerminalParts)
    → TerminalStandsIn w old → is_up old.state.phase ≡ true → AreOctets octets → AreNext octets w → FeedFails (taken_of (newest w.base).down) octets old now
    → FailedFeedIsRead w octets old now
