-- The laws of the terminal's rule. To be believed.
use Rattle.std.specs.Prelude.{Some, ◌≡◌, ℕ, ◌+◌, ◌<◌, ◌≤◌, List, [], ◌∷◌, ◌++◌, length, take, Option, None, All}
use Rattle.std.specs.Option.{option_map}
use Rattle.jt_value.specs.Serials.{gap_of}
use Rattle.jt_value.specs.Sameness.{key_of}
use Rattle.jt_header.specs.Content.{IsPhone}
use Rattle.jt_position.specs.Fixes.{IsFix, fixes_of}
use Rattle.jt_store.specs.Vaults.{AreInOrder, Held, IsLoaded, IsUnit, Notes, Accepts}
use Rattle.jt_store.specs.declared.unit.Loaded.{Loaded}
use Rattle.jt_terminal_rule.specs.declared.settings.Settings.{Settings}
use Rattle.jt_terminal_rule.specs.Forming.{batch_of, fitting, unit_of}
use Rattle.jt_value.specs.declared.limits.TheConstants.{BODY_LIMIT, NO_MARK, UNIT_WINDOW}
use Rattle.jt_value.specs.declared.ids.TheConstants.{HEARTBEAT, POSITION, REGISTER}
use Rattle.jt_header.specs.declared.header.Header.{Header}
use Rattle.jt_codec.specs.Bodies.{body_octets}
use Rattle.jt_codec.specs.declared.message.Message.TheVariants as message
use Rattle.jt_terminal_rule.specs.declared.state.Phase.TheVariants.{Live}
use Rattle.jt_terminal_rule.specs.declared.state.GiveUp.{GiveUp}
use Rattle.jt_terminal_rule.specs.declared.state.GiveUp.TheVariants.{Denied, TimedOut}
use Rattle.jt_terminal_rule.specs.declared.state.Acknowledgement.{Acknowledgement}
use Rattle.jt_terminal_rule.specs.Messages.{AreSettings, frame_of, header_of, register_octets}
use Rattle.jt_terminal_rule.specs.Steps.{Machine, MayRun, MayStep, Restarts, machine_run, machine_after, hears, unit_named_by}
use Rattle.jt_terminal_rule.specs.declared.state.State.{State}
use Rattle.jt_terminal_rule.specs.declared.state.Event.{Event}
use Rattle.jt_terminal_rule.specs.declared.state.Event.TheVariants.{Opened, Received, Tick}
use Rattle.jt_terminal_rule.specs.Rule.{Ruled, Step, Sends, Says, Changes, Opens, Loses, Heard, Whole, Refused, Lacks, TooMany, after_control, after_packets, down, on_hearing, with_fix, response, response_in, rule, start_state, named_place, sends}
use Rattle.jt_terminal_rule.specs.Machines.{machine_of, as_steps, frames_by, held_after, Agrees, IsInOrder, MayCommit}

-- a batch may have at most 1,023 octets where it has at most so many fixes, and only there
pub record FittingIsGreatest : Type 0 where
  pub fits : (fixes : List (List ℕ)) → 1 ≤ fitting fixes → length (batch_of (take (fitting fixes) fixes)) ≤ BODY_LIMIT
  pub within : (fixes : List (List ℕ)) → fitting fixes ≤ length fixes
  pub greatest : (fixes : List (List ℕ)) (k : ℕ) → 1 ≤ k → k ≤ length fixes → length (batch_of (take k fixes)) ≤ BODY_LIMIT → k ≤ fitting fixes

-- a unit that is formed carries the first fixes that wait, one or more, in a body that fits one packet
pub record UnitCarriesFirstFixes : Type 0 where
  pub unit : (serial : ℕ) (fix : List ℕ) (more : List (List ℕ)) → All IsFix (fix ∷ more) → IsUnit (unit_of serial fix (fix ∷ more))
  pub fixes : (serial : ℕ) (fix : List ℕ) (more : List (List ℕ)) → All IsFix (fix ∷ more) →
      let unit = unit_of serial fix (fix ∷ more) in fixes_of (unit.id, unit.body) ≡ take unit.count (fix ∷ more)
  pub count : (serial : ℕ) (fix : List ℕ) (more : List (List ℕ)) → (unit_of serial fix (fix ∷ more)).count ≤ length (fix ∷ more)

-- control messages never move the next serial past a gap of 32,766
abbrev pub ControlKeepsTheLastPlace : Type 0
ControlKeepsTheLastPlace = (s : State) → s.mark < 65536 → s.next < 65536 → gap_of s.mark s.next ≤ UNIT_WINDOW → gap_of s.mark (after_control s) ≤ UNIT_WINDOW

-- nor does a message in packets, and one in one packet takes one serial
pub record PacketsKeepTheLastPlace : Type 0 where
  pub near : (s : State) (count : ℕ) → s.mark < 65536 → s.next < 65536 → gap_of s.mark s.next ≤ UNIT_WINDOW → gap_of s.mark (after_packets s count) ≤ UNIT_WINDOW
  pub one : (s : State) → after_packets s 1 ≡ after_control s

-- Steps of the rule from the machine m, where the vault holds `held`: they are steps of the machine, the first of them directly after
-- `just`, and lead to the machine of the new state, which is in order and agrees with what the vault then holds. The vault takes each change,
-- and the frames that are sent are those that the steps write.
pub record AreSteps (m : Machine) (held : Held) (just : Option Acknowledgement) (r : Ruled) : Type 0 where
  pub may : MayRun m just (as_steps m r.steps)
  pub to : machine_run m (as_steps m r.steps) ≡ machine_of (held_after r.steps held) r.state
  pub commits : MayCommit held r.steps
  pub sent : (settings : Settings) → settings.phone ≡ m.phone → sends settings r.steps ≡ frames_by m (as_steps m r.steps)
  pub in_order : IsInOrder r.state
  pub agrees : Agrees (held_after r.steps held) r.state

-- The rule takes steps that any terminal may take, an acceptance directly after the response that is one.
abbrev pub RuleTakesSteps : Type 0
RuleTakesSteps = (held : Held) (s : State) (event : Event) → AreSettings s.settings → IsInOrder s → Agrees held s
    → AreSteps (hears (machine_of held s) (response event)) held (response event) (rule s event)

-- the response that is heard, if one is
abbrev pub response_heard : Heard → Option Acknowledgement
response_heard (Whole h m) = response_in m
response_heard (Refused h) = None
response_heard (Lacks h first numbers) = None
response_heard (TooMany h) = None

-- So does what the rule does at what is heard on the line.
abbrev pub HeardTakesSteps : Type 0
HeardTakesSteps = (held : Held) (s : State) (x : Heard) → AreSettings s.settings → IsInOrder s → Agrees held s
    → AreSteps (hears (machine_of held s) (response_heard x)) held (response_heard x) (on_hearing s x)

-- the changes of the vault among these steps, in order, and then the loss of the line
abbrev pub changes_then_loss : List Step → List Step
changes_then_loss [] = Loses ∷ []
changes_then_loss (Changes change ∷ steps) = Changes change ∷ changes_then_loss steps
changes_then_loss (Sends older unit ∷ steps) = changes_then_loss steps
changes_then_loss (Says h body ∷ steps) = changes_then_loss steps
changes_then_loss (Opens ∷ steps) = changes_then_loss steps
changes_then_loss (Loses ∷ steps) = changes_then_loss steps

-- Wherever these steps are cut short, the changes of the vault so far and then the loss of the line are steps of the machine, and lead to
-- the machine of the terminal without a line over what the vault then holds.
abbrev pub AreCutSteps : Held → State → Option Acknowledgement → List Step → Type 0
AreCutSteps held s just steps = (done left : List Step) → steps ≡ done ++ left → let m = hears (machine_of held s) just in
    MayRun m just (as_steps m (changes_then_loss done)) × (machine_run m (as_steps m (changes_then_loss done)) ≡ machine_of (held_after done held) (down s))

-- an event that is cut short, as by want of memory, is steps that any terminal may take too
abbrev pub RuleIsCutInSteps : Type 0
RuleIsCutInSteps = (held : Held) (s : State) (event : Event) → AreSettings s.settings → IsInOrder s → Agrees held s → AreCutSteps held s (response event) (rule s event).steps

abbrev pub HeardIsCutInSteps : Type 0
HeardIsCutInSteps = (held : Held) (s : State) (x : Heard) → AreSettings s.settings → IsInOrder s → Agrees held s → AreCutSteps held s (response_heard x) (on_hearing s x).steps

-- the unit whose acceptance the terminal is told is the machine's
abbrev pub RuleTellsTheUnit : Type 0
RuleTellsTheUnit = (held : Held) (s : State) (just : Option Acknowledgement) → IsInOrder s → Agrees held s → option_map (λ older. held.accepted + older) (named_place s just) ≡ unit_named_by (machine_of held s) just

-- a fix that is recorded is a step, and leaves the terminal in order
abbrev pub NotedFixIsAStep : Type 0
NotedFixIsAStep = (held : Held) (s : State) (fix : List ℕ) → IsFix fix → IsInOrder s → Agrees held s
    → AreSteps (machine_of held s) held None (record { state = with_fix s fix; steps = Changes (Notes fix) ∷ []; end = None })

-- A terminal that starts again over what its vault loads is in order, and agrees with the vault. It may start in the other edition, with the
-- same digits.
pub record IsRestarted (held : Held) (s now : State) : Type 0 where
  pub in_order : IsInOrder now
  pub agrees : Agrees held now
  pub may : MayStep (machine_of held s) None (Restarts now.settings.phone)
  pub to : machine_after (machine_of held s) (Restarts now.settings.phone) ≡ machine_of held now

abbrev pub StartIsARestart : Type 0
StartIsARestart = (held : Held) (s : State) (settings : Settings) (loaded : Loaded) → IsInOrder s → Agrees held s → IsLoaded held loaded → AreInOrder loaded.mark loaded.next loaded.units loaded.code
    → IsPhone settings.phone → key_of settings.phone ≡ key_of s.settings.phone → IsRestarted held s (start_state settings loaded)

-- what a vault holds and loads before anything was recorded
abbrev pub nothing_held : Held
nothing_held = record { recorded = []; units = []; accepted = 0; mark = NO_MARK; next = 0; code = None }

abbrev pub nothing_loaded : Loaded
nothing_loaded = record { fixes = []; units = []; mark = NO_MARK; next = 0; code = None; recorded = 0; accepted = 0 }

-- a terminal that starts over such a vault is in order, and agrees with it
abbrev pub FirstStartIsInOrder : Type 0
FirstStartIsInOrder = (settings : Settings) → IsInOrder (start_state settings nothing_loaded) × Agrees nothing_held (start_state settings nothing_loaded)

-- the frames that are sent at each of these events, and why the line is given up there, if it is
abbrev pub course_at_each : State → List Event → List (List (List ℕ) × Option GiveUp)
course_at_each s [] = []
course_at_each s (event ∷ events) = (sends s.settings (rule s event).steps, (rule s event).end) ∷ course_at_each (rule s event).state events

-- With a first wait of 10 seconds and three repeats a registration is sent at 0, at 10, at 30 and at 90 seconds, with the same octets, and
-- the line is given up at 330 seconds.
abbrev pub WaitsGrow : Type 0
WaitsGrow = (settings : Settings) →
    let set = record settings { heartbeat = 60; answer = 10; repeats = 3 } in
    let frame = frame_of (header_of set.phone REGISTER 0) (register_octets set) in
    course_at_each (start_state set nothing_loaded) (Opened ∷ Tick 10000 ∷ Tick 30000 ∷ Tick 90000 ∷ Tick 329999 ∷ Tick 330000 ∷ [])
    ≡ (frame ∷ [], None) ∷ (frame ∷ [], None) ∷ (frame ∷ [], None) ∷ (frame ∷ [], None) ∷ ([], None) ∷ ([], Some (TimedOut 0 330000)) ∷ []

-- a Live terminal over the vault of this start, with one unit that was sent on this line: a position report of serial 2
abbrev pub with_one_sent : Settings → List ℕ → State
with_one_sent settings body = record (start_state settings nothing_loaded) { phase = Live 1; units = record { serial = 2; id = POSITION; body = body; count = 1 } ∷ []; sent = 1; next = 3 }

-- a response that names another id is passed over, one with result 1 denies the unit, and one with result 4 accepts it
pub record ResponsesNameTheUnit (settings : Settings) (body : List ℕ) (h : Header) : Type 0 where
  pub passed_over : rule (with_one_sent settings body) (Received h (message.PlatformAck 2 HEARTBEAT 0)) ≡ record { state = with_one_sent settings body; steps = []; end = None }
  pub denied : (rule (with_one_sent settings body) (Received h (message.PlatformAck 2 POSITION 1))).end ≡ Some (Denied (body_octets h.edition (message.PlatformAck 2 POSITION 1)))
  pub down : (rule (with_one_sent settings body) (Received h (message.PlatformAck 2 POSITION 1))).steps ≡ Loses ∷ []
  pub accepted : (rule (with_one_sent settings body) (Received h (message.PlatformAck 2 POSITION 4))).steps ≡ Changes Accepts ∷ []

-- what happens leaves the settings
pub record RuleKeepsSettings : Type 0 where
  pub ruled : (s : State) (event : Event) → (rule s event).state.settings ≡ s.settings
  pub heard_too : (s : State) (x : Heard) → (on_hearing s x).state.settings ≡ s.settings
