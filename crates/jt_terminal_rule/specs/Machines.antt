-- A terminal over a vault that tells what it holds, as the machine of `Steps`; and what stays true between both. To be believed.
use Rattle.std.specs.Prelude.{◌≡◌, ℕ, ◌+◌, ◌%◌, ◌<◌, ◌≤◌, drop, Bool, true, false, List, [], ◌∷◌, ◌++◌, length, Option, None, Some, All, IfSome}
use Rattle.jt_value.specs.declared.limits.TheConstants.{CODE_LIMIT}
use Rattle.jt_value.specs.Serials.{gap_of}
use Rattle.jt_position.specs.Fixes.{IsFix}
use Rattle.jt_store.specs.declared.row.Row.{Row}
use Rattle.jt_store.specs.declared.unit.Unit.{Unit as OneUnit}
use Rattle.jt_store.specs.Vaults.{Held, Change, Notes, Forms, Accepts, Sets, held_by, formed_count, gap_after, AreInOrder, IsUnit}
use Rattle.jt_store.specs.Vaults as vaults
use Rattle.jt_store.specs.Verdicts.{row_of, number_after, numbered}
use Rattle.jt_terminal_rule.specs.declared.state.Phase.{Phase}
use Rattle.jt_terminal_rule.specs.declared.state.Phase.TheVariants.{Down, Registering, Authenticating, Live}
use Rattle.jt_terminal_rule.specs.Steps.{Machine, TerminalStep, machine_after, writes}
use Rattle.jt_store.specs.Units.{past_accepted, fixes_in}
use Rattle.jt_terminal_rule.specs.Steps as step
use Rattle.jt_terminal_rule.specs.declared.state.State.{State}
use Rattle.jt_terminal_rule.specs.Rule.{Step}
use Rattle.jt_terminal_rule.specs.Rule as rule

-- ---- numbers of units

-- a unit as the row of its number, which is behind this one
abbrev pub row_after : Option ℕ → OneUnit → Row
row_after last unit = row_of (number_after last unit.serial) unit.id unit.body

-- the number of the last unit
abbrev pub last_number : Option ℕ → List Row → Option ℕ
last_number last [] = last
last_number last (row ∷ rows) = last_number (Some row.number) rows

-- ---- the machine

abbrev pub is_up : Phase → Bool
is_up Down = false
is_up (Registering serial) = true
is_up (Authenticating serial) = true
is_up (Live serial) = true

abbrev pub is_live : Phase → Bool
is_live Down = false
is_live (Registering serial) = false
is_live (Authenticating serial) = false
is_live (Live serial) = true

abbrev pub auths_of : Phase → List ℕ
auths_of Down = []
auths_of (Registering serial) = []
auths_of (Authenticating serial) = serial ∷ []
auths_of (Live serial) = serial ∷ []

abbrev pub machine_of : Held → State → Machine
machine_of held s = record {
  phone = s.settings.phone;
  recorded = held.recorded;
  units = numbered None held.units;
  accepted = held.accepted;
  code = held.code;
  using = is_up s.phase;
  auths = auths_of s.phase;
  ready = is_live s.phase;
  reach = held.accepted + s.sent;
}

-- a change of the vault as a step; a unit gets its number
abbrev pub as_change : Machine → Change → TerminalStep
as_change m (Notes fix) = step.Records fix
as_change m (Forms unit) = step.Forms (row_after (last_number None m.units) unit)
as_change m Accepts = step.Accepts
as_change m (Sets code) = step.Codes code

abbrev pub as_step : Machine → Step → TerminalStep
as_step m (rule.Sends older unit) = step.Sends (m.accepted + older)
as_step m (rule.Says h body) = step.Says h body
as_step m (rule.Changes change) = as_change m change
as_step m rule.Opens = step.Opens
as_step m rule.Loses = step.Loses

-- steps of the rule as steps of the machine
abbrev pub as_steps : Machine → List Step → List TerminalStep
as_steps m [] = []
as_steps m (s ∷ steps) = as_step m s ∷ as_steps (machine_after m (as_step m s)) steps

-- the frames that these steps write, in order
abbrev pub frames_by : Machine → List TerminalStep → List (List ℕ)
frames_by m [] = []
frames_by m (step.Sends place ∷ steps) = writes m (step.Sends place) ∷ frames_by (machine_after m (step.Sends place)) steps
frames_by m (step.Says h body ∷ steps) = writes m (step.Says h body) ∷ frames_by (machine_after m (step.Says h body)) steps
frames_by m (s ∷ steps) = frames_by (machine_after m s) steps

-- what a vault holds after these steps
abbrev pub held_after : List Step → Held → Held
held_after [] held = held
held_after (rule.Changes change ∷ steps) held = held_after steps (held_by change held)
held_after (rule.Sends older unit ∷ steps) held = held_after steps held
held_after (rule.Says h body ∷ steps) held = held_after steps held
held_after (rule.Opens ∷ steps) held = held_after steps held
held_after (rule.Loses ∷ steps) held = held_after steps held

-- what a vault asks of a change
abbrev pub MayChange : Held → Change → Type 0
MayChange held (Notes fix) = IsFix fix
MayChange held (Forms unit) = IsUnit unit × vaults.MayCommit held unit
MayChange held Accepts = held.accepted < length held.units
MayChange held (Sets code) = IfSome code (λ octets. length octets ≤ CODE_LIMIT)

-- a vault that holds this takes each change of these steps
abbrev pub MayCommit : Held → List Step → Type 0
MayCommit held [] = Unit {0}
MayCommit held (rule.Changes change ∷ steps) = MayChange held change × MayCommit (held_by change held) steps
MayCommit held (rule.Sends older unit ∷ steps) = MayCommit held steps
MayCommit held (rule.Says h body ∷ steps) = MayCommit held steps
MayCommit held (rule.Opens ∷ steps) = MayCommit held steps
MayCommit held (rule.Loses ∷ steps) = MayCommit held steps

-- ---- what stays true

-- the serial of the last accepted unit, by one more than its number; 65,535 without one
abbrev pub mark_of : ℕ → ℕ
mark_of floor = (floor + 65535) % 65536

-- all serials have sixteen bits
abbrev pub AreSerials : List OneUnit → Type 0
AreSerials [] = Unit {0}
AreSerials (unit ∷ units) = (unit.serial < 65536) × AreSerials units

-- the serial of a registration or an authentication has sixteen bits
abbrev pub IsPhase : Phase → Type 0
IsPhase Down = Unit {0}
IsPhase (Registering serial) = serial < 65536
IsPhase (Authenticating serial) = serial < 65536
IsPhase (Live serial) = serial < 65536

-- the terminal's own lists are in order, as those that a vault loads are, and it sent no more units than there are
pub record IsInOrder (s : State) : Type 0 where
  pub order : AreInOrder s.mark s.next s.units s.code
  pub serials : AreSerials s.units
  pub phase : IsPhase s.phase
  pub mark : s.mark < 65536
  pub next : s.next < 65536
  pub sent : s.sent ≤ length s.units

-- the terminal has what the vault holds, and the vault's fixes are those of its units and then those that wait
pub record Agrees (held : Held) (s : State) : Type 0 where
  pub known : held.accepted ≤ length held.units
  pub units : s.units ≡ drop held.accepted held.units
  pub mark : s.mark ≡ mark_of (past_accepted (numbered None held.units) held.accepted)
  pub mark_held : held.mark ≡ s.mark
  -- the vault's next serial is behind all units, and the terminal's own is that one or a later one
  pub next_small : held.next < 65536
  pub next_behind : gap_after s.mark 1 s.units ≤ gap_of s.mark held.next
  pub next_held : gap_of s.mark held.next ≤ gap_of s.mark s.next
  pub fixes : held.recorded ≡ fixes_in (numbered None held.units) ++ s.waiting
  pub formed : formed_count held + length s.waiting ≡ length held.recorded
  pub are_fixes : All IsFix s.waiting
  pub code : held.code ≡ s.code
